-- Lines that several commands print contain no newline.
use Rattle.std.proofs.Common.{ℕ, List, [], ◌∷◌, true, refl, arith}
use Rattle.std.specs.Prelude.{codes, map}
use Rattle.std.proofs.lemmas.Bool.{and_from}
use Rattle.std.proofs.lemmas.Bool.Decides.{nat_tests}
use Rattle.rv_model.specs.declared.commands.refusal.Refusal.{Refusal}
use Rattle.rv_model.specs.declared.commands.refusal.Refusal.TheVariants.{ElfFault as BadImage, Assembler}
use Rattle.rv_model.specs.declared.images.ElfFault.{ElfFault}
use Rattle.rv_model.specs.declared.step.step_end.Stop.{Stop}
use Rattle.rv_model.specs.declared.step.step_end.Stop.TheVariants as stop
use Rattle.rv_model.specs.commands.Printing.{listed, refused, stop_line}
use Rattle.rv_model.specs.images.Faults.{fault_name}
use Rattle.rv_model.specs.machine.UserMachine.{Private, Outcome, refuses}
use Rattle.rv_model.specs.step.Hart.{cause_number}
use Rattle.rv_model.proofs.text_lemmas.Newlines.{is_line, IsLine, are_lines, AreLines}
use Rattle.rv_model.proofs.text_lemmas.Pieces.{Piece, ◌▸◌, hexadecimal, number, space}

no_newline_in_fault_name : (fault : ElfFault) → IsLine (fault_name fault)
no_newline_in_fault_name fault = search (arith, nat_tests)

pub no_newline_in_refusal : (r : Refusal) → IsLine (refused r)
unfolding refused
no_newline_in_refusal (BadImage fault) = search no_newline_in_fault_name
no_newline_in_refusal (Assembler column) = let code : Piece = (codes "E15 ", refl) in (code ▸ number column).1
no_newline_in_refusal _ = refl

pub no_newline_in_listed : (addr : ℕ) → IsLine (listed addr)
unfolding listed
no_newline_in_listed addr = (space ▸ hexadecimal addr).1

pub no_newline_in_stop_line : (pc : ℕ) (reason : Stop) → IsLine (stop_line pc reason)
unfolding stop_line
no_newline_in_stop_line pc stop.Breakpoint = let word : Piece = (codes "break pc=", refl) in (word ▸ hexadecimal pc).1
no_newline_in_stop_line pc stop.Ebreak = let word : Piece = (codes "ebreak pc=", refl) in (word ▸ hexadecimal pc).1
no_newline_in_stop_line pc (stop.Exit status) =
    ((codes "exit ", refl) ▸ number status ▸ (codes " pc=", refl) ▸ hexadecimal pc).1
no_newline_in_stop_line pc (stop.Fault cause value) =
    ((codes "fault cause=", refl) ▸ number (cause_number cause) ▸ (codes " pc=", refl) ▸ hexadecimal pc ▸ (codes " value=", refl) ▸ hexadecimal value).1
no_newline_in_stop_line pc stop.OutputFull = let word : Piece = (codes "outfull pc=", refl) in (word ▸ hexadecimal pc).1

-- an outcome prints lines without a newline
abbrev pub PrintsLines : Outcome → Type 0
PrintsLines o = AreLines o.lines

-- a single line
pub one_line : (line : List ℕ) → IsLine line → AreLines (line ∷ [])
one_line line h = and_from (is_line line) true h refl

-- a refusal is a line
pub refusal_prints : (p : Private) (reason : Refusal) → PrintsLines (refuses p reason)
refusal_prints p reason = one_line (refused reason) (no_newline_in_refusal reason)

-- one line for each item of a list
pub mapped_lines : {A : Type 0} (f : A → List ℕ) (xs : List A) → ((x : A) → IsLine (f x)) → AreLines (map f xs)
mapped_lines f [] h = refl
mapped_lines f (x ∷ xs) h = and_from (is_line (f x)) (are_lines (map f xs)) (h x) (mapped_lines f xs h)
