-- Lines that are applied in sequence.
use Rattle.std.proofs.Common.{◌≡◌, ℕ, ◌+◌, Bool, true, false, List, [], ◌∷◌, Option, Ok, Err, sym, ap, ◌∙◌}
use Rattle.std.specs.Prelude.{Result, if◌then◌else◌}
use Rattle.rv_model.specs.step.Hart.{HartState}
use Rattle.rv_model.specs.declared.vector.types.VType.{VType}
use Rattle.rv_model.specs.memory.Memory.{Memory}
use Rattle.rv_model.specs.step.Hart.{hart_state}
use Rattle.rv_model.specs.text.Lines.{pieces}
use Rattle.rv_model.specs.vector.Groups.{Configuration}
use Rattle.recording.specs.declared.machine.SingleUserMachine.{SingleUserMachine}
use Rattle.recording.specs.Machines.{state_of}
use Rattle.first_state.specs.declared.fault.RegistersFault.{RegistersFault}
use Rattle.first_state.specs.declared.fault.RegistersFault.TheVariants as fault
use Rattle.first_state.specs.declared.laying.Lengths.{Lengths}
use Rattle.first_state.specs.RegisterFile.{after_line, configured, is_configuration, laid, state_with, with_registers}
use Rattle.first_state.specs.Lines.{line_setting}

-- A valid line changes the state s to t; an invalid line is refused with its number.
abbrev pub LeavesIf : Bool → List ℕ → HartState → HartState → Type 0
LeavesIf is_laid line s t = (number : ℕ) (others : HartState → Result HartState ℕ)
    → after_line number (line_setting line) s others ≡ (if is_laid then others t else Err number)

-- the result after one more line, valid or refused
pub laid_next : (number : ℕ) (line : List ℕ) (lines rest : List (List ℕ)) (s t : HartState) (is_laid b : Bool) → lines ≡ line ∷ rest
    → LeavesIf is_laid line s t → is_laid ≡ b → laid number lines s ≡ (if b then laid (number + 1) rest t else Err number)
unfolding laid
laid_next number line lines rest s t is_laid b e h is =
    ap (λ (ls : List (List ℕ)). laid number ls s) e ∙ h number (laid (number + 1) rest)
    ∙ ap (λ (b : Bool). if b then laid (number + 1) rest t else Err number) is

-- no lines remain
pub laid_all : (number : ℕ) (lines : List (List ℕ)) (s : HartState) → lines ≡ [] → laid number lines s ≡ Ok s
unfolding laid
laid_all number lines s none = ap (λ (ls : List (List ℕ)). laid number ls s) none

-- ---- all lines, and the vector length and type after them

-- with the machine's own length and type, `state_with` is the state of the machine
pub own_lengths : {M : Type 0} (memory : M → Memory) (machine : SingleUserMachine M) (lengths : Lengths) → lengths.vl ≡ machine.vectors.seat.state.conf.vl
    → lengths.vtype ≡ machine.vectors.seat.state.conf.vtype → state_of memory machine ≡ state_with memory machine lengths
own_lengths memory machine lengths vl vtype =
    sym (ap (λ (l : ℕ). state_with memory machine (record { vl = l; vtype = lengths.vtype })) vl
    ∙ ap (λ (t : Option VType). state_with memory machine (record { vl = machine.vectors.seat.state.conf.vl; vtype = t })) vtype)

-- `state_with` is the state of the machine with the configuration of these lengths
pub lengths_laid : {M : Type 0} (memory : M → Memory) (machine : SingleUserMachine M) (lengths : Lengths) (conf : Configuration)
    → conf ≡ record { vl = lengths.vl; vtype = lengths.vtype }
    → state_with memory machine lengths ≡ hart_state machine.scalar (record machine.vectors.seat.state { conf = conf }) (memory machine.memory) machine.policy machine.output.items
lengths_laid memory machine lengths conf is =
    ap (λ (c : Configuration). hart_state machine.scalar (record machine.vectors.seat.state { conf = c }) (memory machine.memory) machine.policy machine.output.items) (sym is)

-- a state, or a fault if its length isn't valid for its type
abbrev the_choice : Bool → HartState → Result HartState RegistersFault
the_choice b x = if b then Ok x else Err fault.Length

pub registers_laid : (text : List ℕ) (s from t end : HartState) → s ≡ from → laid 1 (pieces text) from ≡ Ok t
    → is_configuration t.vector.conf.vl t.vector.conf.vtype ≡ true → t ≡ end → with_registers text s ≡ Ok end
registers_laid text s from t end begins lines fits ends =
    ap (λ (x : HartState). configured (laid 1 (pieces text) x)) begins ∙ ap configured lines
    ∙ ap (λ (b : Bool). the_choice b t) fits ∙ ap (λ (x : HartState). Ok x) ends

pub registers_refused : (text : List ℕ) (s from t : HartState) → s ≡ from → laid 1 (pieces text) from ≡ Ok t
    → is_configuration t.vector.conf.vl t.vector.conf.vtype ≡ false → with_registers text s ≡ Err fault.Length
registers_refused text s from t begins lines fits =
    ap (λ (x : HartState). configured (laid 1 (pieces text) x)) begins ∙ ap configured lines
    ∙ ap (λ (b : Bool). the_choice b t) fits
