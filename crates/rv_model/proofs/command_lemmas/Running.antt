-- The lines that commands for execution print contain no newline.
use Rattle.std.proofs.Common.{ℕ, List, [], Bool, true, false, Option, Some, None, refl}
use Rattle.std.specs.Prelude.{◌++◌, codes, if◌then◌else◌, length, nat_lt}
use Rattle.hex.specs.Hex.{encode_lower}
use Rattle.rv_model.specs.declared.step.step_end.Stop.{Stop}
use Rattle.rv_model.specs.commands.Running.{step_line, running_line, stopped_line, state_line, trace_line, out_line}
use Rattle.rv_model.specs.commands.Printing.{listed}
use Rattle.rv_model.proofs.text_lemmas.Newlines.{IsLine}
use Rattle.rv_model.proofs.command_lemmas.Printing.{no_newline_in_listed, no_newline_in_stop_line}
use Rattle.rv_model.proofs.Choices.{of_either}
use Rattle.rv_model.proofs.text_lemmas.Pieces.{Piece, ◌▸◌, hexadecimal, bytes, number, space, flat_map_line}

pub no_newline_in_step_line : (n pc : ℕ) (reason : Option Stop) → IsLine (step_line n pc reason)
unfolding step_line
no_newline_in_step_line n pc None =
    ((codes "stepped ", refl) ▸ number n ▸ (codes " pc=", refl) ▸ hexadecimal pc).1
no_newline_in_step_line n pc (Some reason) = no_newline_in_stop_line pc reason

pub no_newline_in_running_line : (pc : ℕ) → IsLine (running_line pc)
unfolding running_line
no_newline_in_running_line pc = let word : Piece = (codes "running pc=", refl) in (word ▸ hexadecimal pc).1

pub no_newline_in_stopped_line : (pc : ℕ) → IsLine (stopped_line pc)
unfolding stopped_line
no_newline_in_stopped_line pc = let word : Piece = (codes "stopped pc=", refl) in (word ▸ hexadecimal pc).1

pub no_newline_in_state_line : (running : Bool) (pc : ℕ) → IsLine (state_line running pc)
unfolding state_line
no_newline_in_state_line true pc = let word : Piece = (codes "state running pc=", refl) in (word ▸ hexadecimal pc).1
no_newline_in_state_line false pc = let word : Piece = (codes "state stopped pc=", refl) in (word ▸ hexadecimal pc).1

pub no_newline_in_trace_line : (addresses : List ℕ) → IsLine (trace_line addresses)
unfolding trace_line
no_newline_in_trace_line addresses = search (flat_map_line, listed, no_newline_in_listed)

-- a space and the bytes in hexadecimal; nothing for an empty list
abbrev spaced_bytes : List ℕ → List ℕ
spaced_bytes all = if nat_lt 0 (length all) then codes " " ++ encode_lower all else []

pub no_newline_in_out_line : (all : List ℕ) → IsLine (out_line all)
unfolding out_line
no_newline_in_out_line all =
    ((codes "out ", refl) ▸ number (length all) ▸ (spaced_bytes all, (of_either IsLine (nat_lt 0 (length all)) _ [] (space ▸ bytes all).1 refl))).1
