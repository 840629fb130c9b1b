-- Lines that a private machine prints contain no newline.
use Rattle.std.proofs.Common.{ℕ, Some, None, refl, arith}
use Rattle.std.proofs.lemmas.Bool.Decides.{nat_tests}
use Rattle.rv_model.specs.machine.World.{Event, sliced, event}
use Rattle.rv_model.specs.machine.UserMachine.{Outcome, Private}
use Rattle.rv_model.specs.machine.Setup.{Setup}
use Rattle.rv_model.proofs.text_lemmas.Newlines.{AreLines}
use Rattle.rv_model.proofs.command_lemmas.Commands.{Printed, commanded_prints, prints}
use Rattle.rv_model.proofs.command_lemmas.Printing.{no_newline_in_stop_line}
use Rattle.rv_model.proofs.command_lemmas.Refusals.{stop_line_plain}
use Rattle.rv_model.proofs.Choices.{of_either}

-- a slice prints lines without a newline, and no refusal
pub sliced_printed : (quantum : ℕ) (p : Private) → Printed (sliced quantum p).lines
unfolding sliced
sliced_printed quantum None = (refl, refl)
sliced_printed quantum (Some p) =
    of_either (λ (o : Outcome). Printed o.lines) p.running _ _ (search (arith, nat_tests, no_newline_in_stop_line, prints, stop_line_plain)) (refl, refl)

-- the lines that a private machine prints for any event contain no newline
pub event_lines : (s : Setup) (p : Private) (e : Event) → AreLines (event s p e).lines
unfolding event
event_lines s p e = search (arith, nat_tests, commanded_prints, sliced_printed)
