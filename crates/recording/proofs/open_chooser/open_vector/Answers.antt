use Rattle.std.proofs.Common.{◌∙◌, sym}
use Rattle.recording.proofs.OpenChoices.{no_fill}
use Rattle.recording.proofs.open_chooser.open_vector.Goals as goal

pub returns-in-Some-clause-fill : goal.returns-in-Some-clause-fill
returns-in-Some-clause-fill c = λ s scalar_is vector_is.
    sym (no_fill c.args.instr.now s (c.in-Some.rd, c.in-Some.length) (sym (c.asked_length.ensures s scalar_is) ∙ c.in-Some.is))
