use Rattle.std.proofs.Common.{inl, inr, subst, sym}
use Rattle.std.specs.Io.KnownBytes.{Keeps}
use Rattle.either.specs.Either.{either}
use Rattle.vec_monitor.proofs.ProgramRunLaws.{any_output}
use Rattle.vec_monitor.proofs.program.vecmon.Goals as goal

pub returns-clause-ran : goal.returns-clause-ran
returns-clause-ran g c = λ zero.
    let known = g.R.Inputs.input_bytes c.args.rt.now in
    let kept = subst (λ reader. Keeps known (either g.R.File.Read.remaining g.R.StandardInput.Read.remaining reader)) (sym c.new.ensures.reader) c.standard_input.ensures in
    elim (c.vecmon_into.ensures.ran zero) [
      | inl helped ↦ inl helped.asked
      | inr ran ↦ inr (any_output (g.R.Inputs.file_bytes c.args.rt.now) known _ _ _ kept ran)
    ]
