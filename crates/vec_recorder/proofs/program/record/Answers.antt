use Rattle.std.proofs.Common.{inl, inr}
use Rattle.vec_recorder.proofs.RunLaws.{any_run}
use Rattle.vec_recorder.proofs.program.record.Goals as goal

pub returns-clause-recorded : goal.returns-clause-recorded
returns-clause-recorded g c = λ zero.
    elim (c.record_into.ensures.recorded zero) [
      | inl helped ↦ inl helped.asked
      | inr ran ↦ inr (any_run _ _ _ ran)
    ]
