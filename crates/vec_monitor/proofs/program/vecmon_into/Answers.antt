use Rattle.std.proofs.Common.{◌∙◌, ap, inl, inr, sym}
use Rattle.vec_monitor.specs.Statuses.{program_status}
use Rattle.vec_monitor.proofs.program.vecmon_into.Goals as goal

pub returns-in-Err-clause-failed : goal.returns-in-Err-clause-failed
returns-in-Err-clause-failed g c = λ five. c.in-Err.ensures.failed (sym c.report.ensures ∙ five)

pub returns-in-Err-clause-unread : goal.returns-in-Err-clause-unread
returns-in-Err-clause-unread g c = λ three. c.in-Err.ensures.unread (sym c.report.ensures ∙ three)

pub returns-in-Err-clause-usage : goal.returns-in-Err-clause-usage
returns-in-Err-clause-usage g c = λ two. c.in-Err.ensures.usage (sym c.report.ensures ∙ two)

pub returns-in-Err-clause-refused : goal.returns-in-Err-clause-refused
returns-in-Err-clause-refused g c = λ are. elim (c.in-Err.ensures.refused are) [
  | inl two ↦ inl (c.report.ensures ∙ two)
  | inr none ↦ inr (c.report.ensures ∙ ap program_status none)
]
