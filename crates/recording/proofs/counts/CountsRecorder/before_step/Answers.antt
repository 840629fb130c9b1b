use Rattle.std.proofs.Common.{ap, ◌∙◌}
use Rattle.rv_model.specs.step.Hart.{HartState}
use Rattle.recording.specs.Machines.{state_of}
use Rattle.recording.specs.Sums.{Row}
use Rattle.recording.proofs.Counted.{row_for}
use Rattle.recording.proofs.counts.CountsRecorder.before_step.Goals as goal

pub returns-clause-prepared : goal.returns-clause-prepared
returns-clause-prepared g c =
    let s : HartState = state_of g.M.UserBytes.memory c.args.machine.now in
    let row = c.in_ok-index.ensures.row in
    let here = ap (λ (r : Row). r.key) c.index-row.ensures ∙ row.of c.index-row.result.now in (
      c.in_ok-index.ensures.totals,
      row_for s c.word_at-word.result _ c.capture.new.self _ _ c.word_at-word.ensures row c.capture.ensures (c.index-row.result.now.class_is s.scalar.pc c.word_at-word.result here),
    )
