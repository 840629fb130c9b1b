use Rattle.std.proofs.Common.{ℕ, ◌+◌, ◌-◌, ◌≡◌, ◌∙◌, arith, sym}
use Rattle.rv_model.specs.elements.Elements.{element, is_active}
use Rattle.rv_model.specs.vector.Groups.{width_bytes}
use Rattle.rv_model.proofs.element_lemmas.Ranges.{combined_more, combined_same}
use Rattle.lane_reduce.proofs.Folds.{fold_beyond}
use Rattle.lane_reduce.proofs.combine.reduce.Goals as goal
use Rattle.lane_reduce.proofs.combine.reduce.Goals.{then-is_active, else-is_active}

pub loop-i-preserved : goal.loop-i-preserved
loop-i-preserved g c =
    let test = is_active c.args.body.now in
    let combined = g.C.Combine.combined c.args.combine.now in
    let first = g.R.Lane.value c.args.first in
    let number = element (width_bytes g.E.Lane.width) c.args.elements.now in
    elim c.if-is_active.branch [
      | then-is_active w ↦
          rw (w.so_far-is, w.combined-so_far.ensures)
          (combined_more test combined first number c.loop-i.i _ _ (sym c.is_active.ensures ∙ w.if-is_active.true) c.loop-i.invariant w.load.ensures)
      | else-is_active w ↦
          rw w.so_far-is
          (combined_same test combined first number c.loop-i.i _ (sym c.is_active.ensures ∙ w.if-is_active.false) c.loop-i.invariant)
    ]

pub returns : goal.returns
returns g c =
    let end : ℕ = c.args.body.now.end in
    let past : ℕ = c.loop-i.i - end in
    let whole : c.loop-i.i ≡ end + past = omega (arith, c.loop-i-test.false, c.end-i-end.ensures.value) in
    c.loop-i.invariant
    ∙ fold_beyond c.args.body.now (g.C.Combine.combined c.args.combine.now) (g.R.Lane.value c.args.first) (element (width_bytes g.E.Lane.width) c.args.elements.now) past c.loop-i.i whole
