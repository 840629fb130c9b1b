use Rattle.std.proofs.Common.{◌∙◌, ap, arith}
use Rattle.rv_model.specs.elements.Arithmetic.{fixed_point_result, saturates_at, second_element}
use Rattle.rv_model.specs.vector.Groups.{GroupType, width_bytes}
use Rattle.rv_model.specs.elements.FixedPoint.{fixed_point_formula, has_unsigned_shift, saturates}
use Rattle.rv_model.specs.elements.Formulas.{ones, wrap}
use Rattle.rv_model.proofs.element_lemmas.ActiveElements.{some_same}
use Rattle.vec_unit.proofs.CopiedOperands.{two_operands}
use Rattle.vec_unit.proofs.MadeResults.{active_written}
use Rattle.vec_unit.proofs.fixed_point.WithSourcesWithRoundingFixedPointOpTwoWidths.write.Goals as goal

pub returns : goal.returns
returns g c =
    let t : GroupType = record { width = g.D.Lane.width; emul = c.args.groups.emul } in
    let o = c.args.self.now in
    let file = c.args.file.now in
    let x = c.args.scalar.now in
    record {
      writes =
          active_written (width_bytes t.width) c.args.body.now _ (fixed_point_result t o.op.mode o.op.op o.vs2 o.source file x) (ones t.width) c.args.made.now
          c.write_saturating_results.new.destination
          (two_operands t t (λ a b. wrap t.width (fixed_point_formula o.op.op o.op.mode t.width a b))
          c.group.result.now c.second_in_place.result.now file o.vs2
          c.args.body.now.end (second_element t (has_unsigned_shift o.op.op) o.source file x) c.group.ensures.value
          (λ i h. c.second_in_place.ensures.elements i (omega (arith, h, c.end.ensures.value))
          ∙ ap (λ u. second_element t u o.source file x i) c.has_unsigned_shift.ensures))
          c.write_saturating_results.ensures.writes;
      saturated =
          c.write_saturating_results.ensures.saturated
          ∙ some_same c.args.body.now _
          (saturates_at t o.op.mode o.op.op o.vs2 o.source file x)
          (two_operands t t (saturates o.op.op o.op.mode t.width) c.group.result.now c.second_in_place.result.now file o.vs2
          c.args.body.now.end (second_element t (has_unsigned_shift o.op.op) o.source file x) c.group.ensures.value
          (λ i h. c.second_in_place.ensures.elements i (omega (arith, h, c.end.ensures.value))
          ∙ ap (λ u. second_element t u o.source file x i) c.has_unsigned_shift.ensures));
    }
