use Rattle.std.proofs.Common.{◌*◌, ◌+◌, nat_lt, false}
use mathlib.Core.Bool.{◌&&◌}
use Rattle.rv_model.specs.elements.Elements.{is_changed, result_or_ones}
use Rattle.rv_model.specs.elements.Formulas.{ones}
use Rattle.rv_model.specs.lending.Writes.{Writes}
use Rattle.rv_model.specs.vector.Groups.{width_bytes}
use Rattle.vec_unit.specs.InPlace.{number_from, test_from, in_place_result}
use Rattle.vec_unit.proofs.in_place.InPlace.write.Given as goal

abbrev pub invariant-loop-r : goal.invariant-loop-r
invariant-loop-r g l =
    Writes (width_bytes g.L.Lane.width)
    (λ e. test_from (g.L.Lane.count * l.vd) (is_changed l.body l.fill_masked_off false) e && nat_lt e (g.L.Lane.count * (l.vd + l.r)))
    (number_from (g.L.Lane.count * l.vd)
    (result_or_ones l.body (in_place_result g.L.Lane.width g.L.Lane.count l.self.op l.self.vs2 l.self.source l.self.number l.initial.bytes)
    (ones g.L.Lane.width)))
    l.initial.bytes l.bytes
