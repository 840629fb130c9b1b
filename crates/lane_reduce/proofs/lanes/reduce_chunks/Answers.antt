use Rattle.std.proofs.Common.{ℕ, ◌*◌, ◌%◌, ◌^◌, ◌<◌, ◌≡◌, cond, sym, ap, ◌∙◌, mod-eq_of_lt}
use mir.Val.{bits}
use Rattle.rv_model.specs.elements.Elements.{element, is_active}
use Rattle.rv_model.specs.elements.Formulas.{formula, wrap}
use Rattle.rv_model.specs.vector.Groups.{width_bytes}
use Rattle.lane_reduce.specs.AnyOrder.{combination, neutral_number, total}
use Rattle.lane_reduce.proofs.Folds.{fold_total}
use Rattle.lane_reduce.proofs.Laws.{any_order}
use Rattle.lane_reduce.proofs.MovedLanes.{element_below}
use Rattle.lane_reduce.proofs.lanes.reduce_chunks.Goals as goal

pub returns : goal.returns
returns g c =
    let op = c.args.op in
    let w = g.L.Lane.width in
    let f = combination op w in
    let e : ℕ = neutral_number op w in
    let number : ℕ → ℕ = element (width_bytes w) c.args.elements.now in
    let test = is_active c.args.body.now in
    let first : ℕ = g.L.Lane.value c.args.first in
    let small : first < 2 ^ bits w = c.number.ensures.bound in
    let itself : g.L.Lane.value c.low_bits-first.result ≡ first =
    c.low_bits-first.ensures ∙ ap (λ x. x % 2 ^ bits w) c.number.ensures.value ∙ mod-eq_of_lt small in
    let rest = c.first_lane-number.ensures ∙ c.in_ok-combined_lanes.ensures.value ∙ c.in_ok-lanes.ensures.value in
    let count = c.count-2.ensures in
    c.apply.ensures ∙ ap (λ o. wrap w (formula o w (g.L.Lane.value c.low_bits-first.result) (g.L.Lane.value c.first_lane-number.result))) c.combining.ensures
    ∙ ap (λ x. f x (g.L.Lane.value c.first_lane-number.result)) itself ∙ ap (f first) rest
    ∙ ap (λ n. f first (total f e (λ i. cond (test i) (number i) e) (n * c.min-chunks.result))) (sym count)
    ∙ sym (fold_total f e (2 ^ bits w) (any_order op w) test number first (c.count-2.result * c.min-chunks.result) small
    (λ i. element_below w c.args.elements.now i c.type_inv.elements))
