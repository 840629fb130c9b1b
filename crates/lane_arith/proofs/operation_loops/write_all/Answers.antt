use Rattle.std.proofs.Common.{ℕ, ◌*◌, ◌+◌, ◌≤◌, ◌∙◌, ap, length}
use Rattle.std.specs.Int.{bytes_low_first}
use lib.Lanes.{put_chunk}
use Rattle.rv_model.specs.elements.Elements.{element}
use Rattle.rv_model.specs.elements.Formulas.{formula, wrap}
use Rattle.rv_model.specs.vector.Groups.{width_bytes}
use Rattle.rv_model.proofs.element_lemmas.Sets.{range_step, room_for}
use Rattle.lane_arith.proofs.operation_loops.write_all.Goals as goal

pub loop-i-preserved : goal.loop-i-preserved
loop-i-preserved g c =
    let k : ℕ = width_bytes g.L.Lane.width in
    let number : ℕ → ℕ → ℕ = λ a b. wrap g.L.Lane.width (formula g.O.Operation.op g.L.Lane.width a b) in
    let room : k * c.loop-i.i + k ≤ length c.args.destination.now = room_for _ _ _ _ c.loop-i-test.true c.requires.room in
    range_step _ _ _ _ _ _ _ _ c.loop-i.auto.i c.loop-i-test.true c.loop-i.invariant room
    (c.store.ensures ∙ ap (λ n. put_chunk (k * c.loop-i.i) c.loop-i.destination (bytes_low_first 0 k n))
    (c.apply.ensures ∙ ap (number (g.L.Lane.value c.load.result)) c.load-in-loop-i.ensures
    ∙ ap (λ a. number a (element k c.args.b.now c.loop-i.i)) c.load.ensures))
