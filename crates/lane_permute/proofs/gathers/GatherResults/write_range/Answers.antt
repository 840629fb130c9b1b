use Rattle.std.proofs.Common.{ℕ, List, ◌*◌, ◌+◌, ◌≤◌, ◌≡◌, ◌∙◌, ap, length}
use Rattle.std.specs.Int.{bytes_low_first}
use lib.Lanes.{put_chunk}
use Rattle.rv_model.specs.elements.Elements.{element}
use Rattle.rv_model.specs.elements.PermutationResults.{gathered}
use Rattle.rv_model.specs.vector.Groups.{width_bytes}
use Rattle.rv_model.proofs.element_lemmas.Sets.{range_step, room_for}
use Rattle.lane_permute.proofs.gathers.GatherResults.write_range.Goals as goal

pub loop-i-preserved : goal.loop-i-preserved
loop-i-preserved g c =
    let k : ℕ = width_bytes g.L.Lane.width in
    let number : ℕ → ℕ = gathered c.args.self.now.limit (element k c.args.self.now.a.now) in
    let room : k * c.loop-i.i + k ≤ length c.args.destination.now = room_for _ _ _ _ c.loop-i-test.true c.requires.room in
    let index : c.number-index.result ≡ element (width_bytes g.I.Lane.width) c.args.self.now.indices.now c.loop-i.i =
    c.number-index.ensures.value ∙ c.load.ensures in
    range_step _ _ _ _ _ _ _ _ c.loop-i.auto.i c.loop-i-test.true c.loop-i.invariant room
    (c.store.ensures ∙ ap (λ n. put_chunk (k * c.loop-i.i) c.loop-i.destination (bytes_low_first 0 k n)) (c.gathered.ensures ∙ ap number index))
