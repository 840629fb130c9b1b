use Rattle.std.proofs.Common.{◌≤◌, ◌∙◌, arith}
use Rattle.std.proofs.lemmas.Nat.{one_shl}
use Rattle.rv_model.specs.vector.Groups.{width_bytes}
use Rattle.rv_model.proofs.element_lemmas.Widths.{bytes_positive}
use Rattle.lane_arith.proofs.ChunkWrites.{few_in_chunk}
use Rattle.lane_permute.proofs.MovedElements.{picked}
use Rattle.lane_permute.proofs.moved.first_then.Goals as goal

pub returns : goal.returns
returns g c = λ i h.
    let w = g.L.Lane.width in
    let few : g.L.Lane.count ≤ 32 = few_in_chunk (width_bytes w) g.L.Lane.count (bytes_positive w) g.met.L.Lane.fills in
    let known = rw (one_shl c.args.count 64 (omega (arith, few, c.requires))) at c.choose.ensures i h in
    c.select.ensures i h ∙ picked c.args.count i _ (g.L.Lane.lane c.args.first i) (g.L.Lane.lane c.args.rest i) known
