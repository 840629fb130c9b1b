use Rattle.std.proofs.Common.{◌+◌, ◌*◌, refl, ◌∙◌}
use Rattle.rv_model.specs.elements.Elements.{mask_bit}
use Rattle.lane_arith.proofs.MaskBits.{known_set}
use Rattle.lane_arith.proofs.mask_operand.WithMaskOperandResults.chunk_results.Goals as goal

pub returns : goal.returns
returns g c = λ i h.
    let a = c.in_ok-a.ensures.value i h in
    let b = c.in_ok-b.ensures.value i h in
    let count = c.count-count.ensures in
    let known = rw count at c.mask_bits-word.ensures i h in
    let bit = known_set c.mask_bits-word.result i (mask_bit c.args.self.now.v0.now (g.L.Lane.count * c.args.chunk + i)) known in
    c.with_mask_operand.ensures i h ∙ rw (a, b, bit) refl
