use Rattle.std.proofs.Common.{ℕ, ap, ◌∙◌, ◌+◌, ◌*◌, ◌==◌}
use Rattle.rv_model.specs.elements.Elements.{is_active, mask_bit}
use Rattle.lane_arith.proofs.MaskBits.{both_bits, low_bit}
use Rattle.mask_unit.proofs.set_bits.set_word.Goals as goal

pub returns-clause-value : goal.returns-clause-value
returns-clause-value c = λ i h.
    let at : ℕ = 32 * c.args.word + i in
    ap (λ x. x == 0) (low_bit _ 32 i h)
    ∙ both_bits c.active_bits-active.result c.mask_bits.result i (is_active c.args.body.now at) (mask_bit c.args.bits.now at)
    (c.active_bits-active.ensures i h) (c.mask_bits.ensures i h)
