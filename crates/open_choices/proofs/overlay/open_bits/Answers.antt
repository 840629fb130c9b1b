use Rattle.std.proofs.Common.{arith}
use Rattle.open_choices.proofs.OpenBits.{open_bit}
use Rattle.open_choices.proofs.overlay.open_bits.Goals as goal

pub returns : goal.returns
returns c = λ i h.
    let tail = rw (c.new-behind.ensures, c.end.ensures.value) at c.filled_bits-in_tail.ensures i h in
    open_bit c.filled_bits-in_body.result c.enabled_bits-enabled.result c.filled_bits-in_tail.result i c.args.first c.args.body.now c.args.masked_off c.args.tail
    (omega (arith, c.requires.inside)) (c.filled_bits-in_body.ensures i h) (c.enabled_bits-enabled.ensures i h) tail
