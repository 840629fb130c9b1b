use Rattle.std.proofs.Common.{arith}
use Rattle.lane_arith.proofs.MaskBits.{word_bit}
use Rattle.lane_arith.proofs.chunk_bits.mask_bits.Goals as goal

pub returns : goal.returns
returns c = λ i h.
    rw (c.from.ensures, c.load.ensures)
    (word_bit c.args.mask.now c.args.first c.args.count i (omega (arith, c.told-mask, c.requires.inside, c.requires.some)) c.fits-mask c.requires.word h)
