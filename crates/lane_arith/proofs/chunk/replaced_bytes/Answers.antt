use Rattle.std.proofs.Common.{Fits, arith}
use Rattle.std.proofs.lemmas.Simd.{Each1-get_or}
use Rattle.std.specs.Int.{w8}
use Rattle.lane_arith.proofs.MaskBytes.{mask_replaced, own_bits}
use Rattle.lane_arith.proofs.chunk.replaced_bytes.Goals as goal

pub returns : goal.returns
returns c =
    let made = mask_replaced (own_bits c.args.old c.fits-old.0 c.fits-old.1) (own_bits c.args.results c.fits-results.0 c.fits-results.1) (own_bits c.args.active c.fits-active.0 c.fits-active.1) in
    record { length = made.long; bytes = λ q h. (Each1-get_or (Fits w8) _ q 0 (omega (arith, h, made.long)) made.fits).fits; bits = made.bits }
