use Rattle.std.proofs.Common.{◌&&◌, arith, bit_and}
use lib.Lanes.{zip2}
use Rattle.rv_model.specs.elements.Elements.{mask_bit}
use Rattle.lane_arith.proofs.MaskBytes.{mask_and, own_bits}
use Rattle.mask_unit.proofs.SetBits.{all_counted, ones_fit, ones_fit_16}
use Rattle.mask_unit.proofs.chunk.set_in_both.Goals as goal

pub overflow_cast-result : goal.overflow_cast-result
overflow_cast-result c =
    let both = mask_and (own_bits c.args.a c.fits-a.0 c.fits-a.1) (own_bits c.args.b c.fits-b.0 c.fits-b.1) in
    ones_fit (zip2 bit_and c.args.a c.args.b) both.fits

pub overflow_cast-result-2 : goal.overflow_cast-result-2
overflow_cast-result-2 c =
    let both = mask_and (own_bits c.args.a c.fits-a.0 c.fits-a.1) (own_bits c.args.b c.fits-b.0 c.fits-b.1) in
    ones_fit_16 (zip2 bit_and c.args.a c.args.b) both.fits

pub returns : goal.returns
returns c =
    let both = mask_and (own_bits c.args.a c.fits-a.0 c.fits-a.1) (own_bits c.args.b c.fits-b.0 c.fits-b.1) in
    all_counted (λ i. mask_bit c.args.a i && mask_bit c.args.b i) (zip2 bit_and c.args.a c.args.b) 256 (omega (arith, both.long)) (omega arith) both.fits both.bits
