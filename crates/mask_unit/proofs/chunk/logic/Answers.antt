use Rattle.lane_arith.proofs.MaskBytes.{mask_and, mask_not, mask_or, mask_xor, own_bits}
use Rattle.mask_unit.proofs.chunk.logic.Goals as goal
use Rattle.mask_unit.proofs.chunk.logic.Goals.{in-Vmandn, in-Vmand, in-Vmor, in-Vmxor, in-Vmorn, in-Vmnand, in-Vmnor, in-Vmxnor}

pub returns : goal.returns
returns c = λ i h.
    let a = own_bits c.args.a c.fits-a.0 c.fits-a.1 in
    let b = own_bits c.args.b c.fits-b.0 c.fits-b.1 in
    elim c.match-op.branch [
      | in-Vmandn p ↦ rw (p.in-Vmandn.is, p.result-is) ((mask_and a (mask_not b)).bits i h)
      | in-Vmand p ↦ rw (p.in-Vmand.is, p.result-is) ((mask_and a b).bits i h)
      | in-Vmor p ↦ rw (p.in-Vmor.is, p.result-is) ((mask_or a b).bits i h)
      | in-Vmxor p ↦ rw (p.in-Vmxor.is, p.result-is) ((mask_xor a b).bits i h)
      | in-Vmorn p ↦ rw (p.in-Vmorn.is, p.result-is) ((mask_or a (mask_not b)).bits i h)
      | in-Vmnand p ↦ rw (p.in-Vmnand.is, p.result-is) ((mask_not (mask_and a b)).bits i h)
      | in-Vmnor p ↦ rw (p.in-Vmnor.is, p.result-is) ((mask_not (mask_or a b)).bits i h)
      | in-Vmxnor p ↦ rw (p.in-Vmxnor.is, p.result-is) ((mask_not (mask_xor a b)).bits i h)
    ]
