use Rattle.std.proofs.Common.{ℕ, ◌*◌, ◌<◌, ◌≡◌, get_or, length}
use Rattle.rv_model.specs.declared.vector.sizes.TheConstants.{GROUP_BYTES}
use Rattle.rv_model.specs.elements.Elements.{mask_bit}
use Rattle.mask_unit.proofs.SetBits.{passing}
use Rattle.mask_unit.proofs.set_bits.counts_below.Given as goal

abbrev pub invariant-loop-q : goal.invariant-loop-q
invariant-loop-q l = record {
  sized : length l.counts ≡ GROUP_BYTES;
  so_far : l.below ≡ passing (mask_bit l.set) (8 * l.q);
  written : (k : ℕ) → k < 8 * l.q → get_or l.counts k 0 ≡ passing (mask_bit l.set) k;
}
