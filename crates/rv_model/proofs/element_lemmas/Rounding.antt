-- Clipping of integers to a width.
use Rattle.std.proofs.Common.{ℕ, ◌-◌, ◌^◌, ◌≡◌, ℤ, pos, negsuc, arith}
use Rattle.std.specs.Int.{int_max, int_min, saturate_to_bits}
use Rattle.std.proofs.lemmas.Bool.Decides.{nat_tests}

-- the number nearest to z in the range from -(top + 1) to top
pub clamped : (h : ℕ) (z : ℤ) (top : ℕ) → top ≡ 2 ^ h - 1 → int_max (negsuc top) (int_min z (pos top)) ≡ saturate_to_bits h z
clamped h z top e = search (arith, nat_tests)
