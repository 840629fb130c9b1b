-- Vector loads and stores that move one block of bytes ("V" Vector Extension 1.0, sections 7.4 and 7.9).
use Rattle.std.specs.Prelude.{◌≡◌, ℕ, ◌+◌, ◌*◌, ◌^◌, ◌<◌, true}
use Rattle.rv_model.specs.accesses.VectorAccess.{VectorAccess}

-- the n indices from `start` on are contiguous in memory, from `address` on: none is masked off, and each has one field, which follows
-- the field of the index before. The elements are contiguous in the registers too.
pub record IsContiguous (a : VectorAccess) (start n address : ℕ) : Type 0 where
  pub unmasked : a.body.unmasked ≡ true
  pub alone : a.fields ≡ 1
  pub follow : (k : ℕ) → k < n → a.address (start + k) ≡ address + k * a.size
  pub end : address + n * a.size < 2 ^ 64
