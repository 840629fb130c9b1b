-- Return of a borrowed part of the vector register file.
use Rattle.std.specs.Prelude.{ℕ, List}
use Rattle.std.specs.Borrow.{Lends, MutBor, Fml, u8, Array}
use Rattle.std.specs.Simd.Lanes.{put_chunk}
use Rattle.rv_model.specs.contracts.vector.file.VFile.{the_row}

-- when the borrow ends, the register file has the bytes that were written through it, from byte `from` on
abbrev pub LendsFilePart : MutBor (List ℕ) → ℕ → MutBor (List ℕ) → Fml
LendsFilePart file from part = Lends the_row (Array u8 0) file part (λ written. put_chunk from file.now written)
