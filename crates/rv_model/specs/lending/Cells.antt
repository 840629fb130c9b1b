-- Return of a borrowed part of an array of bytes.
use Rattle.std.specs.Prelude.{ℕ, List}
use Rattle.std.specs.Borrow.{Lends, MutBor, Fml, RattleType, u8, Array}
use Rattle.std.specs.Simd.Lanes.{put_chunk}
use Rattle.rv_model.specs.contracts.vector.cells.Cells.{the_row}

module _ (N : RattleType) (cells : MutBor (the_row N).Denot) where
  -- when the borrow ends, the array has the bytes that were written through it, from byte `from` on
  abbrev pub LendsPart : ℕ → MutBor (List ℕ) → Fml
  LendsPart from part = Lends (the_row N) (Array u8 0) cells part (λ written. record { bytes = put_chunk from cells.now.bytes written })
