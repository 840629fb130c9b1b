-- The number of times that a frame is free, and the number of times that tables use it
use Rattle.std.specs.Prelude.{◌+◌, ◌*◌, ◌<◌, ◌≤◌, ℕ, cond, nat_eq, List}
use Rattle.std.specs.List.{sum_by}
use Rattle.user_mem.specs.declared.entry.Entry.{Entry}
use Rattle.rv_model.specs.memory.Sizes.{page_size}

-- the number of times that frame f is in a list of frames
unfoldable pub times_free : ℕ → List ℕ → ℕ
times_free f free = sum_by (λ g. cond (nat_eq g f) 1 0) free

-- the number of entries of a table with frame f
unfoldable pub times_used : ℕ → List Entry → ℕ
times_used f entries = sum_by (λ e. cond (nat_eq e.frame f) 1 0) entries

-- a table and the list of free frames: they contain each frame at most once in total, and each free frame is within the
-- bytes
pub record ShareNoFrame (free : List ℕ) (size : ℕ) (table : List Entry) : Type 0 where
  pub once : (f : ℕ) → times_free f free + times_used f table ≤ 1
  pub fit : (f : ℕ) → 0 < times_free f free → page_size * f + page_size ≤ size
