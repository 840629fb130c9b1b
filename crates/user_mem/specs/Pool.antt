-- The invariant of the pool: each frame is either free or used by one entry of all users' tables
use Rattle.std.specs.Prelude.{◌≡◌, ℕ, ◌+◌, ◌*◌, ◌≤◌, cond, nat_lt, List, [], length, map, slice_index_or}
use Rattle.std.specs.List.{sum_by}
use Rattle.user_mem.specs.declared.entry.Entry.{Entry}
use Rattle.arrayvec.specs.ArrayVec.{ArrayVec}
use Rattle.rv_model.specs.memory.Memory.{Memory}
use Rattle.rv_model.specs.memory.Sizes.{page_size, page_quota, frame_count}
use Rattle.rv_model.specs.machine.Setup.{user_count}
use Rattle.user_mem.specs.Table.{memory_of, IsSorted, AreBelow}
use Rattle.user_mem.specs.Frames.{times_free, times_used}

-- the number of times that frame f is free or used
unfoldable pub owners : ℕ → List ℕ → List (List Entry) → ℕ
owners f free tables = times_free f free + sum_by (times_used f) tables

-- the number of used frames
unfoldable pub used_in_all : List (List Entry) → ℕ
used_in_all tables = sum_by (λ t. length t) tables

-- the entries of each table
abbrev pub entries_of : List (ArrayVec Entry) → List (List Entry)
entries_of tables = map (λ t. t.items) tables

-- the table of the user at index u
abbrev pub table_at : List (List Entry) → ℕ → List Entry
table_at tables u = slice_index_or tables u []

-- the memories of all users, from their tables and the frames' bytes
abbrev pub memories_of : List ℕ → List (List Entry) → List Memory
memories_of frames tables = map (λ t. memory_of frames t) tables

-- the invariant of the tables, the free frames and the frames' bytes
pub record IsPool (tables : List (List Entry)) (free frames : List ℕ) : Type 0 where
  pub users : length tables ≡ user_count
  pub size : length frames ≡ page_size * frame_count
  pub few : (u : ℕ) → length (table_at tables u) ≤ page_quota
  pub sorted : (u : ℕ) → IsSorted (table_at tables u)
  pub below : (u : ℕ) → AreBelow (table_at tables u)
  pub once : (f : ℕ) → owners f free tables ≡ cond (nat_lt f frame_count) 1 0
  pub total : length free + used_in_all tables ≡ frame_count
