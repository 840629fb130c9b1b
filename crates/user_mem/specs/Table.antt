-- The meaning of a user's page table. Each entry has a page number, the number of the frame that holds the page, and
-- its permissions. The bytes of all frames are in one list, frame after frame. These definitions are internal to the
-- crate.
use Rattle.std.specs.Prelude.{◌≡◌, ◌≢◌, ℕ, ◌+◌, ◌*◌, ◌<◌, ◌≤◌, nat_eq, List, [], ◌∷◌, length, slice_index, slice_index_or, Option, Some, AllPairs}
use Rattle.std.specs.List.{find}
use Rattle.std.specs.FinMap.{empty}
use Rattle.rv_model.specs.memory.Memory.{Cell, Memory, add_cells}
use Rattle.rv_model.specs.memory.Sizes.{page_size, page_limit}
use Rattle.user_mem.specs.declared.entry.Entry.{Entry}

-- the entry of a page, if it has one
abbrev pub entry_at : List Entry → ℕ → Option Entry
entry_at entries page = find (λ e. nat_eq e.page page) entries

-- the cell at offset k of an entry's page
abbrev pub cell_of_entry : List ℕ → Entry → ℕ → Cell
cell_of_entry frames e k = record { byte = slice_index frames (page_size * e.frame + k); permissions = e.permissions }

-- a user's memory: each entry's page holds its frame's bytes
unfoldable pub memory_of : List ℕ → List Entry → Memory
memory_of frames [] = empty
memory_of frames (e ∷ es) = add_cells (memory_of frames es) (page_size * e.page) page_size (λ k. cell_of_entry frames e k)

-- the page numbers increase, so each page has at most one entry
abbrev pub IsSorted : List Entry → Type 0
IsSorted entries = AllPairs (λ a b. a.page < b.page) entries

-- the entry at index i is that of the page
pub record IsAt (entries : List Entry) (page i : ℕ) : Type 0 where
  pub in_range : i < length entries
  pub has_page : (d : Entry) → (slice_index_or entries i d).page ≡ page

-- index i is where the page's entry would be inserted: entries before it have lower pages, the others have higher pages
pub record IsGapFor (entries : List Entry) (page i : ℕ) : Type 0 where
  pub in_range : i ≤ length entries
  pub lower_before : (j : ℕ) (d : Entry) → j < i → (slice_index_or entries j d).page < page
  pub higher_after : (j : ℕ) (d : Entry) → i ≤ j → j < length entries → page < (slice_index_or entries j d).page

-- all pages end at or below the end of addresses
abbrev pub AreBelow : List Entry → Type 0
AreBelow entries = (p : ℕ) (e : Entry) → entry_at entries p ≡ Some e → p < page_limit

-- each entry's frame is within the bytes
abbrev pub FitIn : List Entry → ℕ → Type 0
FitIn entries size = (p : ℕ) (e : Entry) → entry_at entries p ≡ Some e → page_size * e.frame + page_size ≤ size

-- different pages have different frames
abbrev pub AreSeparate : List Entry → Type 0
AreSeparate entries = (p q : ℕ) (e f : Entry) → entry_at entries p ≡ Some e → entry_at entries q ≡ Some f → e.frame ≡ f.frame → p ≡ q

-- the two tables have no frame in common
abbrev pub AreApart : List Entry → List Entry → Type 0
AreApart entries others = (p q : ℕ) (e f : Entry) → entry_at entries p ≡ Some e → entry_at others q ≡ Some f → e.frame ≢ f.frame
