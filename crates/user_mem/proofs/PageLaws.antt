-- The mapped pages of a table, and their number
use Rattle.std.proofs.Common.{◌≡◌, ℕ, suc, ◌+◌, ◌*◌, ◌/◌, List, [], ◌∷◌, length, Option, Some, None, refl, ◌∙◌, ap, arith}
use Rattle.std.specs.Prelude.{is_some}
use Rattle.std.specs.Ordering.{nat_cmp}
use Rattle.std.specs.FinMap.{len, contains_key, len-empty}
use Rattle.rv_model.specs.memory.Memory.{Cell, page_count}
use Rattle.rv_model.proofs.memory_lemmas.Memory.{len-add_cells}
use Rattle.rv_model.specs.memory.Sizes.{page_size}
use Rattle.user_mem.specs.declared.entry.Entry.{Entry}
use Rattle.user_mem.specs.Table.{entry_at, cell_of_entry, memory_of, IsSorted}
use Rattle.user_mem.proofs.TableLaws.{cell_of_page, get-memory_of}
use Rattle.user_mem.proofs.SearchLaws.{entry_at_none}

-- a page's first address is mapped if and only if the page has an entry
pub contains_key-memory_of : (frames : List ℕ) (es : List Entry) (p : ℕ) → contains_key (memory_of frames es) (page_size * p) ≡ is_some (entry_at es p)
contains_key-memory_of frames es p =
    let page : page_size * p / page_size ≡ p = omega arith in
    ap (λ (o : Option Cell). is_some o) (get-memory_of frames es (page_size * p)) ∙ through (entry_at es (page_size * p / page_size))
    ∙ ap (λ (q : ℕ). is_some (entry_at es q)) page
  where
    through : (o : Option Entry) → is_some (cell_of_page frames (page_size * p) o) ≡ is_some o
    through None = refl
    through (Some e) = refl

-- the first page of a sorted table has no later entry
first_is_alone : (x : Entry) (es : List Entry) → IsSorted (x ∷ es) → entry_at es x.page ≡ None
first_is_alone x es sorted = entry_at_none es x.page (λ j d lt same. omega (arith, sorted 0 (suc j) d (omega arith) (omega arith)))

tail_is_sorted : (x : Entry) (es : List Entry) → IsSorted (x ∷ es) → IsSorted es
tail_is_sorted x es sorted i j d lt in_range = sorted (suc i) (suc j) d (omega arith) (omega arith)

-- each entry maps `page_size` addresses
pub len-memory_of : (frames : List ℕ) (es : List Entry) → IsSorted es → len (memory_of frames es) ≡ page_size * length es
unfolding memory_of
len-memory_of frames [] sorted = len-empty nat_cmp Cell
len-memory_of frames (x ∷ es) sorted =
    let rest = len-memory_of frames es (tail_is_sorted x es sorted) in
    let more = len-add_cells (memory_of frames es) (page_size * x.page) page_size (λ k. cell_of_entry frames x k) (λ k l.
    let page : (page_size * x.page + k) / page_size ≡ x.page = omega arith in
    get-memory_of frames es (page_size * x.page + k) ∙ ap (cell_of_page frames (page_size * x.page + k)) (ap (entry_at es) page ∙ first_is_alone x es sorted)) in
    omega (arith, rest, more)

pub page_count-memory_of : (frames : List ℕ) (es : List Entry) → IsSorted es → page_count (memory_of frames es) ≡ length es
unfolding page_count
page_count-memory_of frames es sorted = let all = len-memory_of frames es sorted in omega (arith, all)
