-- Memories that a function from addresses to cells defines, such as the memory of an image.
use Rattle.std.proofs.Common.{◌≡◌, ◌≢◌, ℕ, zero, suc, ◌<◌, ◌≤◌, true, false, Option, None, refl, sym, ◌∙◌, subst, inl, inr, arith}
use Rattle.std.specs.Prelude.{nat_lt}
use Rattle.std.specs.Ordering.{nat_cmp}
use Rattle.std.specs.FinMap.{get, get-empty}
use Rattle.std.proofs.lemmas.Bool.{cases_eq, cases_lt, cond-false, cond-true}
use Rattle.std.proofs.lemmas.Bool.Decides.{nat_tests}
use Rattle.rv_model.specs.images.Image.{all_pages, memory_below, memory_of_image, with_cell}
use Rattle.rv_model.specs.images.ImageCells.{HoldsCellsBelowEnd}
use Rattle.rv_model.specs.memory.Memory.{Cell, Memory}
use Rattle.rv_model.specs.memory.Sizes.{page_limit}
use Rattle.rv_model.proofs.memory_lemmas.Memory.{get-insert_other, get-insert_same, same_memory}

get-with_cell_other : (m : Memory) (a x : ℕ) (o : Option Cell) → x ≢ a → get (with_cell m a o) x ≡ get m x
get-with_cell_other m a x o h = search (arith, nat_tests, get-insert_other)

get-with_cell_same : (m : Memory) (a : ℕ) (o : Option Cell) → get m a ≡ None → get (with_cell m a o) a ≡ o
get-with_cell_same m a o e = search (arith, nat_tests, get-insert_same)

pub get-memory_below_outside : (cells : ℕ → Option Cell) (n x : ℕ) → n ≤ x → get (memory_below cells n) x ≡ None
unfolding memory_below
get-memory_below_outside cells zero x l = get-empty nat_cmp x
get-memory_below_outside cells (suc n) x l = search (arith, get-with_cell_other, get-memory_below_outside cells n x (omega arith))

pub get-memory_below : (cells : ℕ → Option Cell) (n x : ℕ) → x < n → get (memory_below cells n) x ≡ cells x
unfolding memory_below
get-memory_below cells zero x l = absurd (omega arith)
get-memory_below cells (suc n) x l = elim (cases_eq x n) [
  | inl same ↦ subst (λ (y : ℕ). get (with_cell (memory_below cells n) n (cells n)) y ≡ cells y) (sym same)
      (get-with_cell_same (memory_below cells n) n (cells n) (get-memory_below_outside cells n n (omega arith)))
  | inr other ↦ get-with_cell_other (memory_below cells n) n x (cells n) other ∙ get-memory_below cells n x (omega arith)
]

-- a memory with these cells is the memory that the function defines
pub is_memory_below : (m : Memory) (cells : ℕ → Option Cell) (n : ℕ) → ((x : ℕ) → x < n → get m x ≡ cells x) → ((x : ℕ) → n ≤ x → get m x ≡ None) → m ≡ memory_below cells n
is_memory_below m cells n within outside = search (arith, nat_tests, cases_lt, get-memory_below, get-memory_below_outside, same_memory)

-- ---- the memory of an image

pub all_pages_is_page_limit : all_pages ≡ page_limit
unfolding all_pages
all_pages_is_page_limit = refl

test_below : (x end : ℕ) → x < end → nat_lt x end ≡ true
test_below x end l = grind (arith, nat_tests)

test_past : (x end : ℕ) → end ≤ x → nat_lt x end ≡ false
test_past x end l = grind (arith, nat_tests)

pub holds_cells_below_end : HoldsCellsBelowEnd
unfolding memory_of_image
holds_cells_below_end image x =
    search (arith, all_pages_is_page_limit, cases_lt, cond-false, cond-true, get-memory_below, get-memory_below_outside, test_below, test_past)
