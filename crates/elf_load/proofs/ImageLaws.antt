-- The number of pages of an image's memory
use Rattle.std.proofs.Common.{◌≡◌, ℕ, zero, suc, ◌+◌, ◌*◌, ◌/◌, ◌≤◌, Bool, true, false, cond, List, Option, Some, None, refl, sym, ◌∙◌, ap, arith}
use Rattle.std.specs.Prelude.{is_some, if◌then◌else◌}
use Rattle.std.specs.Cmp.{nat_cmp_total}
use Rattle.std.specs.Ordering.{nat_cmp}
use Rattle.std.specs.FinMap.{get, len, len-empty, len-insert}
use Rattle.rv_model.specs.memory.Memory.{Cell, Memory, page_count}
use Rattle.rv_model.specs.images.Image.{placed_headers, is_touched, cell_of, with_cell, memory_below, all_pages, memory_of_image}
use Rattle.rv_model.proofs.Choices.{of_bool}
use Rattle.rv_model.proofs.image_lemmas.Cells.{all_pages_is_page_limit, get-memory_below_outside}
use Rattle.rv_model.specs.memory.Sizes.{page_size, page_limit}
use Rattle.elf_load.specs.Pages.{pages_below}
use Rattle.elf_load.proofs.PageLaws.{pages_below_skipped, pages_below_le}

-- ---- the number of addresses

len-with_cell : (m : Memory) (a : ℕ) (o : Option Cell) → get m a ≡ None → len (with_cell m a o) ≡ len m + cond (is_some o) 1 0
len-with_cell m a None e = omega arith
len-with_cell m a (Some c) e =
    len-insert nat_cmp_total m a c ∙ ap (λ (o : Option Cell). cond (is_some o) (len m) (len m + 1)) e

len-memory_below : (cells : ℕ → Option Cell) (n : ℕ) → len (memory_below cells (suc n)) ≡ len (memory_below cells n) + cond (is_some (cells n)) 1 0
unfolding memory_below
len-memory_below cells n = len-with_cell (memory_below cells n) n (cells n) (get-memory_below_outside cells n n (omega arith))

-- the number of addresses in one page
len_in_page : (cells : ℕ → Option Cell) (t : ℕ → Bool) → ((x : ℕ) → is_some (cells x) ≡ t (x / page_size)) → (n k : ℕ) → k ≤ page_size
    → len (memory_below cells (page_size * n + k)) ≡ len (memory_below cells (page_size * n)) + cond (t n) k 0
len_in_page cells t same n zero l =
    let size : ℕ = len (memory_below cells (page_size * n)) in
    ap (λ (y : ℕ). len (memory_below cells y)) (omega arith) ∙ of_bool (t n) (λ b. size ≡ size + cond b 0 0) (λ e. omega arith) (λ e. omega arith)
len_in_page cells t same n (suc k) l =
    let next : page_size * n + suc k ≡ suc (page_size * n + k) = omega arith in
    let place : (page_size * n + k) / page_size ≡ n = omega arith in
    let size : ℕ = len (memory_below cells (page_size * n)) in
    ap (λ (y : ℕ). len (memory_below cells y)) next ∙ len-memory_below cells (page_size * n + k)
    ∙ ap (λ (b : Bool). len (memory_below cells (page_size * n + k)) + cond b 1 0) (same (page_size * n + k) ∙ ap t place)
    ∙ ap (λ (y : ℕ). y + cond (t n) 1 0) (len_in_page cells t same n k (omega arith))
    ∙ of_bool (t n) (λ b. (size + cond b k 0) + cond b 1 0 ≡ size + cond b (suc k) 0) (λ e. omega arith) (λ e. omega arith)

pub len-memory_below_pages : (cells : ℕ → Option Cell) (t : ℕ → Bool) → ((x : ℕ) → is_some (cells x) ≡ t (x / page_size)) → (n : ℕ) → len (memory_below cells (page_size * n)) ≡ page_size * pages_below t n
unfolding pages_below memory_below
len-memory_below_pages cells t same zero = len-empty nat_cmp Cell
len-memory_below_pages cells t same (suc n) =
    let next : page_size * suc n ≡ page_size * n + page_size = omega arith in
    ap (λ (y : ℕ). len (memory_below cells y)) next ∙ len_in_page cells t same n page_size (omega arith)
    ∙ ap (λ (y : ℕ). y + cond (t n) page_size 0) (len-memory_below_pages cells t same n)
    ∙ of_bool (t n) (λ b. page_size * pages_below t n + cond b page_size 0 ≡ page_size * (pages_below t n + cond b 1 0)) (λ e. omega arith) (λ e. omega arith)

pub is_some-when : (b : Bool) (c : Cell) → is_some (if b then Some c else None) ≡ b
is_some-when true c = refl
is_some-when false c = refl

-- an image's memory has the pages that the image touches
pub page_count-image : (image : List ℕ) → page_count (memory_of_image image) ≡ pages_below (is_touched (placed_headers image)) all_pages
unfolding memory_of_image page_count cell_of
page_count-image image =
    let size = len-memory_below_pages (cell_of image) (is_touched (placed_headers image)) (λ x. is_some-when (is_touched (placed_headers image) (x / page_size)) _) all_pages in
    omega (arith, size)

-- ---- counting page by page

pub pages_below_none : (t : ℕ → Bool) → pages_below t 0 ≡ 0
unfolding pages_below
pages_below_none t = refl

-- if no page is left, the count is the number of all pages
pub counted_all : (image image' : List ℕ) (from count : ℕ) → image ≡ image' → ((q : ℕ) → from ≤ q → is_touched (placed_headers image) q ≡ false) → from ≤ page_limit → pages_below (is_touched (placed_headers image)) from ≡ count
    → count ≡ page_count (memory_of_image image')
counted_all image image' from count same none bound counted =
    sym counted ∙ sym (pages_below_skipped (is_touched (placed_headers image)) from all_pages (omega (arith, all_pages_is_page_limit)) (λ q l m. none q l))
    ∙ sym (page_count-image image) ∙ ap (λ (xs : List ℕ). page_count (memory_of_image xs)) same

-- the number of pages counted so far is at most that of all pages
pub counted_many : (image image' : List ℕ) (from : ℕ) → image ≡ image' → from ≤ page_limit → pages_below (is_touched (placed_headers image)) from ≤ page_count (memory_of_image image')
counted_many image image' from same bound =
    let le = pages_below_le (is_touched (placed_headers image)) from all_pages (omega (arith, all_pages_is_page_limit)) in
    let total = page_count-image image ∙ refl in
    let moved = ap (λ (xs : List ℕ). page_count (memory_of_image xs)) same in
    omega (arith, le, total, moved)
