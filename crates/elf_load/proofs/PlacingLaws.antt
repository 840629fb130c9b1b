-- How mapping pages and loading segments change the memory of an image
use Rattle.std.proofs.Common.{◌≡◌, ◌≢◌, ℕ, zero, suc, ◌+◌, ◌-◌, ◌*◌, ◌/◌, ◌<◌, ◌≤◌, Bool, true, false, cond, List, [], ◌∷◌, ◌++◌, length, get_or, reverse, Option, Some, None, refl, sym, ◌∙◌, ap, ◌⊎◌, inl, inr, arith}
use Rattle.std.specs.Prelude.{find, is_some, nat_lt, ◌&&◌, if◌then◌else◌}
use Rattle.std.specs.FinMap.{empty, get, contains_key, get-empty}
use Rattle.std.specs.Ordering.{nat_cmp}
use Rattle.std.specs.Option.{option_map_or}
use Rattle.std.proofs.lemmas.List.{reverse-append}
use Rattle.std.proofs.lemmas.Bool.{cases_eq, cases_lt}
use Rattle.rv_model.specs.declared.images.ProgramHeader.{ProgramHeader}
use Rattle.rv_model.specs.declared.memory.Permissions.{Permissions}
use Rattle.rv_model.specs.declared.memory.Access.TheVariants.{Monitor}
use Rattle.rv_model.specs.memory.Memory.{Cell, Memory, with_pages, page_count, map_refusal, put_bytes, permits, can_access_byte}
use Rattle.rv_model.specs.images.Fields.{header_count, program_header}
use Rattle.rv_model.specs.images.Image.{stack, covers, byte_in, placed_headers, is_touched, permissions_of, cell_of, all_pages, memory_of_image, image_byte}
use Rattle.rv_model.proofs.Choices.{of_bool}
use Rattle.rv_model.proofs.memory_lemmas.Memory.{same_memory, get-add_cells_within, get-add_cells_outside, any_page_mapped_none, map_refusal_none, with_byte, get-put_bytes_within, get-put_bytes_outside}
use Rattle.rv_model.specs.memory.Sizes.{page_size, page_quota}
use Rattle.elf_load.specs.Headers.{first_headers}
use Rattle.elf_load.specs.Pages.{IsFirst, pages_below, first_placed}
use Rattle.elf_load.specs.Placing.{cells_with, memory_with, blank_memory, memory_after}
use Rattle.elf_load.proofs.HeaderLaws.{first_headers_more}
use Rattle.elf_load.proofs.PageLaws.{first_placed_all, pages_below_next, pages_below_le, pages_below_skipped}
use Rattle.rv_model.proofs.image_lemmas.Cells.{get-memory_below, get-memory_below_outside, is_memory_below}
use Rattle.elf_load.proofs.ImageLaws.{len-memory_below_pages, is_some-when, page_count-image}

-- ---- cells, and memories with these cells

cell_if : List ℕ → (ℕ → ℕ) → ℕ → Bool → Option Cell
cell_if image bytes x b = if b then Some (record { byte = bytes x; permissions = permissions_of (placed_headers image) (x / page_size) }) else None

cells_with-is : (image : List ℕ) (bytes : ℕ → ℕ) (end x : ℕ) (b : Bool) → (nat_lt (x / page_size) end && is_touched (placed_headers image) (x / page_size)) ≡ b → cells_with image bytes end x ≡ cell_if image bytes x b
unfolding cells_with cell_if
cells_with-is image bytes end x b e = ap (λ (b : Bool). cell_if image bytes x b) e

past_end : (end page : ℕ) (t : Bool) → end ≤ page → (nat_lt page end && t) ≡ false
past_end end page t l = grind (arith, l)

before_end : (end page : ℕ) (t : Bool) → page < end → (nat_lt page end && t) ≡ t
before_end end page t l = grind (arith, l)

-- two ends give the same cells if no page between them is touched
either_end : (from end page : ℕ) (t : Bool) → from ≤ end → (from ≤ page → page < end → t ≡ false) → (nat_lt page from && t) ≡ (nat_lt page end && t)
either_end from end page t l none = elim (cases_lt page from) [
  | inl low ↦ before_end from page t low ∙ sym (before_end end page t (omega arith))
  | inr high ↦ past_end from page t high ∙ sym (elim (cases_lt page end) [
    | inl between ↦ before_end end page t between ∙ none high between
    | inr above ↦ past_end end page t above
  ])
]

get-memory_with : (image : List ℕ) (bytes : ℕ → ℕ) (end x : ℕ) → end ≤ all_pages → get (memory_with image bytes end) x ≡ cells_with image bytes end x
unfolding memory_with cell_if
get-memory_with image bytes end x l = elim (cases_lt x (page_size * all_pages)) [
  | inl within ↦ get-memory_below (cells_with image bytes end) (page_size * all_pages) x within
  | inr outside ↦
      get-memory_below_outside (cells_with image bytes end) (page_size * all_pages) x outside
      ∙ sym (cells_with-is image bytes end x false (past_end end (x / page_size) _ (omega arith)))
]

-- a memory with these cells is `memory_with`
is_memory_with : (m : Memory) (image : List ℕ) (bytes : ℕ → ℕ) (end : ℕ) → end ≤ all_pages → ((x : ℕ) → get m x ≡ cells_with image bytes end x) → m ≡ memory_with image bytes end
is_memory_with m image bytes end l h = same_memory m (memory_with image bytes end) (λ x. h x ∙ sym (get-memory_with image bytes end x l))

-- ---- page by page

pub blank_none : (image : List ℕ) → empty ≡ blank_memory image 0
unfolding cell_if
blank_none image = is_memory_with empty image (λ _. 0) 0 (omega arith) (λ x.
    get-empty nat_cmp x ∙ sym (cells_with-is image (λ _. 0) 0 x false (past_end 0 (x / page_size) _ (omega arith))))

-- the memory is the same for two ends if no page between them is touched
pub blank_same : (image : List ℕ) (from end : ℕ) → from ≤ end → end ≤ all_pages → ((q : ℕ) → from ≤ q → q < end → is_touched (placed_headers image) q ≡ false)
    → blank_memory image from ≡ blank_memory image end
blank_same image from end l m none = is_memory_with (blank_memory image from) image (λ _. 0) end m (λ x.
    get-memory_with image (λ _. 0) from x (omega arith)
    ∙ cells_with-is image (λ _. 0) from x _ (either_end from end (x / page_size) (is_touched (placed_headers image) (x / page_size)) l (none (x / page_size)))
    ∙ sym (cells_with-is image (λ _. 0) end x _ refl))

get-with_page_same : (m : Memory) (page : ℕ) (permissions : Permissions) (x : ℕ) → x / page_size ≡ page → get (with_pages m page 1 permissions) x ≡ Some (record { byte = 0; permissions = permissions })
unfolding with_pages
get-with_page_same m page permissions x e =
    get-add_cells_within m (page_size * page) (page_size * 1) (λ _. record { byte = 0; permissions = permissions }) (x - page_size * page) x (omega arith) (omega arith)

get-with_page_other : (m : Memory) (page : ℕ) (permissions : Permissions) (x : ℕ) → x / page_size ≢ page → get (with_pages m page 1 permissions) x ≡ get m x
unfolding with_pages
get-with_page_other m page permissions x e =
    get-add_cells_outside m (page_size * page) (page_size * 1) (λ _. record { byte = 0; permissions = permissions }) x
    (elim (cases_lt x (page_size * page)) [ inl low ↦ inl low | inr high ↦ inr (omega arith) ])

-- mapping one more page
blank_next : (image : List ℕ) (page : ℕ) → page < all_pages → is_touched (placed_headers image) page ≡ true
    → with_pages (blank_memory image page) page 1 (permissions_of (placed_headers image) page) ≡ blank_memory image (page + 1)
unfolding cell_if
blank_next image page l touched =
    is_memory_with (with_pages (blank_memory image page) page 1 (permissions_of (placed_headers image) page)) image (λ _. 0) (page + 1) (omega arith) (λ x. elim (cases_eq (x / page_size) page) [
      | inl same ↦
          get-with_page_same (blank_memory image page) page (permissions_of (placed_headers image) page) x same
          ∙ ap (λ (p : ℕ). Some (record { byte = 0; permissions = permissions_of (placed_headers image) p })) (sym same)
          ∙ sym (cells_with-is image (λ _. 0) (page + 1) x true (before_end (page + 1) (x / page_size) _ (omega arith) ∙ ap (is_touched (placed_headers image)) same ∙ touched))
      | inr other ↦
          get-with_page_other (blank_memory image page) page (permissions_of (placed_headers image) page) x other
          ∙ get-memory_with image (λ _. 0) page x (omega arith)
          ∙ cells_with-is image (λ _. 0) page x _ (either_end page (page + 1) (x / page_size) (is_touched (placed_headers image) (x / page_size)) (omega arith) (λ m k. absurd (omega (arith, m, k, other))))
          ∙ sym (cells_with-is image (λ _. 0) (page + 1) x _ refl)
    ])

pub blank_more : (image : List ℕ) (from page : ℕ) → page < all_pages → IsFirst (is_touched (placed_headers image)) from page
    → with_pages (blank_memory image from) page 1 (permissions_of (placed_headers image) page) ≡ blank_memory image (page + 1)
blank_more image from page l first =
    ap (λ (m : Memory). with_pages m page 1 (permissions_of (placed_headers image) page)) (blank_same image from page first.start (omega arith) first.skipped)
    ∙ blank_next image page l first.passes

-- ---- mapping a page succeeds

same_pages : (t u : ℕ → Bool) (n : ℕ) → ((q : ℕ) → q < n → t q ≡ u q) → pages_below t n ≡ pages_below u n
unfolding pages_below
same_pages t u zero h = refl
same_pages t u (suc n) h =
    ap (λ (b : Bool). pages_below t n + cond b 1 0) (h n (omega arith)) ∙ ap (λ (k : ℕ). k + cond (u n) 1 0) (same_pages t u n (λ q l. h q (omega arith)))

page_count-blank : (image : List ℕ) (end : ℕ) → end ≤ all_pages → page_count (blank_memory image end) ≡ pages_below (is_touched (placed_headers image)) end
unfolding memory_with page_count cells_with
page_count-blank image end l =
    let t : ℕ → Bool = is_touched (placed_headers image) in
    let u : ℕ → Bool = λ p. nat_lt p end && t p in
    let size = len-memory_below_pages (cells_with image (λ _. 0) end) u (λ x. is_some-when (u (x / page_size)) _) all_pages in
    let past = pages_below_skipped u end all_pages l (λ q m k. past_end end q (t q) m) in
    let before = same_pages u t end (λ q m. before_end end q (t q) m) in
    omega (arith, size, past, before)

page_is_unmapped : (image : List ℕ) (from page : ℕ) → page < all_pages → from ≤ page → contains_key (blank_memory image from) (page_size * page) ≡ false
unfolding cell_if
page_is_unmapped image from page l m =
    ap is_some (get-memory_with image (λ _. 0) from (page_size * page) (omega arith)
    ∙ cells_with-is image (λ _. 0) from (page_size * page) false (past_end from ((page_size * page) / page_size) _ (omega arith)))

pub blank_accepted : (image : List ℕ) (from page : ℕ) → page < all_pages → IsFirst (is_touched (placed_headers image)) from page → page_count (memory_of_image image) ≤ page_quota
    → map_refusal (blank_memory image from) page 1 ≡ None
blank_accepted image from page l first few =
    let room : page_count (blank_memory image from) + 1 ≤ page_quota = (
    let s = first.start in
    let so_far = page_count-blank image from (omega arith) in
    let next = pages_below_next (is_touched (placed_headers image)) from page first in
    let total = page_count-image image in
    let le = pages_below_le (is_touched (placed_headers image)) (page + 1) all_pages (omega arith) in
    omega arith) in
    map_refusal_none (blank_memory image from) page 1 room
    (any_page_mapped_none (blank_memory image from) page 1 (λ k small.
    let place : page + k ≡ page = omega arith in
    ap (λ (p : ℕ). contains_key (blank_memory image from) (page_size * p)) place ∙ page_is_unmapped image from page l first.start))

-- ---- segment by segment

pub first_placed_more : (image : List ℕ) (number : ℕ) → first_placed image (number + 1) ≡ first_placed image number ++ program_header image number ∷ []
unfolding first_placed
first_placed_more image number = ap (λ (hs : List ProgramHeader). stack ∷ hs) (first_headers_more image number)

byte_of_more : (image : List ℕ) (headers : List ProgramHeader) (header : ProgramHeader) (x : ℕ)
    → image_byte image (headers ++ header ∷ []) x ≡ cond (covers x header) (byte_in image x header) (image_byte image headers x)
unfolding image_byte
byte_of_more image headers header x =
    ap (λ (hs : List ProgramHeader). option_map_or (byte_in image x) (find (covers x) hs) 0) (reverse-append headers (header ∷ []))
    ∙ of_bool (covers x header)
    (λ b. option_map_or (byte_in image x) (cond b (Some header) (find (covers x) (reverse headers))) 0 ≡ cond b (byte_in image x header) (image_byte image headers x))
    (λ e. refl) (λ e. refl)

pub byte_after : (image : List ℕ) (number x : ℕ)
    → image_byte image (first_placed image (number + 1)) x ≡ cond (covers x (program_header image number)) (byte_in image x (program_header image number)) (image_byte image (first_placed image number) x)
byte_after image number x =
    ap (λ (hs : List ProgramHeader). image_byte image hs x) (first_placed_more image number) ∙ byte_of_more image (first_placed image number) (program_header image number) x

-- before the first segment, all bytes are zero
byte_in_stack : (image : List ℕ) (x : ℕ) → image_byte image (first_placed image 0) x ≡ 0
unfolding first_placed first_headers image_byte byte_in stack
byte_in_stack image x = of_bool (covers x stack) (λ b. option_map_or (byte_in image x) (cond b (Some stack) None) 0 ≡ 0) (λ e. grind arith) (λ e. refl)

-- equal bytes give equal cells
same_cell : (image : List ℕ) (bytes other : ℕ → ℕ) (x : ℕ) → bytes x ≡ other x → cells_with image bytes all_pages x ≡ cells_with image other all_pages x
unfolding cells_with
same_cell image bytes other x e =
    ap (λ (n : ℕ). if (nat_lt (x / page_size) all_pages && is_touched (placed_headers image) (x / page_size)) then Some (record { byte = n; permissions = permissions_of (placed_headers image) (x / page_size) }) else None) e

pub same_bytes : (image : List ℕ) (bytes other : ℕ → ℕ) → ((x : ℕ) → bytes x ≡ other x) → memory_with image bytes all_pages ≡ memory_with image other all_pages
same_bytes image bytes other same =
    is_memory_with (memory_with image bytes all_pages) image other all_pages (omega arith) (λ x. get-memory_with image bytes all_pages x (omega arith) ∙ same_cell image bytes other x (same x))

pub memory_after_none : (image : List ℕ) → blank_memory image all_pages ≡ memory_after image 0
unfolding memory_after
memory_after_none image = same_bytes image (λ _. 0) (image_byte image (first_placed image 0)) (λ x. sym (byte_in_stack image x))

pub memory_after_all : (image : List ℕ) (number : ℕ) → number ≡ header_count image → memory_after image number ≡ memory_of_image image
unfolding memory_after memory_with memory_of_image cell_of cell_if
memory_after_all image number e =
    is_memory_below (memory_after image number) (cell_of image) (page_size * all_pages)
    (λ x l. get-memory_below (cells_with image (image_byte image (first_placed image number)) all_pages) (page_size * all_pages) x l
    ∙ cells_with-is image (image_byte image (first_placed image number)) all_pages x _ (before_end all_pages (x / page_size) (is_touched (placed_headers image) (x / page_size)) (omega arith))
    ∙ ap (λ (hs : List ProgramHeader). cell_if image (image_byte image hs) x (is_touched (placed_headers image) (x / page_size))) (first_placed_all image number e))
    (λ x g. get-memory_below_outside (cells_with image (image_byte image (first_placed image number)) all_pages) (page_size * all_pages) x g)

-- writing bytes
pub put_with : (image : List ℕ) (bytes other : ℕ → ℕ) (a : ℕ) (bs : List ℕ) → ((k : ℕ) → k < length bs → other (a + k) ≡ get_or bs k 0)
    → ((x : ℕ) → ((x < a) ⊎ (a + length bs ≤ x)) → other x ≡ bytes x) → put_bytes (memory_with image bytes all_pages) a bs ≡ memory_with image other all_pages
unfolding cells_with cell_if
put_with image bytes other a bs inside outside = is_memory_with (put_bytes (memory_with image bytes all_pages) a bs) image other all_pages (omega arith) (λ x. elim (cases_lt x a) [
  | inl low ↦ kept x (inl low)
  | inr from ↦ elim (cases_lt x (a + length bs)) [
    | inl within ↦
        let place : x ≡ a + (x - a) = omega arith in
        get-put_bytes_within (memory_with image bytes all_pages) a bs (x - a) x (omega arith) place
        ∙ ap (with_byte (get_or bs (x - a) 0)) (get-memory_with image bytes all_pages x (omega arith))
        ∙ replaced x (get_or bs (x - a) 0) (nat_lt (x / page_size) all_pages && is_touched (placed_headers image) (x / page_size)) (ap other place ∙ inside (x - a) (omega arith))
    | inr past ↦ kept x (inr past)
  ]
])
  where
    kept : (x : ℕ) → ((x < a) ⊎ (a + length bs ≤ x)) → get (put_bytes (memory_with image bytes all_pages) a bs) x ≡ cells_with image other all_pages x
    kept x h =
        get-put_bytes_outside (memory_with image bytes all_pages) a bs x h
        ∙ get-memory_with image bytes all_pages x (omega arith) ∙ same_cell image bytes other x (sym (outside x h))

    replaced : (x n : ℕ) (b : Bool) → other x ≡ n → with_byte n (cell_if image bytes x b) ≡ cell_if image other x b
    replaced x n true e = ap (λ (v : ℕ). Some (record { byte = v; permissions = permissions_of (placed_headers image) (x / page_size) })) (sym e)
    replaced x n false e = refl

-- the monitor may access each mapped byte
pub monitor_is_allowed : (image : List ℕ) (bytes : ℕ → ℕ) (x : ℕ) → x < page_size * all_pages → is_touched (placed_headers image) (x / page_size) ≡ true → can_access_byte Monitor (memory_with image bytes all_pages) x ≡ true
unfolding can_access_byte cell_if
monitor_is_allowed image bytes x l touched =
    ap (λ (o : Option Cell). option_map_or (λ c. permits Monitor c.permissions) o false)
    (get-memory_with image bytes all_pages x (omega arith)
    ∙ cells_with-is image bytes all_pages x true (before_end all_pages (x / page_size) _ (omega arith) ∙ touched))
