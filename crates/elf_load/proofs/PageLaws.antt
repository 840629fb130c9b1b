-- The pages that segments touch, and their number
use Rattle.std.proofs.Common.{◌≡◌, ℕ, zero, suc, ◌+◌, ◌-◌, ◌*◌, ◌/◌, ◌<◌, ◌≤◌, min, max, Bool, true, false, List, ◌∷◌, ◌||◌, length, cond, Option, Some, None, IfSome, lit≤, sym, ◌∙◌, ap, subst, arith, inl, inr}
use Rattle.std.specs.List.{list_any}
use Rattle.std.proofs.Math.Bool.{or-false, or_assoc}
use Rattle.std.proofs.lemmas.Bool.{cases_eq, cases_lt, or_left, or_right}
use Rattle.rv_model.specs.declared.images.ProgramHeader.{ProgramHeader}
use Rattle.rv_model.specs.images.Fields.{header_count, program_header}
use Rattle.rv_model.specs.declared.images.ElfFault.TheVariants.{BadAddress}
use Rattle.rv_model.specs.images.Faults.{first_fault}
use Rattle.rv_model.specs.images.Image.{stack, placed_headers, touches_page, is_touched, is_allowed_by}
use Rattle.rv_model.specs.memory.Sizes.{page_size}
use Rattle.elf_load.specs.Parts.{header_has}
use Rattle.elf_load.specs.Headers.{first_headers}
use Rattle.elf_load.specs.Pages.{IsFirst, IsFirstIfAny, earlier, pages_below, first_placed, EndsInMemory, grants}
use Rattle.elf_load.proofs.HeaderLaws.{any_none, any_more, any_at, none_at, first_headers_all}
use Rattle.elf_load.proofs.FaultLaws.{no_bad_header}

-- ---- one segment

pub touches_at : (header : ProgramHeader) (page : ℕ) → header.kind ≡ 1 → header.address < page_size * page + page_size → page_size * page < header.address + header.memory_size → 0 < header.memory_size → touches_page page header ≡ true
unfolding touches_page
touches_at header page kind low high some = grind (arith, kind, low, high, some)

pub touches_none : (header : ProgramHeader) (page : ℕ) → (header.kind ≡ 1 → ⊥) → touches_page page header ≡ false
unfolding touches_page
touches_none header page other = grind (arith, other)

pub touches_empty : (header : ProgramHeader) (page : ℕ) → header.memory_size ≡ 0 → touches_page page header ≡ false
unfolding touches_page
touches_empty header page empty = grind (arith, empty)

pub touches_before : (header : ProgramHeader) (page : ℕ) → page_size * page + page_size ≤ header.address → touches_page page header ≡ false
unfolding touches_page
touches_before header page low = grind (arith, low)

pub touches_after : (header : ProgramHeader) (page : ℕ) → header.address + header.memory_size ≤ page_size * page → touches_page page header ≡ false
unfolding touches_page
touches_after header page high = grind (arith, high)

pub touched_first : (header : ProgramHeader) (from page last : ℕ) → header.kind ≡ 1 → (header.memory_size ≡ 0 → ⊥) → page ≡ max (header.address / page_size) from → last ≡ (header.address + header.memory_size - 1) / page_size → page ≤ last
    → IsFirst (λ p. touches_page p header) from page
touched_first header from page last kind some e f l = record {
  start = omega arith;
  passes = touches_at header page kind (omega arith) (omega arith) (omega arith);
  skipped = λ q m k. touches_before header q (omega arith);
}

pub touched_none : (header : ProgramHeader) (from page last : ℕ) → (header.memory_size ≡ 0 → ⊥) → page ≡ max (header.address / page_size) from → last ≡ (header.address + header.memory_size - 1) / page_size → last < page
    → (q : ℕ) → from ≤ q → touches_page q header ≡ false
touched_none header from page last some e f l q m = elim (cases_lt q (header.address / page_size)) [
  | inl low ↦ touches_before header q (omega arith)
  | inr high ↦ touches_after header q (omega arith)
]

-- ---- the first page

pub or_neither : (a b : Bool) → a ≡ false → b ≡ false → (a || b) ≡ false
or_neither a b e f = ap (λ (x : Bool). x || b) e ∙ f

IsFirst-either : (t u : ℕ → Bool) (from page : ℕ) → from ≤ page → (t page || u page) ≡ true
    → ((q : ℕ) → from ≤ q → q < page → t q ≡ false) → ((q : ℕ) → from ≤ q → q < page → u q ≡ false) → IsFirst (λ p. t p || u p) from page
IsFirst-either t u from page start passes f g = record {
  start = start;
  passes = passes;
  skipped = λ q l m. or_neither (t q) (u q) (f q l m) (g q l m);
}

pub IsFirstIfAny-earlier : (t u : ℕ → Bool) (from : ℕ) (a b : Option ℕ) → IsFirstIfAny t from a → IsFirstIfAny u from b → IsFirstIfAny (λ p. t p || u p) from (earlier a b)
IsFirstIfAny-earlier t u from None None f g = λ q l. or_neither (t q) (u q) (f q l) (g q l)
IsFirstIfAny-earlier t u from None (Some y) f g = IsFirst-either t u from y g.start (or_right (t y) (u y) g.passes) (λ q l m. f q l) g.skipped
IsFirstIfAny-earlier t u from (Some x) None f g = IsFirst-either t u from x f.start (or_left (t x) (u x) f.passes) f.skipped (λ q l m. g q l)
IsFirstIfAny-earlier t u from (Some x) (Some y) f g = elim (cases_lt x y) [
  | inl before ↦
      let least : x ≡ min x y = omega arith in
      subst (λ (z : ℕ). IsFirst (λ p. t p || u p) from z) least
      (IsFirst-either t u from x f.start (or_left (t x) (u x) f.passes) f.skipped (λ q l m. g.skipped q l (omega arith)))
  | inr after ↦
      let least : y ≡ min x y = omega arith in
      subst (λ (z : ℕ). IsFirst (λ p. t p || u p) from z) least
      (IsFirst-either t u from y g.start (or_right (t y) (u y) g.passes) (λ q l m. f.skipped q l (omega arith)) g.skipped)
]

pub IsFirstIfAny-same : (t u : ℕ → Bool) (from : ℕ) (o : Option ℕ) → ((p : ℕ) → t p ≡ u p) → IsFirstIfAny t from o → IsFirstIfAny u from o
IsFirstIfAny-same t u from None same f = λ q l. sym (same q) ∙ f q l
IsFirstIfAny-same t u from (Some page) same f = record {
  start = f.start;
  passes = sym (same page) ∙ f.passes;
  skipped = λ q l m. sym (same q) ∙ f.skipped q l m;
}

-- ---- the number of pages

pub pages_below_skipped : (t : ℕ → Bool) (from page : ℕ) → from ≤ page → ((q : ℕ) → from ≤ q → q < page → t q ≡ false) → pages_below t page ≡ pages_below t from
unfolding pages_below
pages_below_skipped t from zero l none = let same : from ≡ zero = omega arith in ap (pages_below t) (sym same)
pages_below_skipped t from (suc page) l none = elim (cases_eq from (suc page)) [
  | inl same ↦ ap (pages_below t) (sym same)
  | inr other ↦
      let before : from ≤ page = omega arith in
      ap (λ (b : Bool). pages_below t page + cond b 1 0) (none page before (omega arith))
      ∙ omega (arith, pages_below_skipped t from page before (λ q m k. none q m (omega arith)))
]

pub pages_below_next : (t : ℕ → Bool) (from page : ℕ) → IsFirst t from page → pages_below t (page + 1) ≡ pages_below t from + 1
unfolding pages_below
pages_below_next t from page first =
    let next : page + 1 ≡ suc page = omega arith in
    ap (pages_below t) next ∙ ap (λ (b : Bool). pages_below t page + cond b 1 0) first.passes
    ∙ ap (λ (n : ℕ). n + 1) (pages_below_skipped t from page first.start first.skipped)

pub pages_below_le : (t : ℕ → Bool) (m n : ℕ) → m ≤ n → pages_below t m ≤ pages_below t n
unfolding pages_below
pages_below_le t m zero l = let same : m ≡ zero = omega arith in omega (arith, ap (pages_below t) same)
pages_below_le t m (suc n) l = elim (cases_eq m (suc n)) [
  | inl same ↦ omega (arith, ap (pages_below t) same)
  | inr other ↦ omega (arith, pages_below_le t m n (omega arith))
]

-- ---- the stack and the first program headers

pub first_placed_all : (image : List ℕ) (number : ℕ) → number ≡ header_count image → first_placed image number ≡ placed_headers image
unfolding first_placed
first_placed_all image number e = ap (λ (hs : List ProgramHeader). stack ∷ hs) (first_headers_all image number e)

pub is_touched_more : (image : List ℕ) (number page : ℕ)
    → is_touched (first_placed image (number + 1)) page ≡ (is_touched (first_placed image number) page || touches_page page (program_header image number))
unfolding first_placed is_touched
is_touched_more image number page =
    ap (λ (b : Bool). touches_page page stack || b) (any_more (touches_page page) image number)
    ∙ sym (or_assoc (touches_page page stack) (list_any (touches_page page) (first_headers image number)) (touches_page page (program_header image number)))

pub is_touched_stack : (image : List ℕ) (page : ℕ) → is_touched (first_placed image 0) page ≡ touches_page page stack
unfolding first_placed is_touched
is_touched_stack image page = ap (λ (b : Bool). touches_page page stack || b) (any_none (touches_page page) image) ∙ or-false (touches_page page stack)

pub earlier_below : (a b : Option ℕ) (n : ℕ) → IfSome a (λ p. p < n) → IfSome b (λ p. p < n) → IfSome (earlier a b) (λ p. p < n)
earlier_below None b n f g = g
earlier_below (Some x) None n f g = f
earlier_below (Some x) (Some y) n f g = omega (arith, f, g)

-- the first page after adding a program header
pub next_page-more : (image : List ℕ) (number from : ℕ) (a b : Option ℕ) → IsFirstIfAny (is_touched (first_placed image number)) from a → IsFirstIfAny (λ p. touches_page p (program_header image number)) from b
    → IsFirstIfAny (is_touched (first_placed image (number + 1))) from (earlier a b)
next_page-more image number from a b f g =
    IsFirstIfAny-same (λ p. is_touched (first_placed image number) p || touches_page p (program_header image number)) (is_touched (first_placed image (number + 1))) from (earlier a b)
    (λ p. sym (is_touched_more image number p))
    (IsFirstIfAny-earlier (is_touched (first_placed image number)) (λ p. touches_page p (program_header image number)) from a b f g)

pub next_page-stack : (image : List ℕ) (from : ℕ) (a : Option ℕ) → IsFirstIfAny (λ p. touches_page p stack) from a → IsFirstIfAny (is_touched (first_placed image 0)) from a
next_page-stack image from a f = IsFirstIfAny-same (λ p. touches_page p stack) (is_touched (first_placed image 0)) from a (λ p. sym (is_touched_stack image p)) f

pub next_page-all : (image : List ℕ) (number from : ℕ) (a : Option ℕ) → number ≡ header_count image → IsFirstIfAny (is_touched (first_placed image number)) from a → IsFirstIfAny (is_touched (placed_headers image)) from a
next_page-all image number from a e f = subst (λ (hs : List ProgramHeader). IsFirstIfAny (is_touched hs) from a) (first_placed_all image number e) f

-- ---- the ends of segments

pub stack_ends : EndsInMemory stack
unfolding stack
stack_ends = λ _. lit≤ tt

pub header_ends : (image : List ℕ) (number : ℕ) → first_fault image ≡ None → number < header_count image → EndsInMemory (program_header image number)
unfolding header_has
header_ends image number sound l = λ kind. (let ends = none_at (header_has (length image) BadAddress) image number l (no_bad_header image sound).2 in grind (arith, ends, kind))

-- ---- segment flags

pub is_allowed_by-stack : (image : List ℕ) (flag page : ℕ) → grants flag page stack ≡ true → is_allowed_by flag (placed_headers image) page ≡ true
unfolding is_allowed_by
is_allowed_by-stack image flag page e = or_left (grants flag page stack) _ e

pub is_allowed_by-header : (image : List ℕ) (flag page number : ℕ) → number < header_count image → grants flag page (program_header image number) ≡ true → is_allowed_by flag (placed_headers image) page ≡ true
unfolding is_allowed_by
is_allowed_by-header image flag page number l e = or_right (grants flag page stack) _ (any_at (grants flag page) image number l e)

pub is_allowed_by-none : (image : List ℕ) (flag page number : ℕ) → number ≡ header_count image → grants flag page stack ≡ false → list_any (grants flag page) (first_headers image number) ≡ false
    → is_allowed_by flag (placed_headers image) page ≡ false
unfolding is_allowed_by
is_allowed_by-none image flag page number all e f = or_neither (grants flag page stack) _ e (ap (list_any (grants flag page)) (sym (first_headers_all image number all)) ∙ f)
