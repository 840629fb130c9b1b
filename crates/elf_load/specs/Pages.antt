-- The pages that an image touches, in ascending order
use Rattle.std.specs.Prelude.{◌≡◌, ℕ, zero, suc, ◌+◌, ◌<◌, ◌≤◌, min, Bool, true, false, cond, Option, Some, None, List, ◌∷◌, ◌&&◌, ◌==◌, not, bit_and}
use Rattle.rv_model.specs.declared.images.ProgramHeader.{ProgramHeader}
use Rattle.rv_model.specs.images.Image.{stack, touches_page}
use Rattle.rv_model.specs.memory.Sizes.{address_end}
use Rattle.elf_load.specs.Headers.{first_headers}

-- the first page, from page `from` on, that passes a test
pub record IsFirst (test : ℕ → Bool) (from page : ℕ) : Type 0 where
  pub start : from ≤ page
  pub passes : test page ≡ true
  pub skipped : (q : ℕ) → from ≤ q → q < page → test q ≡ false

-- this page, or none if no page passes
abbrev pub IsFirstIfAny : (ℕ → Bool) → ℕ → Option ℕ → Type 0
IsFirstIfAny test from None = (q : ℕ) → from ≤ q → test q ≡ false
IsFirstIfAny test from (Some page) = IsFirst test from page

-- the lower of two optional pages
abbrev pub earlier : Option ℕ → Option ℕ → Option ℕ
earlier None second = second
earlier (Some first) None = Some first
earlier (Some first) (Some second) = Some (min first second)

-- the number of pages below a page that pass a test
unfoldable pub pages_below : (ℕ → Bool) → ℕ → ℕ
pages_below test zero = 0
pages_below test (suc page) = pages_below test page + cond (test page) 1 0

-- the stack and the first `number` program headers
unfoldable pub first_placed : List ℕ → ℕ → List ProgramHeader
first_placed image number = stack ∷ first_headers image number

-- a loadable segment ends at or below the end of addresses
abbrev pub EndsInMemory : ProgramHeader → Type 0
EndsInMemory header = header.kind ≡ 1 → header.address + header.memory_size ≤ address_end

-- whether a segment touches a page and has a flag
abbrev pub grants : ℕ → ℕ → ProgramHeader → Bool
grants flag page header = touches_page page header && not (bit_and header.flags flag == 0)
