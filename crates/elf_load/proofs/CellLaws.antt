-- The cell at each address of an image's memory, and the pages by their addresses
use Rattle.std.proofs.Common.{◌≡◌, ℕ, ◌+◌, ◌*◌, ◌/◌, ◌<◌, ◌≤◌, min, max, Bool, true, false, List, Some, None, sym, ◌∙◌, ap, inl, inr, arith}
use Rattle.std.specs.Prelude.{if◌then◌else◌}
use Rattle.std.proofs.lemmas.Bool.{cases_eq, cases_lt}
use Rattle.rv_model.specs.declared.images.ProgramHeader.{ProgramHeader}
use Rattle.rv_model.specs.images.Fields.{program_header}
use Rattle.rv_model.specs.images.Faults.{first_fault}
use Rattle.rv_model.specs.images.Image.{stack, placed_headers, covers, touches_page, is_touched, permissions_of, cell_of, all_pages, memory_of_image, image_byte}
use Rattle.rv_model.specs.memory.Sizes.{page_size, page_limit}
use Rattle.elf_load.specs.Pages.{EndsInMemory}
use Rattle.elf_load.specs.Laws.{HoldsItsCells, TouchesWhatItCovers}
use Rattle.elf_load.proofs.HeaderLaws.{none_of_all}
use Rattle.elf_load.proofs.PageLaws.{touches_at, touches_none, touches_after, stack_ends, header_ends, or_neither}
use Rattle.rv_model.proofs.image_lemmas.Cells.{all_pages_is_page_limit, get-memory_below, get-memory_below_outside}
use Rattle.elf_load.proofs.SegmentLaws.{covers_within}

-- ---- pages past the end of memory

touches_past : (header : ProgramHeader) (page : ℕ) → EndsInMemory header → page_limit ≤ page → touches_page page header ≡ false
touches_past header page ends l = elim (cases_eq header.kind 1) [
  | inl load ↦ touches_after header page (let low = ends load in omega (arith, low))
  | inr other ↦ touches_none header page other
]

untouched_past : (image : List ℕ) (page : ℕ) → first_fault image ≡ None → page_limit ≤ page → is_touched (placed_headers image) page ≡ false
unfolding is_touched
untouched_past image page sound l =
    or_neither (touches_page page stack) _ (touches_past stack page stack_ends l)
    (none_of_all (touches_page page) image (λ k m. touches_past (program_header image k) page (header_ends image k sound m) l))

no_cell : (image : List ℕ) (x : ℕ) → is_touched (placed_headers image) (x / page_size) ≡ false → cell_of image x ≡ None
unfolding cell_of
no_cell image x e = ap (λ (b : Bool). if b then Some (record { byte = image_byte image (placed_headers image) x; permissions = permissions_of (placed_headers image) (x / page_size) }) else None) e

pub holds_its_cells : HoldsItsCells
unfolding memory_of_image
holds_its_cells image sound x = elim (cases_lt x (page_size * all_pages)) [
  | inl within ↦ get-memory_below (cell_of image) (page_size * all_pages) x within
  | inr past ↦
      get-memory_below_outside (cell_of image) (page_size * all_pages) x past
      ∙ sym (no_cell image x (untouched_past image (x / page_size) sound (omega (arith, all_pages_is_page_limit))))
]

-- ---- pages and their addresses

touched_means : (header : ProgramHeader) (page : ℕ) → touches_page page header ≡ true
    → (header.kind ≡ 1) × (max header.address (page_size * page) < min (header.address + header.memory_size) (page_size * page + page_size))
unfolding touches_page
touched_means header page t = (grind (arith, t), grind (arith, t))

covered_means : (header : ProgramHeader) (x : ℕ) → covers x header ≡ true → (header.kind ≡ 1) × (header.address ≤ x) × (x < header.address + header.memory_size)
unfolding covers
covered_means header x t = (grind (arith, t), grind (arith, t), grind (arith, t))

pub touches_what_it_covers : TouchesWhatItCovers
touches_what_it_covers header page = (
  λ t. (let it = touched_means header page t in
      (max header.address (page_size * page), (omega arith, covers_within (max header.address (page_size * page)) header it.0 (omega arith) (omega arith)))),
  λ p. (let it = covered_means header p.0 p.1.1 in let place = p.1.0 in touches_at header page it.0 (omega arith) (omega arith) (omega arith)),
)
