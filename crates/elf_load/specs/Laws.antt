-- Equivalent descriptions of an image's memory
use Rattle.std.specs.Prelude.{◌≡◌, ◌↔◌, ℕ, ◌/◌, List, None, true}
use Rattle.std.specs.FinMap.{get}
use Rattle.rv_model.specs.declared.images.ProgramHeader.{ProgramHeader}
use Rattle.rv_model.specs.images.Faults.{first_fault}
use Rattle.rv_model.specs.images.Image.{covers, touches_page, cell_of, memory_of_image}
use Rattle.rv_model.specs.memory.Sizes.{page_size}

-- the memory of an image without a fault has at each address the cell that the image describes there, or none
abbrev pub HoldsItsCells : Type 0
HoldsItsCells = (image : List ℕ) → first_fault image ≡ None → (x : ℕ) → get (memory_of_image image) x ≡ cell_of image x

-- a segment touches a page if and only if it covers one of the page's addresses
abbrev pub TouchesWhatItCovers : Type 0
TouchesWhatItCovers = (header : ProgramHeader) (page : ℕ) → (touches_page page header ≡ true) ↔ ((x : ℕ) × ((x / page_size ≡ page) × (covers x header ≡ true)))
