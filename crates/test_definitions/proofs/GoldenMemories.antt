-- A memory with the cells of the golden vectors.
use Rattle.std.proofs.Common.{◌≡◌, ◌∙◌, ℕ, ◌+◌, ◌/◌, ◌≤◌, ◌&&◌, ◌||◌, Bool, true, false, Some, None, refl, sym, inl, inr, arith}
use Rattle.std.specs.Prelude.{◌==◌, nat_lt, if◌then◌else◌}
use Rattle.std.specs.FinMap.{get}
use Rattle.std.proofs.lemmas.Bool.{cases_lt, true≢false}
use Rattle.std.proofs.lemmas.Bool.Decides.{nat_tests}
use Rattle.rv_model.specs.images.Image.{memory_below}
use Rattle.rv_model.proofs.image_lemmas.Cells.{get-memory_below, get-memory_below_outside}
use Rattle.test_definitions.specs.Memories.{MemoriesExist, cell_at}
use Rattle.test_definitions.specs.States.{code_address}

no_test : {X : Type 0} (a b c d e f : Bool) (x y z : X) → b ≡ false → c ≡ false → d ≡ false → e ≡ false → f ≡ false
    → (if a && b then Some x else if c || (d || e) then Some y else if f then Some z else None) ≡ None
no_test true false false false false false x y z _ _ _ _ _ = refl
no_test false b false false false false x y z _ _ _ _ _ = refl
no_test true true c d e f x y z is _ _ _ _ = absurd (true≢false is)
no_test a b true d e f x y z _ is _ _ _ = absurd (true≢false is)
no_test a b c true e f x y z _ _ is _ _ = absurd (true≢false is)
no_test a b c d true f x y z _ _ _ is _ = absurd (true≢false is)
no_test a b c d e true x y z _ _ _ _ is = absurd (true≢false is)

is_past : (a : ℕ) → code_address + 4 ≤ a → nat_lt a (code_address + 4) ≡ false
is_past a past = grind (arith, nat_tests)

is_another_page : (a page : ℕ) → page ≤ 0x24 → code_address + 4 ≤ a → (a / 0x1000 == page) ≡ false
is_another_page a page low past = grind (arith, nat_tests)

no_cell_past : (w a : ℕ) → code_address + 4 ≤ a → cell_at w a ≡ None
no_cell_past w a past =
    no_test _ _ _ _ _ _ _ _ _ (is_past a past) (is_another_page a 0x20 (omega arith) past) (is_another_page a 0x21 (omega arith) past)
    (is_another_page a 0x24 (omega arith) past) (is_another_page a 0x23 (omega arith) past)

cells_are : (w a : ℕ) → get (memory_below (cell_at w) (code_address + 4)) a ≡ cell_at w a
cells_are w a = elim (cases_lt a (code_address + 4)) [
  | inl below ↦ get-memory_below (cell_at w) (code_address + 4) a below
  | inr past ↦ get-memory_below_outside (cell_at w) (code_address + 4) a past ∙ sym (no_cell_past w a past)
]

pub memories_exist : MemoriesExist
memories_exist w = (memory_below (cell_at w) (code_address + 4), record { cells = cells_are w })
