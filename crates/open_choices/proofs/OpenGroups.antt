-- The groups of an overlay.
use Rattle.std.proofs.Common.{◌≡◌, ℕ, ◌*◌, ◌/◌, ap, Bool, List, arith}
use mir.Val.{bits}
use Rattle.rv_model.specs.declared.vector.types.VType.{VType}
use Rattle.rv_model.specs.elements.Formulas.{ones}
use Rattle.rv_model.specs.lending.Writes.{Writes}
use Rattle.rv_model.specs.vector.Groups.{doubled, group_of, lmul_eighths, sew_bits, sew_width, width_bytes, with_group}
use Rattle.rv_model.proofs.element_lemmas.Widths.{bytes_positive}
use Rattle.rv_model.proofs.element_lemmas.Writes.{writes_are}
use Rattle.open_choices.specs.Fills.{Fill, with_ones}

-- the multiplier of groups of twice the width
pub wide_emul : (t : VType) → 2 * lmul_eighths t.lmul ≡ bits (doubled (sew_width t.sew)) * lmul_eighths t.lmul / sew_bits t.sew
wide_emul t = search arith

-- ones that a loop wrote to a group are those of the overlay
pub ones_are : (f : Fill) (taken : ℕ → Bool) (file new : List ℕ)
    → Writes (width_bytes f.group.width) taken (λ i. ones f.group.width) (group_of file f.first f.group.emul) new → with_group file f.first new ≡ with_ones f taken file
ones_are f taken file new written =
    ap (λ bytes. with_group file f.first bytes)
    (writes_are (width_bytes f.group.width) taken (λ i. ones f.group.width) (group_of file f.first f.group.emul) new (bytes_positive f.group.width) written)
