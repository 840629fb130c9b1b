-- The vector registers after an instruction's results.
use Rattle.std.proofs.Common.{ℕ, ◌<◌, ◌≡◌, List, Bool, ap, arith}
use Rattle.std.proofs.lemmas.Bool.Decides.{nat_tests}
use Rattle.rv_model.specs.elements.Elements.{Body, is_active, is_changed, result_or_ones}
use Rattle.rv_model.specs.lending.Writes.{Writes, WritesBits}
use Rattle.rv_model.specs.vector.Groups.{group_of, with_group, GroupType, width_bytes}
use Rattle.rv_model.specs.elements.Arithmetic.{with_mask_results, with_results}
use Rattle.rv_model.specs.elements.Formulas.{ones}
use Rattle.rv_model.proofs.element_lemmas.Bits.{same_bits, writes_bits_are}
use Rattle.rv_model.proofs.element_lemmas.Sets.{active_end, same_results}
use Rattle.rv_model.proofs.element_lemmas.Widths.{bytes_positive}
use Rattle.rv_model.proofs.element_lemmas.Writes.{writes_are, written_are}

-- results of another function that agrees in the body, written to the destination
pub results_are : (g : GroupType) (vd : ℕ) (body : Body) (fill_masked_off fill_tail : Bool) (computed result : ℕ → ℕ) (file new : List ℕ)
    → ((i : ℕ) → i < body.end → computed i ≡ result i)
    → Writes (width_bytes g.width) (is_changed body fill_masked_off fill_tail) (result_or_ones body computed (ones g.width)) (group_of file vd g.emul) new
    → with_group file vd new ≡ with_results g vd body fill_masked_off fill_tail result file
unfolding with_results
results_are g vd body fill_masked_off fill_tail computed result file new same was =
    search (arith, nat_tests, bytes_positive, same_results, writes_are)

-- the same for a mask
pub mask_results_are : (vd : ℕ) (body : Body) (computed bit : ℕ → Bool) (file new : List ℕ)
    → ((i : ℕ) → i < body.end → computed i ≡ bit i)
    → WritesBits (is_active body) computed (group_of file vd 8) new
    → with_group file vd new ≡ with_mask_results vd body bit file
unfolding with_mask_results
mask_results_are vd body computed bit file new same was =
    ap (λ bytes. with_group file vd bytes)
    (writes_bits_are (is_active body) bit (group_of file vd 8) new (same_bits (is_active body) computed bit (group_of file vd 8) new (λ i active. same i (active_end body i active)) was))

-- results of two functions that agree in the body leave the same registers
pub results_same : (g : GroupType) (vd : ℕ) (body : Body) (fill_masked_off fill_tail : Bool) (computed result : ℕ → ℕ) (file : List ℕ)
    → ((i : ℕ) → i < body.end → computed i ≡ result i)
    → with_results g vd body fill_masked_off fill_tail computed file ≡ with_results g vd body fill_masked_off fill_tail result file
unfolding with_results
results_same g vd body fill_masked_off fill_tail computed result file same = search (arith, nat_tests, bytes_positive, results_are, written_are)
