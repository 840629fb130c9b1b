use Rattle.std.proofs.Common.{ℕ, ℤ, rules, pos, ◌+ℤ◌, ◌-ℤ◌, sym, ◌∙◌}
use Rattle.std.proofs.Math.Bool.{not-not}
use Rattle.std.specs.Int.{cast_signed}
use Rattle.rv_model.specs.elements.FixedPoint.{rounded}
use Rattle.lane_fixed.proofs.WiderNumbers.{small_signed_sum, small_signed_difference, clear_bit, is_itself}
use Rattle.lane_fixed.proofs.chunk.fixed_point.Goals as goal
use Rattle.lane_fixed.proofs.chunk.fixed_point.Goals.{in-Vsaddu, in-Vsadd, in-Vssubu, in-Vssub, in-Vaaddu, in-Vaadd, in-Vasubu, in-Vasub}

pub returns : goal.returns
returns g c =
    let w = g.L.Lane.width in
    let mode = c.args.mode in
    let a = g.L.Lane.lane c.args.a in
    let b = g.L.Lane.lane c.args.b in
    let first = c.requires.first in
    let second = c.requires.second in
    let sum : ℕ → ℤ = λ i. pos (a i) +ℤ pos (b i) in
    let difference : ℕ → ℤ = λ i. pos (a i) -ℤ pos (b i) in
    let signed_sum : ℕ → ℤ = λ i. cast_signed w (a i) +ℤ cast_signed w (b i) in
    let signed_difference : ℕ → ℤ = λ i. cast_signed w (a i) -ℤ cast_signed w (b i) in
    record {
      value = λ i h. elim c.match-op.branch [
        | in-Vsaddu p ↦ rw (p.in-Vsaddu.is, p.result-is) (p.saturated_sums.ensures.value i h)
        | in-Vsadd p ↦ rw (p.in-Vsadd.is, p.result-is) (p.signed_saturated.ensures.value i (signed_sum i) h (p.signed_sums.ensures i h) (small_signed_sum w (a i) (b i) (first i h) (second i h)))
        | in-Vssubu p ↦ rw (p.in-Vssubu.is, p.result-is) (p.saturated_differences.ensures.value i h)
        | in-Vssub p ↦ rw (p.in-Vssub.is, p.result-is) (p.signed_saturated-in-Vssub.ensures.value i (signed_difference i) h (p.signed_differences.ensures i h) (small_signed_difference w (a i) (b i) (first i h) (second i h)))
        | in-Vaaddu p ↦ rw (p.in-Vaaddu.is, p.result-is) (p.averages.ensures.value i (sum i) h (p.sums.ensures i h))
        | in-Vaadd p ↦ rw (p.in-Vaadd.is, p.result-is) (p.averages-in-Vaadd.ensures.value i (signed_sum i) h (p.signed_sums-in-Vaadd.ensures i h))
        | in-Vasubu p ↦ rw (p.in-Vasubu.is, p.result-is) (p.averages-in-Vasubu.ensures.value i (difference i) h (p.differences.ensures i h))
        | in-Vasub p ↦ rw (p.in-Vasub.is, p.result-is) (p.averages-in-Vasub.ensures.value i (signed_difference i) h (p.signed_differences-in-Vasub.ensures i h))
      ];
      saturated = λ i h. elim c.match-op.branch [
        | in-Vsaddu p ↦ rw (p.in-Vsaddu.is, p.result-is) (p.saturated_sums.ensures.saturated i h ∙ sym (not-not _))
        | in-Vsadd p ↦ rw (p.in-Vsadd.is, p.result-is) (p.signed_saturated.ensures.saturated i (signed_sum i) h (p.signed_sums.ensures i h) (small_signed_sum w (a i) (b i) (first i h) (second i h)) ∙ sym (not-not _))
        | in-Vssubu p ↦ rw (p.in-Vssubu.is, p.result-is) (p.saturated_differences.ensures.saturated i h ∙ sym (not-not _))
        | in-Vssub p ↦ rw (p.in-Vssub.is, p.result-is) (p.signed_saturated-in-Vssub.ensures.saturated i (signed_difference i) h (p.signed_differences.ensures i h) (small_signed_difference w (a i) (b i) (first i h) (second i h)) ∙ sym (not-not _))
        | in-Vaaddu p ↦ rw (p.in-Vaaddu.is, p.result-is, p.averages.ensures.saturated) (clear_bit i ∙ is_itself (rounded mode 1 (sum i)))
        | in-Vaadd p ↦ rw (p.in-Vaadd.is, p.result-is, p.averages-in-Vaadd.ensures.saturated) (clear_bit i ∙ is_itself (rounded mode 1 (signed_sum i)))
        | in-Vasubu p ↦ rw (p.in-Vasubu.is, p.result-is, p.averages-in-Vasubu.ensures.saturated) (clear_bit i ∙ is_itself (rounded mode 1 (difference i)))
        | in-Vasub p ↦ rw (p.in-Vasub.is, p.result-is, p.averages-in-Vasub.ensures.saturated) (clear_bit i ∙ is_itself (rounded mode 1 (signed_difference i)))
      ];
      bound = search rules;
    }
