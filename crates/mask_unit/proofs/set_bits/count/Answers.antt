use Rattle.std.proofs.Common.{ℕ, List, ◌+◌, ◌-◌, ◌≡◌, ◌&&◌, ap, ◌∙◌, arith}
use Rattle.std.proofs.lemmas.Bool.{and_parts, false_from_ne_true}
use Rattle.rv_model.specs.elements.Elements.{Body, is_active, mask_bit}
use Rattle.rv_model.specs.elements.Masks.{is_set}
use Rattle.rv_model.proofs.element_lemmas.Sets.{active_end}
use Rattle.mask_unit.proofs.SetBits.{none_counted, passing, passing_same}
use Rattle.mask_unit.proofs.set_bits.count.Goals as goal

pub returns : goal.returns
returns c =
    let body : Body = c.args.body.now in
    let bits : List ℕ = c.args.bits.now in
    let whole : 256 ≡ body.end + (256 - body.end) = omega (arith, c.end-end.ensures) in
    c.from.ensures ∙ c.set_in_both.ensures
    ∙ passing_same (λ i. mask_bit c.active_bytes.result i && mask_bit bits i) (is_set body bits) 256 (λ i h. ap (λ t. t && mask_bit bits i) (c.active_bytes.ensures i h))
    ∙ ap (passing (is_set body bits)) whole
    ∙ none_counted (is_set body bits) body.end (256 - body.end)
    (λ i h. false_from_ne_true (is_set body bits i) (λ e. absurd (omega (arith, active_end body i (and_parts (is_active body i) (mask_bit bits i) e).0, h))))
