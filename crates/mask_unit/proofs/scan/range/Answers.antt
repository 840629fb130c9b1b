use Rattle.std.proofs.Common.{ℕ, ◌<◌, ◌≡◌, ◌&&◌, true, min, nat_le, nat_lt, ap, ◌∙◌, arith}
use Rattle.rv_model.specs.elements.Elements.{is_active}
use Rattle.std.proofs.lemmas.Bool.Decides.{nat_tests}
use Rattle.mask_unit.proofs.scan.range.Goals as goal

cut : (start end n i : ℕ) → i < n → ((nat_le start i && nat_lt i (min end n)) && true) ≡ (nat_le start i && nat_lt i end)
cut start end n i h = grind (arith, nat_tests)

pub returns : goal.returns
returns c = λ i h. c.active_bytes.ensures i h ∙ ap (λ b. is_active b i) c.new.ensures ∙ ap (λ e. nat_le c.args.start i && nat_lt i e && true) c.min.ensures ∙ cut c.args.start c.args.end 256 i h
