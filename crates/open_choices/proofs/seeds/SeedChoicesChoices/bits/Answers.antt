use Rattle.std.proofs.Common.{ℕ, ◌+◌, ◌∙◌, ◌&&◌, ap, nat_le, nat_lt, not, sym, arith}
use Rattle.std.specs.Prelude.{min}
use Rattle.lane_arith.proofs.MaskBits.{both_bits}
use Rattle.rv_model.specs.declared.vector.sizes.TheConstants.{GROUP_BYTES}
use Rattle.open_choices.specs.Seeds.{is_drawn}
use Rattle.open_choices.proofs.SeedBits.{some_chosen}
use Rattle.open_choices.proofs.seeds.SeedChoicesChoices.bits.Goals as goal

pub returns : goal.returns
returns c = λ i h.
    let s = c.args.self.now in
    let e : ℕ = c.args.first + i in
    let range = rw (c.new-range.ensures, c.min-high.ensures) at c.filled_bits.ensures i h in
    both_bits c.drawn_elements-drawn.result c.filled_bits.result i (is_drawn s.seed.seed s.number e) (nat_le s.seed.low e && nat_lt e (min s.seed.high GROUP_BYTES))
    (c.drawn_elements-drawn.ensures i (omega (arith, c.requires, h))) range
    ∙ ap not (sym (some_chosen s.seed s.number e (sym c.chooses.ensures ∙ c.if-not-chooses.false)))
