use Rattle.std.proofs.Common.{bit_xor, ◌+◌, ◌%◌, ◌/◌, ◌^◌, ◌≡◌, ◌∙◌, not, eqb, ap, sym, arith}
use Rattle.std.proofs.lemmas.Nat.Bits.{bit_at_ones}
use Rattle.open_choices.proofs.SeedBits.{always, even_bit, odd_bit}
use Rattle.open_choices.proofs.seeds.drawn_elements.Goals as goal

pub returns-then-seed-eq1 : goal.returns-then-seed-eq1
returns-then-seed-eq1 c = λ i h.
    let one : 18446744073709551615 / 2 ^ i % 2 ≡ 1 = bit_at_ones 64 i (omega (arith, h)) in
    ap (λ x. eqb x 0) one ∙ sym (ap not (always c.args.seed c.args.number (c.args.first + i) c.if-seed-eq1.true))

pub returns-then-seed-eq0 : goal.returns-then-seed-eq0
returns-then-seed-eq0 c = λ i h.
    ap (λ w. eqb (w / 2 ^ (c.args.first % 32) / 2 ^ i % 2) 0) c.drawn_bits.ensures.value
    ∙ even_bit c.args.seed c.args.number c.args.first i c.if-seed-eq1.false c.if-seed-eq0.true h

pub returns-else-seed-eq0 : goal.returns-else-seed-eq0
returns-else-seed-eq0 c = λ i h.
    ap (λ w. eqb (bit_xor (w / 2 ^ (c.args.first % 32)) 18446744073709551615 / 2 ^ i % 2) 0) c.drawn_bits.ensures.value
    ∙ odd_bit c.args.seed c.args.number c.args.first i c.if-seed-eq1.false c.if-seed-eq0.false h
