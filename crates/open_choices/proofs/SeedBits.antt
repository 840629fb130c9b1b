-- The bits of the elements that a seed chooses.
use Rattle.std.proofs.Common.{ℕ, ◌+◌, ◌/◌, ◌%◌, ◌^◌, ◌<◌, ◌≡◌, Bool, true, false, ◌&&◌, ◌||◌, not, eqb, nat_le, nat_lt, bit_xor, refl, sym, ap, ◌∙◌, arith}
use Rattle.std.specs.Prelude.{min}
use Rattle.rv_model.specs.declared.vector.sizes.TheConstants.{GROUP_BYTES}
use Rattle.std.proofs.Math.Nat.{div-div-eq-div-mul}
use Rattle.std.proofs.lemmas.Bool.Decides.{nat_tests}
use Rattle.std.proofs.lemmas.Nat.{pow-add}
use Rattle.std.proofs.lemmas.Nat.Bits.{bit_at-lt, bit_at_ones, bit_at_xor}
use Rattle.open_choices.specs.declared.seeds.Seed.{Seed}
use Rattle.open_choices.specs.Seeds.{chooses, drawn_bits, is_chosen, is_drawn}

-- a seed that doesn't choose at an instruction, and one that does
pub none_chosen : (c : Seed) (n e : ℕ) → chooses c n ≡ false → not (is_chosen c n e) ≡ true
none_chosen c n e h = ap (λ b. not (b && (is_drawn c.seed n e && (nat_le c.low e && nat_lt e (min c.high GROUP_BYTES))))) h

pub some_chosen : (c : Seed) (n e : ℕ) → chooses c n ≡ true → is_chosen c n e ≡ (is_drawn c.seed n e && (nat_le c.low e && nat_lt e (min c.high GROUP_BYTES)))
some_chosen c n e h = ap (λ b. b && (is_drawn c.seed n e && (nat_le c.low e && nat_lt e (min c.high GROUP_BYTES)))) h

-- seed 1
pub always : (seed n e : ℕ) → seed ≡ 1 → is_drawn seed n e ≡ true
always seed n e one = rw one refl

-- an element in a word
place : (w : ℕ → ℕ) (first i : ℕ) → first % 32 + i < 32 → w ((first + i) / 32) / 2 ^ ((first + i) % 32) % 2 ≡ w (first / 32) / 2 ^ (first % 32) / 2 ^ i % 2
place w first i small =
    let word : (first + i) / 32 ≡ first / 32 = omega arith in
    let bit : (first + i) % 32 ≡ first % 32 + i = omega arith in
    ap (λ q. w q / 2 ^ ((first + i) % 32) % 2) word ∙ ap (λ b. w (first / 32) / 2 ^ b % 2) bit ∙ ap (λ p. w (first / 32) / p % 2) (pow-add 2 (first % 32) i)
    ∙ ap (λ x. x % 2) (sym (div-div-eq-div-mul (w (first / 32)) (2 ^ (first % 32)) (2 ^ i)))

by_seed : (seed n e b : ℕ) → (seed ≡ 1 → ⊥) → drawn_bits seed n (e / 32) / 2 ^ (e % 32) % 2 ≡ b → is_drawn seed n e ≡ not (eqb b (seed % 2))
by_seed seed n e b other is = ap (λ x. eqb seed 1 || not (eqb x (seed % 2))) is ∙ without (eqb seed 1) (not (eqb b (seed % 2))) (differs seed other)
  where
    without : (a b : Bool) → a ≡ false → (a || b) ≡ b
    without a b h = rw h refl

    differs : (x : ℕ) → (x ≡ 1 → ⊥) → eqb x 1 ≡ false
    differs x h = grind (arith, nat_tests)

-- an even seed, and an odd one
pub even_bit : (seed n first i : ℕ) → (seed ≡ 1 → ⊥) → seed % 2 ≡ 0 → first % 32 + i < 32
    → eqb (drawn_bits seed n (first / 32) / 2 ^ (first % 32) / 2 ^ i % 2) 0 ≡ not (is_drawn seed n (first + i))
even_bit seed n first i other even small =
    let b : ℕ = drawn_bits seed n (first / 32) / 2 ^ (first % 32) / 2 ^ i % 2 in
    twice (eqb b 0) ∙ ap (λ r. not (not (eqb b r))) (sym even) ∙ sym (ap not (by_seed seed n (first + i) b other (place (drawn_bits seed n) first i small)))
  where
    twice : (a : Bool) → a ≡ not (not a)
    twice true = refl
    twice false = refl

pub odd_bit : (seed n first i : ℕ) → (seed ≡ 1 → ⊥) → (seed % 2 ≡ 0 → ⊥) → first % 32 + i < 32
    → eqb (bit_xor (drawn_bits seed n (first / 32) / 2 ^ (first % 32)) 18446744073709551615 / 2 ^ i % 2) 0 ≡ not (is_drawn seed n (first + i))
odd_bit seed n first i other odd small =
    let w : ℕ = drawn_bits seed n (first / 32) / 2 ^ (first % 32) in
    let b : ℕ = w / 2 ^ i % 2 in
    let one : 18446744073709551615 / 2 ^ i % 2 ≡ 1 = bit_at_ones 64 i (omega arith) in
    let rest : seed % 2 ≡ 1 = omega (arith, odd) in
    ap (λ x. eqb x 0) (bit_at_xor w 18446744073709551615 i) ∙ ap (λ x. eqb ((b + x) % 2) 0) one ∙ turned b (bit_at-lt w i) ∙ ap (λ r. not (not (eqb b r))) (sym rest)
    ∙ sym (ap not (by_seed seed n (first + i) b other (place (drawn_bits seed n) first i small)))
  where
    turned : (x : ℕ) → x < 2 → eqb ((x + 1) % 2) 0 ≡ not (not (eqb x 1))
    turned x h = grind (arith, nat_tests)
