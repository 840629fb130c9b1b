-- The bits of open elements, from those of the body, the enabled ones and the tail.
use Rattle.std.proofs.Common.{bit_and, bit_xor, ◌≡◌, ◌∙◌, ℕ, ◌+◌, ◌/◌, ◌%◌, ◌^◌, ◌<◌, Bool, true, false, not, eqb, ◌&&◌, ◌||◌, nat_le, nat_lt, ap, arith}
use Rattle.std.proofs.lemmas.Bool.Decides.{nat_tests}
use Rattle.std.proofs.lemmas.Nat.Bits.{bit_at_xor, bit_at-lt}
use Rattle.lane_arith.proofs.MaskBits.{both_bits}
use Rattle.rv_model.specs.elements.Elements.{Body, in_body, in_range, is_enabled}
use Rattle.open_choices.specs.Fills.{is_open}

-- the bitwise XOR of two masks is set where one of them is, and not both
pub either_bits : (a b i : ℕ) (p q : Bool) → eqb (a / 2 ^ i % 2) 0 ≡ not p → eqb (b / 2 ^ i % 2) 0 ≡ not q
    → eqb (bit_xor a b / 2 ^ i % 2) 0 ≡ not ((p && not q) || (not p && q))
either_bits a b i p q h k = ap (λ x. eqb x 0) (bit_at_xor a b i) ∙ go p q (a / 2 ^ i % 2) (b / 2 ^ i % 2) (bit_at-lt a i) (bit_at-lt b i) h k
  where
    go : (p q : Bool) (x y : ℕ) → x < 2 → y < 2 → eqb x 0 ≡ not p → eqb y 0 ≡ not q → eqb ((x + y) % 2) 0 ≡ not ((p && not q) || (not p && q))
    go true true x y l m h k = grind (arith, nat_tests)
    go true false x y l m h k = grind (arith, nat_tests)
    go false true x y l m h k = grind (arith, nat_tests)
    go false false x y l m h k = grind (arith, nat_tests)

pub open_bit : (in_body_bits enabled_bits tail_bits i first : ℕ) (b : Body) (masked_off tail : Bool) → first + i < 256
    → eqb (in_body_bits / 2 ^ i % 2) 0 ≡ not (masked_off && in_body b (first + i)) → eqb (enabled_bits / 2 ^ i % 2) 0 ≡ not (is_enabled b (first + i))
    → eqb (tail_bits / 2 ^ i % 2) 0 ≡ not (tail && in_range b.end 256 (first + i))
    → eqb (bit_xor (bit_xor in_body_bits (bit_and in_body_bits enabled_bits)) tail_bits / 2 ^ i % 2) 0 ≡ not (is_open b masked_off tail (first + i))
open_bit f e t i first b masked_off tail small hf he ht =
    let p : Bool = masked_off && in_body b (first + i) in
    let q : Bool = is_enabled b (first + i) in
    let r : Bool = tail && in_range b.end 256 (first + i) in
    let off = either_bits f (bit_and f e) i p (p && q) hf (both_bits f e i p q hf he) in
    either_bits (bit_xor f (bit_and f e)) t i ((p && not (p && q)) || (not p && (p && q))) r off ht
    ∙ ap not (joined masked_off (nat_le b.start (first + i)) (nat_lt (first + i) b.end) q tail (nat_le b.end (first + i)) (nat_lt (first + i) 256) (is_below small) exclusive)
  where
    is_below : first + i < 256 → nat_lt (first + i) 256 ≡ true
    is_below h = grind (arith, nat_tests)

    exclusive : nat_lt (first + i) b.end ≡ true → nat_le b.end (first + i) ≡ false
    exclusive h = grind (arith, nat_tests)

    joined : (m s e l t p n : Bool) → n ≡ true → (e ≡ true → p ≡ false)
        → (((((m && (s && e)) && not ((m && (s && e)) && l)) || (not (m && (s && e)) && ((m && (s && e)) && l))) && not (t && (p && n)))
        || (not (((m && (s && e)) && not ((m && (s && e)) && l)) || (not (m && (s && e)) && ((m && (s && e)) && l))) && (t && (p && n))))
        ≡ ((m && ((s && e) && not l)) || (t && p))
    joined false s e l t p true k apart = grind (arith, nat_tests)
    joined true false e l t p true k apart = grind (arith, nat_tests)
    joined true true true l t p true k apart = grind (arith, nat_tests)
    joined true true false l t p true k apart = grind (arith, nat_tests)
    joined m s e l t p false k apart = grind (arith, nat_tests)
