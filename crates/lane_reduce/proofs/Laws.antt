-- The operations of reductions are associative and commutative, so that numbers may be combined in any order.
use Rattle.std.proofs.Common.{ℕ, ◌+◌, ◌-◌, ◌%◌, ◌^◌, ◌<◌, ◌≡◌, ℤ, pos, negsuc, int_lt, Bool, true, false, cond, bit_and, bit_or, bit_xor, min, max, refl, sym, ap, ◌∙◌, arith, mod-eq_of_lt, inl, inr, ◌⊎◌}
use Rattle.std.proofs.Math.Facts.{sfits_to_z}
use Rattle.std.proofs.Math.Nat.{mod-lt}
use Rattle.std.proofs.lemmas.Int.{ints, of_z-to_z}
use Rattle.std.proofs.lemmas.Nat.{and_assoc, and_comm, and_le_l, and_mask, or_comm, or_lt, xor_comm, xor_lt}
use Rattle.std.proofs.lemmas.Nat.Bits.{bit_at_or, same_from_bits}
use Rattle.std.specs.Int.{Width, cast_signed, int_max, int_min, w8}
use Rattle.std.specs.Int.Signed.{mag}
use lib.Bits.{or_zero_r, xor_zero_r, xor_assoc}
use mir.Val.{bits, hbits}
use Rattle.rv_model.specs.declared.instructions.operations.ReduceOp.{ReduceOp}
use Rattle.rv_model.specs.declared.instructions.operations.ReduceOp.TheVariants.{Vredsum, Vredand, Vredor, Vredxor, Vredminu, Vredmin, Vredmaxu, Vredmax}
use Rattle.rv_model.specs.elements.Formulas.{wrap}
use Rattle.rv_model.proofs.element_lemmas.Numbers.{half, half_positive, low_bits_of, mod_sum}
use Rattle.rv_model.proofs.element_lemmas.Widths.{power_positive}
use Rattle.lane_reduce.specs.AnyOrder.{AnyOrder, combination, neutral_number}

-- ---- operations on natural numbers

sums : (p : ℕ) → 0 < p → AnyOrder (λ x y. (x + y) % p) 0 p
sums p some = record {
  closed = λ x y. mod-lt (x + y) some;
  within = some;
  unchanged = λ x h. ap (λ y. y % p) (let e : x + 0 ≡ x = omega arith in e) ∙ mod-eq_of_lt h;
  commutative = λ x y h k. ap (λ z. z % p) (let e : x + y ≡ y + x = omega arith in e);
  associative = λ x y z h k l.
      mod_sum (x + y) z p ∙ ap (λ t. t % p) (let e : x + y + z ≡ y + z + x = omega arith in e) ∙ sym (mod_sum (y + z) x p)
      ∙ ap (λ t. t % p) (let e : (y + z) % p + x ≡ x + (y + z) % p = omega arith in e);
}

-- an operation whose results are below the bound without a modulus
plain : (g : ℕ → ℕ → ℕ) (e p : ℕ) → ((x y : ℕ) → x < p → y < p → g x y < p) → e < p → ((x : ℕ) → x < p → g x e ≡ x) → ((x y : ℕ) → g x y ≡ g y x)
    → ((x y z : ℕ) → g (g x y) z ≡ g x (g y z)) → AnyOrder (λ x y. g x y % p) e p
plain g e p closed within unchanged commutative associative = record {
  closed = λ x y. mod-lt (g x y) (omega (arith, within));
  within = within;
  unchanged = λ x h. ap (λ y. y % p) (unchanged x h) ∙ mod-eq_of_lt h;
  commutative = λ x y h k. ap (λ z. z % p) (commutative x y);
  associative = λ x y z h k l.
      ap (λ t. g t z % p) (mod-eq_of_lt (closed x y h k)) ∙ ap (λ t. t % p) (associative x y z) ∙ sym (ap (λ t. g x t % p) (mod-eq_of_lt (closed y z k l)));
}

or_assoc : (a b c : ℕ) → bit_or (bit_or a b) c ≡ bit_or a (bit_or b c)
or_assoc a b c = same_from_bits (bit_or (bit_or a b) c) (bit_or a (bit_or b c)) (λ i.
    omega (arith, bit_at_or (bit_or a b) c i, bit_at_or a b i, bit_at_or a (bit_or b c) i, bit_at_or b c i))

ands : (k : ℕ) → 0 < 2 ^ k → AnyOrder (λ x y. bit_and x y % 2 ^ k) (2 ^ k - 1) (2 ^ k)
ands k some = plain bit_and (2 ^ k - 1) (2 ^ k) (λ x y h l. omega (arith, and_le_l x y, h)) (omega (arith, some)) (λ x h. and_mask x k ∙ mod-eq_of_lt h) and_comm (λ x y z. and_assoc z x y)

ors : (k : ℕ) → 0 < 2 ^ k → AnyOrder (λ x y. bit_or x y % 2 ^ k) 0 (2 ^ k)
ors k some = plain bit_or 0 (2 ^ k) (λ x y h l. or_lt k x y h l) some (λ x h. or_zero_r x) or_comm or_assoc

exclusive_ors : (k : ℕ) → 0 < 2 ^ k → AnyOrder (λ x y. bit_xor x y % 2 ^ k) 0 (2 ^ k)
exclusive_ors k some = plain bit_xor 0 (2 ^ k) (λ x y h l. xor_lt k x y h l) some (λ x h. xor_zero_r x) xor_comm xor_assoc

minima : (p : ℕ) → 0 < p → AnyOrder (λ x y. min x y % p) (p - 1) p
minima p some = plain min (p - 1) p (λ x y h l. omega (arith, h)) (omega (arith, some)) (λ x h. omega (arith, h)) (λ x y. omega arith) (λ x y z. omega arith)

maxima : (p : ℕ) → 0 < p → AnyOrder (λ x y. max x y % p) 0 p
maxima p some = plain max 0 p (λ x y h l. omega (arith, h, l)) some (λ x h. omega arith) (λ x y. omega arith) (λ x y z. omega arith)

-- ---- signed minima and maxima

wrapped_below : (w : Width) (z : ℤ) → wrap w z < 2 ^ bits w
wrapped_below w (pos n) = mod-lt n (power_positive w)
wrapped_below w (negsuc n) = omega (arith, power_positive w)

-- a signed number modulo 2 to its width is the unsigned number
back : (w : Width) (x : ℕ) → x < 2 ^ bits w → wrap w (cast_signed w x) ≡ x
back w x h =
    let near : mag (cast_signed w x) < 2 ^ hbits w = (sfits_to_z {w = w} {n = x} (record { fits = h })).sfits in
    sym (low_bits_of w w (omega arith) (cast_signed w x) (omega (arith, near, half w)))
    ∙ ap (λ n. n % 2 ^ bits w) (of_z-to_z w x h) ∙ mod-eq_of_lt h

-- an operation that returns one of its two operands
picks : (w : Width) (m : ℤ → ℤ → ℤ) (e : ℕ) → e < 2 ^ bits w → ((a b : ℤ) → (m a b ≡ a) ⊎ (m a b ≡ b)) → ((a b : ℤ) → m a b ≡ m b a)
    → ((a b c : ℤ) → m (m a b) c ≡ m a (m b c)) → ((x : ℕ) → x < 2 ^ bits w → m (cast_signed w x) (cast_signed w e) ≡ cast_signed w x)
    → AnyOrder (λ x y. wrap w (m (cast_signed w x) (cast_signed w y))) e (2 ^ bits w)
picks w m e within one commutative associative unchanged = record {
  closed = λ x y. wrapped_below w (m (cast_signed w x) (cast_signed w y));
  within = within;
  unchanged = λ x h. ap (wrap w) (unchanged x h) ∙ back w x h;
  commutative = λ x y h k. ap (wrap w) (commutative (cast_signed w x) (cast_signed w y));
  associative = λ x y z h k l.
      ap (λ t. wrap w (m t (cast_signed w z))) (kept x y h k) ∙ ap (wrap w) (associative (cast_signed w x) (cast_signed w y) (cast_signed w z))
      ∙ sym (ap (λ t. wrap w (m (cast_signed w x) t)) (kept y z k l));
}
  where
    kept : (x y : ℕ) → x < 2 ^ bits w → y < 2 ^ bits w → cast_signed w (wrap w (m (cast_signed w x) (cast_signed w y))) ≡ m (cast_signed w x) (cast_signed w y)
    kept x y h k = elim (one (cast_signed w x) (cast_signed w y)) [
      | inl first ↦ rw (first, back w x h) refl
      | inr second ↦ rw (second, back w y k) refl
    ]

least_one : (a b : ℤ) → (int_min a b ≡ a) ⊎ (int_min a b ≡ b)
least_one a b = go (int_lt b a)
  where
    go : (t : Bool) → (cond t b a ≡ a) ⊎ (cond t b a ≡ b)
    go true = inr refl
    go false = inl refl

greatest_one : (a b : ℤ) → (int_max a b ≡ a) ⊎ (int_max a b ≡ b)
greatest_one a b = grind (arith, ints)

least_comm : (a b : ℤ) → int_min a b ≡ int_min b a
least_comm a b = grind (arith, ints)

greatest_comm : (a b : ℤ) → int_max a b ≡ int_max b a
greatest_comm a b = grind (arith, ints)

least_assoc : (a b c : ℤ) → int_min (int_min a b) c ≡ int_min a (int_min b c)
least_assoc a b c = grind (arith, ints)

greatest_assoc : (a b c : ℤ) → int_max (int_max a b) c ≡ int_max a (int_max b c)
greatest_assoc a b c = grind (arith, ints)

least_kept : (w : Width) (x : ℕ) → x < 2 ^ bits w → int_min (cast_signed w x) (cast_signed w (2 ^ hbits w - 1)) ≡ cast_signed w x
least_kept w8 x h = grind (arith, ints)
least_kept _ x h = grind (arith, ints)

greatest_kept : (w : Width) (x : ℕ) → x < 2 ^ bits w → int_max (cast_signed w x) (cast_signed w (2 ^ hbits w)) ≡ cast_signed w x
greatest_kept w8 x h = grind (arith, ints)
greatest_kept _ x h = grind (arith, ints)

-- ---- all operations

pub any_order : (op : ReduceOp) (w : Width) → AnyOrder (combination op w) (neutral_number op w) (2 ^ bits w)
any_order Vredsum w = sums (2 ^ bits w) (power_positive w)
any_order Vredand w = ands (bits w) (power_positive w)
any_order Vredor w = ors (bits w) (power_positive w)
any_order Vredxor w = exclusive_ors (bits w) (power_positive w)
any_order Vredminu w = minima (2 ^ bits w) (power_positive w)
any_order Vredmin w = picks w int_min (2 ^ hbits w - 1) (omega (arith, half w, power_positive w)) least_one least_comm least_assoc (least_kept w)
any_order Vredmaxu w = maxima (2 ^ bits w) (power_positive w)
any_order Vredmax w = picks w int_max (2 ^ hbits w) (omega (arith, half w, half_positive w)) greatest_one greatest_comm greatest_assoc (greatest_kept w)
