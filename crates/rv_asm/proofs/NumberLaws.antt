-- Reading a printed number or register returns the same number
use Rattle.std.proofs.Common.{◌≡◌, ℕ, zero, suc, ◌+◌, ◌-◌, ◌*◌, ◌/◌, ◌%◌, ◌^◌, ◌<◌, ◌≤◌, Bool, true, false, cond, eqb, ltb, leb, ◌&&◌, List, [], ◌∷◌, ◌++◌, length, Option, Some, None, refl, sym, ap, ◌∙◌, arith, inl, inr}
use Rattle.std.specs.Fmt.{decimal}
use Rattle.std.specs.Str.{bytes_eq}
use Rattle.std.proofs.lemmas.Fmt.{decimal_by_steps, decimal_digit, decimal_step}
use Rattle.std.proofs.lemmas.Bool.{agree_below_at, eqb-true, le-leb, lt-ltb, eq-eqb, ne_eqb, and_from, and_parts, and_left, and_right, or_left, or_right, leb-true, cond-true, cond-false, cases_lt}
use Rattle.std.proofs.lemmas.List.{length-append}
use Rattle.rv_model.specs.assembler.Tokens.{in_run}
use Rattle.rv_model.specs.assembler.Numbers.{digits_in, number, register, hex_digit, hex_digits}
use Rattle.rv_model.specs.text.Digits.{digit, digits_after}
use Rattle.rv_asm.proofs.Tokens.{all_run}

abbrev pub is_dec : ℕ → Bool
is_dec c = leb 48 c && leb c 57

abbrev pub all_dec : List ℕ → Bool
all_dec [] = true
all_dec (c ∷ cs) = is_dec c && all_dec cs

-- one or more decimal digits with the value n
pub record Decimal (n : ℕ) (ds : List ℕ) : Type 0 where
  pub digits : all_dec ds ≡ true
  pub value : digits_after 10 0 ds ≡ Some n
  pub some : 0 < length ds

dec_digit : (c : ℕ) → 48 ≤ c → c ≤ 57 → is_dec c ≡ true
dec_digit c a b = and_from _ _ (le-leb 48 c a) (le-leb c 57 b)

value_digit : (c : ℕ) → 48 ≤ c → c ≤ 57 → digit c ≡ c - 48
value_digit c a b = cond-true (is_dec c) (c - 48) _ (dec_digit c a b)

all_dec_push : (xs : List ℕ) (c : ℕ) → all_dec xs ≡ true → is_dec c ≡ true → all_dec (xs ++ c ∷ []) ≡ true
all_dec_push [] c h d = and_from (is_dec c) true d refl
all_dec_push (x ∷ xs) c h d = let p = and_parts (is_dec x) (all_dec xs) h in and_from (is_dec x) (all_dec (xs ++ c ∷ [])) p.0 (all_dec_push xs c p.1 d)

passed_test : {A : Type 0} (b : Bool) (x : Option A) (y : A) → cond b x None ≡ Some y → (b ≡ true) × (x ≡ Some y)
passed_test true x y e = (refl, e)
passed_test false x y e = absurd cc

same_number : (m n : ℕ) → Some m ≡ Some n → m ≡ n
same_number m n e = cc

after_push : (r : ℕ) (xs : List ℕ) (a m c d : ℕ) → digit c ≡ d → d < r → digits_after r a xs ≡ Some m → digits_after r a (xs ++ c ∷ []) ≡ Some (m * r + d)
unfolding digits_after
after_push r [] a m c d is lt e =
    cond-true (ltb (digit c) r) (Some (a * r + digit c)) None (lt-ltb (digit c) r (omega arith)) ∙ ap (λ (x : ℕ). Some (x * r + digit c)) (same_number a m e) ∙ ap (λ (x : ℕ). Some (m * r + x)) is
after_push r (x ∷ xs) a m c d is lt e =
    let p = passed_test (ltb (digit x) r) (digits_after r (a * r + digit x) xs) m e in
    cond-true (ltb (digit x) r) (digits_after r (a * r + digit x) (xs ++ c ∷ [])) None p.0 ∙ after_push r xs (a * r + digit x) m c d is lt p.1

no_digits_spell : (r : ℕ) → digits_after r 0 [] ≡ Some 0
unfolding digits_after
no_digits_spell r = refl

decimal_one : (n : ℕ) → n < 10 → Decimal n ((48 + n) ∷ [])
decimal_one n lt = record {
  digits = and_from (is_dec (48 + n)) true (dec_digit (48 + n) (omega arith) (omega arith)) refl;
  value = let d : digit (48 + n) ≡ n = value_digit (48 + n) (omega arith) (omega arith) ∙ omega arith in let is : 0 * 10 + n ≡ n = omega arith in after_push 10 [] 0 0 (48 + n) n d lt (no_digits_spell 10) ∙ ap (λ (x : ℕ). Some x) is;
  some = omega arith;
}

decimal_more : (n : ℕ) (ds : List ℕ) → 10 ≤ n → Decimal (n / 10) ds → Decimal n (ds ++ ((48 + n % 10) ∷ []))
decimal_more n ds le d =
    let small : n % 10 < 10 = omega arith in
    record {
      digits = all_dec_push ds (48 + n % 10) d.digits (dec_digit (48 + n % 10) (omega arith) (omega arith));
      value = let v : digit (48 + n % 10) ≡ n % 10 = value_digit (48 + n % 10) (omega arith) (omega arith) ∙ omega arith in let is : n / 10 * 10 + n % 10 ≡ n = omega arith in after_push 10 ds 0 (n / 10) (48 + n % 10) (n % 10) v small d.value ∙ ap (λ (x : ℕ). Some x) is;
      some = omega (arith, length-append ds ((48 + n % 10) ∷ []));
    }

pub is_decimal : (n : ℕ) → n < 2 ^ 64 → Decimal n (decimal n)
is_decimal n lt = decimal_by_steps Decimal decimal_one decimal_more n lt

-- ---- numbers

pub number_again : (n : ℕ) (ds : List ℕ) → Decimal n ds → number ds ≡ Some n
number_again n [] d = absurd (omega (arith, d.some))
number_again n (a ∷ []) d = d.value
number_again n (a ∷ b ∷ cs) d =
    let p = and_parts (is_dec a) (all_dec (b ∷ cs)) d.digits in
    let r = and_parts (is_dec b) (all_dec cs) p.1 in
    let t = and_parts (leb 48 b) (leb b 57) r.0 in
    let le = leb-true b 57 t.1 in
    cond-false (eqb a 48 && eqb b 120) (digits_in 16 cs) (digits_in 10 (a ∷ b ∷ cs)) (and_right (eqb a 48) (eqb b 120) (ne_eqb b 120 (λ e. omega arith))) ∙ d.value

run_dec : (c : ℕ) → is_dec c ≡ true → in_run c ≡ true
run_dec c h = or_right _ _ (or_left _ _ h)

pub all_run_dec : (ds : List ℕ) → all_dec ds ≡ true → all_run ds ≡ true
all_run_dec [] h = refl
all_run_dec (c ∷ cs) h = let p = and_parts (is_dec c) (all_dec cs) h in and_from (in_run c) (all_run cs) (run_dec c p.0) (all_run_dec cs p.1)

-- ---- registers

pub register_one : (l a : ℕ) → 48 ≤ a → a ≤ 57 → register l (l ∷ a ∷ []) ≡ Some (a - 48)
register_one l a h k = cond-true _ (Some (a - 48)) None (and_from (eqb l l) (is_dec a) (eq-eqb l l refl) (dec_digit a h k))

pub register_two : (l a b : ℕ) → 49 ≤ a → a ≤ 51 → 48 ≤ b → b ≤ 57 → (a - 48) * 10 + (b - 48) < 32 → register l (l ∷ a ∷ b ∷ []) ≡ Some ((a - 48) * 10 + (b - 48))
register_two l a b h k m n small =
    cond-true _ (Some ((a - 48) * 10 + (b - 48))) None (and_from (eqb l l) _ (eq-eqb l l refl) (and_from (leb 49 a && leb a 51) _ (and_from _ _ (le-leb 49 a h) (le-leb a 51 k)) (and_from (is_dec b) _ (dec_digit b m n) (lt-ltb _ 32 small))))

pub register_again : (l v : ℕ) → v < 32 → register l (l ∷ decimal v) ≡ Some v
register_again l v lt =
    elim (cases_lt v 10) [
      | inl one ↦
          let is : (48 + v) - 48 ≡ v = omega arith in
          ap (λ (ds : List ℕ). register l (l ∷ ds)) (decimal_digit v one) ∙ register_one l (48 + v) (omega arith) (omega arith) ∙ ap (λ (x : ℕ). Some x) is
      | inr two ↦
          let high : v / 10 < 10 = omega arith in
          let text : decimal v ≡ (48 + v / 10) ∷ (48 + v % 10) ∷ [] = decimal_step v two (omega arith) ∙ ap (λ (ds : List ℕ). ds ++ ((48 + v % 10) ∷ [])) (decimal_digit (v / 10) high) in
          let is : ((48 + v / 10) - 48) * 10 + ((48 + v % 10) - 48) ≡ v = omega arith in
          ap (λ (ds : List ℕ). register l (l ∷ ds)) text ∙ register_two l (48 + v / 10) (48 + v % 10) (omega arith) (omega arith) (omega arith) (omega arith) (omega arith) ∙ ap (λ (x : ℕ). Some x) is
    ]

-- ---- hexadecimal digits

hex_digit_value : (d : ℕ) → d < 16 → digit (hex_digit d) ≡ d
hex_digit_value d lt = eqb-true (digit (hex_digit d)) d (agree_below_at (λ (k : ℕ). eqb (digit (hex_digit k)) k) (λ _. true) 16 d refl lt)

hex_digit_run : (d : ℕ) → d < 16 → in_run (hex_digit d) ≡ true
hex_digit_run d lt = agree_below_at (λ (k : ℕ). in_run (hex_digit k)) (λ _. true) 16 d refl lt

all_run_push : (xs : List ℕ) (c : ℕ) → all_run xs ≡ true → in_run c ≡ true → all_run (xs ++ c ∷ []) ≡ true
all_run_push [] c h d = and_from (in_run c) true d refl
all_run_push (x ∷ xs) c h d = let p = and_parts (in_run x) (all_run xs) h in and_from (in_run x) (all_run (xs ++ c ∷ [])) p.0 (all_run_push xs c p.1 d)

pub hex_run : (k n : ℕ) → all_run (hex_digits k n) ≡ true
unfolding hex_digits
hex_run zero n = refl
hex_run (suc k) n = all_run_push (hex_digits k (n / 16)) (hex_digit (n % 16)) (hex_run k (n / 16)) (hex_digit_run (n % 16) (omega arith))

hex_more : (k n : ℕ) → digits_after 16 0 (hex_digits k (n / 16)) ≡ Some (n / 16) → digits_after 16 0 (hex_digits (suc k) n) ≡ Some n
unfolding hex_digits
hex_more k n h =
    let small : n % 16 < 16 = omega arith in
    let is : n / 16 * 16 + n % 16 ≡ n = omega arith in
    after_push 16 (hex_digits k (n / 16)) 0 (n / 16) (hex_digit (n % 16)) (n % 16) (hex_digit_value (n % 16) small) small h ∙ ap (λ (x : ℕ). Some x) is

hex_none : (n : ℕ) → n ≡ 0 → digits_after 16 0 (hex_digits 0 n) ≡ Some n
unfolding hex_digits digits_after
hex_none n e = ap (λ (x : ℕ). Some x) (sym e)

-- n has at most this number of hexadecimal digits
abbrev fits : ℕ → ℕ → Type 0
fits zero n = n ≡ 0
fits (suc k) n = fits k (n / 16)

hex_value : (k n : ℕ) → fits k n → digits_after 16 0 (hex_digits k n) ≡ Some n
hex_value zero n h = hex_none n h
hex_value (suc k) n h = hex_more k n (hex_value k (n / 16) h)

pub hex_again : (n : ℕ) → n < 2 ^ 32 → digits_after 16 0 (hex_digits 8 n) ≡ Some n
hex_again n lt = hex_value 8 n (omega arith)

-- ---- letters

-- a decimal number doesn't begin with a letter
pub not_letter : (l n : ℕ) (xs ds : List ℕ) → 58 ≤ l → Decimal n ds → bytes_eq (l ∷ xs) ds ≡ false
not_letter l n xs [] h d = refl
not_letter l n xs (c ∷ cs) h d =
    let p = and_parts (is_dec c) (all_dec cs) d.digits in
    let q = and_parts (leb 48 c) (leb c 57) p.0 in
    let le = leb-true c 57 q.1 in
    and_left (eqb l c) (bytes_eq xs cs) (ne_eqb l c (λ e. omega arith))

pub not_minus : (n : ℕ) (ds : List ℕ) → Decimal n ds → bytes_eq ds (45 ∷ []) ≡ false
not_minus n [] d = absurd (omega (arith, d.some))
not_minus n (c ∷ cs) d =
    let p = and_parts (is_dec c) (all_dec cs) d.digits in
    let q = and_parts (leb 48 c) (leb c 57) p.0 in
    let le = leb-true 48 c q.0 in
    and_left (eqb c 45) (bytes_eq cs []) (ne_eqb c 45 (λ e. omega arith))
