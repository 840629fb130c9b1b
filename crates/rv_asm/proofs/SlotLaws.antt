-- Each slot reads the text that is printed for its operand
use Rattle.std.proofs.Common.{◌≡◌, ℕ, suc, ◌+◌, ◌-◌, ◌*◌, ◌/◌, ◌%◌, ◌^◌, ◌<◌, ◌≤◌, Bool, true, false, eqb, ltb, leb, List, [], ◌∷◌, ◌++◌, length, Option, Some, None, Result, Ok, refl, sym, ap, subst, ◌∙◌, append_assoc, arith, inl, inr, lit<, lit≤}
use Rattle.std.specs.Option.{option_map_or}
use Rattle.std.specs.Prelude.{codes}
use Rattle.std.specs.Fmt.{decimal}
use Rattle.std.specs.Str.{bytes_eq}
use Rattle.std.proofs.lemmas.Bool.{and_from, and_parts, le-leb, lt-ltb, le-ltb, eq-eqb, ne_eqb, cond-true, cond-false, cases_lt}
use Rattle.std.proofs.lemmas.List.{length-append}
use Rattle.rv_model.specs.assembler.Tokens.{Token, in_run, tokens, begins_run}
use Rattle.rv_model.specs.assembler.Numbers.{literal, register, number, at_most, in_steps, negated, hex_digits, csr}
use Rattle.rv_model.specs.declared.assembler.forms.SignedField.{SignedField}
use Rattle.rv_model.specs.declared.assembler.forms.SignedField.TheVariants as signed
use Rattle.rv_model.specs.declared.assembler.forms.Slot.{Slot}
use Rattle.rv_model.specs.declared.assembler.forms.Slot.TheVariants.{Comma, Open, Close, V0, Scalar, Vector, Unsigned, Signed, Csr, VectorType, ShortVectorType, Mask, Word}
use Rattle.rv_model.specs.assembler.Slots.{◌>>=◌, accept, one, half, signed_number, vtype_names, vtype, read, signed_text, vtype_named, vtype_text, printed, scale}
use Rattle.rv_model.specs.lending.Slots.{limit, value_count}
use Rattle.rv_model.specs.declared.vector.types.Sew.{Sew}
use Rattle.rv_model.specs.declared.vector.types.Lmul.{Lmul}
use Rattle.rv_model.specs.instructions.FixedBits.{flag_bit}
use Rattle.rv_model.specs.vector.TypeNames.{lmul_name, mask_name, sew_name, tail_name}
use Rattle.rv_model.specs.vector.TypeRules.{lmul_number, lmul_with_number, sew_number, sew_with_number}
use Rattle.rv_model.proofs.assembler_lemmas.Operands.{limit_small}
use Rattle.rv_asm.specs.TypeParts.{vlmul, vta, vma}
use Rattle.rv_asm.proofs.Tokens.{all_run, run_first}
use Rattle.rv_asm.proofs.NumberLaws.{is_decimal, number_again, all_run_dec, register_again, not_minus, hex_run, hex_again}
use Rattle.rv_asm.proofs.NameLaws.{Means, csr_again, vsew_again, vlmul_again, vta_again, vma_again, sew_number_again, lmul_number_again, vsew_digits}

-- a run of bytes is one token
pub run_is_one_token : (p : ℕ) (ds more : List ℕ) → all_run ds ≡ true → 0 < length ds → begins_run more ≡ false → tokens p (ds ++ more) ≡ record { column = p; text = ds } ∷ tokens (p + length ds) more
run_is_one_token p [] more h some m = absurd (omega arith)
run_is_one_token p (c ∷ cs) more h some m = let k = and_parts (in_run c) (all_run cs) h in run_first p c cs more k.0 k.1 m

-- the text that may follow a slot's text
abbrev pub Follows : Slot → List ℕ → Type 0
Follows Comma more = Unit {0}
Follows Open more = Unit {0}
Follows Close more = Unit {0}
Follows Mask more = more ≡ []
Follows s more = begins_run more ≡ false

-- a reader reads this text as this value
abbrev Takes : (List Token → Result (ℕ × List Token) ℕ) → List ℕ → ℕ → ℕ → List ℕ → Type 0
Takes reader text v p more = reader (tokens p (text ++ more)) ≡ Ok (v, tokens (p + length text) more)

-- a token reads as its value
one_again : (p end v : ℕ) (f : List ℕ → Option ℕ) (ds more : List ℕ) → Means f ds v → begins_run more ≡ false → Takes (one end f) ds v p more
one_again p end v f ds more m follows = ap (one end f) (run_is_one_token p ds more m.run m.some follows) ∙ ap (accept p (tokens (p + length ds) more)) m.value

at_most_again : (limit n : ℕ) → n ≤ limit → at_most limit (Some n) ≡ Some n
at_most_again limit n le = cond-true (leb n limit) (Some n) None (le-leb n limit le)

-- ---- signed numbers

abbrev scaled : ℕ → ℕ → List ℕ → Option ℕ
scaled size count text = in_steps size (at_most (size * count) (number text))

steps_back : (s : SignedField) (v : ℕ) → in_steps (scale s) (Some (scale s * v)) ≡ Some v
steps_back signed.Branch v = let a : 2 * v % 2 ≡ 0 = omega arith in let b : 2 * v / 2 ≡ v = omega arith in cond-true (eqb (2 * v % 2) 0) (Some (2 * v / 2)) None (eq-eqb (2 * v % 2) 0 a) ∙ ap (λ (x : ℕ). Some x) b
steps_back signed.Jump v = let a : 2 * v % 2 ≡ 0 = omega arith in let b : 2 * v / 2 ≡ v = omega arith in cond-true (eqb (2 * v % 2) 0) (Some (2 * v / 2)) None (eq-eqb (2 * v % 2) 0 a) ∙ ap (λ (x : ℕ). Some x) b
steps_back _ v = let a : 1 * v % 1 ≡ 0 = omega arith in let b : 1 * v / 1 ≡ v = omega arith in cond-true (eqb (1 * v % 1) 0) (Some (1 * v / 1)) None (eq-eqb (1 * v % 1) 0 a) ∙ ap (λ (x : ℕ). Some x) b

steps_below : (s : SignedField) (v : ℕ) → v < half s → scale s * v ≤ scale s * half s - 1
steps_below signed.Vector v lt = omega arith
steps_below _ v lt = omega arith

steps_up_to : (s : SignedField) (v : ℕ) → v ≤ half s → scale s * v ≤ scale s * half s
steps_up_to signed.Vector v le = omega arith
steps_up_to _ v le = omega arith

steps_small : (s : SignedField) → scale s * half s < 2 ^ 64
steps_small signed.Vector = lit< tt
steps_small _ = lit< tt

signed_again : (s : SignedField) (v p end : ℕ) (more : List ℕ) → v < 2 * half s → begins_run more ≡ false → Takes (signed_number end (scale s) (half s)) (signed_text (scale s) (half s) v) v p more
unfolding tokens
signed_again s v p end more lt follows =
    let size = scale s in
    let count = half s in
    elim (cases_lt v count) [
      | inl small ↦
          let n = size * v in
          let d = is_decimal n (omega (arith, steps_below s v small, steps_small s)) in
          let text : signed_text size count v ≡ decimal n = cond-true (ltb v count) (decimal n) (45 ∷ decimal (size * (2 * count - v))) (lt-ltb v count small) in
          let value : in_steps size (at_most (size * count - 1) (number (decimal n))) ≡ Some v = ap (λ o. in_steps size (at_most (size * count - 1) o)) (number_again n (decimal n) d) ∙ ap (in_steps size) (at_most_again (size * count - 1) n (steps_below s v small)) ∙ steps_back s v in
          let ts = tokens (p + length (decimal n)) more in
          let reads : Takes (signed_number end size count) (decimal n) v p more =
          ap (signed_number end size count) (run_is_one_token p (decimal n) more (all_run_dec (decimal n) d.digits) d.some follows)
          ∙ cond-false (bytes_eq (decimal n) (45 ∷ [])) (one end (λ t. negated count (scaled size count t)) ts) (accept p ts (in_steps size (at_most (size * count - 1) (number (decimal n))))) (not_minus n (decimal n) d)
          ∙ ap (accept p ts) value in
          subst (λ (t : List ℕ). Takes (signed_number end size count) t v p more) (sym text) reads
      | inr large ↦
          let k = 2 * count - v in
          let n = size * k in
          let le : k ≤ count = omega arith in
          let d = is_decimal n (omega (arith, steps_up_to s k le, steps_small s)) in
          let text : signed_text size count v ≡ 45 ∷ decimal n = cond-false (ltb v count) (decimal (size * v)) (45 ∷ decimal n) (le-ltb v count large) in
          let back : 2 * count - k ≡ v = omega arith in
          let value : negated count (scaled size count (decimal n)) ≡ Some v =
          ap (λ o. negated count (in_steps size (at_most (size * count) o))) (number_again n (decimal n) d)
          ∙ ap (λ o. negated count (in_steps size o)) (at_most_again (size * count) n (steps_up_to s k le))
          ∙ ap (negated count) (steps_back s k)
          ∙ ap (λ (x : ℕ). Some x) (cond-false (eqb k 0) 0 (2 * count - k) (ne_eqb k 0 (λ e. omega arith)) ∙ back) in
          let at : (p + 1) + length (decimal n) ≡ p + length (45 ∷ decimal n) = omega arith in
          let reads : Takes (signed_number end size count) (45 ∷ decimal n) v p more =
          one_again (p + 1) end v (λ t. negated count (scaled size count t)) (decimal n) more (record { run = all_run_dec (decimal n) d.digits; some = d.some; value = value }) follows
          ∙ ap (λ (q : ℕ). Ok (v, tokens q more)) at in
          subst (λ (t : List ℕ). Takes (signed_number end size count) t v p more) (sym text) reads
    ]

-- ---- vtype

-- vtype after its first token, by whether that is an element width
abbrev vtype_from : ℕ → ℕ → Token → List Token → Option ℕ → Result (ℕ × List Token) ℕ
vtype_from end count t ts width = option_map_or (λ w. vtype_names end w ts) width (accept t.column ts (at_most (count - 1) (number t.text)))

abbrev comma : ℕ → List Token → Result (ℕ × List Token) ℕ
comma end ts = one end (literal (44 ∷ [])) ts

comma_again : (p end : ℕ) (more : List ℕ) → comma end (tokens p (44 ∷ 32 ∷ more)) ≡ Ok (0, tokens (p + 2) more)
unfolding tokens
comma_again p end more = let k : p + 1 + 1 ≡ p + 2 = omega arith in ap (λ (n : ℕ). Ok (0, tokens n more)) k

abbrev with_inactive : ℕ → ℕ → ℕ → ℕ → List Token → Result (ℕ × List Token) ℕ
with_inactive end width multiplier tail ts = one end vma ts >>= λ x. Ok (multiplier + width * 8 + tail * 64 + x.0 * 128, x.1)

abbrev with_tail : ℕ → ℕ → ℕ → List Token → Result (ℕ × List Token) ℕ
with_tail end width multiplier ts = one end vta ts >>= λ x. (comma end x.1 >>= λ c. with_inactive end width multiplier x.0 c.1)

abbrev with_multiplier : ℕ → ℕ → List Token → Result (ℕ × List Token) ℕ
with_multiplier end width ts = one end vlmul ts >>= λ x. (comma end x.1 >>= λ b. with_tail end width x.0 b.1)

bind_ok : (r : Result (ℕ × List Token) ℕ) (x : ℕ × List Token) (f : ℕ × List Token → Result (ℕ × List Token) ℕ) → r ≡ Ok x → (r >>= f) ≡ f x
bind_ok r x f h = ap (λ (q : Result (ℕ × List Token) ℕ). q >>= f) h

names_again : (end width : ℕ) (lmul : Lmul) (tail inactive : Bool) (p : ℕ) (more : List ℕ) → begins_run more ≡ false
    → vtype_names end width (tokens p (44 ∷ 32 ∷ (lmul_name lmul ++ (44 ∷ 32 ∷ (tail_name tail ++ (44 ∷ 32 ∷ (mask_name inactive ++ more)))))))
    ≡ Ok (lmul_number lmul + width * 8 + flag_bit tail * 64 + flag_bit inactive * 128, tokens (p + 2 + length (lmul_name lmul) + 2 + length (tail_name tail) + 2 + length (mask_name inactive)) more)
unfolding vtype_names
names_again end width lmul tail inactive p more follows =
    let third = mask_name inactive ++ more in
    let second = tail_name tail ++ (44 ∷ 32 ∷ third) in
    let first = lmul_name lmul ++ (44 ∷ 32 ∷ second) in
    let a = p + 2 in
    let b = a + length (lmul_name lmul) in
    let c = b + 2 in
    let d = c + length (tail_name tail) in
    let e = d + 2 in
    let f = e + length (mask_name inactive) in
    let multiplier = lmul_number lmul in
    bind_ok (comma end (tokens p (44 ∷ 32 ∷ first))) (0, tokens a first) (λ x. with_multiplier end width x.1) (comma_again p end first)
    ∙ bind_ok (one end vlmul (tokens a first)) (multiplier, tokens b (44 ∷ 32 ∷ second)) (λ x. (comma end x.1 >>= λ b. with_tail end width x.0 b.1)) (one_again a end multiplier vlmul (lmul_name lmul) (44 ∷ 32 ∷ second) (vlmul_again lmul) refl)
    ∙ bind_ok (comma end (tokens b (44 ∷ 32 ∷ second))) (0, tokens c second) (λ x. with_tail end width multiplier x.1) (comma_again b end second)
    ∙ bind_ok (one end vta (tokens c second)) (flag_bit tail, tokens d (44 ∷ 32 ∷ third)) (λ x. (comma end x.1 >>= λ c. with_inactive end width multiplier x.0 c.1)) (one_again c end (flag_bit tail) vta (tail_name tail) (44 ∷ 32 ∷ third) (vta_again tail) refl)
    ∙ bind_ok (comma end (tokens d (44 ∷ 32 ∷ third))) (0, tokens e third) (λ x. with_inactive end width multiplier (flag_bit tail) x.1) (comma_again d end third)
    ∙ bind_ok (one end vma (tokens e third)) (flag_bit inactive, tokens f more) (λ x. Ok (multiplier + width * 8 + flag_bit tail * 64 + x.0 * 128, x.1)) (one_again e end (flag_bit inactive) vma (mask_name inactive) more (vma_again inactive) follows)

names_text_append : (w l t i more : List ℕ) → (w ++ 44 ∷ 32 ∷ [] ++ l ++ 44 ∷ 32 ∷ [] ++ t ++ 44 ∷ 32 ∷ [] ++ i) ++ more ≡ w ++ (44 ∷ 32 ∷ (l ++ (44 ∷ 32 ∷ (t ++ (44 ∷ 32 ∷ (i ++ more))))))
names_text_append w l t i more = simp append_assoc refl

names_text_length : (w l t i : List ℕ) → length (w ++ 44 ∷ 32 ∷ [] ++ l ++ 44 ∷ 32 ∷ [] ++ t ++ 44 ∷ 32 ∷ [] ++ i) ≡ length w + 2 + length l + 2 + length t + 2 + length i
names_text_length w l t i = simp length-append refl

-- the names of vtype's fields
abbrev names_text : Sew → Lmul → Bool → Bool → List ℕ
names_text sew lmul tail inactive = sew_name sew ++ codes ", " ++ lmul_name lmul ++ codes ", " ++ tail_name tail ++ codes ", " ++ mask_name inactive

named_parts : (end count : ℕ) (sew : Sew) (lmul : Lmul) (tail inactive : Bool) (p : ℕ) (more : List ℕ) → begins_run more ≡ false
    → Takes (vtype end count) (names_text sew lmul tail inactive) (lmul_number lmul + sew_number sew * 8 + flag_bit tail * 64 + flag_bit inactive * 128) p more
named_parts end count sew lmul tail inactive p more follows =
    let others = 44 ∷ 32 ∷ (lmul_name lmul ++ (44 ∷ 32 ∷ (tail_name tail ++ (44 ∷ 32 ∷ (mask_name inactive ++ more))))) in
    let m = vsew_again sew in
    let q = p + length (sew_name sew) in
    let at : q + 2 + length (lmul_name lmul) + 2 + length (tail_name tail) + 2 + length (mask_name inactive) ≡ p + length (names_text sew lmul tail inactive) = omega (arith, names_text_length (sew_name sew) (lmul_name lmul) (tail_name tail) (mask_name inactive)) in
    ap (λ (t : List ℕ). vtype end count (tokens p t)) (names_text_append (sew_name sew) (lmul_name lmul) (tail_name tail) (mask_name inactive) more)
    ∙ ap (vtype end count) (run_is_one_token p (sew_name sew) others m.run m.some refl)
    ∙ ap (vtype_from end count (record { column = p; text = sew_name sew }) (tokens q others)) m.value
    ∙ names_again end (sew_number sew) lmul tail inactive q more follows
    ∙ ap (λ (k : ℕ). Ok (lmul_number lmul + sew_number sew * 8 + flag_bit tail * 64 + flag_bit inactive * 128, tokens k more)) at

-- a bit equals `flag_bit` of whether it is 1
bit_again : (n : ℕ) → n < 2 → n ≡ flag_bit (eqb n 1)
bit_again (suc (suc n)) lt = absurd (omega arith)
bit_again _ lt = refl

-- a vtype below 256 is the sum of its fields
parts_sum : (v sew lmul tail inactive : ℕ) → v < 256 → v / 8 % 8 ≡ sew → v % 8 ≡ lmul → v / 64 % 2 ≡ tail → v / 128 % 2 ≡ inactive → lmul + sew * 8 + tail * 64 + inactive * 128 ≡ v
parts_sum v sew lmul tail inactive small a b c d = omega arith

named_vtype : (end count v p : ℕ) (sew : Sew) (lmul : Lmul) (more : List ℕ) → v < 256 → sew_with_number (v / 8 % 8) ≡ Some sew → lmul_with_number (v % 8) ≡ Some lmul → begins_run more ≡ false
    → Takes (vtype end count) (names_text sew lmul (eqb (v / 64 % 2) 1) (eqb (v / 128 % 2) 1)) v p more
named_vtype end count v p sew lmul more small wide grouped follows =
    let tail = eqb (v / 64 % 2) 1 in
    let inactive = eqb (v / 128 % 2) 1 in
    let is : lmul_number lmul + sew_number sew * 8 + flag_bit tail * 64 + flag_bit inactive * 128 ≡ v =
    parts_sum v (sew_number sew) (lmul_number lmul) (flag_bit tail) (flag_bit inactive) small (sew_number_again (v / 8 % 8) sew wide) (lmul_number_again (v % 8) lmul grouped) (bit_again (v / 64 % 2) (omega arith)) (bit_again (v / 128 % 2) (omega arith)) in
    subst (λ (x : ℕ). Takes (vtype end count) (names_text sew lmul tail inactive) x p more) is (named_parts end count sew lmul tail inactive p more follows)

plain_vtype : (end count v p : ℕ) (more : List ℕ) → v < count → count ≤ 2 ^ 32 → begins_run more ≡ false → Takes (vtype end count) (decimal v) v p more
plain_vtype end count v p more lt small follows =
    let d = is_decimal v (omega arith) in
    let ts = tokens (p + length (decimal v)) more in
    ap (vtype end count) (run_is_one_token p (decimal v) more (all_run_dec (decimal v) d.digits) d.some follows)
    ∙ ap (vtype_from end count (record { column = p; text = decimal v }) ts) (vsew_digits v (decimal v) d)
    ∙ ap (λ o. accept p ts (at_most (count - 1) o)) (number_again v (decimal v) d)
    ∙ ap (accept p ts) (at_most_again (count - 1) v (omega arith))

-- by names if the fields have them
either_vtype : (end count v p : ℕ) (sew : Option Sew) (lmul : Option Lmul) (more : List ℕ) → v < 256 → sew_with_number (v / 8 % 8) ≡ sew → lmul_with_number (v % 8) ≡ lmul → v < count → count ≤ 2 ^ 32 → begins_run more ≡ false
    → Takes (vtype end count) (vtype_named sew lmul v) v p more
either_vtype end count v p (Some sew) (Some lmul) more small wide grouped lt le follows = named_vtype end count v p sew lmul more small wide grouped follows
either_vtype end count v p _ _ more small wide grouped lt le follows = plain_vtype end count v p more lt le follows

vtype_again : (end count v p : ℕ) (more : List ℕ) → v < count → count ≤ 2 ^ 32 → begins_run more ≡ false → Takes (vtype end count) (vtype_text v) v p more
vtype_again end count v p more lt small follows =
    let names = vtype_named (sew_with_number (v / 8 % 8)) (lmul_with_number (v % 8)) v in
    elim (cases_lt v 256) [
      | inl below ↦
          subst (λ (t : List ℕ). Takes (vtype end count) t v p more) (sym (cond-true (ltb v 256) names (decimal v) (lt-ltb v 256 below)))
          (either_vtype end count v p (sew_with_number (v / 8 % 8)) (lmul_with_number (v % 8)) more below refl refl lt small follows)
      | inr above ↦
          subst (λ (t : List ℕ). Takes (vtype end count) t v p more) (sym (cond-false (ltb v 256) names (decimal v) (le-ltb v 256 above)))
          (plain_vtype end count v p more lt small follows)
    ]

-- ---- slots

mask_again : (v p end : ℕ) → v < 2 → Takes (read end Mask) (printed Mask v) v p []
unfolding tokens
mask_again (suc (suc v)) p end lt = absurd (omega arith)
mask_again _ p end lt = refl

number_means : (largest v : ℕ) → v ≤ largest → largest < 2 ^ 32 → Means (λ t. at_most largest (number t)) (decimal v) v
number_means largest v le small =
    let d = is_decimal v (omega arith) in
    record { run = all_run_dec (decimal v) d.digits; some = d.some; value = ap (at_most largest) (number_again v (decimal v) d) ∙ at_most_again largest v le }

register_means : (l v : ℕ) → in_run l ≡ true → v < 32 → Means (register l) (l ∷ decimal v) v
register_means l v run lt =
    let d = is_decimal v (omega arith) in
    record { run = and_from (in_run l) (all_run (decimal v)) run (all_run_dec (decimal v) d.digits); some = omega arith; value = register_again l v lt }

word_means : (v : ℕ) → v < 2 ^ 32 → Means (λ t. at_most (2 ^ 32 - 1) (number t)) (48 ∷ 120 ∷ hex_digits 8 v) v
unfolding hex_digits
word_means v lt = record { run = hex_run 8 v; some = lit< tt; value = ap (at_most (2 ^ 32 - 1)) (hex_again v lt) ∙ at_most_again (2 ^ 32 - 1) v (omega arith) }

below_one_is_zero : (v : ℕ) → v < 1 → 0 ≡ v
below_one_is_zero v lt = omega arith

-- the printed text of an operand reads as that operand
pub slot_again : (s : Slot) (v p end : ℕ) (more : List ℕ) → v < value_count s → Follows s more → Takes (read end s) (printed s v) v p more
unfolding tokens
slot_again Comma v p end more fits follows = comma_again p end more ∙ ap (λ (x : ℕ). Ok (x, tokens (p + 2) more)) (below_one_is_zero v fits)
slot_again Open v p end more fits follows = ap (λ (x : ℕ). Ok (x, tokens (p + 1) more)) (below_one_is_zero v fits)
slot_again Close v p end more fits follows = ap (λ (x : ℕ). Ok (x, tokens (p + 1) more)) (below_one_is_zero v fits)
slot_again V0 v p end more fits follows =
    one_again p end 0 (literal (codes "v0")) (codes "v0") more (record { run = refl; some = lit< tt; value = refl }) follows ∙ ap (λ (x : ℕ). Ok (x, tokens (p + 2) more)) (below_one_is_zero v fits)
slot_again (Scalar r) v p end more fits follows = one_again p end v (register 120) (120 ∷ decimal v) more (register_means 120 v refl fits) follows
slot_again (Vector r) v p end more fits follows = one_again p end v (register 118) (118 ∷ decimal v) more (register_means 118 v refl fits) follows
slot_again (Unsigned u) v p end more fits follows = one_again p end v (λ t. at_most (limit u) (number t)) (decimal v) more (number_means (limit u) v (omega arith) (limit_small u)) follows
slot_again (Signed s) v p end more fits follows = signed_again s v p end more fits follows
slot_again Csr v p end more fits follows = one_again p end v csr (printed Csr v) more (csr_again v fits) follows
slot_again VectorType v p end more fits follows = vtype_again end 2048 v p more fits (lit≤ tt) follows
slot_again ShortVectorType v p end more fits follows = vtype_again end 1024 v p more fits (lit≤ tt) follows
slot_again Mask v p end more fits follows =
    subst (λ (m : List ℕ). Takes (read end Mask) (printed Mask v) v p m) (sym follows) (mask_again v p end fits)
slot_again Word v p end more fits follows = one_again p end v (λ t. at_most (2 ^ 32 - 1) (number t)) (48 ∷ 120 ∷ hex_digits 8 v) more (word_means v fits) follows
