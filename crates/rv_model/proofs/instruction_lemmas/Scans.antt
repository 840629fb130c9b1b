-- Results of a scan of the instruction table
use Rattle.std.proofs.Common.{◌≡◌, ◌≢◌, refl, ap, ◌∙◌, sym, subst, ℕ, zero, suc, List, [], ◌∷◌, ◌++◌, Option, Some, None, Bool, true, false, nat_eq, cond, not, ◌&&◌, inl, inr, ◌⊎◌, arith}
use Rattle.std.specs.Prelude.{IfSome, IfNone}
use Rattle.std.specs.List.{Contains, list_any, list_all}
use Rattle.std.specs.Option.{option_or}
use Rattle.std.specs.Int.Bits.{bit_and, and_comm}
use Rattle.std.proofs.lemmas.Nat.{and_assoc}
use Rattle.std.proofs.lemmas.Bool.Decides.{eqb_tells}
use Rattle.std.proofs.lemmas.Bool.{and_parts, eq-eqb, eqb-true, not-true}
use Rattle.std.proofs.lemmas.Bool.Decides.{nat_tests}
use Rattle.rv_model.specs.declared.instructions.instruction.Instr.{Instr}
use Rattle.rv_model.specs.instructions.Table.{Row, table, Matches, IsRow, scan}
use Rattle.rv_model.proofs.Choices.{first_or, of_bool}

-- a row is in a list
abbrev pub In : Row → List Row → Type 0
In r [] = ⊥
In r (s ∷ ss) = (s ≡ r) ⊎ In r ss

in_of : (t : List Row) (r : Row) → Contains t r → In r t
in_of [] r h = absurd (omega (arith, h.1))
in_of (s ∷ ss) r (zero, lt, e) = inl e
in_of (s ∷ ss) r (suc k, lt, e) = inr (in_of ss r (k, omega (arith, lt), e))

contains_of : (t : List Row) (r : Row) → In r t → Contains t r
contains_of [] r h = absurd h
contains_of (s ∷ ss) r (inl e) = (0, omega arith, e)
contains_of (s ∷ ss) r (inr h) = let q : Contains ss r = contains_of ss r h in (suc q.0, omega (arith, q.1), q.2)

-- no word can match both rows
abbrev pub apart : Row → Row → Bool
apart r s = not (nat_eq (bit_and r.bits s.mask) (bit_and s.bits r.mask))

-- no word can match the row and one of these rows
abbrev pub apart_from : Row → List Row → Bool
apart_from r [] = true
apart_from r (s ∷ ss) = apart r s && apart_from r ss

-- no word can match two of these rows
abbrev pub all_apart : List Row → Bool
all_apart [] = true
all_apart (r ∷ rs) = apart_from r rs && all_apart rs

-- the set bits of a row are among the bits that it fixes
abbrev pub is_inside : Row → Bool
is_inside r = nat_eq (bit_and r.bits r.mask) r.bits

-- a scan of two lists, one after the other
pub scan_append : (xs ys : List Row) (word : ℕ) → scan (xs ++ ys) word ≡ option_or (scan xs word) (scan ys word)
unfolding scan
scan_append [] ys word = refl
scan_append (r ∷ xs) ys word = search (arith, nat_tests, of_bool, scan_append xs ys word)

and_swap : (w a b : ℕ) → bit_and (bit_and w a) b ≡ bit_and (bit_and w b) a
and_swap w a b = and_assoc b w a ∙ ap (bit_and w) (and_comm a b) ∙ sym (and_assoc a w b)

-- the rows that a word with these bits can match
abbrev pub fits : ℕ → ℕ → Row → Bool
fits m v r = nat_eq (bit_and r.bits m) (bit_and v r.mask)

abbrev pub narrowed : ℕ → ℕ → List Row → List Row
narrowed m v [] = []
narrowed m v (r ∷ rs) = cond (fits m v r) (r ∷ narrowed m v rs) (narrowed m v rs)

cannot : (m v word : ℕ) → bit_and word m ≡ v → (r : Row) → fits m v r ≡ false
    → nat_eq (bit_and word r.mask) r.bits ≡ false
cannot m v word is r ne = search (arith, nat_tests, and_swap, eq-eqb, eqb_tells)

narrowed-step : (word : ℕ) (r : Row) (rs n : List Row) (b : Bool)
    → (b ≡ false → nat_eq (bit_and word r.mask) r.bits ≡ false) → scan rs word ≡ scan n word
    → scan (r ∷ rs) word ≡ scan (cond b (r ∷ n) n) word
unfolding scan
narrowed-step word r rs n b ne e = search (arith, nat_tests)

pub scan_narrow : (m v word : ℕ) → bit_and word m ≡ v → (t : List Row) → scan t word ≡ scan (narrowed m v t) word
scan_narrow m v word is [] = refl
scan_narrow m v word is (r ∷ rs) = search (cannot, narrowed-step, scan_narrow m v word is rs)

pub same_narrow : (m v word : ℕ) → bit_and word m ≡ v → (t s : List Row) → narrowed m v t ≡ narrowed m v s
    → scan t word ≡ scan s word
same_narrow m v word is t s e = scan_narrow m v word is t ∙ ap (λ x. scan x word) e ∙ sym (scan_narrow m v word is s)

-- a row fixes the bits of m to one of vs
abbrev pub one_of : ℕ → List ℕ → Row → Bool
one_of m vs r = nat_eq (bit_and r.mask m) m && list_any (λ v. nat_eq (bit_and r.bits m) v) vs

outside-row : (m : ℕ) (vs : List ℕ) (word : ℕ) → list_any (λ v. nat_eq (bit_and word m) v) vs ≡ false → (r : Row)
    → one_of m vs r ≡ true → nat_eq (bit_and word r.mask) r.bits ≡ false
outside-row m vs word none r fixed = search (arith, nat_tests, and_assoc, and_parts, eqb-true, eqb_tells)

pub outside : (m : ℕ) (vs : List ℕ) (word : ℕ) → list_any (λ v. nat_eq (bit_and word m) v) vs ≡ false → (t : List Row)
    → list_all (one_of m vs) t ≡ true → scan t word ≡ None
unfolding scan
outside m vs word none [] all = refl
outside m vs word none (r ∷ rs) all =
    let both : (one_of m vs r ≡ true) × (list_all (one_of m vs) rs ≡ true) = and_parts (one_of m vs r) (list_all (one_of m vs) rs) all in
    ap (λ b. cond b (Some (r.instr word)) (scan rs word)) (outside-row m vs word none r both.0) ∙ outside m vs word none rs both.1

none_cons : (a v : ℕ) (vs : List ℕ) → a ≢ v → list_any (λ x. nat_eq a x) vs ≡ false
    → list_any (λ x. nat_eq a x) (v ∷ vs) ≡ false
none_cons a v vs ne rest = search (arith, nat_tests, eqb_tells)

-- a number differs from each number of a list
abbrev pub DiffersFrom : List ℕ → ℕ → Type 0
DiffersFrom [] a = Unit {0}
DiffersFrom (v ∷ vs) a = (a ≢ v) × DiffersFrom vs a

none_of : (a : ℕ) (vs : List ℕ) → DiffersFrom vs a → list_any (λ x. nat_eq a x) vs ≡ false
none_of a [] h = refl
none_of a (v ∷ vs) h = none_cons a v vs h.0 (none_of a vs h.1)

-- a word whose bits of m are none of vs matches no row
pub no_scan : (m : ℕ) (vs : List ℕ) (word : ℕ) (t : List Row) → list_all (one_of m vs) t ≡ true
    → DiffersFrom vs (bit_and word m) → scan t word ≡ None
no_scan m vs word t all h = outside m vs word (none_of (bit_and word m) vs h) t all

pub apart_in : (s r : Row) (ss : List Row) → apart_from s ss ≡ true → In r ss → apart s r ≡ true
apart_in s r [] h here = absurd here
apart_in s r (x ∷ ss) h (inl e) = subst (λ y. apart s y ≡ true) e (and_parts (apart s x) (apart_from s ss) h).0
apart_in s r (x ∷ ss) h (inr later) = apart_in s r ss (and_parts (apart s x) (apart_from s ss) h).1 later

pub misses : (s r : Row) (word : ℕ) → apart s r ≡ true → bit_and word r.mask ≡ r.bits
    → nat_eq (bit_and word s.mask) s.bits ≡ false
misses s r word h is = search (arith, nat_tests, and_swap, eq-eqb, eqb_tells, not-true)

-- a scan finds the row of the table that matches
pub found : (t : List Row) → all_apart t ≡ true → (r : Row) → In r t → (word : ℕ) → bit_and word r.mask ≡ r.bits
    → scan t word ≡ Some (r.instr word)
unfolding scan
found [] h r here word is = absurd here
found (s ∷ ss) h r (inl e) word is = search (arith, nat_tests, eq-eqb)
found (s ∷ ss) h r (inr later) word is =
    let parts : (apart_from s ss ≡ true) × (all_apart ss ≡ true) = and_parts (apart_from s ss) (all_apart ss) h in
    ap (λ b. cond b (Some (s.instr word)) (scan ss word)) (misses s r word (apart_in s r ss parts.0 later) is) ∙ found ss parts.1 r later word is

pub table_apart : all_apart table ≡ true
unfolding table
table_apart = refl

true_false : (b : Bool) → b ≡ true → b ≡ false → ⊥
true_false b h k = cc

one : (t : List Row) → all_apart t ≡ true → (r s : Row) → In r t → In s t → (word : ℕ) → Matches r word
    → Matches s word → r ≡ s
one [] h r s a b word hr hs = absurd a
one (x ∷ xs) h r s (inl a) (inl b) word hr hs = sym a ∙ b
one (x ∷ xs) h r s (inl a) (inr b) word hr hs =
    let p : (apart_from x xs ≡ true) × (all_apart xs ≡ true) = and_parts (apart_from x xs) (all_apart xs) h in
    absurd (true_false (nat_eq (bit_and word x.mask) x.bits) (eq-eqb (bit_and word x.mask) x.bits (subst (λ y. bit_and word y.mask ≡ y.bits) (sym a) hr)) (misses x s word (apart_in x s xs p.0 b) hs))
one (x ∷ xs) h r s (inr a) (inl b) word hr hs =
    let p : (apart_from x xs ≡ true) × (all_apart xs ≡ true) = and_parts (apart_from x xs) (all_apart xs) h in
    absurd (true_false (nat_eq (bit_and word x.mask) x.bits) (eq-eqb (bit_and word x.mask) x.bits (subst (λ y. bit_and word y.mask ≡ y.bits) (sym b) hs)) (misses x r word (apart_in x r xs p.0 a) hr))
one (x ∷ xs) h r s (inr a) (inr b) word hr hs =
    one xs (and_parts (apart_from x xs) (all_apart xs) h).1 r s a b word hr hs

-- no word matches two rows
pub no_two_rows : (r s : Row) → Contains table r → Contains table s → (word : ℕ) → Matches r word → Matches s word → r ≡ s
no_two_rows r s a b = one table table_apart r s (in_of table r a) (in_of table s b)

pub some_row : (t : List Row) (word : ℕ) (i : Instr) → scan t word ≡ Some i
    → (r : Row) × In r t × Matches r word × (r.instr word ≡ i)
unfolding scan
some_row [] word i h = absurd (cc)
some_row (r ∷ rs) word i h =
    elim (first_or (nat_eq (bit_and word r.mask) r.bits) (r.instr word) i (scan rs word) h) [
      | inl e ↦ (r, inl refl, eqb-true (bit_and word r.mask) r.bits e.0, e.1)
      | inr later ↦ let q : (r : Row) × In r rs × Matches r word × (r.instr word ≡ i) = some_row rs word i later in (q.0, inr q.1, q.2, q.3)
    ]

pub found_row : (word : ℕ) (o : Option Instr) → o ≡ scan table word
    → IfSome o (λ i. (r : Row) × IsRow word r × (r.instr word ≡ i))
found_row word o is = search (arith, nat_tests, contains_of, some_row)

none_some : (x : Instr) (o : Option Instr) → o ≡ None → o ≡ Some x → ⊥
none_some x o h k = cc

pub no_row : (word : ℕ) (o : Option Instr) → o ≡ scan table word → IfNone o ((r : Row) → IsRow word r → ⊥)
no_row word None is =
    λ r h. none_some (r.instr word) (scan table word) (sym is) (found table table_apart r (in_of table r h.0) word h.1)
no_row word (Some i) is = tt

pub table_inside : list_all is_inside table ≡ true
unfolding table
table_inside = refl

pub all_in : (p : Row → Bool) (t : List Row) → list_all p t ≡ true → (r : Row) → In r t → p r ≡ true
all_in p [] h r here = absurd here
all_in p (s ∷ ss) h r (inl e) = subst (λ x. p x ≡ true) e (and_parts (p s) (list_all p ss) h).0
all_in p (s ∷ ss) h r (inr later) = all_in p ss (and_parts (p s) (list_all p ss) h).1 r later
