-- The overlay of some elements of a fill: each element is as under the policy `keep` or as under `ones`; with all of them, all is as under
-- `ones`; and with none, as under `keep`.
use Rattle.std.proofs.Common.{ℕ, ◌+◌, ◌-◌, ◌*◌, ◌/◌, ◌<◌, ◌≤◌, ◌≡◌, ◌⊎◌, List, length, get_or, Bool, true, false, cond, ◌&&◌, ◌||◌, refl, sym, ap, ◌∙◌, arith, inl, inr}
use Rattle.std.specs.Int.{Width, w8, w16, w32, w64, byte_at}
use Rattle.std.proofs.lemmas.Bool.{cases_lt}
use Rattle.std.proofs.lemmas.Bool.Decides.{nat_tests}
use Rattle.std.proofs.lemmas.Grind.{same_number_lists}
use Rattle.std.proofs.lemmas.Simd.{length-put_chunk, get_or-put_chunk_below, get_or-put_chunk_at, get_or-put_chunk_above, length-chunk, get_or-chunk}
use lib.Lanes.{chunk, put_chunk}
use Rattle.rv_model.specs.declared.vector.sizes.TheConstants.{VLENB}
use Rattle.rv_model.specs.elements.Elements.{written}
use Rattle.rv_model.specs.elements.Formulas.{ones}
use Rattle.rv_model.specs.lending.Writes.{Writes}
use Rattle.rv_model.specs.vector.Groups.{group_of, registers, width_bytes, with_group}
use Rattle.rv_model.proofs.Choices.{of_bool}
use Rattle.rv_model.proofs.element_lemmas.Widths.{bytes_positive}
use Rattle.rv_model.proofs.element_lemmas.Writes.{writes_are, writes_same, writes_then, written_are}
use Rattle.open_choices.specs.Fills.{Fill, is_filled, with_ones}
use Rattle.open_choices.specs.OpenStep.{IsElementOf}

-- ---- parts of a list

-- a part that was put
pub chunk_put : (at n : ℕ) (xs ys : List ℕ) → length ys ≡ n → at + n ≤ length xs → chunk at n (put_chunk at xs ys) ≡ ys
chunk_put at n xs ys long fits =
    let room : at + n ≤ length (put_chunk at xs ys) = omega (arith, length-put_chunk at xs ys) in
    same_number_lists (chunk at n (put_chunk at xs ys)) ys (length-chunk at n (put_chunk at xs ys) room ∙ sym long)
    (λ j h.
    let small : j < n = omega (arith, length-chunk at n (put_chunk at xs ys) room, h) in
    get_or-chunk at n (put_chunk at xs ys) j 0 small ∙ get_or-put_chunk_at at xs ys j 0 (omega (arith, long)) (omega (arith, long)))

-- a part that is put over another one
pub put_put : (at : ℕ) (xs ys zs : List ℕ) → length ys ≡ length zs → at + length zs ≤ length xs → put_chunk at (put_chunk at xs ys) zs ≡ put_chunk at xs zs
put_put at xs ys zs long fits =
    same_number_lists (put_chunk at mid zs) (put_chunk at xs zs) (length-put_chunk at mid zs ∙ same ∙ sym (length-put_chunk at xs zs))
    (λ j h. elim (cases_lt j at) [
      | inl low ↦ get_or-put_chunk_below at mid zs j 0 low ∙ get_or-put_chunk_below at xs ys j 0 low ∙ sym (get_or-put_chunk_below at xs zs j 0 low)
      | inr high ↦ elim (cases_lt j (at + length zs)) [
        | inl inside ↦
            let e : j ≡ at + (j - at) = omega arith in
            ap (λ q. get_or (put_chunk at mid zs) q 0) e ∙ get_or-put_chunk_at at mid zs (j - at) 0 (omega arith) (omega (arith, same, fits))
            ∙ sym (ap (λ q. get_or (put_chunk at xs zs) q 0) e ∙ get_or-put_chunk_at at xs zs (j - at) 0 (omega arith) fits)
        | inr past ↦
            get_or-put_chunk_above at mid zs j 0 past ∙ get_or-put_chunk_above at xs ys j 0 (omega (arith, long)) ∙ sym (get_or-put_chunk_above at xs zs j 0 past)
      ]
    ])
  where
    mid : List ℕ
    mid = put_chunk at xs ys

    same : length (put_chunk at xs ys) ≡ length xs
    same = length-put_chunk at xs ys

-- a part that is put where it was
put_same : (at n : ℕ) (xs : List ℕ) → at + n ≤ length xs → put_chunk at xs (chunk at n xs) ≡ xs
put_same at n xs fits =
    same_number_lists (put_chunk at xs part) xs (length-put_chunk at xs part)
    (λ j h. elim (cases_lt j at) [
      | inl low ↦ get_or-put_chunk_below at xs part j 0 low
      | inr high ↦ elim (cases_lt j (at + n)) [
        | inl inside ↦
            let e : j ≡ at + (j - at) = omega arith in
            ap (λ q. get_or (put_chunk at xs part) q 0) e ∙ get_or-put_chunk_at at xs part (j - at) 0 (omega (arith, long)) (omega (arith, long, fits))
            ∙ get_or-chunk at n xs (j - at) 0 (omega arith) ∙ sym (ap (λ q. get_or xs q 0) e)
        | inr past ↦ get_or-put_chunk_above at xs part j 0 (omega (arith, long))
      ]
    ])
  where
    part : List ℕ
    part = chunk at n xs

    long : length (chunk at n xs) ≡ n
    long = length-chunk at n xs fits

-- ---- the place of an element of the registers in a group

-- number of elements of a register
abbrev pub per : Width → ℕ
per w = VLENB / width_bytes w

before : (w : Width) (vd e m : ℕ) → m < width_bytes w → e < per w * vd → width_bytes w * e + m < VLENB * vd
before w8 vd e m h low = omega arith
before w16 vd e m h low = omega arith
before w32 vd e m h low = omega arith
before w64 vd e m h low = omega arith
before _ vd e m h low = omega arith

after : (w : Width) (vd e m : ℕ) → per w * vd ≤ e → width_bytes w * e + m ≡ VLENB * vd + (width_bytes w * (e - per w * vd) + m)
after w8 vd e m high = omega arith
after w16 vd e m high = omega arith
after w32 vd e m high = omega arith
after w64 vd e m high = omega arith
after _ vd e m high = omega arith

-- ---- a fill

-- Under any policy the elements in `base` of the group get these numbers. Under the policy `ones` those that the fill selects, which are
-- others, become all ones.
pub record FillsBy (f : Fill) (old kept filled : List ℕ) : Type 0 where
  pub base : ℕ → Bool
  pub number : ℕ → ℕ
  pub apart : (i : ℕ) → is_filled f i ≡ true → base i ≡ false
  pub kept_is : kept ≡ with_group old f.first (written (width_bytes f.group.width) base number (group_of old f.first f.group.emul))
  pub filled_is : filled
      ≡ with_group old f.first
      (written (width_bytes f.group.width) (λ i. base i || is_filled f i) (λ i. cond (base i) (number i) (ones f.group.width)) (group_of old f.first f.group.emul))

and_true : (b : Bool) → (b && true) ≡ b
and_true true = refl
and_true false = refl

and_false : (b : Bool) → (b && false) ≡ false
and_false true = refl
and_false false = refl

module _ (f : Fill) (old kept filled : List ℕ) (by : FillsBy f old kept filled)
    (fits : VLENB * f.first + VLENB * registers f.group.emul ≤ length old) where
  abbrev k : ℕ
  k = width_bytes f.group.width

  abbrev all : ℕ
  all = ones f.group.width

  abbrev at : ℕ
  at = VLENB * f.first

  abbrev n : ℕ
  n = VLENB * registers f.group.emul

  abbrev group : List ℕ
  group = group_of old f.first f.group.emul

  abbrev a : List ℕ
  a = written k by.base by.number group

  abbrev c : List ℕ
  c = written k (λ i. by.base i || is_filled f i) (λ i. cond (by.base i) (by.number i) all) group

  positive : 0 < k
  positive = bytes_positive f.group.width

  a_writes : Writes k by.base by.number group a
  a_writes = written_are k by.base by.number group positive

  c_writes : Writes k (λ i. by.base i || is_filled f i) (λ i. cond (by.base i) (by.number i) all) group c
  c_writes = written_are k (λ i. by.base i || is_filled f i) (λ i. cond (by.base i) (by.number i) all) group positive

  group_long : length group ≡ n
  group_long = length-chunk at n old fits

  a_long : length a ≡ n
  a_long = a_writes.same_length ∙ group_long

  c_long : length c ≡ n
  c_long = c_writes.same_length ∙ group_long

  kept_group : group_of kept f.first f.group.emul ≡ a
  kept_group = ap (λ file. group_of file f.first f.group.emul) by.kept_is ∙ chunk_put at n old a a_long fits

  module _ (taken : ℕ → Bool) where
    abbrev set : ℕ → Bool
    set i = is_filled f i && taken i

    abbrev d : List ℕ
    d = written k set (λ i. all) a

    abbrev new : List ℕ
    new = with_ones f set kept

    d_writes : Writes k set (λ i. all) a d
    d_writes = written_are k set (λ i. all) a positive

    d_long : length d ≡ n
    d_long = d_writes.same_length ∙ a_long

    new_is : new ≡ put_chunk at kept d
    new_is = ap (λ bytes. with_group kept f.first (written k set (λ i. all) bytes)) kept_group

    over_old : new ≡ put_chunk at old d
    over_old = new_is ∙ ap (λ file. put_chunk at file d) by.kept_is ∙ put_put at old a d (a_long ∙ sym d_long) (omega (arith, fits, d_long))

    pub new_long : length new ≡ length kept
    new_long = ap length new_is ∙ length-put_chunk at kept d

    -- ---- the bytes of an element

    -- byte j of the group is that of a list that was put
    inside : (file bytes : List ℕ) (j : ℕ) → file ≡ put_chunk at old bytes → length bytes ≡ n → j < n → get_or file (at + j) 0 ≡ get_or bytes j 0
    inside file bytes j is long h = ap (λ l. get_or l (at + j) 0) is ∙ get_or-put_chunk_at at old bytes j 0 (omega (arith, long)) (omega (arith, long, fits))

    below : (file bytes : List ℕ) (q : ℕ) → file ≡ put_chunk at old bytes → q < at → get_or file q 0 ≡ get_or old q 0
    below file bytes q is low = ap (λ l. get_or l q 0) is ∙ get_or-put_chunk_below at old bytes q 0 low

    above : (file bytes : List ℕ) (q : ℕ) → file ≡ put_chunk at old bytes → length bytes ≡ n → at + n ≤ q → get_or file q 0 ≡ get_or old q 0
    above file bytes q is long high = ap (λ l. get_or l q 0) is ∙ get_or-put_chunk_above at old bytes q 0 (omega (arith, long))

    abbrev byte_if : ℕ → ℕ → Bool → ℕ
    byte_if i m b = cond b (byte_at m all) (get_or a (k * i + m) 0)

    -- a byte of an element of the group that isn't taken
    group_kept : (i m : ℕ) → m < k → k * i + m < n → taken i ≡ false → get_or d (k * i + m) 0 ≡ get_or a (k * i + m) 0
    group_kept i m h l not_so =
        d_writes.bytes i m h (omega (arith, a_long)) ∙ ap (λ t. byte_if i m (is_filled f i && t)) not_so ∙ ap (byte_if i m) (and_false (is_filled f i))

    -- a byte of one that is taken and filled
    group_filled : (i m : ℕ) → m < k → k * i + m < n → taken i ≡ true → is_filled f i ≡ true → get_or d (k * i + m) 0 ≡ get_or c (k * i + m) 0
    group_filled i m h l is_taken is =
        d_writes.bytes i m h (omega (arith, a_long)) ∙ ap (λ t. byte_if i m (is_filled f i && t)) is_taken ∙ ap (λ t. byte_if i m (t && true)) is
        ∙ sym (c_writes.bytes i m h (omega (arith, group_long)) ∙ ap (λ t. cond (by.base i || t) (byte_at m (cond (by.base i) (by.number i) all)) (get_or group (k * i + m) 0)) is
        ∙ ap (λ b. cond (b || true) (byte_at m (cond b (by.number i) all)) (get_or group (k * i + m) 0)) (by.apart i is))

    -- a byte of one that is taken and not filled
    group_other : (i m : ℕ) → m < k → k * i + m < n → is_filled f i ≡ false → get_or d (k * i + m) 0 ≡ get_or a (k * i + m) 0
    group_other i m h l not_so = d_writes.bytes i m h (omega (arith, a_long)) ∙ ap (λ t. byte_if i m (t && taken i)) not_so

    abbrev Either : ℕ → Type 0
    Either e = IsElementOf k kept new e ⊎ IsElementOf k filled new e

    -- an element before the group
    early : (e : ℕ) → e < per f.group.width * f.first → Either e
    early e low =
        inl (λ m h l.
        let before_it : k * e + m < at = before f.group.width f.first e m h low in
        below new d (k * e + m) over_old before_it ∙ sym (below kept a (k * e + m) by.kept_is before_it))

    -- the bytes of an element of the group or behind it are those of another list, if they are so in the group
    from_group : (e m : ℕ) (file bytes : List ℕ) → per f.group.width * f.first ≤ e → file ≡ put_chunk at old bytes → length bytes ≡ n
        → (k * (e - per f.group.width * f.first) + m < n → get_or d (k * (e - per f.group.width * f.first) + m) 0 ≡ get_or bytes (k * (e - per f.group.width * f.first) + m) 0)
        → get_or new (k * e + m) 0 ≡ get_or file (k * e + m) 0
    from_group e m file bytes high is long same =
        let j : ℕ = k * (e - per f.group.width * f.first) + m in
        let place : k * e + m ≡ at + j = after f.group.width f.first e m high in
        elim (cases_lt j n) [
          | inl low ↦
              ap (λ q. get_or new q 0) place ∙ inside new d j over_old d_long low ∙ same low ∙ sym (ap (λ q. get_or file q 0) place ∙ inside file bytes j is long low)
          | inr past ↦ above new d (k * e + m) over_old d_long (omega (arith, place)) ∙ sym (above file bytes (k * e + m) is long (omega (arith, place)))
        ]

    late : (e : ℕ) → per f.group.width * f.first ≤ e → Either e
    late e high =
        let i : ℕ = e - per f.group.width * f.first in
        of_bool (taken i) (λ t. Either e)
        (λ is_taken. of_bool (is_filled f i) (λ t. Either e)
        (λ is. inr (λ m h l. from_group e m filled c high by.filled_is c_long (λ low. group_filled i m h low is_taken is)))
        (λ not_so. inl (λ m h l. from_group e m kept a high by.kept_is a_long (λ low. group_other i m h low not_so))))
        (λ not_so. inl (λ m h l. from_group e m kept a high by.kept_is a_long (λ low. group_kept i m h low not_so)))

    pub either_of : (e : ℕ) → Either e
    either_of e = elim (cases_lt e (per f.group.width * f.first)) [ inl low ↦ early e low | inr high ↦ late e high ]

    -- ---- all, and none

    pub all_taken : ((i : ℕ) → taken i ≡ true) → new ≡ filled
    all_taken every =
        over_old
        ∙ ap (λ bytes. put_chunk at old bytes)
        (writes_are k (λ i. by.base i || is_filled f i) (λ i. cond (by.base i) (by.number i) all) group d positive
        (writes_same k (λ i. by.base i || set i) (λ i. by.base i || is_filled f i) (λ i. cond (set i) all (by.number i)) (λ i. cond (by.base i) (by.number i) all) group d
        (writes_then k by.base set by.number (λ i. all) group a d a_writes d_writes) (λ i h. same_set i) (λ i h. same_one i h)))
        ∙ sym by.filled_is
      where
        is_set : (i : ℕ) → set i ≡ is_filled f i
        is_set i = ap (λ t. is_filled f i && t) (every i) ∙ and_true (is_filled f i)

        same_set : (i : ℕ) → (by.base i || is_filled f i) ≡ (by.base i || set i)
        same_set i = ap (λ t. by.base i || t) (sym (is_set i))

        by_fill : (b t : Bool) (x : ℕ) → (t ≡ true → b ≡ false) → (b || t) ≡ true → cond b x all ≡ cond t all x
        by_fill true true x h e = search (arith, nat_tests)
        by_fill true false x h e = refl
        by_fill false true x h e = refl
        by_fill false false x h e = search (arith, nat_tests)

        same_one : (i : ℕ) → (by.base i || set i) ≡ true → cond (by.base i) (by.number i) all ≡ cond (set i) all (by.number i)
        same_one i h =
            by_fill (by.base i) (is_filled f i) (by.number i) (by.apart i) (same_set i ∙ h) ∙ ap (λ t. cond t all (by.number i)) (sym (is_set i))

    pub none_taken : ((i : ℕ) → taken i ≡ false) → new ≡ kept
    none_taken none =
        over_old
        ∙ ap (λ bytes. put_chunk at old bytes)
        (writes_are k by.base by.number group d positive (writes_same k (λ i. by.base i || set i) by.base (λ i. cond (set i) all (by.number i)) by.number group d
        (writes_then k by.base set by.number (λ i. all) group a d a_writes d_writes) (λ i h. same_base i) (λ i h. same_one i)))
        ∙ sym by.kept_is
      where
        unset : (i : ℕ) → set i ≡ false
        unset i = ap (λ t. is_filled f i && t) (none i) ∙ and_false (is_filled f i)

        or_false : (b : Bool) → b ≡ (b || false)
        or_false true = refl
        or_false false = refl

        same_base : (i : ℕ) → by.base i ≡ (by.base i || set i)
        same_base i = or_false (by.base i) ∙ ap (λ t. by.base i || t) (sym (unset i))

        same_one : (i : ℕ) → by.number i ≡ cond (set i) all (by.number i)
        same_one i = ap (λ t. cond t all (by.number i)) (sym (unset i))
