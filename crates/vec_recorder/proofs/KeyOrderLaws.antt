-- Keys in ascending order: each key has one row, whose counts are the key's own
use Rattle.std.proofs.Common.{◌≡◌, ◌∙◌, ◌<◌, ◌≤◌, ◌+◌, ◌-◌, [], ◌∷◌, ℕ, Bool, true, false, List, add-zero, ap, ap₂, arith, eq-eqb, inl, inr, length, refl, subst, suc, sym, zero, zero-add}
use Rattle.std.specs.Prelude.{◌≢◌, ◌⊎◌, ◌==◌, ◌&&◌, ◌%◌, ◌^◌, if◌then◌else◌}
use Rattle.std.specs.List.{All, AllAdjacentBelow, AllByRecursion, slice_index_or}
use Rattle.std.proofs.lemmas.Bool.{ne_eqb}
use Rattle.std.proofs.lemmas.Bool.Decides.{eqb_tells}
use Rattle.std.proofs.lemmas.List.{get_or_default}
use Rattle.std.proofs.lemmas.List.Elements.{recursion_from_All}
use Rattle.std.proofs.lemmas.List.Sums.{sum_by-cons}
use Rattle.recording.specs.Runs.{shares}
use Rattle.recording.specs.Sums.{part_of, total}
use Rattle.recording.specs.declared.key.Key.{Key}
use Rattle.recording.specs.declared.row.Row.{Row}
use Rattle.recording.specs.declared.sums.Sums.{Sums}
use Rattle.rv_model.specs.step.Hart.{HartState}
use Rattle.vec_recorder.specs.KeyOrder.{Ascend, IsBefore, is_key, place_of}
use Rattle.vec_recorder.specs.Recorded.{AreCountsOf, HasOwnCounts}

-- ---- the order

before_trans : (a b c : Key) → IsBefore a b → IsBefore b c → IsBefore a c
before_trans a b c one two = elim one [
  | inl l ↦ elim two [ inl m ↦ inl (omega (arith, l, m)) | inr m ↦ inl (omega (arith, l, m.0)) ]
  | inr l ↦ elim two [
    | inl m ↦ inl (omega (arith, l.0, m))
    | inr m ↦ inr (
      omega (arith, l.0, m.0),
      elim l.1 [
        | inl p ↦ elim m.1 [ inl q ↦ inl (omega (arith, p, q)) | inr q ↦ inl (omega (arith, p, q.0)) ]
        | inr p ↦ elim m.1 [ inl q ↦ inl (omega (arith, p.0, q)) | inr q ↦ inr (omega (arith, p.0, q.0), omega (arith, p.1, q.1)) ]
      ],
    )
  ]
]

-- what holds of each row and the next one below a number holds of each row and each later one
later_than : (rows : List Row) (n : ℕ) → AllAdjacentBelow (λ row later. IsBefore row.key later.key) rows n → (i gap j : ℕ) (d : Row) → i + gap + 1 ≡ j → j < n
    → IsBefore (slice_index_or rows i d).key (slice_index_or rows j d).key
later_than rows n adjacent i zero j d is lt =
    let next : i + 1 ≡ j = omega (arith, is) in
    subst (λ (k : ℕ). IsBefore (slice_index_or rows i d).key (slice_index_or rows k d).key) next (adjacent i d (omega (arith, next, lt)))
later_than rows n adjacent i (suc gap) j d is lt =
    let mid = i + gap + 1 in
    let next : mid + 1 ≡ j = omega (arith, is) in
    let first = later_than rows n adjacent i gap mid d refl (omega (arith, next, lt)) in
    let second = subst (λ (k : ℕ). IsBefore (slice_index_or rows mid d).key (slice_index_or rows k d).key) next (adjacent mid d (omega (arith, next, lt))) in
    before_trans (slice_index_or rows i d).key (slice_index_or rows mid d).key (slice_index_or rows j d).key first second

-- one row further
pub one_further : (rows : List Row) (i : ℕ) (row later : Row) → 1 ≤ i → i < length rows → AllAdjacentBelow (λ one next. IsBefore one.key next.key) rows i
    → row ≡ slice_index_or rows (i - 1) row → later ≡ slice_index_or rows i later → IsBefore row.key later.key
    → AllAdjacentBelow (λ one next. IsBefore one.key next.key) rows (i + 1)
one_further rows i row later low lt adjacent row_is later_is before = λ k d less. elim (eqb_tells (k + 1) i) [
  | inl same ↦
      let at : k ≡ i - 1 = omega (arith, same.1, low) in
      let first : row ≡ slice_index_or rows k d =
      row_is ∙ sym (ap (λ (j : ℕ). slice_index_or rows j d) at ∙ get_or_default rows (i - 1) d row (omega (arith, lt))) in
      let second : later ≡ slice_index_or rows (k + 1) d = later_is ∙ sym (ap (λ (j : ℕ). slice_index_or rows j d) same.1 ∙ get_or_default rows i d later lt) in
      subst (λ r. IsBefore r.key (slice_index_or rows (k + 1) d).key) first (subst (λ r. IsBefore row.key r.key) second before)
  | inr apart ↦ adjacent k d (omega (arith, less, apart.1))
]

pub ascending : (rows : List Row) (n : ℕ) → AllAdjacentBelow (λ row later. IsBefore row.key later.key) rows n → length rows ≤ n → Ascend rows
ascending rows n adjacent end = λ i j d lt less. later_than rows n adjacent i (j - i - 1) j d (omega (arith, lt)) (omega (arith, less, end))

-- ---- equal keys

no_last : (t : Bool) → (t && false) ≡ false
no_last true = refl
no_last false = refl

no_middle : (t u : Bool) → (t && false && u) ≡ false
no_middle true u = refl
no_middle false u = refl

-- one pair of numbers differs
different : (a b c x y z : ℕ) → (a ≢ x) ⊎ ((b ≢ y) ⊎ (c ≢ z)) → (a == x && b == y && c == z) ≡ false
different a b c x y z (inl apart) = ap (λ (t : Bool). t && b == y && c == z) (ne_eqb a x apart)
different a b c x y z (inr (inl apart)) = ap (λ (t : Bool). a == x && t && c == z) (ne_eqb b y apart) ∙ no_middle (a == x) (c == z)
different a b c x y z (inr (inr apart)) = ap (λ (t : Bool). a == x && b == y && t) (ne_eqb c z apart) ∙ no_last (a == x && b == y)

all_true : (t u v : Bool) → t ≡ true → u ≡ true → v ≡ true → (t && u && v) ≡ true
all_true t u v one two three = rw (one, two, three) refl

same_key : (key : Key) → is_key key key ≡ true
same_key key =
    let place = place_of key in
    all_true (place.0 == place.0) (place.1 == place.1) (place.2 == place.2) (eq-eqb place.0 place.0 refl) (eq-eqb place.1 place.1 refl) (eq-eqb place.2 place.2 refl)

-- a later key is another one
other_later : (key later : Key) → IsBefore key later → is_key key later ≡ false
other_later key later before =
    let a = place_of key in
    let b = place_of later in
    different a.0 a.1 a.2 b.0 b.1 b.2 (elim before [
      | inl less ↦ inl (λ same. omega (arith, less, same))
      | inr rest ↦ elim rest.1 [ inl less ↦ inr (inl (λ same. omega (arith, less, same))) | inr last ↦ inr (inr (λ same. omega (arith, last.1, same))) ]
    ])

-- an earlier key is another one
other_earlier : (key later : Key) → IsBefore key later → is_key later key ≡ false
other_earlier key later before =
    let a = place_of key in
    let b = place_of later in
    different b.0 b.1 b.2 a.0 a.1 a.2 (elim before [
      | inl less ↦ inl (λ same. omega (arith, less, same))
      | inr rest ↦ elim rest.1 [ inl less ↦ inr (inl (λ same. omega (arith, less, same))) | inr last ↦ inr (inr (λ same. omega (arith, last.1, same))) ]
    ])

-- ---- the counts of one key

none_of : (number : Sums → ℕ) (key : Key) (rows : List Row) → AllByRecursion (λ row. is_key key row.key ≡ false) rows → total number (is_key key) rows ≡ 0
none_of number key [] none = refl
none_of number key (row ∷ rows) none =
    let first : part_of number (is_key key) row ≡ 0 = ap (λ (b : Bool). if b then number row.sums else 0) none.0 in
    sum_by-cons (part_of number (is_key key)) row rows ∙ ap₂ (λ (a b : ℕ). a + b) first (none_of number key rows none.1)

-- the sum over the rows with a row's key is the row's number
own_total : (number : Sums → ℕ) (rows : List Row) (i : ℕ) (d : Row) → i < length rows → Ascend rows
    → total number (is_key (slice_index_or rows i d).key) rows ≡ number (slice_index_or rows i d).sums
own_total number [] i d lt ascend = absurd (omega (arith, lt))
own_total number (row ∷ rows) zero d lt ascend =
    let others : All (λ other. is_key row.key other.key ≡ false) rows =
    λ k e less. other_later row.key (slice_index_or rows k e).key (ascend 0 (suc k) e (omega arith) (omega (arith, less))) in
    let first : part_of number (is_key row.key) row ≡ number row.sums = ap (λ (b : Bool). if b then number row.sums else 0) (same_key row.key) in
    sum_by-cons (part_of number (is_key row.key)) row rows
    ∙ (ap₂ (λ (a b : ℕ). a + b) first (none_of number row.key rows (recursion_from_All _ rows others)) ∙ add-zero (number row.sums))
own_total number (row ∷ rows) (suc i) d lt ascend =
    let own = slice_index_or rows i d in
    let first : part_of number (is_key own.key) row ≡ 0 =
    ap (λ (b : Bool). if b then number row.sums else 0) (other_earlier row.key own.key (ascend 0 (suc i) d (omega arith) lt)) in
    let rest = own_total number rows i d (omega (arith, lt)) (λ j k e less end. ascend (suc j) (suc k) e (omega (arith, less)) (omega (arith, end))) in
    sum_by-cons (part_of number (is_key own.key)) row rows ∙ (ap₂ (λ (a b : ℕ). a + b) first rest ∙ zero-add (number own.sums))

own_number : (found : List HartState) (number : Sums → ℕ) (rows : List Row) (i : ℕ) (d : Row) → i < length rows → Ascend rows
    → total number (is_key (slice_index_or rows i d).key) rows % 2 ^ 64 ≡ shares found number (is_key (slice_index_or rows i d).key) % 2 ^ 64
    → number (slice_index_or rows i d).sums % 2 ^ 64 ≡ shares found number (is_key (slice_index_or rows i d).key) % 2 ^ 64
own_number found number rows i d lt ascend counts = ap (λ n. n % 2 ^ 64) (sym (own_total number rows i d lt ascend)) ∙ counts

-- each row has the counts of its own key
pub owned : (found : List HartState) (rows : List Row) → Ascend rows → AreCountsOf found rows → All (HasOwnCounts found) rows
owned found rows ascend counts = λ i d lt.
    let each = counts (is_key (slice_index_or rows i d).key) in
    record {
      times = own_number found (λ s. s.times) rows i d lt ascend each.times;
      ticks = own_number found (λ s. s.ticks) rows i d lt ascend each.ticks;
      active = own_number found (λ s. s.active) rows i d lt ascend each.active;
      masked = own_number found (λ s. s.masked) rows i d lt ascend each.masked;
      tail = own_number found (λ s. s.tail) rows i d lt ascend each.tail;
    }
