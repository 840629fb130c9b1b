-- The totals of the rows after the replacement of one row.
use Rattle.std.proofs.Common.{◌≡◌, ◌<◌, ◌+◌, ◌%◌, ◌^◌, ◌++◌, refl, ℕ, Bool, true, false, List, [], ◌∷◌, length, get_or, set, if◌then◌else◌, ap, ◌∙◌, sym, subst, arith}
use Rattle.std.proofs.lemmas.List.Sums.{sum_by-set, sum_by_push}
use Rattle.recording.specs.Sums.{HasMore, Key, Row, Sums, added, more_of, no_more, no_sums, part_of, total}

-- a number if it is selected, otherwise 0
abbrev pub if_asked : Bool → ℕ → ℕ
if_asked asked n = if asked then n else 0

-- the part of a row with a key
part_at : (number : Sums → ℕ) (asked : Key → Bool) (key : Key) (row : Row) → row.key ≡ key → part_of number asked row ≡ if_asked (asked key) (number row.sums)
part_at number asked key row here = ap (λ (k : Key). if_asked (asked k) (number row.sums)) here

-- an addition to one row is an addition to the total
wrapped_total : (asked : Bool) (old more total_new total_old : ℕ) → total_new + if_asked asked old ≡ total_old + if_asked asked ((old + more) % 2 ^ 64)
    → total_new % 2 ^ 64 ≡ (total_old + if_asked asked more) % 2 ^ 64
wrapped_total true old more total_new total_old e = omega (arith, e)
wrapped_total false old more total_new total_old e =
    let same : total_new ≡ total_old + 0 = omega (arith, e) in
    ap (λ (t : ℕ). t % 2 ^ 64) same

-- the row with an index is replaced by one with added counts
module _ (rows : List Row) (i : ℕ) (old new : Row) (there : i < length rows) (is : old ≡ get_or rows i old) where
  exchanged : (number : Sums → ℕ) (asked : Key → Bool) → total number asked (set rows i new) + part_of number asked old ≡ total number asked rows + part_of number asked new
  exchanged number asked =
      subst (λ (r : Row). total number asked (set rows i new) + part_of number asked r ≡ total number asked rows + part_of number asked new) (sym is)
      (sum_by-set (part_of number asked) rows i new old there)

  pub more_counted : (key : Key) (sums : Sums) → old.key ≡ key → new.key ≡ key → new.sums ≡ added old.sums sums
      → HasMore (more_of key sums) rows (set rows i new)
  more_counted key sums was now more asked =
      record {
        times = of (λ s. s.times) refl;
        ticks = of (λ s. s.ticks) refl;
        active = of (λ s. s.active) refl;
        masked = of (λ s. s.masked) refl;
        tail = of (λ s. s.tail) refl;
      }
    where
      of : (number : Sums → ℕ) → number (added old.sums sums) ≡ (number old.sums + number sums) % 2 ^ 64
          → total number asked (set rows i new) % 2 ^ 64 ≡ (total number asked rows + more_of key sums number asked) % 2 ^ 64
      of number adds =
          wrapped_total (asked key) (number old.sums) (number sums) (total number asked (set rows i new)) (total number asked rows)
          (ap (λ (n : ℕ). total number asked (set rows i new) + n) (sym (part_at number asked key old was))
          ∙ exchanged number asked
          ∙ ap (λ (n : ℕ). total number asked rows + n)
          (part_at number asked key new now ∙ ap (λ (n : ℕ). if_asked (asked key) n) (ap number more ∙ adds)))

-- ---- a new row with zero counts

pub row_added : (rows : List Row) (row : Row) (key : Key) → row.key ≡ key → row.sums ≡ no_sums → HasMore no_more rows (rows ++ row ∷ [])
row_added rows row key is none asked =
    record {
      times = of (λ s. s.times) refl;
      ticks = of (λ s. s.ticks) refl;
      active = of (λ s. s.active) refl;
      masked = of (λ s. s.masked) refl;
      tail = of (λ s. s.tail) refl;
    }
  where
    nothing : (b : Bool) (n : ℕ) → n ≡ 0 → if_asked b n ≡ 0
    nothing true n e = e
    nothing false n e = refl

    of : (number : Sums → ℕ) → number no_sums ≡ 0 → total number asked (rows ++ row ∷ []) % 2 ^ 64 ≡ (total number asked rows + 0) % 2 ^ 64
    of number zero =
        ap (λ (n : ℕ). n % 2 ^ 64)
        (sum_by_push (part_of number asked) rows row
        ∙ ap (λ (n : ℕ). total number asked rows + n) (part_at number asked key row is ∙ nothing (asked key) (number row.sums) (ap number none ∙ zero)))
