-- The number of active elements of a body.
use Rattle.std.proofs.Common.{◌≡◌, ◌≤◌, ◌<◌, ◌+◌, ◌-◌, ◌&&◌, refl, ℕ, zero, suc, Bool, true, false, List, length, ap, ◌∙◌, sym, arith}
use Rattle.std.proofs.Math.Path.{fun_ext}
use Rattle.std.proofs.lemmas.Bool.Decides.{nat_tests}
use Rattle.std.specs.Int.{from_bool}
use Rattle.std.specs.List.{filter, range_with_len}
use Rattle.rv_model.specs.elements.Elements.{Body, in_range, is_active, mask_bit}
use Rattle.rv_model.specs.elements.Masks.{set_count}
use Rattle.rv_model.proofs.element_lemmas.Ranges.{count_more}
use Rattle.recording.specs.Classes.{active_count}
use Rattle.recording.specs.Runs.{execution_counts}
use Rattle.recording.specs.Sums.{Sums}

-- ---- with a mask

once : (here bit : Bool) → ((here && bit) && bit) ≡ (here && bit)
once true true = refl
once true false = refl
once false bit = refl

-- the active elements are those with a set mask bit
pub set_are_active : (mask : List ℕ) (start end : ℕ)
    → set_count (record { unmasked = false; mask = mask; start = start; end = end }) mask end ≡ active_count (record { unmasked = false; mask = mask; start = start; end = end })
set_are_active mask start end =
    ap (λ (test : ℕ → Bool). length (filter test (range_with_len 0 end)))
    (fun_ext (λ (i : ℕ). once (in_range start end i) (mask_bit mask i)))

-- ---- without a mask

abbrev whole : List ℕ → ℕ → ℕ → Body
whole mask start end = record { unmasked = true; mask = mask; start = start; end = end }

one_more : (mask : List ℕ) (start end n : ℕ) → n < end → (n - start) + from_bool (is_active (whole mask start end) n) ≡ n + 1 - start
one_more mask start end n below = grind (arith, nat_tests)

below_active : (mask : List ℕ) (start end n : ℕ) → n ≤ end → length (filter (is_active (whole mask start end)) (range_with_len 0 n)) ≡ n - start
below_active mask start end zero within = omega arith
below_active mask start end (suc n) within =
    let next : suc n ≡ n + 1 = omega arith in
    let was = below_active mask start end n (omega (arith, within)) in
    ap (λ (k : ℕ). length (filter (is_active (whole mask start end)) (range_with_len 0 k))) next
    ∙ count_more (is_active (whole mask start end)) n
    ∙ ap (λ (k : ℕ). k + from_bool (is_active (whole mask start end) n)) was
    ∙ one_more mask start end n (omega (arith, within))
    ∙ ap (λ (k : ℕ). k - start) (sym next)

-- all elements from the start on are active
pub all_are_active : (mask : List ℕ) (start end : ℕ) → active_count (whole mask start end) ≡ end - start
all_are_active mask start end = below_active mask start end end (let here : end ≤ end = omega arith in here)

-- ---- without elements

pub no_elements : (mask : List ℕ) (start ticks : ℕ)
    → execution_counts ticks (record { unmasked = true; mask = mask; start = start; end = 0 }) 0 ≡ record { times = 1; ticks = ticks; active = 0; masked = 0; tail = 0 }
no_elements mask start ticks =
    let none : 0 - start - 0 ≡ 0 = omega arith in
    ap (λ (n : ℕ). let made : Sums = record { times = 1; ticks = ticks; active = 0; masked = n; tail = 0 } in made) none
