-- Chunks of 32 bytes in which the chosen elements become ones.
use Rattle.std.proofs.Common.{ℕ, ◌+◌, ◌*◌, ◌/◌, ◌%◌, ◌^◌, ◌<◌, ◌≤◌, ◌≡◌, List, length, get_or, Bool, true, false, cond, ◌&&◌, ◌||◌, nat_lt, refl, sym, ap, ◌∙◌, arith, inl, inr, not, eqb}
use Rattle.std.proofs.Math.Nat.{mul-le-mul_left, mul-zero, mul_assoc, zero-div}
use Rattle.std.proofs.lemmas.Bool.{cases_lt}
use Rattle.std.proofs.lemmas.Bool.Decides.{nat_tests}
use Rattle.std.specs.Int.{byte_at}
use lib.Lanes.{chunk, put_chunk}
use Rattle.rv_model.specs.lending.Writes.{Writes}
use Rattle.rv_model.proofs.element_lemmas.Writes.{writes_none, writes_same}
use Rattle.lane_arith.proofs.ChunkWrites.{WritesChunk, step_any}

-- before the first chunk
pub first_chunk : (k n : ℕ) (W : ℕ → Bool) (F : ℕ → ℕ) (old : List ℕ) → Writes k (λ e. W e && nat_lt e (n * 0)) F old old
first_chunk k n W F old = writes_none k _ F old (λ e. none (W e) e (n * 0) (mul-zero n))
  where
    none : (w : Bool) (e z : ℕ) → z ≡ 0 → (w && nat_lt e z) ≡ false
    none w e z h = grind (arith, nat_tests)

-- one chunk, by the bits of its chosen elements
pub filled_chunk : (k n c : ℕ) (W : ℕ → Bool) (lane : ℕ → ℕ) (all : ℕ) (mid new made : List ℕ) (active : ℕ)
    → k * n ≡ 32 → 32 * c + 32 ≤ length mid → new ≡ put_chunk (32 * c) mid made → length made ≡ 32
    → ((i m : ℕ) → i < n → m < k → get_or made (k * i + m) 0
    ≡ cond (eqb (active / 2 ^ i % 2) 0) (cond (eqb (0 / 2 ^ i % 2) 0) (get_or (chunk (32 * c) 32 mid) (k * i + m) 0) (byte_at m all)) (byte_at m (lane i)))
    → ((i : ℕ) → i < n → eqb (active / 2 ^ i % 2) 0 ≡ not (W (n * c + i)))
    → ((i : ℕ) → i < n → lane i ≡ all)
    → WritesChunk k n c W (λ e. all) mid new
filled_chunk k n c W lane all mid new made active fills room is long bytes actives lanes =
    step_any k n c (λ i. W (n * c + i)) (λ i. false) W (λ e. all) lane all mid new made active 0 fills room is long bytes actives (λ i h. unset i)
    (λ i h. either (W (n * c + i))) (λ i h. same (W (n * c + i)) (lane i) (lanes i h))
  where
    unset : (i : ℕ) → eqb (0 / 2 ^ i % 2) 0 ≡ true
    unset i = rw (zero-div (2 ^ i)) refl

    either : (b : Bool) → b ≡ (b || (false || false))
    either true = refl
    either false = refl

    same : (b : Bool) (x : ℕ) → x ≡ all → all ≡ cond b x all
    same true x h = sym h
    same false x h = refl

-- after the last chunk
pub all_chunks : (k n c : ℕ) (W : ℕ → Bool) (F : ℕ → ℕ) (old new : List ℕ) → k * n ≡ 32 → length old ≡ 32 * c
    → Writes k (λ e. W e && nat_lt e (n * c)) F old new → Writes k W F old new
all_chunks k n c W F old new fills whole was =
    writes_same k (λ e. W e && nat_lt e (n * c)) W F F old new was (λ e h. every (W e) e (below e (omega (arith, h, whole)))) (λ e h. refl)
  where
    every : (w : Bool) (e : ℕ) → e < n * c → w ≡ (w && nat_lt e (n * c))
    every w e h = grind (arith, nat_tests)

    size : k * (n * c) ≡ 32 * c
    size = sym (mul_assoc k n c) ∙ ap (λ x. x * c) fills

    below : (e : ℕ) → k * e < 32 * c → e < n * c
    below e h = elim (cases_lt e (n * c)) [
      | inl low ↦ low
      | inr high ↦ (let up : k * (n * c) ≤ k * e = mul-le-mul_left k high in absurd (omega (arith, size)))
    ]
