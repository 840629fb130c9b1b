-- Chunks of 32 bytes, written one after another.
use Rattle.std.proofs.Common.{ℕ, zero, suc, ◌+◌, ◌-◌, ◌*◌, ◌/◌, ◌%◌, ◌^◌, ◌<◌, ◌≤◌, ◌≡◌, List, length, get_or, take, drop, Bool, true, false, cond, ◌&&◌, ◌||◌, nat_lt, refl, sym, ap, ◌∙◌, arith, inl, inr, ◌⊎◌, lt-ltb, le-ltb, mul-one, not, eqb, Fits, w8, add-zero}
use Rattle.std.proofs.lemmas.Bool.Decides.{nat_tests}
use Rattle.std.proofs.lemmas.Bool.{cases_lt}
use Rattle.std.proofs.Math.Nat.{mul-le-mul_left, mul-suc, mul-add, mul_assoc, mul-zero, suc-mul}
use Rattle.std.proofs.lemmas.List.{drop-take, take-take, drop-drop}
use Rattle.std.proofs.lemmas.Simd.{length-put_chunk, get_or-put_chunk_at, get_or-put_chunk_below, get_or-put_chunk_above, length-chunk, get_or-chunk, Each1-chunk, below_from_Fits}
use Rattle.std.specs.Int.{byte_at}
use lib.Lanes.{Each1, number_l, chunk, put_chunk}
use Rattle.rv_model.specs.elements.Elements.{Body, element, in_body, is_enabled, is_active, is_changed, result_or_ones, byte_or}
use Rattle.rv_model.specs.lending.Writes.{Writes}
use Rattle.rv_model.proofs.element_lemmas.Writes.{byte_at-is}
use Rattle.lane_arith.proofs.MaskBits.{byte_of_number}

-- a write of chunk c with n elements of k bytes; only elements that satisfy `changed` change
pub record WritesChunk (k n c : ℕ) (changed : ℕ → Bool) (number : ℕ → ℕ) (old new : List ℕ) : Type 0 where
  pub same_length : length new ≡ length old
  pub inside : (i m : ℕ) → i < n → m < k → get_or new (k * (n * c + i) + m) 0 ≡ byte_or changed number old k (n * c + i) m
  pub outside : (j : ℕ) → (j < k * (n * c)) ⊎ (k * (n * c + n) ≤ j) → get_or new j 0 ≡ get_or old j 0

-- one more chunk extends the written elements
pub chunk_more : (k n c : ℕ) (W : ℕ → Bool) (F : ℕ → ℕ) (old mid new : List ℕ) → Writes k (λ e. W e && nat_lt e (n * c)) F old mid → WritesChunk k n c W F mid new
    → Writes k (λ e. W e && nat_lt e (n * (c + 1))) F old new
chunk_more k n c W F old mid new was step = record {
  same_length = step.same_length ∙ was.same_length;
  bytes = λ e m h l. elim (cases_lt e (n * c)) [
    | inl low ↦
        let far : k * suc e ≤ k * (n * c) = mul-le-mul_left k low in
        let before : k * e + m < k * (n * c) = omega (arith, mul-suc k e) in
        let a : nat_lt e (n * c) ≡ true = lt-ltb e (n * c) low in
        let b : nat_lt e (n * (c + 1)) ≡ true = lt-ltb e (n * (c + 1)) (omega (arith, mul-add n c 1, mul-one n)) in
        let r = was.bytes e m h l in
        rw (step.outside (k * e + m) (inl before), b) (rw a at r)
    | inr high ↦ elim (cases_lt e (n * c + n)) [
      | inl within ↦
          let i : ℕ = e - n * c in
          let is : n * c + i ≡ e = omega arith in
          let small : i < n = omega arith in
          let a : nat_lt e (n * c) ≡ false = le-ltb e (n * c) high in
          let b : nat_lt e (n * (c + 1)) ≡ true = lt-ltb e (n * (c + 1)) (omega (arith, mul-add n c 1, mul-one n)) in
          let now = step.inside i m small h in
          let then = was.bytes e m h l in
          rw b (join (W e) _ _ _ (rw is at now) (rw a at then))
      | inr past ↦
          let far : k * (n * c + n) ≤ k * e = mul-le-mul_left k past in
          let after : k * (n * c + n) ≤ k * e + m = omega arith in
          let a : nat_lt e (n * c) ≡ false = le-ltb e (n * c) high in
          let b : nat_lt e (n * (c + 1)) ≡ false = le-ltb e (n * (c + 1)) (omega (arith, mul-add n c 1, mul-one n)) in
          let r = was.bytes e m h l in
          rw (step.outside (k * e + m) (inr after), b) (rw a at r)
    ]
  ];
}
  where
    join : (w : Bool) (x y z : ℕ) {u : ℕ} → u ≡ cond w x y → y ≡ cond (w && false) x z → u ≡ cond (w && true) x z
    join true x y z p q = p
    join false x y z p q = p ∙ q

pub chunk_of_chunk : (s l t k : ℕ) (xs : List ℕ) → t + k ≤ l → chunk t k (chunk s l xs) ≡ chunk (s + t) k xs
chunk_of_chunk s l t k xs h =
    let e : l ≡ t + (l - t) = omega arith in
    let cut : drop t (take l (drop s xs)) ≡ take (l - t) (drop t (drop s xs)) = ap (λ n. drop t (take n (drop s xs))) e ∙ drop-take t (l - t) (drop s xs) in
    ap (λ ys. take k ys) cut ∙ take-take k (l - t) (drop t (drop s xs)) (omega arith) ∙ ap (λ ys. take k ys) (drop-drop t s xs)

-- the byte offset of element i of chunk c
pub place : (k n c i : ℕ) → k * n ≡ 32 → k * (n * c + i) ≡ 32 * c + k * i
place k n c i e = mul-add k (n * c) i ∙ ap (λ x. x + k * i) (sym (mul_assoc k n c) ∙ ap (λ x. x * c) e)

pub element_of_chunk : (k n c i : ℕ) (xs : List ℕ) → k * n ≡ 32 → i < n → element k (chunk (32 * c) 32 xs) i ≡ element k xs (n * c + i)
element_of_chunk k n c i xs e h =
    let low : k * suc i ≤ k * n = mul-le-mul_left k h in
    ap (number_l 256) (chunk_of_chunk (32 * c) 32 (k * i) k xs (omega (arith, mul-suc k i)) ∙ ap (λ x. chunk x k xs) (sym (place k n c i e)))

-- the bits of two numbers select results, all ones or unchanged bytes
pub step_any : (k n c : ℕ) (is_result is_one changed : ℕ → Bool) (number chunk_result : ℕ → ℕ) (ones : ℕ) (mid new made : List ℕ) (active filled : ℕ)
    → k * n ≡ 32 → 32 * c + 32 ≤ length mid → new ≡ put_chunk (32 * c) mid made → length made ≡ 32
    → ((i m : ℕ) → i < n → m < k → get_or made (k * i + m) 0
    ≡ cond (eqb (active / 2 ^ i % 2) 0) (cond (eqb (filled / 2 ^ i % 2) 0) (get_or (chunk (32 * c) 32 mid) (k * i + m) 0) (byte_at m ones)) (byte_at m (chunk_result i)))
    → ((i : ℕ) → i < n → eqb (active / 2 ^ i % 2) 0 ≡ not (is_result i))
    → ((i : ℕ) → i < n → eqb (filled / 2 ^ i % 2) 0 ≡ not (is_one i))
    → ((i : ℕ) → i < n → changed (n * c + i) ≡ (is_result i || (is_one i || false)))
    → ((i : ℕ) → i < n → number (n * c + i) ≡ cond (is_result i) (chunk_result i) ones)
    → WritesChunk k n c changed number mid new
step_any k n c is_result is_one changed number chunk_result ones mid new made active filled e room is long bytes actives filleds changes numbers = record {
  same_length = ap length is ∙ length-put_chunk (32 * c) mid made;
  inside = λ i m h l.
      let low : k * suc i ≤ k * n = mul-le-mul_left k h in
      let short : k * i + m < 32 = omega (arith, mul-suc k i) in
      let here : k * (n * c + i) + m ≡ 32 * c + (k * i + m) = omega (arith, place k n c i e) in
      rw (changes i h, numbers i h, here, is, get_or-put_chunk_at (32 * c) mid made (k * i + m) 0 (omega arith) (omega arith), bytes i m h l, actives i h, filleds i h, get_or-chunk (32 * c) 32 mid (k * i + m) 0 short)
      (pick (is_result i) (is_one i) m _ (chunk_result i));
  outside = λ j o. rw is (apart j o);
}
  where
    pick : (a f : Bool) (m x y : ℕ) → cond (not a) (cond (not f) x (byte_at m ones)) (byte_at m y) ≡ cond (a || (f || false)) (byte_at m (cond a y ones)) x
    pick true f m x y = refl
    pick false true m x y = refl
    pick false false m x y = refl

    apart : (j : ℕ) → (j < k * (n * c)) ⊎ (k * (n * c + n) ≤ j) → get_or (put_chunk (32 * c) mid made) j 0 ≡ get_or mid j 0
    apart j (inl low) = get_or-put_chunk_below (32 * c) mid made j 0 (omega (arith, place k n c 0 e, add-zero (n * c), mul-zero k))
    apart j (inr high) = get_or-put_chunk_above (32 * c) mid made j 0 (omega (arith, place k n c n e))

-- the same for the chunk with index c of a body's results
pub step_chunk : (k n c : ℕ) (body : Body) (fill_masked_off : Bool) (result chunk_result : ℕ → ℕ) (ones : ℕ) (mid new made : List ℕ) (active filled : ℕ)
    → k * n ≡ 32 → 32 * c + 32 ≤ length mid → new ≡ put_chunk (32 * c) mid made → length made ≡ 32
    → ((i m : ℕ) → i < n → m < k → get_or made (k * i + m) 0
    ≡ cond (eqb (active / 2 ^ i % 2) 0) (cond (eqb (filled / 2 ^ i % 2) 0) (get_or (chunk (32 * c) 32 mid) (k * i + m) 0) (byte_at m ones)) (byte_at m (chunk_result i)))
    → ((i : ℕ) → i < n → eqb (active / 2 ^ i % 2) 0 ≡ not (is_active body (n * c + i)))
    → ((i : ℕ) → i < n → eqb (filled / 2 ^ i % 2) 0 ≡ not (fill_masked_off && in_body body (n * c + i)))
    → ((i : ℕ) → i < n → chunk_result i ≡ result (n * c + i))
    → WritesChunk k n c (is_changed body fill_masked_off false) (result_or_ones body result ones) mid new
step_chunk k n c body fill_masked_off result chunk_result ones mid new made active filled e room is long bytes actives filleds same =
    step_any k n c (λ i. is_active body (n * c + i)) (λ i. fill_masked_off && in_body body (n * c + i))
    (is_changed body fill_masked_off false) (result_or_ones body result ones) chunk_result ones mid new made active filled e room is long bytes
    actives filleds (λ i h. either_way fill_masked_off (in_body body (n * c + i)) (is_enabled body (n * c + i))) (λ i h. rw (same i h) refl)
  where
    -- enabled elements of the body change anyway
    either_way : (m b l : Bool) → ((b && l) || ((m && (b && not l)) || false)) ≡ ((b && l) || ((m && b) || false))
    either_way m b l = grind (arith, nat_tests)

-- a chunk has at most 32 elements
pub few_in_chunk : (k n : ℕ) → 0 < k → k * n ≡ 32 → n ≤ 32
few_in_chunk zero n some e = absurd (omega arith)
few_in_chunk (suc k) n some e = omega (arith, e, suc-mul k n)

-- the bytes of an unchanged element are unchanged
pub merged_byte : (k n i m : ℕ) (old : List ℕ) → length old ≡ 32 → Each1 (Fits w8) old → k * n ≡ 32 → i < n → m < k → (a f : Bool) (x y : ℕ)
    → byte_at m (cond a (cond f (element k old i) y) x) ≡ cond a (cond f (get_or old (k * i + m) 0) (byte_at m y)) (byte_at m x)
merged_byte k n i m old long fits e h l false f x y = refl
merged_byte k n i m old long fits e h l true false x y = refl
merged_byte k n i m old long fits e h l true true x y =
    let low : k * suc i ≤ k * n = mul-le-mul_left k h in
    let zs = chunk (k * i) k old in
    let lz : length zs ≡ k = length-chunk (k * i) k old (omega (arith, mul-suc k i)) in
    let fz : Each1 (λ z. z < 256) zs = below_from_Fits w8 zs (Each1-chunk (Fits w8) (k * i) k old fits) in
    byte_at-is m (element k old i) ∙ byte_of_number zs m fz (omega arith) ∙ get_or-chunk (k * i) k old m 0 l
