-- Laws about replacing some elements in a list of bytes, one after another or all at once.
use Rattle.std.proofs.Common.{ℕ, zero, suc, ◌+◌, ◌-◌, ◌*◌, ◌/◌, ◌%◌, ◌^◌, ◌<◌, ◌≤◌, ◌≡◌, List, [], ◌∷◌, ◌++◌, length, get_or, drop, set, Bool, true, false, cond, ◌&&◌, ◌||◌, nat_lt, refl, sym, ap, ◌∙◌, arith, inl, inr, lt-ltb, append-nil, length-drop, zero-add}
use Rattle.std.proofs.lemmas.Bool.{cases_order}
use Rattle.std.proofs.lemmas.Bool.Decides.{nat_tests}
use Rattle.std.proofs.lemmas.Grind.{same_number_lists}
use Rattle.std.proofs.lemmas.List.{drop_all}
use Rattle.std.proofs.lemmas.List.FromFn.{get_or-map-range_with_len, length-map-range_with_len}
use Rattle.std.proofs.lemmas.Simd.{length-put_chunk, put_chunk_is, get_or-put_chunk_below, get_or-put_chunk_at, get_or-put_chunk_above, length-chunk, get_or-chunk}
use Rattle.std.proofs.Math.Nat.{mul-le-mul_left, mul-suc, div-one, div-div-eq-div-mul, div-eq_of_lt, pow-suc, div-add-mod, mod-eq_of_lt, mod-lt, mul-add-div, mul-add-mod_self_left}
use Rattle.std.proofs.Math.Arith.{mod-mul}
use Rattle.std.specs.Int.{byte_at, bytes_low_first}
use borrow.Rule.Slice.PartMut.{put_mid}
use lib.Lanes.{chunk, put_chunk, number_l}
use Rattle.rv_model.specs.elements.Elements.{element, written}
use Rattle.rv_model.specs.lending.Writes.{Writes}
use Rattle.rv_model.proofs.Choices.{of_bool}

-- ---- the bytes of a number

pub length-bytes : (i k n : ℕ) → length (bytes_low_first i k n) ≡ k
length-bytes i zero n = refl
length-bytes i (suc k) n = ap suc (length-bytes (suc i) k n)

pub get_or-bytes : (i k n m : ℕ) → m < k → get_or (bytes_low_first i k n) m 0 ≡ byte_at (i + m) n
get_or-bytes i zero n m h = absurd (omega arith)
get_or-bytes i (suc k) n zero h = let e : i + 0 ≡ i = omega arith in rw e refl
get_or-bytes i (suc k) n (suc m) h = let e : i + suc m ≡ suc i + m = omega arith in rw e (get_or-bytes (suc i) k n m (omega arith))

-- a byte of a number
pub byte_at-is : (m n : ℕ) → byte_at m n ≡ n / 256 ^ m % 256
byte_at-is m n = search (arith, nat_tests, div-one)

pub positive_power : (k : ℕ) → 0 < 256 ^ k
positive_power zero = omega arith
positive_power (suc k) = rw pow-suc (omega (arith, positive_power k))

number_bytes : (i k n : ℕ) → number_l 256 (bytes_low_first i k n) ≡ n / 256 ^ i % 256 ^ k
number_bytes i zero n = omega arith
number_bytes i (suc k) n = search (arith, byte_at-is, div-div-eq-div-mul, mod-mul, positive_power, pow-suc, number_bytes (suc i) k n)

-- ---- writes one after another

-- a write of one byte
pub set_is_put : (xs : List ℕ) (i y : ℕ) → set xs i y ≡ put_chunk i xs (y ∷ [])
set_is_put [] i y = refl
set_is_put (x ∷ xs) zero y = ap (λ l. y ∷ l) (sym (none xs))
  where
    none : (l : List ℕ) → put_chunk zero l [] ≡ l
    none [] = refl
    none (z ∷ zs) = refl
set_is_put (x ∷ xs) (suc i) y = ap (λ l. x ∷ l) (set_is_put xs i y)

-- a write of the first bytes of the rest of a slice
pub rest_is_put : (at : ℕ) (xs ys buf : List ℕ) → at + length ys ≤ length xs → buf ≡ ys ++ drop (length ys) (drop at xs) → put_mid at (length xs - at) xs buf ≡ put_chunk at xs ys
rest_is_put at xs ys buf h e =
    rw (drop_all (length xs - at) (drop at xs) (omega (arith, length-drop at xs)), append-nil buf, e, put_chunk_is at xs ys h) refl

-- no write
pub writes_none : (k : ℕ) (W : ℕ → Bool) (F : ℕ → ℕ) (xs : List ℕ) → ((e : ℕ) → W e ≡ false) → Writes k W F xs xs
writes_none k W F xs none = record { same_length = refl; bytes = λ e m h l. rw (none e) refl }

-- writes depend only on the test for the existing elements and on the values of the changed ones
pub writes_same : (k : ℕ) (W V : ℕ → Bool) (F G : ℕ → ℕ) (old new : List ℕ) → Writes k W F old new
    → ((e : ℕ) → k * e < length old → V e ≡ W e) → ((e : ℕ) → W e ≡ true → G e ≡ F e) → Writes k V G old new
writes_same k W V F G old new was same numbers = search (arith, of_bool)

-- a write of element i
writes_more : (k : ℕ) (W V : ℕ → Bool) (F : ℕ → ℕ) (old mid : List ℕ) (i : ℕ) → k * i + k ≤ length old → Writes k W F old mid → V i ≡ true → ((e : ℕ) → (e ≡ i → ⊥) → V e ≡ W e)
    → Writes k V F old (put_chunk (k * i) mid (bytes_low_first 0 k (F i)))
writes_more k W V F old mid i fits was here others =
    let ys = bytes_low_first 0 k (F i) in
    let long : length ys ≡ k = length-bytes 0 k (F i) in
    record {
      same_length = length-put_chunk (k * i) mid ys ∙ was.same_length;
      bytes = λ e m h l. elim (cases_order e i) [
        | inr (inl low) ↦
            let apart : k * suc e ≤ k * i = mul-le-mul_left k low in
            rw (get_or-put_chunk_below (k * i) mid ys (k * e + m) 0 (omega (arith, mul-suc k e)), others e (λ q. omega (arith, q))) (was.bytes e m h l)
        | inl is ↦
            rw (is, here, get_or-put_chunk_at (k * i) mid ys m 0 (omega arith) (omega arith)) (get_or-bytes 0 k (F i) m h ∙ ap (λ n. byte_at n (F i)) (zero-add m))
        | inr (inr high) ↦
            let apart : k * suc i ≤ k * e = mul-le-mul_left k high in
            rw (get_or-put_chunk_above (k * i) mid ys (k * e + m) 0 (omega (arith, mul-suc k i)), others e (λ q. omega (arith, q))) (was.bytes e m h l)
      ];
    }

-- A loop's step at the index i, for an element that changes and for one that doesn't.
module _ (k : ℕ) (W : ℕ → Bool) (F : ℕ → ℕ) (old mid new : List ℕ) (i : ℕ) where
  others : (e : ℕ) → (e ≡ i → ⊥) → (W e && nat_lt e (i + 1)) ≡ (W e && nat_lt e i)
  others e ne = search (arith, nat_tests)

  pub step_written : Writes k (λ e. W e && nat_lt e i) F old mid → W i ≡ true → k * i + k ≤ length old
      → new ≡ put_chunk (k * i) mid (bytes_low_first 0 k (F i)) → Writes k (λ e. W e && nat_lt e (i + 1)) F old new
  step_written was h fits e =
      rw e (writes_more k (λ x. W x && nat_lt x i) (λ x. W x && nat_lt x (i + 1)) F old mid i fits was
      (rw (h, lt-ltb i (i + 1) (omega arith)) refl) others)

  pub step_kept : Writes k (λ e. W e && nat_lt e i) F old mid → W i ≡ false → new ≡ mid → Writes k (λ e. W e && nat_lt e (i + 1)) F old new
  step_kept was h e = search (arith, cases_order, others, writes_same)

-- the state before a loop from i on
pub begins : (k : ℕ) (W : ℕ → Bool) (F : ℕ → ℕ) (xs : List ℕ) (i : ℕ) → ((e : ℕ) → W e ≡ true → i ≤ e) → Writes k (λ e. W e && nat_lt e i) F xs xs
begins k W F xs i from = search (arith, nat_tests, of_bool, writes_none)

-- the state after a loop up to i
pub ends : (k : ℕ) (W : ℕ → Bool) (F : ℕ → ℕ) (old new : List ℕ) (i : ℕ) → Writes k (λ e. W e && nat_lt e i) F old new → ((e : ℕ) → W e ≡ true → e < i) → Writes k W F old new
ends k W F old new i was to = search (arith, nat_tests, of_bool, writes_same)

-- two writes; the second takes precedence
pub writes_then : (k : ℕ) (V W : ℕ → Bool) (F G : ℕ → ℕ) (old mid new : List ℕ) → Writes k V F old mid → Writes k W G mid new
    → Writes k (λ e. V e || W e) (λ e. cond (W e) (G e) (F e)) old new
writes_then k V W F G old mid new first second = search arith

-- ---- the resulting bytes

-- the writes determine the bytes
pub writes_are : (k : ℕ) (W : ℕ → Bool) (F : ℕ → ℕ) (old new : List ℕ) → 0 < k → Writes k W F old new → new ≡ written k W F old
unfolding written
writes_are k W F old new positive w = search (arith, div-add-mod, get_or-map-range_with_len, length-map-range_with_len, mod-lt, same_number_lists)

-- the written bytes satisfy the writes
pub written_are : (k : ℕ) (W : ℕ → Bool) (F : ℕ → ℕ) (old : List ℕ) → 0 < k → Writes k W F old (written k W F old)
unfolding written
written_are k W F old positive =
    search (arith, div-eq_of_lt, get_or-map-range_with_len, length-map-range_with_len, mod-eq_of_lt, mul-add-div, mul-add-mod_self_left)

-- an element after its write
pub written_element : (k : ℕ) (W : ℕ → Bool) (F : ℕ → ℕ) (old new : List ℕ) (e : ℕ) → Writes k W F old new → W e ≡ true → k * e + k ≤ length old
    → element k new e ≡ F e % 256 ^ k
written_element k W F old new e w here fits =
    let room : k * e + k ≤ length new = omega (arith, w.same_length) in
    let same : chunk (k * e) k new ≡ bytes_low_first 0 k (F e) =
    same_number_lists (chunk (k * e) k new) (bytes_low_first 0 k (F e)) (length-chunk (k * e) k new room ∙ sym (length-bytes 0 k (F e)))
    (λ j h.
    let small : j < k = omega (arith, length-chunk (k * e) k new room, h) in
    get_or-chunk (k * e) k new j 0 small ∙ w.bytes e j small (omega arith) ∙ ap (λ b. cond b (byte_at j (F e)) (get_or old (k * e + j) 0)) here
    ∙ sym (get_or-bytes 0 k (F e) j small ∙ ap (λ n. byte_at n (F e)) (zero-add j))) in
    ap (number_l 256) same ∙ number_bytes 0 k (F e) ∙ ap (λ x. x % 256 ^ k) (div-one (F e))
