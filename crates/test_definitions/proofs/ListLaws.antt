-- Parts, numbers and pieces of lists, by index.
use Rattle.std.proofs.Common.{ℕ, zero, suc, ◌+◌, ◌*◌, ◌^◌, ◌<◌, ◌≡◌, ◌==◌, min, Bool, true, false, cond, List, [], ◌∷◌, length, get_or, take, drop, refl, arith, eq-eqb, sym, ap, ◌∙◌}
use Rattle.std.proofs.Math.Nat.{mul-add, mul_assoc, mul_comm, mul-one, one-mul, zero-mul, pow-suc, pow-zero, zero-add}
use Rattle.std.proofs.lemmas.List.{take_all, length-take, length-drop, get_or-take, get_or-drop}
use Rattle.std.proofs.lemmas.List.Elements.{All-nil, All-cons, All-head, All-tail}
use Rattle.std.proofs.lemmas.List.Splits.{join_with_byte-slice_split, length-slice_split, slice_split_none, slice_split_at}
use Rattle.std.proofs.lemmas.List.Sums.{sum_by-cons}
use Rattle.std.specs.Prelude.{slice_index}
use Rattle.std.specs.List.{All, join_with_byte, onto_first, range_with_len, slice_split, sum_by}
use lib.Lanes.{number_l}
use Rattle.test_definitions.specs.ListLaws.{ChunkIsPart, ElementIsSum, Lacks, NumberIsSum, SplitIsSplit, SplitIsUnique, digits_sum}

-- ---- parts

pub chunk_is_part : ChunkIsPart
chunk_is_part at n xs =
    record {
      size = length-take n (drop at xs) ∙ ap (min n) (length-drop at xs);
      elements = λ j h. get_or-take n (drop at xs) j 0 h ∙ get_or-drop at xs j 0;
    }

-- ---- numbers

weights : (base w x i : ℕ) → w * (x * base ^ suc i) ≡ (w * base) * (x * base ^ i)
weights base w x i =
    ap (λ y. w * (x * y)) (pow-suc base i) ∙ ap (λ y. w * y) (sym (mul_assoc x (base ^ i) base) ∙ mul_comm (x * base ^ i) base)
    ∙ sym (mul_assoc w base (x * base ^ i))

no_digits : (base k : ℕ) → number_l base (take k []) ≡ 0
no_digits base zero = refl
no_digits base (suc k) = refl

-- the sum of k digits from index a on, where the first digit has the weight w
weighted : (base w a k : ℕ) (f : ℕ → ℕ) (digits : List ℕ) → ((i : ℕ) → f (a + i) ≡ w * (get_or digits i 0 * base ^ i))
    → sum_by f (range_with_len a k) ≡ w * number_l base (take k digits)
weighted base w a zero f digits each = omega arith
weighted base w a (suc k) f [] each =
    let here : f a ≡ 0 = ap f (omega arith) ∙ each 0 ∙ ap (λ y. w * y) (zero-mul (base ^ 0)) ∙ omega arith in
    let rest : sum_by f (range_with_len (a + 1) k) ≡ (w * base) * number_l base (take k []) =
    weighted base (w * base) (a + 1) k f [] (λ i. ap f (omega arith) ∙ each (suc i) ∙ weights base w 0 i) in
    let none : sum_by f (range_with_len (a + 1) k) ≡ 0 = rest ∙ ap (λ y. (w * base) * y) (no_digits base k) ∙ omega arith in
    sum_by-cons f a (range_with_len (a + 1) k) ∙ omega (arith, here, none)
weighted base w a (suc k) f (x ∷ xs) each =
    let n = number_l base (take k xs) in
    let here : f a ≡ w * x = ap f (omega arith) ∙ each 0 ∙ ap (λ y. w * (x * y)) (pow-zero base) ∙ ap (λ y. w * y) (mul-one x) in
    let rest : sum_by f (range_with_len (a + 1) k) ≡ (w * base) * n =
    weighted base (w * base) (a + 1) k f xs (λ i. ap f (omega arith) ∙ each (suc i) ∙ weights base w (get_or xs i 0) i) in
    sum_by-cons f a (range_with_len (a + 1) k) ∙ ap (λ y. y + sum_by f (range_with_len (a + 1) k)) here
    ∙ ap (λ y. w * x + y) (rest ∙ mul_assoc w base n) ∙ sym (mul-add w x (base * n))

-- the number of the first k digits
first_digits : (base k : ℕ) (digit : ℕ → ℕ) (digits : List ℕ) → ((i : ℕ) → digit i ≡ get_or digits i 0)
    → number_l base (take k digits) ≡ digits_sum base digit k
first_digits base k digit digits each =
    let f = λ (i : ℕ). digit i * base ^ i in
    let all : sum_by f (range_with_len 0 k) ≡ 1 * number_l base (take k digits) =
    weighted base 1 0 k f digits (λ i. ap f (zero-add i) ∙ ap (λ y. y * base ^ i) (each i) ∙ sym (one-mul (get_or digits i 0 * base ^ i))) in
    sym (all ∙ one-mul (number_l base (take k digits)))

pub number_is_sum : NumberIsSum
number_is_sum base digits =
    ap (number_l base) (sym (take_all (length digits) digits (omega arith))) ∙ first_digits base (length digits) (slice_index digits) digits (λ i. refl)

pub element_is_sum : ElementIsSum
element_is_sum k i bytes =
    first_digits 256 k (λ j. slice_index bytes (k * i + j)) (drop (k * i) bytes) (λ j. sym (get_or-drop (k * i) bytes j 0))

-- ---- pieces

lacks_by_test : (c x : ℕ) (parts : List (List ℕ)) (b : Bool) → (x == c) ≡ b → All (Lacks c) parts
    → All (Lacks c) (cond b ([] ∷ parts) (onto_first x parts))
lacks_by_test c x parts true e h = All-cons (Lacks c) [] parts (All-nil (λ b. (b == c) ≡ false)) h
lacks_by_test c x [] false e h =
    All-cons (Lacks c) (x ∷ []) [] (All-cons (λ b. (b == c) ≡ false) x [] e (All-nil (λ b. (b == c) ≡ false))) h
lacks_by_test c x (part ∷ parts) false e h =
    All-cons (Lacks c) (x ∷ part) parts (All-cons (λ b. (b == c) ≡ false) x part e (All-head (Lacks c) part parts h)) (All-tail (Lacks c) part parts h)

pieces_lack : (c : ℕ) (text : List ℕ) → All (Lacks c) (slice_split (λ b. b == c) text)
pieces_lack c [] = All-cons (Lacks c) [] [] (All-nil (λ b. (b == c) ≡ false)) (All-nil (Lacks c))
pieces_lack c (x ∷ xs) = lacks_by_test c x (slice_split (λ b. b == c) xs) (x == c) refl (pieces_lack c xs)

pub split_is_split : SplitIsSplit
split_is_split c text =
    record { joined = join_with_byte-slice_split c text; lacks = pieces_lack c text; count = length-slice_split (λ b. b == c) text }

same_byte : (c : ℕ) → (c == c) ≡ true
same_byte c = eq-eqb c c refl

split_joined : (c : ℕ) (pieces : List (List ℕ)) → 0 < length pieces → All (Lacks c) pieces
    → slice_split (λ b. b == c) (join_with_byte c pieces) ≡ pieces
split_joined c [] some lacks = absurd (omega (arith, some))
split_joined c (x ∷ []) some lacks = slice_split_none (λ b. b == c) x (All-head (Lacks c) x [] lacks)
split_joined c (x ∷ y ∷ ys) some lacks =
    slice_split_at (λ b. b == c) x c (join_with_byte c (y ∷ ys)) (All-head (Lacks c) x (y ∷ ys) lacks) (same_byte c)
    ∙ ap (λ r. x ∷ r) (split_joined c (y ∷ ys) (omega arith) (All-tail (Lacks c) x (y ∷ ys) lacks))

pub split_is_unique : SplitIsUnique
split_is_unique c text pieces is =
    sym (split_joined c pieces (omega (arith, is.count)) is.lacks) ∙ ap (slice_split (λ b. b == c)) is.joined
