-- Counting how often a frame is free or used
use Rattle.std.proofs.Common.{◌≡◌, ℕ, ◌+◌, ◌<◌, ◌≤◌, Bool, cond, List, [], ◌∷◌, ◌++◌, length, get_or, take, refl, ◌∙◌, ap, arith, eq-eqb}
use Rattle.std.specs.Prelude.{nat_eq, nat_lt}
use Rattle.std.proofs.lemmas.Bool.Decides.{nat_tests}
use Rattle.std.proofs.lemmas.List.Sums.{sum_by-append}
use Rattle.std.proofs.lemmas.List.{take_more}
use Rattle.user_mem.specs.declared.entry.Entry.{Entry}
use Rattle.user_mem.specs.Frames.{times_free, times_used, ShareNoFrame}

pub times_used-none : (f : ℕ) → times_used f [] ≡ 0
unfolding times_used
times_used-none f = refl

pub times_free-none : (f : ℕ) → times_free f [] ≡ 0
unfolding times_free
times_free-none f = refl

pub times_free-append : (f : ℕ) (xs : List ℕ) (g : ℕ) → times_free f (xs ++ g ∷ []) ≡ times_free f xs + cond (nat_eq g f) 1 0
unfolding times_free
times_free-append f xs g = sum_by-append (λ h. cond (nat_eq h f) 1 0) xs (g ∷ []) ∙ omega arith

pub times_used-append : (f : ℕ) (xs : List Entry) (e : Entry) → times_used f (xs ++ e ∷ []) ≡ times_used f xs + cond (nat_eq e.frame f) 1 0
unfolding times_used
times_used-append f xs e = sum_by-append (λ h. cond (nat_eq h.frame f) 1 0) xs (e ∷ []) ∙ omega arith

pub counts_itself : (f : ℕ) → ◌≡◌ {A = ℕ} (cond (nat_eq f f) 1 0) 1
counts_itself f = ap (λ (b : Bool). cond b 1 0) (eq-eqb f f refl)

-- ---- one free frame

pub times_free-popped : (f : ℕ) (old new : List ℕ) (g : ℕ) → old ≡ new ++ g ∷ [] → times_free f old ≡ times_free f new + cond (nat_eq g f) 1 0
times_free-popped f old new g e = ap (times_free f) e ∙ times_free-append f new g

pub popped_is_free : (old new : List ℕ) (g : ℕ) → old ≡ new ++ g ∷ [] → 0 < times_free g old
popped_is_free old new g e =
    let sum : times_free g old ≡ times_free g new + 1 = times_free-popped g old new g e ∙ ap (λ (n : ℕ). times_free g new + n) (counts_itself g) in omega arith

pub free_is_unused : (old new : List ℕ) (g size : ℕ) (t : List Entry) → ShareNoFrame old size t → old ≡ new ++ g ∷ [] → times_used g t ≡ 0
free_is_unused old new g size t m e = let free = popped_is_free old new g e in let once = m.once g in omega arith

sum_moves : (n o t s k : ℕ) → o ≡ n + k → s ≡ t + k → n + s ≡ o + t
sum_moves n o t s k e q = omega arith

pub owners_when_taken : (f : ℕ) (old new : List ℕ) (g : ℕ) (t s : List Entry) → old ≡ new ++ g ∷ [] → times_used f s ≡ times_used f t + cond (nat_eq g f) 1 0 → times_free f new + times_used f s ≡ times_free f old + times_used f t
owners_when_taken f old new g t s e q = sum_moves (times_free f new) (times_free f old) (times_used f t) (times_used f s) (cond (nat_eq g f) 1 0) (times_free-popped f old new g e) q

part_of_sum : (n o k : ℕ) → o ≡ n + k → n ≤ o
part_of_sum n o k e = omega arith

pub fewer_when_popped : (f : ℕ) (old new : List ℕ) (g : ℕ) → old ≡ new ++ g ∷ [] → times_free f new ≤ times_free f old
fewer_when_popped f old new g e = part_of_sum (times_free f new) (times_free f old) (cond (nat_eq g f) 1 0) (times_free-popped f old new g e)

pub ShareNoFrame-fewer : (free after : List ℕ) (size same : ℕ) (t : List Entry) → ((f : ℕ) → times_free f after ≤ times_free f free) → same ≡ size → ShareNoFrame free size t → ShareNoFrame after same t
ShareNoFrame-fewer free after size same t less e m = record {
  once = λ f. let l = less f in let o = m.once f in omega arith;
  fit = λ f some. let l = less f in let o = m.fit f (omega arith) in omega arith;
}

sum_given_back : (n k s t u o : ℕ) → n ≡ o + k → o ≡ s + t → u ≡ t + k → n ≡ s + u
sum_given_back n k s t u o a b c = omega arith

pub owners_when_given_back : (f : ℕ) (start free new : List ℕ) (t s : List Entry) (i : ℕ) (d : Entry) → s ≡ t → i < length t → new ≡ free ++ (get_or s i d).frame ∷ []
    → times_free f free ≡ times_free f start + times_used f (take i t) → times_free f new ≡ times_free f start + times_used f (take (i + 1) t)
owners_when_given_back f start free new t s i d same lt e h =
    let here : new ≡ free ++ (get_or t i d).frame ∷ [] = e ∙ ap (λ (l : List Entry). free ++ (get_or l i d).frame ∷ []) same in
    sum_given_back (times_free f new) (cond (nat_eq (get_or t i d).frame f) 1 0) (times_free f start) (times_used f (take i t)) (times_used f (take (i + 1) t)) (times_free f free)
    (times_free-popped f new free (get_or t i d).frame here) h (ap (times_used f) (take_more t i d lt) ∙ times_used-append f (take i t) (get_or t i d))

-- ---- all frames free, in ascending order

below_next : (f n k : ℕ) → k ≡ cond (nat_lt f n) 1 0 → k + cond (nat_eq n f) 1 0 ≡ cond (nat_lt f (n + 1)) 1 0
below_next f n k e = grind (arith, nat_tests)

pub first_frames_more : (f n : ℕ) (free : List ℕ) → times_free f free ≡ cond (nat_lt f n) 1 0 → times_free f (free ++ n ∷ []) ≡ cond (nat_lt f (n + 1)) 1 0
first_frames_more f n free e = times_free-append f free n ∙ below_next f n (times_free f free) e

pub first_frames_none : (f : ℕ) (free : List ℕ) → free ≡ [] → times_free f free ≡ cond (nat_lt f 0) 1 0
first_frames_none f free e = below_zero f (times_free f free) (ap (times_free f) e ∙ times_free-none f)
  where
    below_zero : (f k : ℕ) → k ≡ 0 → k ≡ cond (nat_lt f 0) 1 0
    below_zero f k e = grind (arith, nat_tests)
