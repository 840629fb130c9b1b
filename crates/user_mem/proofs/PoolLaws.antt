-- Consequences of the pool's invariant, and its preservation
use Rattle.std.proofs.Common.{◌≡◌, ◌≢◌, ℕ, zero, suc, ◌+◌, ◌*◌, ◌<◌, ◌≤◌, Bool, true, false, cond, List, [], ◌∷◌, length, get_or, set, Some, refl, sym, ◌∙◌, ap, subst, inl, inr, arith, ne_eqb, eq-eqb, rules, get_or-set_same, get_or-set_other, length-set}
use Rattle.std.specs.Prelude.{nat_lt}
use Rattle.std.specs.List.{sum_by}
use Rattle.std.specs.FinMap.{empty}
use Rattle.std.proofs.lemmas.Bool.{cases_eq}
use Rattle.std.proofs.lemmas.List.{map-set, set-get_or}
use Rattle.std.proofs.lemmas.List.Sums.{sum_by-cons, sum_by-set, get_or-le-sum_by}
use Rattle.rv_model.specs.memory.Memory.{Memory}
use Rattle.rv_model.specs.memory.Sizes.{page_size, page_quota, frame_count}
use Rattle.rv_model.specs.machine.Setup.{user_count}
use Rattle.user_mem.specs.declared.entry.Entry.{Entry}
use Rattle.user_mem.specs.Table.{entry_at, memory_of, IsSorted, AreBelow, FitIn, AreSeparate, AreApart}
use Rattle.user_mem.specs.Frames.{times_free, times_used, ShareNoFrame}
use Rattle.user_mem.specs.Pool.{IsPool, owners, used_in_all, table_at, memories_of}
use Rattle.user_mem.proofs.FrameLaws.{entry_is_used, times_used-cons}
use Rattle.user_mem.proofs.CountLaws.{times_used-none}

at_most_one : (b : Bool) → ◌≤◌ (cond b 1 0) 1
at_most_one true = omega arith
at_most_one false = omega arith

-- if one user is below the quota, a frame is free
pub room_left : (xs : List (List Entry)) (u : ℕ) → u < length xs → ((v : ℕ) → length (get_or xs v []) ≤ page_quota) → used_in_all xs + page_quota ≤ page_quota * length xs + length (get_or xs u [])
unfolding used_in_all
room_left [] u h few = absurd (omega arith)
room_left (x ∷ xs) zero h few = let rest = all_few xs (λ v. few (suc v)) in omega (arith, sum_by-cons (λ (t : List Entry). length t) x xs)
  where
    all_few : (xs : List (List Entry)) → ((v : ℕ) → length (get_or xs v []) ≤ page_quota) → sum_by (λ t. length t) xs ≤ page_quota * length xs
    all_few [] few = omega arith
    all_few (x ∷ xs) few = let rest = all_few xs (λ v. few (suc v)) in let here = few 0 in omega (arith, sum_by-cons (λ (t : List Entry). length t) x xs)
room_left (x ∷ xs) (suc u) h few = let rest = room_left xs u (omega arith) (λ v. few (suc v)) in let here = few 0 in omega (arith, sum_by-cons (λ (t : List Entry). length t) x xs)

pub owners-set : (f : ℕ) (free after : List ℕ) (tables : List (List Entry)) (u : ℕ) (t : List Entry) → u < length tables
    → times_free f after + times_used f t ≡ times_free f free + times_used f (table_at tables u) → owners f after (set tables u t) ≡ owners f free tables
unfolding owners
owners-set f free after tables u t h e = let s = sum_by-set (times_used f) tables u t [] h in omega arith

pub used_in_all-set : (tables : List (List Entry)) (u : ℕ) (t : List Entry) → u < length tables → used_in_all (set tables u t) + length (table_at tables u) ≡ used_in_all tables + length t
unfolding used_in_all
used_in_all-set tables u t h = sum_by-set (λ t. length t) tables u t [] h

-- a frame that is free or used is within the bytes
owned_frame_fits : (tables : List (List Entry)) (free frames : List ℕ) (f : ℕ) → IsPool tables free frames → 0 < owners f free tables → page_size * f + page_size ≤ length frames
owned_frame_fits tables free frames f p some = fits (nat_lt f frame_count) refl
  where
    fits : (b : Bool) → nat_lt f frame_count ≡ b → page_size * f + page_size ≤ length frames
    fits true e = let s = p.size in let l : f < frame_count = search rules in omega arith
    fits false e = let o : owners f free tables ≡ 0 = p.once f ∙ ap (λ (b : Bool). cond b 1 0) e in absurd (omega arith)

-- a user's table and the list of free frames share no frame
pub pool_shares_no_frame : (tables : List (List Entry)) (free frames : List ℕ) (u : ℕ) → IsPool tables free frames → u < user_count → ShareNoFrame free (length frames) (table_at tables u)
unfolding owners
pool_shares_no_frame tables free frames u p h = record {
  once = λ f.
      let at = get_or-le-sum_by (times_used f) tables u [] (omega (arith, p.users)) in
      let o = p.once f in let few = at_most_one (nat_lt f frame_count) in omega arith;
  fit = λ f some. owned_frame_fits tables free frames f p (omega arith);
}

pub frames_left : (tables : List (List Entry)) (free frames : List ℕ) (u count : ℕ) → IsPool tables free frames → u < user_count → length (table_at tables u) + count ≤ page_quota → count ≤ length free
frames_left tables free frames u count p h room =
    let left = room_left tables u (omega (arith, p.users)) p.few in let t = p.total in let e = p.users in omega arith

pub room_to_give_back : (tables : List (List Entry)) (free frames : List ℕ) (u : ℕ) → IsPool tables free frames → u < user_count → length free + length (table_at tables u) ≤ frame_count
unfolding used_in_all
room_to_give_back tables free frames u p h =
    let at = get_or-le-sum_by (λ (t : List Entry). length t) tables u [] (omega (arith, p.users)) in let t = p.total in omega arith

-- a predicate of all tables holds after replacing one of them with a table that satisfies it
tables_keep : (P : List Entry → Type 0) (tables : List (List Entry)) (u : ℕ) (t : List Entry) → u < length tables → P t → ((v : ℕ) → P (table_at tables v)) → (v : ℕ) → P (table_at (set tables u t) v)
tables_keep P tables u t h here all v = elim (cases_eq v u) [
  | inl e ↦
      let same : get_or (set tables u t) v [] ≡ t = ap (λ (w : ℕ). get_or (set tables u t) w []) e ∙ get_or-set_same tables u t [] h in
      subst P (sym same) here
  | inr n ↦ subst P (sym (get_or-set_other tables u v t [] n)) (all v)
]

-- the part of the invariant that concerns a single table
pub record IsTable (t : List Entry) : Type 0 where
  pub few : length t ≤ page_quota
  pub sorted : IsSorted t
  pub below : AreBelow t

pub no_table : IsTable []
no_table = record { few = omega arith; sorted = λ i j d l h. absurd (omega arith); below = λ p e h. absurd (cc) }

-- replacing a user's table preserves the invariant if the counts of free and used frames agree
pub IsPool-set : (tables : List (List Entry)) (free after frames now : List ℕ) (u : ℕ) (t : List Entry) → IsPool tables free frames → u < user_count
    → length now ≡ length frames → IsTable t
    → ((f : ℕ) → times_free f after + times_used f t ≡ times_free f free + times_used f (table_at tables u))
    → length after + length t ≡ length free + length (table_at tables u)
    → IsPool (set tables u t) after now
IsPool-set tables free after frames now u t p h same own_table own len =
    let within : u < length tables = omega (arith, p.users) in
    record {
      users = length-set tables u t ∙ p.users;
      size = same ∙ p.size;
      few = tables_keep (λ t. length t ≤ page_quota) tables u t within own_table.few p.few;
      sorted = tables_keep (λ t. IsSorted t) tables u t within own_table.sorted p.sorted;
      below = tables_keep (λ t. AreBelow t) tables u t within own_table.below p.below;
      once = λ f. owners-set f free after tables u t within (own f) ∙ p.once f;
      total = let s = used_in_all-set tables u t within in let old = p.total in omega arith;
    }

pub used_at_most_once : (tables : List (List Entry)) (free frames : List ℕ) (u f : ℕ) → IsPool tables free frames → u < user_count → times_used f (table_at tables u) ≤ 1
used_at_most_once tables free frames u f p h = let m = pool_shares_no_frame tables free frames u p h in let o = m.once f in omega arith

pub table_fits : (tables : List (List Entry)) (free frames : List ℕ) (u : ℕ) → IsPool tables free frames → u < user_count → FitIn (table_at tables u) (length frames)
unfolding owners
table_fits tables free frames u p h = λ q e s.
    let used = entry_is_used (table_at tables u) q e s in
    let at = get_or-le-sum_by (times_used e.frame) tables u [] (omega (arith, p.users)) in
    owned_frame_fits tables free frames e.frame p (omega arith)

pub used_twice : (es : List Entry) (p q : ℕ) (e g : Entry) → entry_at es p ≡ Some e → entry_at es q ≡ Some g → p ≢ q → e.frame ≡ g.frame → 2 ≤ times_used e.frame es
used_twice [] p q e g h k n s = absurd (cc)
used_twice (x ∷ xs) p q e g h k n s = elim (cases_eq x.page p) [
  | inl a ↦
      let here : Some x ≡ Some e = ap (λ (b : Bool). cond b (Some x) (entry_at xs p)) (sym (eq-eqb x.page p a)) ∙ h in
      let frame : x.frame ≡ e.frame = cc in
      let rest : entry_at xs q ≡ Some g = ap (λ (b : Bool). cond b (Some x) (entry_at xs q)) (sym (ne_eqb x.page q (λ z. n (sym a ∙ z)))) ∙ k in
      let more : 0 < times_used e.frame xs = subst (λ (f : ℕ). 0 < times_used f xs) (sym s) (entry_is_used xs q g rest) in
      let sum : times_used e.frame (x ∷ xs) ≡ 1 + times_used e.frame xs = times_used-cons e.frame x xs ∙ ap (λ (b : Bool). cond b 1 0 + times_used e.frame xs) (eq-eqb x.frame e.frame frame) in
      omega arith
  | inr a ↦
      let rest : entry_at xs p ≡ Some e = ap (λ (b : Bool). cond b (Some x) (entry_at xs p)) (sym (ne_eqb x.page p a)) ∙ h in
      elim (cases_eq x.page q) [
        | inl b ↦
            let here : Some x ≡ Some g = ap (λ (b : Bool). cond b (Some x) (entry_at xs q)) (sym (eq-eqb x.page q b)) ∙ k in
            let frame : x.frame ≡ e.frame = cc in
            let more = entry_is_used xs p e rest in
            let sum : times_used e.frame (x ∷ xs) ≡ 1 + times_used e.frame xs = times_used-cons e.frame x xs ∙ ap (λ (b : Bool). cond b 1 0 + times_used e.frame xs) (eq-eqb x.frame e.frame frame) in
            omega arith
        | inr b ↦
            let last : entry_at xs q ≡ Some g = ap (λ (b : Bool). cond b (Some x) (entry_at xs q)) (sym (ne_eqb x.page q b)) ∙ k in
            let more = used_twice xs p q e g rest last n s in
            omega (arith, times_used-cons e.frame x xs)
      ]
]

pub table_is_separate : (tables : List (List Entry)) (free frames : List ℕ) (u : ℕ) → IsPool tables free frames → u < user_count → AreSeparate (table_at tables u)
table_is_separate tables free frames u pool l = λ p q e g h k s. elim (cases_eq p q) [
  | inl same ↦ same
  | inr n ↦ let two = used_twice (table_at tables u) p q e g h k n s in let one = used_at_most_once tables free frames u e.frame pool l in absurd (omega arith)
]

pub tables_are_apart : (tables : List (List Entry)) (free frames : List ℕ) (u v : ℕ) → IsPool tables free frames → u < user_count → v < user_count → u ≢ v → AreApart (table_at tables u) (get_or tables v [])
unfolding owners
tables_are_apart tables free frames u v pool l m n = λ p q e g h k s.
    let a = entry_is_used (table_at tables u) p e h in
    let b : 0 < times_used e.frame (get_or tables v []) = subst (λ (f : ℕ). 0 < times_used f (get_or tables v [])) (sym s) (entry_is_used (get_or tables v []) q g k) in
    let within : u < length tables = omega (arith, pool.users) in
    let without = sum_by-set (times_used e.frame) tables u [] [] within in
    let beside = get_or-set_other tables u v [] [] (λ z. n (sym z)) in
    let there = get_or-le-sum_by (times_used e.frame) (set tables u []) v [] (omega (arith, pool.users, length-set tables u [])) in
    let same = ap (times_used e.frame) beside in
    let o = pool.once e.frame in let few = at_most_one (nat_lt e.frame frame_count) in
    let none = times_used-none e.frame in
    omega arith

-- ---- the memories of all users

memories_of-same : (frames now : List ℕ) (tables : List (List Entry)) → ((v : ℕ) → v < length tables → memory_of now (table_at tables v) ≡ memory_of frames (table_at tables v)) → memories_of now tables ≡ memories_of frames tables
memories_of-same frames now [] e = refl
memories_of-same frames now (x ∷ xs) e =
    let here : memory_of now x ≡ memory_of frames x = e 0 (omega arith) in
    let rest : memories_of now xs ≡ memories_of frames xs = memories_of-same frames now xs (λ v l. e (suc v) (omega arith)) in cc

-- replacing one table replaces that user's memory; those of all other users are unchanged
pub memories_of-set : (frames now : List ℕ) (tables : List (List Entry)) (u : ℕ) (t : List Entry) (m : Memory) → u < length tables
    → ((v : ℕ) → v < length tables → v ≢ u → memory_of now (table_at tables v) ≡ memory_of frames (table_at tables v)) → memory_of now t ≡ m
    → memories_of now (set tables u t) ≡ set (memories_of frames tables) u m
memories_of-set frames now [] u t m l others e = absurd (omega arith)
memories_of-set frames now (x ∷ xs) zero t m l others e =
    let rest : memories_of now xs ≡ memories_of frames xs = memories_of-same frames now xs (λ v l. others (suc v) (omega arith) (λ q. omega arith)) in cc
memories_of-set frames now (x ∷ xs) (suc u) t m l others e =
    let here : memory_of now x ≡ memory_of frames x = others 0 (omega arith) (λ q. omega arith) in
    let rest : memories_of now (set xs u t) ≡ set (memories_of frames xs) u m = memories_of-set frames now xs u t m (omega arith) (λ v l n. others (suc v) (omega arith) (λ q. n (omega arith))) e in cc

-- a write to one user's pages leaves the memories of all other users unchanged
pub memories_of-written : (tables : List (List Entry)) (free frames now : List ℕ) (u : ℕ) (t : List Entry) (m : Memory) → IsPool tables free frames → u < user_count → t ≡ table_at tables u
    → ((other : List Entry) → AreApart t other → memory_of now other ≡ memory_of frames other) → memory_of now t ≡ m → memories_of now tables ≡ set (memories_of frames tables) u m
memories_of-written tables free frames now u t m pool low table others written =
    ap (memories_of now) (sym (set-get_or tables u []))
    ∙ memories_of-set frames now tables u (table_at tables u) m (omega (arith, pool.users))
    (λ v within other. others (table_at tables v) (rw table (tables_are_apart tables free frames u v pool low (omega (arith, pool.users)) (λ q. other (sym q)))))
    (ap (memory_of now) (sym table) ∙ written)

-- emptying a user's table empties the user's memory
pub memories_of-dropped : (tables : List (List Entry)) (frames : List ℕ) (u : ℕ) → memories_of frames (set tables u []) ≡ set (memories_of frames tables) u empty
unfolding memory_of
memories_of-dropped tables frames u = map-set (λ t. memory_of frames t) tables u []
