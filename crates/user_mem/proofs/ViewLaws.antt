-- The memories in the crate's contracts, and the tables and frames that implement them
use Rattle.std.proofs.Common.{Option, Some, None, Result, Ok, Err, ◌≡◌, ℕ, zero, suc, ◌-◌, ◌*◌, ◌<◌, ◌≤◌, List, [], cond, length, get_or, replicate, refl, sym, ◌∙◌, ap, subst, add-zero}
use Rattle.std.specs.Prelude.{nat_lt, ◌↔◌, OnOk}
use Rattle.std.specs.FinMap.{empty}
use Rattle.std.proofs.lemmas.List.{get_or-map}
use Rattle.rv_model.specs.declared.memory.MapRefusal.{MapRefusal}
use Rattle.rv_model.specs.memory.Memory.{Memory, map_refusal}
use Rattle.rv_model.specs.memory.Sizes.{page_size, page_quota, frame_count}
use Rattle.rv_model.specs.machine.Setup.{user_count}
use Rattle.user_mem.specs.declared.entry.Entry.{Entry}
use Rattle.user_mem.specs.Table.{memory_of, IsSorted, AreBelow}
use Rattle.user_mem.specs.Frames.{times_free, times_used}
use Rattle.user_mem.specs.Pool.{IsPool, owners, used_in_all, table_at, memories_of}
use Rattle.user_mem.specs.Users.{no_memories, memory_of_user}
use Rattle.user_mem.proofs.PoolLaws.{no_table}

-- a user's memory is the memory of the user's table
pub memory_of_table : (frames : List ℕ) (tables : List (List Entry)) (user i : ℕ) (memories : List Memory)
    → memories_of frames tables ≡ memories → i ≡ user - 1 → i < length tables → memory_of_user memories user ≡ memory_of frames (table_at tables i)
memory_of_table frames tables user i memories view place h =
    ap (λ (ms : List Memory). memory_of_user ms user) (sym view)
    ∙ ap (λ (j : ℕ). get_or (memories_of frames tables) j empty) (sym place)
    ∙ get_or-map (λ t. memory_of frames t) tables i [] empty h

-- the same for the entries and bytes in the code
pub memory_at : (frames bytes : List ℕ) (tables : List (List Entry)) (user i : ℕ) (es : List Entry) (memories : List Memory)
    → memories_of frames tables ≡ memories → i ≡ user - 1 → i < length tables → es ≡ table_at tables i → bytes ≡ frames → memory_of_user memories user ≡ memory_of bytes es
memory_at frames bytes tables user i es memories view place h e same =
    memory_of_table frames tables user i memories view place h
    ∙ ap (λ (t : List Entry). memory_of frames t) (sym e)
    ∙ ap (λ (b : List ℕ). memory_of b es) (sym same)

no_table_at : (n v : ℕ) → table_at (replicate n []) v ≡ []
no_table_at zero v = refl
no_table_at (suc n) zero = refl
no_table_at (suc n) (suc v) = no_table_at n v

-- empty tables over free frames satisfy the invariant
pub fresh_pool : (tables : List (List Entry)) (free frames : List ℕ) → tables ≡ replicate user_count [] → length frames ≡ page_size * frame_count
    → ((f : ℕ) → times_free f free ≡ cond (nat_lt f frame_count) 1 0) → length free ≡ frame_count → IsPool tables free frames
unfolding owners times_used used_in_all
fresh_pool tables free frames e size once len = subst (λ (ts : List (List Entry)). IsPool ts free frames) (sym e) (record {
  users = refl;
  size = size;
  few = λ u. subst (λ (t : List Entry). length t ≤ page_quota) (sym (no_table_at user_count u)) no_table.few;
  sorted = λ u. subst (λ (t : List Entry). IsSorted t) (sym (no_table_at user_count u)) no_table.sorted;
  below = λ u. subst (λ (t : List Entry). AreBelow t) (sym (no_table_at user_count u)) no_table.below;
  once = λ f. add-zero (times_free f free) ∙ once f;
  total = add-zero (length free) ∙ len;
})

pub fresh_memories : (tables : List (List Entry)) (frames : List ℕ) → tables ≡ replicate user_count [] → memories_of frames tables ≡ no_memories
unfolding memory_of
fresh_memories tables frames e = ap (λ (ts : List (List Entry)). memories_of frames ts) e

-- an implication applies to the condition of a successful result
pub if_done : {X E P Q : Type 0} (r : Result X E) → (P → Q) → OnOk r P → OnOk r Q
if_done (Ok _) follows fact = follows fact
if_done (Err _) follows fact = tt

-- ---- refusals of `map`

-- the refusal in a result of `map`
pub refusal_of : Result (Unit {0}) MapRefusal → Option MapRefusal
refusal_of (Ok _) = None
refusal_of (Err r) = Some r

refusal_back : (result : Result (Unit {0}) MapRefusal) (r : MapRefusal) → refusal_of result ≡ Some r → result ≡ Err r
unfolding refusal_of
refusal_back (Ok _) r e = absurd (cc)
refusal_back (Err x) r e = let same : x ≡ r = cc in ap (λ (y : MapRefusal). Err y) same

pub refused_for : (result : Result (Unit {0}) MapRefusal) (m : Memory) (page count : ℕ) (r : MapRefusal) {P : Type 0} → refusal_of result ≡ map_refusal m page count → ((map_refusal m page count ≡ Some r) ↔ P) → (result ≡ Err r) ↔ P
unfolding refusal_of
refused_for result m page count r e why = (λ h. why.0 (sym e ∙ ap refusal_of h), λ p. refusal_back result r (e ∙ why.1 p))

pub refused_is : (r : MapRefusal) (o : Option MapRefusal) → o ≡ Some r → refusal_of (Err r) ≡ o
unfolding refusal_of
refused_is r o e = sym e

pub accepted_is : (o : Option MapRefusal) → o ≡ None → refusal_of (Ok tt) ≡ o
unfolding refusal_of
accepted_is o e = sym e
