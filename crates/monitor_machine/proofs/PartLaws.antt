-- A change of one user's context, vector state and memory changes only that user's private machine.
use Rattle.std.proofs.Common.{◌≡◌, inl, inr, ℕ, zero, suc, ◌+◌, ◌-◌, ◌<◌, ◌≤◌, List, [], ◌∷◌, length, get_or, get_or-set_other, get_or-set_same, length-set, set, refl, ap, ◌∙◌, sym, subst, arith, Bool, true, false, Some, None, replicate}
use Rattle.std.proofs.lemmas.Bool.{cases_eq}
use Rattle.std.proofs.lemmas.List.{ext_get_or, set-get_or}
use Rattle.std.proofs.lemmas.List.FromFn.{get_or-map-range_with_len, length-map-range_with_len}
use Rattle.std.specs.FinMap.{empty}
use Rattle.std.specs.Prelude.{if◌then◌else◌}
use Rattle.rv_model.specs.declared.vector.state.VState.{VState}
use Rattle.rv_model.specs.memory.Memory.{Memory}
use Rattle.rv_model.specs.machine.World.{Private}
use Rattle.rv_model.specs.machine.Script.{World, new_world, with_unit, user_machine, with_user_machine}
use Rattle.rv_model.specs.machine.Setup.{user_count}
use Rattle.rv_model.specs.machine.VectorUnit.{VectorUnit, unused_unit}
use Rattle.rv_model.specs.vector.State.{initial_vector}
use Rattle.lazy_context.specs.declared.unit.Unit.{Unit}
use Rattle.lazy_context.specs.LazyUnit.{IsSettled, record_of, state_of}
use Rattle.user_mem.specs.Users.{no_memories, memory_of_user, with_memory}
use Rattle.monitor_machine.specs.declared.context.Context.{Context}
use Rattle.monitor_machine.specs.declared.parts.Parts.{Parts}
use Rattle.monitor_machine.specs.PartMoves.{PartsMove, machine_of}
use Rattle.monitor_machine.specs.Parts.{Addresses, new_context, present, private_of, parts_of, states_of, world_of, IsWhole, UnitMoves}

pub parts_of-set : (cs : List Context) (ts : List Addresses) (vs : List VState) (ms : List Memory) (i : ℕ) (c : Context) (t : Addresses) (v : VState) (m : Memory)
    → length cs ≡ length ts → length ts ≡ length vs → length vs ≡ length ms
    → parts_of (set cs i c) (set ts i t) (set vs i v) (set ms i m) ≡ set (parts_of cs ts vs ms) i (private_of c t v m)
parts_of-set [] ts vs ms i c t v m e f g = refl
parts_of-set (d ∷ cs) (u ∷ ts) (w ∷ vs) (n ∷ ms) zero c t v m e f g = refl
parts_of-set (d ∷ cs) (u ∷ ts) (w ∷ vs) (n ∷ ms) (suc i) c t v m e f g =
    ap (λ (ps : List Private). private_of d u w n ∷ ps)
    (parts_of-set cs ts vs ms i c t v m (omega (arith, e)) (omega (arith, f)) (omega (arith, g)))
parts_of-set _ _ _ _ i c t v m e f g = absurd (omega (arith, e, f, g))

pub parts_at : (cs : List Context) (ts : List Addresses) (vs : List VState) (ms : List Memory) (i : ℕ) (c : Context) (e : Addresses) → i < length cs
    → length cs ≡ length ts → length ts ≡ length vs → length vs ≡ length ms
    → get_or (parts_of cs ts vs ms) i None ≡ private_of (get_or cs i c) (get_or ts i e) (get_or vs i initial_vector) (get_or ms i empty)
parts_at (d ∷ cs) (u ∷ ts) (w ∷ vs) (n ∷ ms) zero c x lt e f g = refl
parts_at (d ∷ cs) (u ∷ ts) (w ∷ vs) (n ∷ ms) (suc i) c x lt e f g =
    parts_at cs ts vs ms i c x (omega (arith, lt)) (omega (arith, e)) (omega (arith, f)) (omega (arith, g))
parts_at _ _ _ _ i c x lt e f g = absurd (omega (arith, lt, e, f, g))

pub part_count : (cs : List Context) (ts : List Addresses) (vs : List VState) (ms : List Memory)
    → length cs ≡ length ts → length ts ≡ length vs → length vs ≡ length ms → length (parts_of cs ts vs ms) ≡ length cs
part_count [] ts vs ms e f g = refl
part_count (c ∷ cs) (t ∷ ts) (v ∷ vs) (m ∷ ms) e f g =
    ap (λ (n : ℕ). suc n) (part_count cs ts vs ms (omega (arith, e)) (omega (arith, f)) (omega (arith, g)))
part_count _ _ _ _ e f g = absurd (omega (arith, e, f, g))

-- ---- the vector states of all users

pub eight_states : (unit : Unit) → length (states_of unit) ≡ user_count
unfolding states_of
eight_states unit = length-map-range_with_len (state_of unit) 1 user_count

states_at : (unit : Unit) (i : ℕ) → i < user_count → get_or (states_of unit) i initial_vector ≡ state_of unit (1 + i)
unfolding states_of
states_at unit i low = get_or-map-range_with_len (state_of unit) 1 user_count i (1 + i) initial_vector low refl

state_at : (unit : Unit) (u : ℕ) → 1 ≤ u → u ≤ user_count → get_or (states_of unit) (u - 1) initial_vector ≡ state_of unit u
state_at unit u low high =
    states_at unit (u - 1) (omega (arith, low, high))
    ∙ ap (state_of unit) (let back : 1 + (u - 1) ≡ u = omega (arith, low) in back)

-- if only one user's state changes, only the item of that user changes in the list of states
states_moved : (user : ℕ) (old new : Unit) (count : VectorUnit) → 1 ≤ user → user ≤ user_count → UnitMoves user old new count
    → states_of new ≡ set (states_of old) (user - 1) (state_of new user)
states_moved user old new count low high moves =
    let before : List VState = states_of old in
    let after : List VState = states_of new in
    let unset = length-set before (user - 1) (state_of new user) in
    ext_get_or initial_vector after (set before (user - 1) (state_of new user)) (omega (arith, eight_states new, eight_states old, unset))
    (λ k lt. elim (cases_eq k (user - 1)) [
      | inl here ↦
          subst (λ n. get_or after n initial_vector ≡ get_or (set before (user - 1) (state_of new user)) n initial_vector) (sym here)
          (state_at new user low high
          ∙ sym (get_or-set_same before (user - 1) (state_of new user) initial_vector (omega (arith, eight_states old, low, high))))
      | inr other ↦
          states_at new k (omega (arith, lt, eight_states new))
          ∙ moves.others_keep (1 + k) (omega arith) (λ e. other (omega (arith, e)))
          ∙ sym (states_at old k (omega (arith, lt, eight_states new)))
          ∙ sym (get_or-set_other before (user - 1) k (state_of new user) initial_vector other)
    ])

-- nothing has changed
pub unit_stays : (user : ℕ) (unit : Unit) → IsSettled unit → UnitMoves user unit unit (record_of unit)
unit_stays user unit settled = record { settled = settled; others_keep = λ other low apart. refl; counts = refl }

-- ---- the private machines of a world

-- a user's private machine, by the user's index i
part_is : (cs : List Context) (ts : List Addresses) (unit : Unit) (ms : List Memory) (cursor u i : ℕ) (d : Context) (e : Addresses) → i ≡ u - 1 → i < user_count → 1 ≤ u
    → IsWhole cs ts unit ms
    → user_machine u (world_of cs ts unit ms cursor) ≡ private_of (get_or cs i d) (get_or ts i e) (state_of unit u) (memory_of_user ms u)
part_is cs ts unit ms cursor u i d e at low user whole =
    parts_at cs ts (states_of unit) ms (u - 1) d e (omega (arith, whole.contexts, at, low)) (whole.contexts ∙ sym whole.traces)
    (whole.traces ∙ sym (eight_states unit)) (eight_states unit ∙ sym whole.memories)
    ∙ ap (λ (v : VState). private_of (get_or cs (u - 1) d) (get_or ts (u - 1) e) v (memory_of_user ms u)) (state_at unit u user (omega (arith, at, low)))
    ∙ ap (λ (j : ℕ). private_of (get_or cs j d) (get_or ts j e) (state_of unit u) (memory_of_user ms u)) (sym at)

-- the same in a world with these machines, by the items at the user's index
pub machine_in : (cs : List Context) (ts : List Addresses) (unit : Unit) (ms : List Memory) (cursor u i : ℕ) (d : Context) (t : Addresses) (w : World) → i ≡ u - 1 → i < user_count → 1 ≤ u
    → IsWhole cs ts unit ms → t ≡ get_or ts i t → world_of cs ts unit ms cursor ≡ w
    → private_of (get_or cs i d) t (state_of unit u) (memory_of_user ms u) ≡ user_machine u w
machine_in cs ts unit ms cursor u i d t w at low user whole trace world =
    ap (λ (l : Addresses). private_of (get_or cs i d) l (state_of unit u) (memory_of_user ms u)) trace
    ∙ sym (part_is cs ts unit ms cursor u i d t at low user whole)
    ∙ ap (user_machine u) world

-- number of private machines
pub eight_parts : (cs : List Context) (ts : List Addresses) (unit : Unit) (ms : List Memory) → IsWhole cs ts unit ms
    → length (parts_of cs ts (states_of unit) ms) ≡ user_count
eight_parts cs ts unit ms whole =
    part_count cs ts (states_of unit) ms (whole.contexts ∙ sym whole.traces) (whole.traces ∙ sym (eight_states unit)) (eight_states unit ∙ sym whole.memories)
    ∙ whole.contexts

-- the world after a change of one user's parts and trace, by the user's index i
pub world_with : {A : Type 0} (old new : Parts A) (count : VectorUnit) → PartsMove old new count
    → (cs : List Context) (ts : List Addresses) (t t' : Addresses) (cursor i : ℕ) (d : Context) (f : Private → Private) (g : Private → VectorUnit → VectorUnit)
    → i ≡ old.user - 1 → i < user_count → 1 ≤ old.user → IsWhole cs ts old.unit.now old.pool.now → old.context.now ≡ get_or cs i d → t ≡ get_or ts i t
    → machine_of new t' ≡ f (machine_of old t) → count ≡ g (machine_of old t) (record_of old.unit.now)
    → world_of (set cs i new.context.now) (set ts i t') new.unit.now new.pool.now cursor
    ≡ with_unit (g (user_machine old.user (world_of cs ts old.unit.now old.pool.now cursor)) (record_of old.unit.now)) (with_user_machine old.user (f (user_machine old.user (world_of cs ts old.unit.now old.pool.now cursor))) (world_of cs ts old.unit.now old.pool.now cursor))
world_with old new count moves cs ts t t' cursor i d f g at low user whole context trace next counted =
    let u : ℕ = old.user in
    let unit = old.unit.now in
    let c' = new.context.now in
    let v' = state_of new.unit.now u in
    let m' = memory_of_user new.pool.now u in
    let world : World = world_of cs ts unit old.pool.now cursor in
    let same : user_machine u world ≡ machine_of old t =
    sym (ap (λ (c : Context). private_of c t (state_of unit u) (memory_of_user old.pool.now u)) context ∙ machine_in cs ts unit old.pool.now cursor u i d t world at low user whole trace refl) in
    let done : private_of c' t' v' m' ≡ f (user_machine u world) =
    ap (λ (n : ℕ). private_of c' t' (state_of new.unit.now n) (memory_of_user new.pool.now n)) (sym moves.user) ∙ next ∙ ap f (sym same) in
    let moved : parts_of (set cs (u - 1) c') (set ts (u - 1) t') (states_of new.unit.now) new.pool.now ≡ set (parts_of cs ts (states_of unit) old.pool.now) (u - 1) (private_of c' t' v' m') =
    ap (parts_of (set cs (u - 1) c') (set ts (u - 1) t') (states_of new.unit.now)) moves.others
    ∙ ap (λ (l : List VState). parts_of (set cs (u - 1) c') (set ts (u - 1) t') l (with_memory old.pool.now u m')) (states_moved u unit new.unit.now count user (omega (arith, at, low)) moves.unit)
    ∙ parts_of-set cs ts (states_of unit) old.pool.now (u - 1) c' t' v' m' (whole.contexts ∙ sym whole.traces) (whole.traces ∙ sym (eight_states unit)) (eight_states unit ∙ sym whole.memories) in
    ap (λ (j : ℕ). world_of (set cs j c') (set ts j t') new.unit.now new.pool.now cursor) at
    ∙ ap (λ (ps : List Private). let r : World = record { parts = ps; cursor = cursor; unit = record_of new.unit.now } in r) moved
    ∙ ap (λ (p : Private). with_unit (record_of new.unit.now) (with_user_machine u p world)) done
    ∙ ap (λ (r : VectorUnit). with_unit r (with_user_machine u (f (user_machine u world)) world)) (moves.unit.counts ∙ counted ∙ ap (λ (p : Private). g p (record_of unit)) (sym same))

-- after the change, there is still one of each for each user
pub whole_with : {A : Type 0} (old new : Parts A) (count : VectorUnit) → PartsMove old new count → (cs : List Context) (ts : List Addresses) (t' : Addresses) (i : ℕ)
    → IsWhole cs ts old.unit.now old.pool.now → IsWhole (set cs i new.context.now) (set ts i t') new.unit.now new.pool.now
whole_with old new count moves cs ts t' i whole = record {
  contexts = length-set cs i new.context.now ∙ whole.contexts;
  traces = length-set ts i t' ∙ whole.traces;
  memories = ap length moves.others ∙ length-set old.pool.now (old.user - 1) (memory_of_user new.pool.now old.user) ∙ whole.memories;
  settled = moves.unit.settled;
}

-- the replacement of a private machine by itself changes nothing
pub part_put_back : (u : ℕ) (w : World) → with_user_machine u (user_machine u w) w ≡ w
part_put_back u w = ap (λ (ps : List Private). record w { parts = ps }) (set-get_or w.parts (u - 1) None)

-- new contexts with empty traces and memories are absent users, for any vector states
absent_parts : (n : ℕ) (vs : List VState) → length vs ≡ n → parts_of (replicate n new_context) (replicate n []) vs (replicate n empty) ≡ replicate n None
absent_parts zero vs e = refl
absent_parts (suc n) [] e = absurd (omega (arith, e))
absent_parts (suc n) (v ∷ vs) e = ap (λ (ps : List Private). None ∷ ps) (absent_parts n vs (omega (arith, e)))

-- with one for each user, the world is the new world
pub new_users : (cs : List Context) (ts : List Addresses) (unit : Unit) (ms : List Memory) → cs ≡ replicate user_count new_context → ts ≡ replicate user_count [] → record_of unit ≡ unused_unit
    → ms ≡ no_memories → world_of cs ts unit ms user_count ≡ new_world
unfolding new_world
new_users cs ts unit ms p q counts r =
    ap (λ (v : VectorUnit). let w : World = record { parts = parts_of cs ts (states_of unit) ms; cursor = user_count; unit = v } in w) counts
    ∙ rw (p, q, r) (ap (λ (ps : List Private). let w : World = record { parts = ps; cursor = user_count; unit = unused_unit } in w) (absent_parts user_count (states_of unit) (eight_states unit)))

-- the new world has a private machine for each user
pub new_are_eight : (w : World) → w ≡ new_world → length w.parts ≡ user_count
unfolding new_world
new_are_eight w h = ap (λ (v : World). length v.parts) h

-- the private machine of a user who has entered, and of an absent user
pub entered_as : (c : Context) (t : Addresses) (v : VState) (m : Memory) → c.entered ≡ true → private_of c t v m ≡ Some (present c t v m)
entered_as c t v m h = ap (λ (b : Bool). if b then Some (present c t v m) else None) h

pub absent_as : (c : Context) (t : Addresses) (v : VState) (m : Memory) → c.entered ≡ false → private_of c t v m ≡ None
absent_as c t v m h = ap (λ (b : Bool). if b then Some (present c t v m) else None) h
