-- Laws of the lazily switched vector unit.
use Rattle.std.specs.Prelude.{ℕ, zero, suc, ◌-◌, ◌≡◌, ◌≢◌, ◌<◌, ◌≤◌, Bool, true, false, List, Option, Some, None, ◌&&◌, if◌then◌else◌, length, replicate, refl}
use Rattle.std.proofs.Common.{ap, sym, ◌∙◌, arith, get_or, get_or-set_other, get_or-set_same, inl, inr}
use Rattle.std.specs.Option.{ForSome}
use Rattle.rv_model.specs.declared.vector.state.Seat.{Seat}
use Rattle.rv_model.specs.declared.vector.state.VState.{VState}
use Rattle.rv_model.specs.machine.Setup.{user_count}
use Rattle.rv_model.specs.machine.VectorUnit.{is_owned_by, unit_discarded, unit_register_written, unit_touched}
use Rattle.rv_model.specs.lending.Seats.{IsGivenBack}
use Rattle.rv_model.specs.vector.State.{initial_vector}
use Rattle.lazy_context.specs.declared.areas.Areas.{Areas}
use Rattle.lazy_context.specs.declared.unit.Unit.{Unit}
use Rattle.lazy_context.specs.LazyUnit.{IsOwnerAUser, IsSettled, KeepsArea, KeepsAreas, OthersKeep, areas_saved, discarded, new_unit, poked, record_of, state_of, taken, touched, with_seat}
use Rattle.rv_model.proofs.Choices.{of_either, of_option}
use Rattle.lazy_context.specs.SaveAreas.{area, new_areas, saved_state, with_register, with_saved}

-- a clean owner's state equals the state that the save areas give
abbrev pub IsSettledWith : Option ℕ → Seat → Areas → Type 0
IsSettledWith owner seat areas = ForSome owner (λ user. seat.dirty ≡ false → seat.state ≡ saved_state areas user)

-- a user's state, by the owner, the seat and the save areas
abbrev pub state_among : Option ℕ → Seat → Areas → ℕ → VState
state_among owner seat areas user = if is_owned_by owner user then seat.state else saved_state areas user

none_marked : (n m : ℕ) → get_or (replicate n false) m false ≡ false
none_marked zero m = refl
none_marked (suc n) zero = refl
none_marked (suc n) (suc m) = none_marked n m

-- a new unit has the initial state for each user
pub initial_states : (user : ℕ) → state_of new_unit user ≡ initial_vector
initial_states user =
    ap (λ (b : Bool). if b then area new_areas user else initial_vector) (none_marked user_count (user - 1))

settled_given : (owner : Option ℕ) (lent back : Seat) (areas : Areas) → IsSettledWith owner lent areas → IsGivenBack lent back
    → IsSettledWith owner back areas
settled_given owner lent back areas h (inl e) = λ n b d. cc
settled_given owner lent back areas h (inr e) = rw e h

settled_taken : (user : ℕ) (areas : Areas) (unit : Unit) → IsSettled (taken user areas unit)
settled_taken user areas unit = grind arith

settled_touched : (user : ℕ) (unit : Unit) → IsSettled unit → IsSettled (touched user unit)
settled_touched user unit h = grind (arith, settled_taken)

-- the unit is settled again if the borrowed seat is returned dirty or unchanged
pub settled_again : (user : ℕ) (unit : Unit) (back : Seat) → IsSettled unit → IsGivenBack (touched user unit).seat back
    → IsSettled (with_seat back (touched user unit))
settled_again user unit back h g =
    let after = touched user unit in
    settled_given after.owner after.seat back after.areas (settled_touched user unit h) g

same_saved : (user : ℕ) (state : VState) (areas : Areas) → user - 1 < length areas.states → user - 1 < length areas.marks
    → saved_state (with_saved user state areas) user ≡ state
same_saved user state areas h g = grind (arith, get_or-set_same)

other_saved : (user other : ℕ) (state : VState) (areas : Areas) → other - 1 ≢ user - 1
    → saved_state (with_saved user state areas) other ≡ saved_state areas other
other_saved user other state areas h = grind (arith, get_or-set_other)

-- after a save of the owner's state, the save areas give the states of all users
pub saved_keep : (owner : Option ℕ) (seat : Seat) (areas : Areas) (user : ℕ) → length areas.states ≡ user_count
    → length areas.marks ≡ user_count → IsOwnerAUser owner → IsSettledWith owner seat areas → 1 ≤ user
    → saved_state (areas_saved owner seat areas) user ≡ state_among owner seat areas user
saved_keep None seat areas user p q r h low = refl
saved_keep (Some n) seat areas user p q r h low = grind (arith, same_saved, other_saved)

-- a change of the owner changes no user's state
pub taken_keeps : (user other : ℕ) (areas : Areas) (unit : Unit)
    → state_of (taken user areas unit) other ≡ saved_state areas other
taken_keeps user other areas unit = grind arith

-- a touch changes no user's state
pub touched_keeps : (user other : ℕ) (unit : Unit) → length unit.areas.states ≡ user_count → length unit.areas.marks ≡ user_count
    → IsOwnerAUser unit.owner → IsSettled unit → 1 ≤ other → state_of (touched user unit) other ≡ state_of unit other
touched_keeps user other unit states marks is_user settled low =
    let saved : Areas = areas_saved unit.owner unit.seat unit.areas in
    of_either (λ (after : Unit). state_of after other ≡ state_of unit other) (is_owned_by unit.owner user) unit (taken user saved unit) refl
    (taken_keeps user other saved unit ∙ saved_keep unit.owner unit.seat unit.areas other states marks is_user settled low)

touched_owner : (user : ℕ) (unit : Unit) → is_owned_by (touched user unit).owner user ≡ true
touched_owner user unit = grind arith

-- the borrowed state is the user's state
pub touched_state : (user : ℕ) (unit : Unit) → length unit.areas.states ≡ user_count → length unit.areas.marks ≡ user_count
    → IsOwnerAUser unit.owner → IsSettled unit → 1 ≤ user → (touched user unit).seat.state ≡ state_of unit user
touched_state user unit states marks is_user settled low =
    ap (λ (b : Bool). if b then (touched user unit).seat.state else saved_state (touched user unit).areas user) (sym (touched_owner user unit))
    ∙ touched_keeps user user unit states marks is_user settled low

-- a touch by the owner changes nothing
pub owner_touches : (user : ℕ) (unit : Unit) → is_owned_by unit.owner user ≡ true → touched user unit ≡ unit
owner_touches user unit h = grind arith

-- a user who has touched the unit is its owner
pub touched_again : (user : ℕ) (unit : Unit) (back : Seat)
    → touched user (with_seat back (touched user unit)) ≡ with_seat back (touched user unit)
touched_again user unit back = grind arith

-- a touch changes the record of the unit as `unit_touched` defines
pub touch_counts : (user : ℕ) (unit : Unit) → record_of (touched user unit) ≡ unit_touched user (record_of unit)
touch_counts user unit =
    of_option unit.owner (λ o. record_of (touched user unit) ≡ unit_touched user (record_of unit)) (λ e. grind arith) (λ n e. grind arith)

-- if the owner's state is clean, a touch writes no save area
pub clean_touches : (user : ℕ) (unit : Unit) → unit.seat.dirty ≡ false → KeepsAreas unit (touched user unit)
clean_touches user unit h = of_option unit.owner (λ o. KeepsAreas unit (touched user unit)) (λ e. grind arith) (λ n e. grind arith)

-- a save writes no save area except that of the dirty owner
pub other_areas : (owner : Option ℕ) (seat : Seat) (areas : Areas) (other : ℕ) → IsOwnerAUser owner → 1 ≤ other
    → (is_owned_by owner other && seat.dirty) ≡ false → KeepsArea other areas (areas_saved owner seat areas)
other_areas None seat areas other r low h = (refl, refl)
other_areas (Some n) seat areas other r low h =
    let bounds : (1 ≤ n) × (n ≤ user_count) = r n refl in grind (arith, get_or-set_other)

-- a change of the owner writes no save area
pub taken_areas : (user other : ℕ) (areas : Areas) (unit : Unit) → KeepsArea other areas (taken user areas unit).areas
taken_areas user other areas unit = grind arith

-- ---- a command writes a register

pub poke_own : (user register : ℕ) (bytes : List ℕ) (unit : Unit) → user - 1 < length unit.areas.states
    → user - 1 < length unit.areas.marks
    → state_of (poked user register bytes unit) user ≡ with_register register bytes (state_of unit user)
poke_own user register bytes unit h g = grind (arith, same_saved)

pub poke_others : (user register : ℕ) (bytes : List ℕ) (unit : Unit) → 1 ≤ user
    → OthersKeep user unit (poked user register bytes unit)
poke_others user register bytes unit low = λ other from apart. grind (arith, other_saved)

pub poke_counts : (user register : ℕ) (bytes : List ℕ) (unit : Unit)
    → record_of (poked user register bytes unit) ≡ unit_register_written user (record_of unit)
poke_counts user register bytes unit = grind arith

poke_settled_by : (user register : ℕ) (bytes : List ℕ) (unit : Unit) (owner : Option ℕ) → unit.owner ≡ owner → 1 ≤ user
    → IsOwnerAUser owner → IsSettledWith owner unit.seat unit.areas
    → IsSettledWith owner (poked user register bytes unit).seat (poked user register bytes unit).areas
poke_settled_by user register bytes unit None e low r h = λ owner none clean. cc
poke_settled_by user register bytes unit (Some n) e low r h = grind (arith, other_saved)

pub poke_settled : (user register : ℕ) (bytes : List ℕ) (unit : Unit) → 1 ≤ user → IsOwnerAUser unit.owner → IsSettled unit
    → IsSettled (poked user register bytes unit)
poke_settled user register bytes unit low r h = grind (arith, poke_settled_by)

-- ---- a user's state is discarded

pub discard_own : (user : ℕ) (unit : Unit) → user - 1 < length unit.areas.marks
    → state_of (discarded user unit) user ≡ initial_vector
discard_own user unit h = grind (arith, get_or-set_same)

pub discard_others : (user : ℕ) (unit : Unit) → 1 ≤ user → OthersKeep user unit (discarded user unit)
discard_others user unit low = λ other from apart. grind (arith, get_or-set_other)

pub discard_counts : (user : ℕ) (unit : Unit) → record_of (discarded user unit) ≡ unit_discarded user (record_of unit)
discard_counts user unit = refl

discard_settled_by : (user : ℕ) (unit : Unit) (owner : Option ℕ) → unit.owner ≡ owner → 1 ≤ user → IsOwnerAUser owner
    → IsSettledWith owner unit.seat unit.areas
    → IsSettledWith (if is_owned_by owner user then None else owner) unit.seat (discarded user unit).areas
discard_settled_by user unit None e low r h = λ owner none clean. cc
discard_settled_by user unit (Some n) e low r h = grind (arith, get_or-set_other)

pub discard_settled : (user : ℕ) (unit : Unit) → 1 ≤ user → IsOwnerAUser unit.owner → IsSettled unit
    → IsSettled (discarded user unit)
discard_settled user unit low r h = discard_settled_by user unit unit.owner refl low r h

-- ---- rule sets for the tactics

pub ruleset poking_steps = (poke_own, poke_others, poke_counts, poke_settled)

pub ruleset discarding_steps = (discard_own, discard_others, discard_counts, discard_settled)

pub ruleset lending_steps =
    (touched_state, touched_keeps, touch_counts, settled_again, touched_again, owner_touches, clean_touches)
