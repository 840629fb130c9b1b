-- One vector unit that all users share. It holds the vector state of its owner; the states of the other users are saved or initial
-- (Privileged Architecture 20211203, section 3.1.6.6, the field VS).
use Rattle.std.specs.Prelude.{ℕ, ◌≡◌, ◌≤◌, ◌≢◌, true, false, List, Option, Some, None, if◌then◌else◌, ◌&&◌}
use Rattle.std.specs.Borrow.{Fml, Lends, MutBor}
use Rattle.std.specs.Option.{ForSome}
use Rattle.rv_model.specs.contracts.vector.state.Seat as seat_type
use Rattle.rv_model.specs.declared.vector.state.Seat.{Seat}
use Rattle.rv_model.specs.declared.vector.state.VState.{VState}
use Rattle.rv_model.specs.machine.Setup.{user_count}
use Rattle.rv_model.specs.machine.VectorUnit.{VectorUnit, counted, is_marked, is_owned_by, with_mark}
use Rattle.rv_model.specs.lending.Seats.{IsGivenBack}
use Rattle.rv_model.specs.vector.State.{initial_vector}
use Rattle.lazy_context.specs.contracts.unit.Unit.{the_row}
use Rattle.lazy_context.specs.declared.areas.Areas.{Areas}
use Rattle.lazy_context.specs.declared.unit.Unit.{Unit}
use Rattle.lazy_context.specs.SaveAreas.{area, count_restore, new_areas, saved_state, with_register, with_saved}

-- a user's vector state: the owner's is in the unit, the others' are saved or initial
abbrev pub state_of : Unit → ℕ → VState
state_of unit user = if is_owned_by unit.owner user then unit.seat.state else saved_state unit.areas user

-- the record of the unit: owner, marks and counts, without vector states
abbrev pub record_of : Unit → VectorUnit
record_of unit =
    record {
      owner = unit.owner;
      dirty = unit.seat.dirty;
      saved = unit.areas.marks;
      saves = unit.areas.saves;
      restores = unit.areas.restores;
      first_uses = unit.first_uses;
    }

-- if the unit has an owner with a clean state, this state equals the saved one, or the initial one if none is saved
abbrev pub IsSettled : Unit → Type 0
IsSettled unit = ForSome unit.owner (λ user. unit.seat.dirty ≡ false → unit.seat.state ≡ saved_state unit.areas user)

-- the save areas after a save of the owner's state, if it is dirty
abbrev pub areas_saved : Option ℕ → Seat → Areas → Areas
areas_saved None seat areas = areas
areas_saved (Some owner) seat areas =
    if seat.dirty then record (with_saved owner seat.state areas) { saves = counted areas.saves } else areas

-- the unit after a save of the owner's state, if it is dirty
abbrev pub owner_written_back : Unit → Unit
owner_written_back unit = record unit { areas = areas_saved unit.owner unit.seat unit.areas }

-- a state that hasn't changed since the unit loaded it
abbrev pub clean_seat : VState → Seat
clean_seat state = record { state = state; dirty = false }

-- a user becomes the owner, with the saved state or else the initial one
abbrev pub taken : ℕ → Areas → Unit → Unit
taken user areas unit =
    if is_marked areas.marks user
    then record unit { seat = clean_seat (saved_state areas user); owner = Some user; areas = count_restore areas }
    else record unit { seat = clean_seat initial_vector; owner = Some user; areas = areas; first_uses = counted unit.first_uses }

-- the unit after a touch by a user; a touch by the owner changes nothing
abbrev pub touched : ℕ → Unit → Unit
touched user unit =
    if is_owned_by unit.owner user then unit else taken user (areas_saved unit.owner unit.seat unit.areas) unit

-- the unit with another state and dirty mark
abbrev pub with_seat : Seat → Unit → Unit
with_seat seat unit = record unit { seat = seat }

-- when the borrow ends, the unit is touched, and has the returned state
abbrev pub LendsSeat : MutBor Unit → ℕ → MutBor Seat → Fml
LendsSeat unit user seat = Lends the_row seat_type.the_row unit seat (λ back. with_seat back (touched user unit.now))

-- the unit has no owner, and no state is saved
abbrev pub new_unit : Unit
new_unit = record { seat = clean_seat initial_vector; owner = None; first_uses = 0; areas = new_areas }

-- the unit after a write of a user's vector register: the owner's is in the unit, which becomes dirty; another user's is in the save area
abbrev pub poked : ℕ → ℕ → List ℕ → Unit → Unit
poked user register bytes unit =
    if is_owned_by unit.owner user
    then record unit { seat = record { state = with_register register bytes unit.seat.state; dirty = true } }
    else record unit { areas = with_saved user (with_register register bytes (saved_state unit.areas user)) unit.areas }

-- the unit after a discard of a user's state: none is saved, and the user isn't the owner
abbrev pub discarded : ℕ → Unit → Unit
discarded user unit =
    let owner = if is_owned_by unit.owner user then None else unit.owner in
    record unit { owner = owner; areas = record unit.areas { marks = with_mark user false unit.areas.marks } }

-- an owner, if any, is one of the users
abbrev pub IsOwnerAUser : Option ℕ → Type 0
IsOwnerAUser owner = ForSome owner (λ user. (1 ≤ user) × (user ≤ user_count))

-- the vector states of all users but one are unchanged
abbrev pub OthersKeep : ℕ → Unit → Unit → Type 0
OthersKeep user old new = (other : ℕ) → 1 ≤ other → other ≢ user → state_of new other ≡ state_of old other

-- the vector states of all users are unchanged
abbrev pub AllKeep : Unit → Unit → Type 0
AllKeep old new = (user : ℕ) → 1 ≤ user → state_of new user ≡ state_of old user

-- a user's save area and its mark are unchanged
abbrev pub KeepsArea : ℕ → Areas → Areas → Type 0
KeepsArea user old new = (area new user ≡ area old user) × (is_marked new.marks user ≡ is_marked old.marks user)

-- all save areas and marks are unchanged
abbrev pub KeepsAreas : Unit → Unit → Type 0
KeepsAreas old new = (new.areas.states ≡ old.areas.states) × (new.areas.marks ≡ old.areas.marks)

-- the save areas of all users are unchanged, except that of an owner with a dirty state
abbrev pub KeepsOtherAreas : Unit → Unit → Type 0
KeepsOtherAreas old new = (other : ℕ) → 1 ≤ other
    → (is_owned_by old.owner other && old.seat.dirty) ≡ false → KeepsArea other old.areas new.areas

-- if the borrowed state is returned dirty or unchanged, the unit is settled
abbrev pub IsConsistentAfterReturn : ℕ → Unit → Type 0
IsConsistentAfterReturn user unit =
    (back : Seat) → IsGivenBack (touched user unit).seat back → IsSettled (with_seat back (touched user unit))

-- after the return of any state, the user's next touch changes nothing
abbrev pub NextTouchIsIdentity : ℕ → Unit → Type 0
NextTouchIsIdentity user unit = (back : Seat) → touched user (with_seat back (touched user unit)) ≡ with_seat back (touched user unit)
