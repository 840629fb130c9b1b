-- Changes of the shared vector unit by one instruction of a user, from the borrow and return of the user's state.
use Rattle.std.proofs.Common.{◌≡◌, ℕ, Bool, true, false, refl, ap, ◌∙◌, subst, sym, arith}
use Rattle.std.specs.Prelude.{if◌then◌else◌, ◌||◌, ◌≢◌}
use Rattle.rv_model.specs.declared.vector.state.Seat.{Seat}
use Rattle.rv_model.specs.declared.vector.state.VState.{VState}
use Rattle.rv_model.specs.machine.VectorUnit.{VectorUnit, unit_after_instruction, unit_touched}
use Rattle.lazy_context.specs.declared.unit.Unit.{Unit}
use Rattle.lazy_context.specs.LazyUnit.{AllKeep, OthersKeep, record_of, state_of, touched, with_seat}
use Rattle.monitor_machine.specs.declared.user_adapters.UserVectors.{UserVectors}
use Rattle.monitor_machine.specs.Lent.{VectorsMove}

-- the unit after the return: touched, with the user's new seat, if an instruction touches it; otherwise unchanged
abbrev pub came_back : Bool → ℕ → Unit → Unit → Unit
came_back touches user old new = if touches then with_seat (touched user new).seat (touched user old) else old

-- the per-user adapter after the return has the unit after the return
pub lender_back : (touches : Bool) (old new : UserVectors) → new ≡ (if touches then record old { unit = record old.unit { now = with_seat (touched new.user new.unit.now).seat (touched old.user old.unit.now) } } else old)
    → (new.unit.now ≡ came_back touches old.user old.unit.now new.unit.now) × (new.unit.ghost_name ≡ old.unit.ghost_name) × (new.user ≡ old.user)
lender_back true old new back =
    let same = ap (λ (v : UserVectors). v.user) back in (
      ap (λ (v : UserVectors). v.unit.now) back ∙ ap (λ (u : ℕ). with_seat (touched u new.unit.now).seat (touched old.user old.unit.now)) same,
      ap (λ (v : UserVectors). v.unit.ghost_name) back,
      same,
    )
lender_back false old new back =
    (ap (λ (v : UserVectors). v.unit.now) back, ap (λ (v : UserVectors). v.unit.ghost_name) back, ap (λ (v : UserVectors). v.user) back)

-- two consecutive borrows are one change of the unit
pub lent_twice : (first second third : UserVectors) → VectorsMove first second → VectorsMove second third → VectorsMove first third
lent_twice first second third h k = record {
  settled = k.settled;
  others_keep = λ other low apart. k.others_keep other low (λ e. apart (e ∙ h.user)) ∙ h.others_keep other low apart;
  user = k.user ∙ h.user;
  same_unit = k.same_unit ∙ h.same_unit;
}

-- the unit with the user's seat changed has the new state
seat_is : (user : ℕ) (old : Unit) (s : Seat) → state_of (with_seat s (touched user old)) user ≡ s.state
seat_is user old s = grind arith

-- the borrowed state is the user's, before and after
pub state_lent : (touches : Bool) (user : ℕ) (old new : Unit) → new ≡ came_back touches user old new
    → (touched user old).seat.state ≡ state_of old user → (touched user new).seat.state ≡ state_of new user
state_lent true user old new back own =
    sym (ap (λ (u : Unit). state_of u user) back ∙ seat_is user old (touched user new).seat)
state_lent false user old new back own =
    ap (λ (u : Unit). (touched user u).seat.state) back ∙ own ∙ sym (ap (λ (u : Unit). state_of u user) back)

others_seated : (user other : ℕ) (old : Unit) (s : Seat) → other ≢ user → state_of (with_seat s (touched user old)) other ≡ state_of (touched user old) other
others_seated user other old s apart = grind arith

-- no other user's state changes
pub strangers_keep : (touches : Bool) (user : ℕ) (old new : Unit) → new ≡ came_back touches user old new → AllKeep old (touched user old)
    → OthersKeep user old new
strangers_keep true user old new back keep = λ other low apart.
    ap (λ (u : Unit). state_of u other) back ∙ others_seated user other old (touched user new).seat apart ∙ keep other low
strangers_keep false user old new back keep = λ other low apart. ap (λ (u : Unit). state_of u other) back

counted_dirty : (b : Bool) (unit : VectorUnit) → record unit { dirty = unit.dirty || b } ≡ (if b then record unit { dirty = true } else unit)
counted_dirty b unit = by_mark unit.dirty b refl
  where
    by_mark : (d b : Bool) → unit.dirty ≡ d → record unit { dirty = d || b } ≡ (if b then record unit { dirty = true } else unit)
    by_mark true true e = refl
    by_mark false true e = refl
    by_mark true false e = ap (λ (x : Bool). record unit { dirty = x }) (sym e)
    by_mark false false e = ap (λ (x : Bool). record unit { dirty = x }) (sym e)

-- the dirty mark of the borrowed state, stated for the same user and the user's own state
pub mark_lent : (changes : VState → Bool) (own own' : VState) (old : Bool) (user user' : ℕ) (new : Unit) → user' ≡ user → own ≡ own'
    → (touched user' new).seat.dirty ≡ (old || changes own) → (touched user new).seat.dirty ≡ (old || changes own')
mark_lent changes own own' old user user' new same state marked =
    subst (λ (u : ℕ). (touched u new).seat.dirty ≡ (old || changes own')) same
    (subst (λ (v : VState). (touched user' new).seat.dirty ≡ (old || changes v)) state marked)

-- the record of the unit changes as for an instruction that touches the unit or doesn't
pub counts_instruction : (touches changes : Bool) (user : ℕ) (old new : Unit) → new ≡ came_back touches user old new
    → record_of (touched user old) ≡ unit_touched user (record_of old) → (touched user new).seat.dirty ≡ ((touched user old).seat.dirty || changes)
    → record_of new ≡ unit_after_instruction touches changes user (record_of old)
counts_instruction true changes user old new back touch marked =
    ap record_of back
    ∙ ap (λ (d : Bool). record (record_of (touched user old)) { dirty = d }) marked
    ∙ counted_dirty changes (record_of (touched user old))
    ∙ ap (λ (r : VectorUnit). if changes then record r { dirty = true } else r) touch
counts_instruction false changes user old new back touch marked = ap record_of back
