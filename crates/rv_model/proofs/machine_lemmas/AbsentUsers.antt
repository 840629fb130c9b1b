-- An absent user doesn't own the vector unit and has no saved state. Events of one user move the unit to this user, and save only the
-- owner's state.
use Rattle.std.proofs.Common.{◌≡◌, ◌≢◌, inl, inr, ℕ, zero, suc, ◌-◌, ◌≤◌, List, [], ◌∷◌, get_or, length, set, Bool, true, false, ◌&&◌, cond, eqb, Option, Some, None, Ok, Err, refl, ap, sym, ◌∙◌, subst, arith}
use Rattle.std.specs.Prelude.{IfSome, if◌then◌else◌}
use Rattle.std.proofs.lemmas.Bool.{cases_eq, false≢true}
use Rattle.std.proofs.lemmas.Bool.Decides.{nat_tests}
use Rattle.std.proofs.lemmas.List.{get_or-replicate, get_or-set_other, set-get_or}
use Rattle.rv_model.specs.declared.commands.command.Cmd.{Cmd}
use Rattle.rv_model.specs.declared.commands.command.Cmd.TheVariants.{Entering}
use Rattle.rv_model.specs.declared.commands.entering.EnteringCommand.TheVariants.{Leave}
use Rattle.rv_model.specs.declared.commands.refusal.Refusal.TheVariants as refusal
use Rattle.rv_model.specs.commands.Commands.{Parsed, command_outcome, commanded, needs_stopped, of_absent, of_present, parse}
use Rattle.rv_model.specs.commands.Entering.{entering, entering_absent}
use Rattle.rv_model.specs.machine.AbsentUsers.{AbsentUsersHaveNothing, AbsentUsersLeaveTheUnit, UserEventsKeepNothing, HasNothing, ScriptsKeepNothing}
use Rattle.rv_model.specs.machine.World.{Private, Event, Command, Slice, event, sliced, World, UserEvent, after_events, after_one, outcome_of, unit_after, user_machine, with_user_machine}
use Rattle.rv_model.specs.machine.Script.{after_all, after_script, events_of, kind_of, new_world, world_after}
use Rattle.rv_model.specs.machine.Setup.{Image, Setup}
use Rattle.rv_model.specs.machine.UserMachine.{Outcome, Present, Use, refuses}
use Rattle.rv_model.specs.machine.VectorUnit.{VectorUnit, is_marked, is_owned_by, owner_changed, owner_saved, unit_after_instruction, unit_after_use, unit_after_uses, unit_discarded, unit_register_written, unit_touched, with_mark}
use Rattle.rv_model.specs.step.Step.{touches}
use Rattle.rv_model.specs.text.Lines.{pieces}
use Rattle.rv_model.proofs.command_lemmas.Commands.{stays_there}
use Rattle.rv_model.proofs.machine_lemmas.Configurations.{not_gone}
use Rattle.rv_model.proofs.machine_lemmas.Cuts.{sliced_stays}
use Rattle.rv_model.proofs.machine_lemmas.Grants.{AreUsers}
use Rattle.rv_model.proofs.machine_lemmas.Headline.{length-after, length-after_one, part_after_one, part_other, part_same, users_of}
use Rattle.rv_model.proofs.Choices.{of_either, of_test}

-- ---- marks and owners

-- a cleared mark is clear
unmarked : (saved : List Bool) (i : ℕ) → get_or (set saved i false) i false ≡ false
unmarked [] i = refl
unmarked (b ∷ saved) zero = refl
unmarked (b ∷ saved) (suc i) = unmarked saved i

-- the mark of another user is unchanged
other_mark : (user u : ℕ) (mark : Bool) (saved : List Bool) → 1 ≤ user → 1 ≤ u → u ≢ user
    → is_marked (with_mark user mark saved) u ≡ is_marked saved u
other_mark user u mark saved low here other = search (arith, nat_tests, get_or-set_other)

-- a user who isn't the owner differs from the owner
not_owner : (owner u : ℕ) → is_owned_by (Some owner) u ≡ false → u ≢ owner
not_owner owner u h e = false≢true (sym h ∙ ap (λ n. eqb owner n) e ∙ (let same : eqb owner owner ≡ true = grind (arith, nat_tests) in same))

another_owns : (owner u : ℕ) → u ≢ owner → is_owned_by (Some owner) u ≡ false
another_owns owner u h = grind (arith, nat_tests)

-- the owner, if there is one, is a user
abbrev OwnerIsUser : Option ℕ → Type 0
OwnerIsUser o = IfSome o (λ owner. (1 ≤ owner) × (owner ≤ 8))

-- ---- transitions of the unit

-- after an event of one user, the owner is still a user, and others without ownership or saved state still have neither
record Moves (user : ℕ) (before after : VectorUnit) : Type 0 where
  owner : OwnerIsUser before.owner → OwnerIsUser after.owner
  others : (u : ℕ) → 1 ≤ u → u ≢ user → OwnerIsUser before.owner → HasNothing u before → HasNothing u after

still : (user : ℕ) (unit : VectorUnit) → Moves user unit unit
still user unit = record { owner = λ is. is; others = λ u low other is nothing. nothing }

and_then : (user : ℕ) (one two three : VectorUnit) → Moves user one two → Moves user two three → Moves user one three
and_then user one two three first second = record {
  owner = λ is. second.owner (first.owner is);
  others = λ u low other is nothing. second.others u low other (first.owner is) (first.others u low other is nothing);
}

picks : (b : Bool) (user : ℕ) (unit x y : VectorUnit) → Moves user unit x → Moves user unit y → Moves user unit (cond b x y)
picks b user unit x y h k = of_either (λ (after : VectorUnit). Moves user unit after) b x y h k

module _ (user : ℕ) (low : 1 ≤ user) (high : user ≤ 8) where
  saves : (owner : Option ℕ) (unit : VectorUnit) → unit.owner ≡ owner → Moves user unit (owner_saved owner unit)
  saves None unit is = still user unit
  saves (Some owner) unit is =
      picks unit.dirty user unit _ unit
      (record {
        owner = λ known. known;
        others = λ u here other known nothing.
            let apart = not_owner owner u (sym (ap (λ o. is_owned_by o u) is) ∙ nothing.0) in
            (nothing.0, other_mark owner u true unit.saved (subst OwnerIsUser is known).0 here apart ∙ nothing.1);
      })
      (still user unit)

  changes_owner : (unit : VectorUnit) → Moves user unit (owner_changed user unit)
  changes_owner unit =
      picks (is_marked unit.saved user) user unit _ _
      (record { owner = λ known. (low, high); others = λ u here other known nothing. (another_owns user u other, nothing.1) })
      (record { owner = λ known. (low, high); others = λ u here other known nothing. (another_owns user u other, nothing.1) })

  touched : (unit : VectorUnit) → Moves user unit (unit_touched user unit)
  touched unit =
      picks (is_owned_by unit.owner user) user unit unit _ (still user unit)
      (and_then user unit (owner_saved unit.owner unit) _ (saves unit.owner unit refl) (changes_owner (owner_saved unit.owner unit)))

  changed : (unit : VectorUnit) → Moves user unit (record unit { dirty = true })
  changed unit = record { owner = λ is. is; others = λ u here other is nothing. nothing }

  instruction : (touches changes : Bool) (unit : VectorUnit) → Moves user unit (unit_after_instruction touches changes user unit)
  instruction false changes unit = still user unit
  instruction true false unit = touched unit
  instruction true true unit = and_then user unit (unit_touched user unit) _ (touched unit) (changed (unit_touched user unit))

  writes : (unit : VectorUnit) → Moves user unit (unit_register_written user unit)
  writes unit =
      picks (is_owned_by unit.owner user) user unit _ _ (changed unit)
      (record {
        owner = λ is. is;
        others = λ u here other is nothing. (nothing.0, other_mark user u true unit.saved low here other ∙ nothing.1);
      })

  discards : (unit : VectorUnit) → Moves user unit (unit_discarded user unit)
  discards unit = record {
    owner = λ is. of_either OwnerIsUser (is_owned_by unit.owner user) None unit.owner tt is;
    others = λ u here other is nothing. (
      of_either (λ (o : Option ℕ). is_owned_by o u ≡ false) (is_owned_by unit.owner user) None unit.owner refl nothing.0,
      other_mark user u false unit.saved low here other ∙ nothing.1,
    );
  }

  -- discarding the vector state of a user without one changes nothing
  nothing_dropped : (unit : VectorUnit) → HasNothing user unit → unit_discarded user unit ≡ unit
  nothing_dropped unit nothing =
      ap (λ (b : Bool). record unit { owner = (if b then None else unit.owner); saved = with_mark user false unit.saved }) nothing.0
      ∙ ap (λ (saved : List Bool). record unit { saved = saved }) (ap (set unit.saved (user - 1)) (sym nothing.1) ∙ set-get_or unit.saved (user - 1) false)

  -- ---- uses

  used : (one : Use) (unit : VectorUnit) → Moves user unit (unit_after_use user one unit)
  used one unit = search (arith, nat_tests, discards, instruction, writes)

  all_used : (uses : List Use) (unit : VectorUnit) → Moves user unit (unit_after_uses user uses unit)
  all_used [] unit = still user unit
  all_used (first ∷ others) unit =
      and_then user unit (unit_after_use user first unit) _ (used first unit) (all_used others (unit_after_use user first unit))

  -- ---- absent users

  absent_command : (c : Cmd) (unit : VectorUnit) → HasNothing user unit → unit_after_uses user (of_absent c).uses unit ≡ unit
  unfolding of_absent entering_absent
  absent_command c unit nothing = search (arith, nat_tests, nothing_dropped)

  absent_event : (s : Setup) (e : Event) (unit : VectorUnit) → HasNothing user unit
      → unit_after_uses user (event s None e).uses unit ≡ unit
  unfolding event command_outcome sliced
  absent_event s e unit nothing = search (arith, nat_tests, absent_command)

  -- ---- users who become absent

  abbrev LeavesNothing : Outcome → VectorUnit → Type 0
  LeavesNothing o unit = o.next ≡ None → HasNothing user (unit_after_uses user o.uses unit)

  left : (images : List Image) (p : Present) (c : Cmd) (unit : VectorUnit) → LeavesNothing (of_present images c p) unit
  unfolding of_present entering
  left images p (Entering Leave) unit none = search (arith, nat_tests, of_test, unmarked)
  left images p c unit none = absurd (not_gone p (of_present images c p).next (stays_there images p c) none)

  present_leaves : (images : List Image) (p : Present) (c : Cmd) (unit : VectorUnit) → LeavesNothing (command_outcome images c (Some p)) unit
  unfolding command_outcome
  present_leaves images p c unit =
      of_either (λ (o : Outcome). LeavesNothing o unit) (p.running && needs_stopped c) (refuses (Some p) refusal.Running) (of_present images c p)
      (λ none. absurd (not_gone p (Some p) (λ is. is) none)) (left images p c unit)

  -- a user who is absent after an event has no vector state, if an absent user had none before it
  absent_after : (s : Setup) (p : Private) (e : Event) (unit : VectorUnit) → (p ≡ None → HasNothing user unit)
      → LeavesNothing (event s p e) unit
  unfolding event
  absent_after s None e unit nothing none = subst (HasNothing user) (sym (absent_event s e unit (nothing refl))) (nothing refl)
  absent_after s (Some p) (Command line) unit nothing none = parsed (parse line) none
    where
      parsed : (r : Parsed) → LeavesNothing (commanded s.images (Some p) r) unit
      parsed (Err reason) none = absurd (not_gone p (Some p) (λ is. is) none)
      parsed (Ok c) none = present_leaves s.images p c unit none
  absent_after s (Some p) Slice unit nothing none = search (arith, nat_tests, not_gone, sliced_stays)

-- ---- the laws

pub new_world_has_nothing : AbsentUsersHaveNothing new_world
unfolding new_world
new_world_has_nothing = (tt, λ u low high absent. (refl, get_or-replicate 8 (u - 1) false false (omega (arith, low, high))))

unit_after_one : (s : Setup) (w : World) (h : UserEvent) → (after_one s w h).unit ≡ unit_after s w h
unit_after_one s w h = search (arith, nat_tests)

pub user_events_keep_nothing : UserEventsKeepNothing
user_events_keep_nothing s w h low high eight nothing =
    let moves : Moves h.user w.unit (unit_after s w h) = all_used h.user low high (outcome_of s w h).uses w.unit in
    let is_unit = sym (unit_after_one s w h) in
    let next : Private = (outcome_of s w h).next in (
      subst (λ (unit : VectorUnit). OwnerIsUser unit.owner) is_unit (moves.owner nothing.0),
      λ u here there absent.
          let found : user_machine u (with_user_machine h.user next w) ≡ None = sym (part_after_one s u w h) ∙ absent in
          subst (HasNothing u) is_unit (elim (cases_eq u h.user) [
            | inl same ↦
                let gone : next ≡ None =
                sym (part_same h.user next w low (omega (arith, high, eight)))
                ∙ ap (λ (v : ℕ). user_machine v (with_user_machine h.user next w)) (sym same) ∙ found in
                subst (λ (v : ℕ). HasNothing v (unit_after s w h)) (sym same)
                (absent_after h.user low high s (user_machine h.user w) h.event w.unit (nothing.1 h.user low high) gone)
            | inr other ↦
                moves.others u here other nothing.0 (nothing.1 u here there (sym (part_other u h.user next w here low (λ e. other (sym e))) ∙ found))
          ]),
    )

all_keep_nothing : (s : Setup) (w : World) (hs : List UserEvent) → length w.parts ≡ 8 → AreUsers hs → AbsentUsersHaveNothing w
    → AbsentUsersHaveNothing (after_events s w hs)
all_keep_nothing s w [] eight users nothing = nothing
all_keep_nothing s w (h ∷ hs) eight users nothing =
    search (arith, nat_tests, length-after_one, user_events_keep_nothing, all_keep_nothing s (after_one s w h) hs (length-after_one s w h ∙ eight) users.2 (user_events_keep_nothing s w h users.0 users.1 eight nothing))

lines_keep_nothing : (s : Setup) (w : World) (lines : List (List ℕ)) → length w.parts ≡ 8 → AbsentUsersHaveNothing w
    → AbsentUsersHaveNothing (after_all s w lines)
unfolding world_after
lines_keep_nothing s w [] eight nothing = nothing
lines_keep_nothing s w (line ∷ lines) eight nothing =
    search (arith, nat_tests, all_keep_nothing, length-after, users_of, lines_keep_nothing s (world_after s w line) lines (length-after s w line ∙ eight) (all_keep_nothing s w (events_of s w (kind_of line)) eight (users_of s w line) nothing))

pub scripts_keep_nothing : ScriptsKeepNothing
unfolding after_script
scripts_keep_nothing s w script eight nothing = lines_keep_nothing s w (pieces script) eight nothing

pub absent_users_leave_the_unit : AbsentUsersLeaveTheUnit
absent_users_leave_the_unit s w h low high nothing absent = search (arith, nat_tests, absent_event)
