-- The vector type of each user's machine allows its vector length, after any events.
use Rattle.std.proofs.Common.{ℕ, zero, suc, ◌-◌, List, [], ◌∷◌, get_or, set, Some, None, sym, subst, arith}
use Rattle.std.specs.Prelude.{replicate}
use Rattle.std.proofs.lemmas.Bool.Decides.{nat_tests}
use Rattle.rv_model.specs.declared.commands.command.Cmd.{Cmd}
use Rattle.rv_model.specs.declared.commands.command.Cmd.TheVariants.{Entering}
use Rattle.rv_model.specs.declared.commands.entering.EnteringCommand.TheVariants.{Leave}
use Rattle.rv_model.specs.commands.Commands.{Parsed, command_outcome, commanded, of_absent, of_present}
use Rattle.rv_model.specs.commands.Entering.{entering, entering_absent}
use Rattle.rv_model.specs.machine.ConfiguredUsers.{UserEventsKeepConfigurations, ScriptsKeepConfigurations, SlicesAddUpAfterScripts, UsersAreConfigured}
use Rattle.rv_model.specs.machine.Cuts.{IsConfigured}
use Rattle.rv_model.specs.machine.World.{Event, event, World, UserEvent, after_events, after_one, outcome_of, user_machine}
use Rattle.rv_model.specs.machine.Script.{after_script, events_of, kind_of, new_world, world_after}
use Rattle.rv_model.specs.machine.Setup.{Image, Setup}
use Rattle.rv_model.specs.machine.UserMachine.{Present, Private}
use Rattle.rv_model.specs.text.Lines.{pieces}
use Rattle.rv_model.specs.vector.State.{initial_vector}
use Rattle.rv_model.proofs.Choices.{of_either}
use Rattle.rv_model.proofs.command_lemmas.Commands.{stays_there}
use Rattle.rv_model.proofs.machine_lemmas.Configurations.{stays_configured}
use Rattle.rv_model.proofs.machine_lemmas.Cuts.{slice_keeps_configuration, slices_add_up}
use Rattle.rv_model.proofs.machine_lemmas.Headline.{part_after_one}

-- ---- events of one user

absent_command : (c : Cmd) → IsConfigured (of_absent c).next
unfolding of_absent entering_absent initial_vector
absent_command c = search (arith, nat_tests)

present_command : (images : List Image) (p : Present) (c : Cmd) → IsConfigured (Some p) → IsConfigured (of_present images c p).next
unfolding of_present entering
present_command images p (Entering Leave) is = tt
present_command images p c is = stays_configured p (of_present images c p).next (stays_there images p c) is

line_keeps : (images : List Image) (p : Private) (r : Parsed) → IsConfigured p → IsConfigured (commanded images p r).next
unfolding command_outcome
line_keeps images p r is = search (arith, nat_tests, absent_command, of_either, present_command)

event_keeps : (s : Setup) (p : Private) (e : Event) → IsConfigured p → IsConfigured (event s p e).next
unfolding event
event_keeps s p e is = search (arith, nat_tests, line_keeps, slice_keeps_configuration)

-- ---- events of all users

-- a property of the replaced element and of all others holds for each element
of_element : {X : Type 0} (P : X → Type 0) (xs : List X) (i j : ℕ) (x d : X) → P x → P (get_or xs j d) → P (get_or (set xs i x) j d)
of_element P [] i j x d one other = other
of_element P (y ∷ ys) zero zero x d one other = one
of_element P (y ∷ ys) zero (suc j) x d one other = other
of_element P (y ∷ ys) (suc i) zero x d one other = other
of_element P (y ∷ ys) (suc i) (suc j) x d one other = of_element P ys i j x d one other

nobody : (n i : ℕ) → IsConfigured (get_or (replicate n None) i None)
nobody zero i = tt
nobody (suc n) zero = tt
nobody (suc n) (suc i) = nobody n i

pub new_users_are_configured : UsersAreConfigured new_world
unfolding new_world
new_users_are_configured u = nobody 8 (u - 1)

pub user_events_keep_configurations : UserEventsKeepConfigurations
user_events_keep_configurations s w h are = λ u.
    subst IsConfigured (sym (part_after_one s u w h))
    (of_element IsConfigured w.parts (h.user - 1) (u - 1) ((outcome_of s w h).next) None (event_keeps s (user_machine h.user w) h.event (are h.user)) (are u))

all_keep : (s : Setup) (w : World) (hs : List UserEvent) → UsersAreConfigured w → UsersAreConfigured (after_events s w hs)
all_keep s w [] are = are
all_keep s w (h ∷ hs) are = all_keep s (after_one s w h) hs (user_events_keep_configurations s w h are)

pub scripts_keep_configurations : ScriptsKeepConfigurations
unfolding world_after
scripts_keep_configurations s w [] are = are
scripts_keep_configurations s w (line ∷ lines) are =
    scripts_keep_configurations s (world_after s w line) lines (all_keep s w (events_of s w (kind_of line)) are)

pub slices_add_up_after_scripts : SlicesAddUpAfterScripts
unfolding after_script
slices_add_up_after_scripts s script u k quantum words =
    slices_add_up k quantum _ (scripts_keep_configurations s new_world (pieces script) new_users_are_configured u) words
