-- The vector length of each user's machine is valid for its vector type. This is true at the start and after each event, so slices add up
-- after any script.
use Rattle.std.specs.Prelude.{ℕ, ◌*◌, List, All}
use Rattle.rv_model.specs.machine.Cuts.{HaveEqualEffects, IsConfigured, KeepsWordIfCut, slices}
use Rattle.rv_model.specs.machine.World.{sliced}
use Rattle.rv_model.specs.machine.Script.{World, UserEvent, after_all, after_one, after_script, new_world, user_machine}
use Rattle.rv_model.specs.machine.Setup.{Setup}

abbrev pub UsersAreConfigured : World → Type 0
UsersAreConfigured w = (u : ℕ) → IsConfigured (user_machine u w)

-- ---- the laws

-- The new world satisfies this, and each event of a user preserves it.
abbrev pub UserEventsKeepConfigurations : Type 0
UserEventsKeepConfigurations =
    (setup : Setup) (w : World) (h : UserEvent) → UsersAreConfigured w → UsersAreConfigured (after_one setup w h)

-- All lines of a script preserve it, and so do the lines up to any of them.
abbrev pub ScriptsKeepConfigurations : Type 0
ScriptsKeepConfigurations =
    (setup : Setup) (w : World) (lines : List (List ℕ)) → UsersAreConfigured w → UsersAreConfigured (after_all setup w lines)

-- So after any script for new machines, k slices of a user equal one slice of all their ticks. The exception: one of them cuts a vector
-- store that has already overwritten its own instruction word.
abbrev pub SlicesAddUpAfterScripts : Type 0
SlicesAddUpAfterScripts = (setup : Setup) (script : List ℕ) (u k quantum : ℕ) →
    let p = user_machine u (after_script setup new_world script) in
    All KeepsWordIfCut (slices k quantum p).uses → HaveEqualEffects (slices k quantum p) (sliced (k * quantum) p)
