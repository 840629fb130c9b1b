-- The save areas of all users, with the vector states that the unit doesn't hold (Privileged Architecture 20211203, section 3.1.6.6).
use Rattle.std.specs.Prelude.{ℕ, ◌-◌, true, false, List, if◌then◌else◌, replicate, slice_index_or, slice_set}
use Rattle.rv_model.specs.declared.vector.state.VState.{VState}
use Rattle.rv_model.specs.machine.Setup.{user_count}
use Rattle.rv_model.specs.machine.VectorUnit.{counted, is_marked, with_mark}
use Rattle.rv_model.specs.vector.Groups.{with_register_bytes}
use Rattle.rv_model.specs.vector.State.{initial_vector}
use Rattle.lazy_context.specs.declared.areas.Areas.{Areas}

-- the content of a user's area, whether or not its mark is set
abbrev pub area : Areas → ℕ → VState
area areas user = slice_index_or areas.states (user - 1) initial_vector

-- the state of a user who isn't the owner: the saved one, or the initial one if none is saved
abbrev pub saved_state : Areas → ℕ → VState
saved_state areas user = if is_marked areas.marks user then area areas user else initial_vector

-- the areas with a state saved for a user; the save isn't counted
abbrev pub with_saved : ℕ → VState → Areas → Areas
with_saved user state areas =
    record areas { states = slice_set areas.states (user - 1) state; marks = with_mark user true areas.marks }

-- the areas with one more restore counted
abbrev pub count_restore : Areas → Areas
count_restore areas = record areas { restores = counted areas.restores }

-- the areas without saved states, with counts of 0
abbrev pub new_areas : Areas
new_areas = record { states = replicate user_count initial_vector; marks = replicate user_count false; saves = 0; restores = 0 }

-- a vector state with the bytes of one register replaced
abbrev pub with_register : ℕ → List ℕ → VState → VState
with_register register bytes state = record state { file = with_register_bytes register bytes state.file }
