-- An absent user doesn't own the vector unit and has no saved state.
use Rattle.rv_model.proofs.machine_lemmas.AbsentUsers as law
use Rattle.rv_model.proofs.machine.laws.absent_users_have_nothing.Goals as goal

pub returns-clause-new : goal.returns-clause-new
returns-clause-new c = law.new_world_has_nothing

pub returns-clause-user_events : goal.returns-clause-user_events
returns-clause-user_events c = law.user_events_keep_nothing

pub returns-clause-scripts : goal.returns-clause-scripts
returns-clause-scripts c = law.scripts_keep_nothing

pub returns-clause-unit : goal.returns-clause-unit
returns-clause-unit c = law.absent_users_leave_the_unit
