-- The laws about consecutive slices.
use Rattle.rv_model.proofs.machine_lemmas.ConfiguredUsers as users
use Rattle.rv_model.proofs.machine_lemmas.Cuts as law
use Rattle.rv_model.proofs.machine.laws.slices_add_up.Goals as goal

pub returns-clause-cuts : goal.returns-clause-cuts
returns-clause-cuts c = law.cuts_are_invisible

pub returns-clause-slices : goal.returns-clause-slices
returns-clause-slices c = law.slices_add_up

pub returns-clause-configuration : goal.returns-clause-configuration
returns-clause-configuration c = law.slice_keeps_configuration

pub returns-clause-new : goal.returns-clause-new
returns-clause-new c = users.new_users_are_configured

pub returns-clause-user_events : goal.returns-clause-user_events
returns-clause-user_events c = users.user_events_keep_configurations

pub returns-clause-scripts : goal.returns-clause-scripts
returns-clause-scripts c = users.scripts_keep_configurations

pub returns-clause-after_scripts : goal.returns-clause-after_scripts
returns-clause-after_scripts c = users.slices_add_up_after_scripts
