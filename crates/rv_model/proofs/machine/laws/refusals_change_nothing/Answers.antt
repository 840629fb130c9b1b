-- Refusals change nothing.
use Rattle.rv_model.proofs.command_lemmas.Refusals as commands
use Rattle.rv_model.proofs.machine_lemmas.Refusals as law
use Rattle.rv_model.proofs.machine.laws.refusals_change_nothing.Goals as goal

pub returns-clause-reasons : goal.returns-clause-reasons
returns-clause-reasons c = commands.reasons_are_refusals

pub returns-clause-user_events : goal.returns-clause-user_events
returns-clause-user_events c = law.refused_user_events_change_nothing

pub returns-clause-lines : goal.returns-clause-lines
returns-clause-lines c = law.refused_lines_change_nothing
