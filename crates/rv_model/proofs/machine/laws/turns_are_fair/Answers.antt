-- Turns rotate among the users with running programs.
use Rattle.rv_model.proofs.machine_lemmas.Turns as law
use Rattle.rv_model.proofs.machine.laws.turns_are_fair.Goals as goal

pub returns-clause-at_most_one : goal.returns-clause-at_most_one
returns-clause-at_most_one c = law.nobody_has_two_turns

pub returns-clause-in_eight : goal.returns-clause-in_eight
returns-clause-in_eight c = law.each_running_user_has_a_turn

pub returns-clause-grants : goal.returns-clause-grants
returns-clause-grants c = law.grants_are_in_turn

pub returns-clause-scripts : goal.returns-clause-scripts
returns-clause-scripts c = law.scripts_are_in_turn

pub returns-clause-between : goal.returns-clause-between
returns-clause-between c = law.one_turn_between_turns
