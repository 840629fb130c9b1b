use Rattle.open_choices.proofs.AllChosen.{all_chosen}
use Rattle.open_choices.proofs.ChosenSteps.{chosen_is_open, none_chosen}
use Rattle.open_choices.proofs.laws.overlays_are_open.Goals as goal

pub returns-clause-chosen : goal.returns-clause-chosen
returns-clause-chosen c = chosen_is_open

pub returns-clause-none : goal.returns-clause-none
returns-clause-none c = none_chosen

pub returns-clause-all : goal.returns-clause-all
returns-clause-all c = all_chosen
