use Rattle.rv_model.proofs.machine_lemmas.Purge as law
use Rattle.rv_model.proofs.machine.laws.others_can_be_purged.Goals as goal

pub returns-clause-without_slices : goal.returns-clause-without_slices
returns-clause-without_slices c = law.others_can_be_purged

pub returns-clause-others : goal.returns-clause-others
returns-clause-others c = law.others_can_be_replaced

pub returns-clause-runs : goal.returns-clause-runs
returns-clause-runs c = law.runs_replace_slices

pub returns-clause-replaced : goal.returns-clause-replaced
returns-clause-replaced c = law.only_slices_are_replaced

pub returns-clause-any_script : goal.returns-clause-any_script
returns-clause-any_script c = law.others_can_be_purged_from_all

pub returns-clause-examples : goal.returns-clause-examples
returns-clause-examples c = law.small_scripts_are_purged

pub returns-clause-example_runs : goal.returns-clause-example_runs
returns-clause-example_runs c = law.small_scripts_get_runs
