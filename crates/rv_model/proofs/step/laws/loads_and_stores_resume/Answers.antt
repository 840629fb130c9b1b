-- The laws about loads and stores that stop and are executed again.
use Rattle.rv_model.proofs.access_lemmas.GoesOn as on
use Rattle.rv_model.proofs.access_lemmas.Growth as growth
use Rattle.rv_model.proofs.access_lemmas.Runs as off
use Rattle.rv_model.proofs.access_lemmas.RunsAgain as runs
use Rattle.rv_model.proofs.legality_lemmas.Overlaps as overlaps
use Rattle.rv_model.proofs.step.laws.loads_and_stores_resume.Goals as goal

pub returns-clause-indices : goal.returns-clause-indices
returns-clause-indices c = overlaps.later_indices_stay

pub returns-clause-leaves : goal.returns-clause-leaves
returns-clause-leaves c = off.access_leaves_off

pub returns-clause-again : goal.returns-clause-again
returns-clause-again c = on.accesses_go_on

pub returns-clause-limit : goal.returns-clause-limit
returns-clause-limit c = runs.larger_limit_is_same

pub returns-clause-overlay : goal.returns-clause-overlay
returns-clause-overlay c = growth.get-overlay

pub returns-clause-grown : goal.returns-clause-grown
returns-clause-grown c = growth.overlay_grown
