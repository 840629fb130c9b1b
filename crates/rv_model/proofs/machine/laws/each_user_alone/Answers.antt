use Rattle.rv_model.proofs.machine_lemmas.Headline as law
use Rattle.rv_model.proofs.machine.laws.each_user_alone.Goals as goal

pub returns-clause-from_any : goal.returns-clause-from_any
returns-clause-from_any c = law.each_user_alone

pub returns-clause-from_new : goal.returns-clause-from_new
returns-clause-from_new c = law.each_new_user_alone

pub returns-clause-end_state : goal.returns-clause-end_state
returns-clause-end_state c = law.each_user_ends_alone

pub returns-clause-others : goal.returns-clause-others
returns-clause-others c = law.others_change_nothing

pub returns-clause-equal : goal.returns-clause-equal
returns-clause-equal c = law.equal_parts_answer_alike

pub returns-clause-eight : goal.returns-clause-eight
returns-clause-eight c = law.machines_stay_eight
