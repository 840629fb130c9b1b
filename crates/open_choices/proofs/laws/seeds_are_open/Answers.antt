use Rattle.open_choices.proofs.SeededSteps.{same_lengths, seeded_is_open, zero_is_step}
use Rattle.open_choices.proofs.laws.seeds_are_open.Goals as goal

pub returns-clause-seeded : goal.returns-clause-seeded
returns-clause-seeded c = seeded_is_open

pub returns-clause-zero : goal.returns-clause-zero
returns-clause-zero c = zero_is_step

pub returns-clause-length : goal.returns-clause-length
returns-clause-length c = same_lengths
