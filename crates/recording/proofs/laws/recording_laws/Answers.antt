use Rattle.recording.proofs.RunsEqualSteps.{runs_as_steps}
use Rattle.recording.proofs.Bodies.{access_body, operation_body}
use Rattle.recording.proofs.laws.recording_laws.Goals as goal

pub returns-clause-steps : goal.returns-clause-steps
returns-clause-steps c = runs_as_steps

pub returns-clause-accesses : goal.returns-clause-accesses
returns-clause-accesses c = access_body

pub returns-clause-operations : goal.returns-clause-operations
returns-clause-operations c = operation_body
