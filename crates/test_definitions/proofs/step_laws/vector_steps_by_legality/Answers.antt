use Rattle.test_definitions.proofs.StepLaws.{accesses_exist, illegal_steps_fault, legal_steps_execute, operations_have_equations, operations_have_types, others_have_equations}
use Rattle.test_definitions.proofs.step_laws.vector_steps_by_legality.Goals as goal

pub returns : goal.returns
returns c =
    record {
      legal = legal_steps_execute;
      illegal = illegal_steps_fault;
      operations = operations_have_equations;
      types = operations_have_types;
      accesses = accesses_exist;
      others = others_have_equations;
    }
