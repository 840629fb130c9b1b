use Rattle.rv_model.proofs.assembler_lemmas.TextOperands.{slots_hold_operands}
use Rattle.rv_model.proofs.assembler.laws.operands_of_instructions.Goals as goal

pub returns : goal.returns
returns c = slots_hold_operands
