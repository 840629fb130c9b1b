-- If no word is fetched, or the word isn't an instruction, or the instruction is scalar, the vector state isn't borrowed.
use Rattle.std.proofs.Common.{◌≡◌, Option, refl, subst, arith}
use Rattle.std.proofs.lemmas.Grind.{common_steps}
use Rattle.rv_model.specs.declared.instructions.instruction.Instr.{Instr}
use Rattle.rv_model.specs.instructions.Table.{scan, table}
use Rattle.rv_model.specs.step.Step.{dirties, executed, fetched, step, touches}
use Rattle.hart.specs.States.{Returns, shown}
use Rattle.hart.proofs.instruction_cycle.cycle.Goals as goal

pub returns-then-not-fetch-clause-vectors : goal.returns-then-not-fetch-clause-vectors
unfolding dirties
returns-then-not-fetch-clause-vectors g c = (
  (λ output. grind (arith, common_steps), λ clean. refl, λ touching. grind (arith, common_steps)),
  grind (arith, common_steps),
  c.requires.ready,
)

pub returns-in-Scalar-clause-model : goal.returns-in-Scalar-clause-model
unfolding step executed
returns-in-Scalar-clause-model g c = grind (arith, common_steps)

pub returns-in-Scalar-clause-vectors : goal.returns-in-Scalar-clause-vectors
unfolding dirties
returns-in-Scalar-clause-vectors g c = (
  (λ output. grind (arith, common_steps), λ clean. refl, λ touching. grind (arith, common_steps)),
  grind (arith, common_steps),
  c.requires.ready,
)

pub returns-in-System-clause-vectors : goal.returns-in-System-clause-vectors
returns-in-System-clause-vectors g c =
    let view = c.args.view.now in
    let found : scan table c.fetch.new.word ≡ fetched (g.M.UserBytes.memory view.memory.now) view.scalar.now.pc = grind (arith, common_steps) in
    subst (λ (o : Option Instr). Returns g.V.Vectors.ready g.V.Vectors.lent g.V.Vectors.back (touches o) (dirties c.args.limit o) (shown g.M.UserBytes.memory g.V.Vectors.lent view) view.vectors.now c.execute_system.new.vectors)
    found (c.execute_system.ensures.vectors c.args.limit view.policy)

pub returns-in-Unknown-clause-model : goal.returns-in-Unknown-clause-model
unfolding step executed
returns-in-Unknown-clause-model g c = grind (arith, common_steps)

pub returns-in-Unknown-clause-vectors : goal.returns-in-Unknown-clause-vectors
unfolding dirties
returns-in-Unknown-clause-vectors g c = (
  (λ output. grind (arith, common_steps), λ clean. refl, λ touching. grind (arith, common_steps)),
  grind (arith, common_steps),
  c.requires.ready,
)
