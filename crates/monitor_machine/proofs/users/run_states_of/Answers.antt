use Rattle.std.proofs.Common.{arith}
use Rattle.rv_model.specs.declared.machine.run_state.RunState.TheVariants.{Absent}
use Rattle.monitor_machine.specs.Parts.{context_run_state, new_context}
use Rattle.monitor_machine.proofs.GrantLaws.{filled}
use Rattle.monitor_machine.proofs.users.run_states_of.Goals as goal

pub returns : goal.returns
returns c = filled context_run_state c.args.contexts.now c.loop-index.run_states new_context Absent (omega (arith, c.loop-index.invariant.count, c.type_inv.contexts)) (λ k lt. c.loop-index.invariant.done k (omega (arith, lt, c.type_inv.contexts, c.loop-index-test.false)))
