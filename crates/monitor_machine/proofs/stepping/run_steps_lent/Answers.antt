use Rattle.std.proofs.Common.{◌≡◌, ℕ, suc, ◌+◌, ◌-◌, Option, Some, None, ap, ◌∙◌, subst, sym, arith}
use Rattle.rv_model.specs.declared.step.step_end.Stop.{Stop}
use Rattle.rv_model.specs.declared.step.step_end.Stop.TheVariants as stop
use Rattle.monitor_machine.specs.Lent.{Lent, TriesTo, lent}
use Rattle.monitor_machine.proofs.StepLaws.{no_steps, steps_go_on, steps_broken, steps_stop}
use Rattle.monitor_machine.proofs.UnitSteps.{lent_twice}
use Rattle.monitor_machine.proofs.stepping.run_steps_lent.Goals as goal

-- an instruction stops the program
pub returns-in-Some-clause-run : goal.returns-in-Some-clause-run
returns-in-Some-clause-run g c =
    let n : ℕ = c.args.count - (c.loop.counter + 1) in
    let one_less : c.args.count - c.loop.counter ≡ suc n = omega arith in
    let a : Lent = lent g.M.UserBytes.memory c.loop.context c.loop.trace c.loop.vectors c.loop.memory in
    let b : Lent = lent g.M.UserBytes.memory c.try_instruction-stop.new.context c.try_instruction-stop.new.trace c.try_instruction-stop.new.vectors c.try_instruction-stop.new.memory in
    let ticks : ℕ = c.try_instruction-stop.result.1 in
    c.loop.invariant.left b (Some c.in-Some.stop)
    (steps_stop (c.args.count - c.loop.counter) n ticks c.loop.skip_once a b c.in-Some.stop one_less (sym c.should_break.ensures ∙ c.if-should_break.false)
    (subst (λ (reason : Option Stop). TriesTo 256 a b reason ticks) c.in-Some.is c.try_instruction-stop.ensures.run))

pub returns-in-Some-clause-memory : goal.returns-in-Some-clause-memory
returns-in-Some-clause-memory g c =
    c.try_instruction-stop.ensures.memory
    ∙ ap (λ u. g.M.UserBytes.with_memory u (g.M.UserBytes.memory c.try_instruction-stop.new.memory)) c.loop.invariant.memory
    ∙ g.met.M.UserBytes.with_memory_twice c.args.memory.now (g.M.UserBytes.memory c.loop.memory) (g.M.UserBytes.memory c.try_instruction-stop.new.memory)

pub returns-in-Some-clause-vectors : goal.returns-in-Some-clause-vectors
returns-in-Some-clause-vectors g c =
    lent_twice c.args.vectors.now c.loop.vectors c.try_instruction-stop.new.vectors c.loop.invariant.vectors c.try_instruction-stop.ensures.vectors

-- a breakpoint stops the program
pub returns-then-should_break-clause-run : goal.returns-then-should_break-clause-run
returns-then-should_break-clause-run g c =
    let n : ℕ = c.args.count - (c.loop.counter + 1) in
    let one_less : c.args.count - c.loop.counter ≡ suc n = omega arith in
    let a : Lent = lent g.M.UserBytes.memory c.loop.context c.loop.trace c.loop.vectors c.loop.memory in
    c.loop.invariant.left a (Some stop.Breakpoint)
    (steps_broken (c.args.count - c.loop.counter) n c.loop.skip_once a one_less (sym c.should_break.ensures ∙ c.if-should_break.true))

-- all instructions were tried
pub returns-clause-run : goal.returns-clause-run
returns-clause-run g c =
    let none : c.args.count - c.loop.counter ≡ 0 = omega (arith, c.loop-test.false) in
    let a : Lent = lent g.M.UserBytes.memory c.loop.context c.loop.trace c.loop.vectors c.loop.memory in
    c.loop.invariant.left a None (no_steps (c.args.count - c.loop.counter) c.loop.skip_once a none)

pub loop-preserved : goal.loop-preserved
loop-preserved g c =
    let n : ℕ = c.args.count - (c.loop.counter + 1) in
    let one_less : c.args.count - c.loop.counter ≡ suc n = omega arith in
    let a : Lent = lent g.M.UserBytes.memory c.loop.context c.loop.trace c.loop.vectors c.loop.memory in
    let b : Lent = lent g.M.UserBytes.memory c.try_instruction-stop.new.context c.try_instruction-stop.new.trace c.try_instruction-stop.new.vectors c.try_instruction-stop.new.memory in
    let ticks : ℕ = c.try_instruction-stop.result.1 in
    record {
      left = λ end reason later.
          c.loop.invariant.left end reason
          (steps_go_on (c.args.count - c.loop.counter) n ticks c.loop.skip_once a b end reason one_less (sym c.should_break.ensures ∙ c.if-should_break.false)
          (subst (λ (o : Option Stop). TriesTo 256 a b o ticks) c.in_default.is c.try_instruction-stop.ensures.run) c.try_instruction-stop.ensures.vectors.user later);
      vectors = lent_twice c.args.vectors.now c.loop.vectors c.try_instruction-stop.new.vectors c.loop.invariant.vectors c.try_instruction-stop.ensures.vectors;
      entered = c.try_instruction-stop.ensures.entered ∙ c.loop.invariant.entered;
      policy = c.loop.invariant.policy ∙ sym c.try_instruction-stop.ensures.policy;
      memory =
          c.try_instruction-stop.ensures.memory
          ∙ ap (λ u. g.M.UserBytes.with_memory u (g.M.UserBytes.memory c.try_instruction-stop.new.memory)) c.loop.invariant.memory
          ∙ g.met.M.UserBytes.with_memory_twice c.args.memory.now (g.M.UserBytes.memory c.loop.memory) (g.M.UserBytes.memory c.try_instruction-stop.new.memory);
    }
