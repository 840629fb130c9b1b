use Rattle.std.proofs.Common.{◌≡◌, ◌≤◌, ℕ, nat_le, List, length, Option, Some, None, ap, ◌∙◌, subst, sym, arith}
use Rattle.rv_model.specs.declared.step.step_end.Stop.{Stop}
use Rattle.rv_model.specs.declared.step.step_end.Stop.TheVariants as stop
use Rattle.monitor_machine.specs.Lent.{Lent, TriesTo, lent}
use Rattle.monitor_machine.proofs.StepLaws.{no_ticks, slices_add_up, slice_held, slice_stops, took_some}
use Rattle.monitor_machine.proofs.UnitSteps.{lent_twice}
use Rattle.monitor_machine.proofs.stepping.run_ticks_lent.Goals as goal

-- an instruction stops the program
pub returns-in-Some-clause-run : goal.returns-in-Some-clause-run
returns-in-Some-clause-run g c =
    let a : Lent = lent g.M.UserBytes.memory c.loop-left.context c.loop-left.trace c.loop-left.vectors c.loop-left.memory in
    let b : Lent = lent g.M.UserBytes.memory c.try_instruction-stop.new.context c.try_instruction-stop.new.trace c.try_instruction-stop.new.vectors c.try_instruction-stop.new.memory in
    let ticks : ℕ = c.try_instruction-stop.result.1 in
    c.loop-left.invariant.left b (Some c.in-Some.stop)
    (slice_stops c.loop-left.left ticks a b c.in-Some.stop (omega (arith, c.loop-left-test.true)) (sym c.should_break.ensures ∙ c.if-should_break.false)
    (subst (λ (reason : Option Stop). TriesTo c.loop-left.left a b reason ticks) c.in-Some.is c.try_instruction-stop.ensures.run))

pub returns-in-Some-clause-memory : goal.returns-in-Some-clause-memory
returns-in-Some-clause-memory g c =
    c.try_instruction-stop.ensures.memory
    ∙ ap (λ u. g.M.UserBytes.with_memory u (g.M.UserBytes.memory c.try_instruction-stop.new.memory)) c.loop-left.invariant.memory
    ∙ g.met.M.UserBytes.with_memory_twice c.args.memory.now (g.M.UserBytes.memory c.loop-left.memory) (g.M.UserBytes.memory c.try_instruction-stop.new.memory)

pub returns-in-Some-clause-vectors : goal.returns-in-Some-clause-vectors
returns-in-Some-clause-vectors g c =
    lent_twice c.args.vectors.now c.loop-left.vectors c.try_instruction-stop.new.vectors c.loop-left.invariant.vectors c.try_instruction-stop.ensures.vectors

-- a breakpoint stops the program
pub returns-then-should_break-clause-run : goal.returns-then-should_break-clause-run
returns-then-should_break-clause-run g c =
    let a : Lent = lent g.M.UserBytes.memory c.loop-left.context c.loop-left.trace c.loop-left.vectors c.loop-left.memory in
    c.loop-left.invariant.left a (Some stop.Breakpoint)
    (slice_held c.loop-left.left a (omega (arith, c.loop-left-test.true)) (sym c.should_break.ensures ∙ c.if-should_break.true))

-- all ticks were used
pub returns-clause-run : goal.returns-clause-run
returns-clause-run g c =
    let none : c.loop-left.left ≡ 0 = omega (arith, c.loop-left-test.false) in
    let a : Lent = lent g.M.UserBytes.memory c.loop-left.context c.loop-left.trace c.loop-left.vectors c.loop-left.memory in
    c.loop-left.invariant.left a None (no_ticks c.loop-left.left a none)

pub overflow_sub-left : goal.overflow_sub-left
overflow_sub-left g c =
    let a : Lent = lent g.M.UserBytes.memory c.loop-left.context c.loop-left.trace c.loop-left.vectors c.loop-left.memory in
    let b : Lent = lent g.M.UserBytes.memory c.try_instruction-stop.new.context c.try_instruction-stop.new.trace c.try_instruction-stop.new.vectors c.try_instruction-stop.new.memory in
    (took_some c.loop-left.left c.try_instruction-stop.result.1 a b c.try_instruction-stop.result.0 (omega (arith, c.loop-left-test.true)) c.try_instruction-stop.ensures.run).1

pub loop-left-smaller : goal.loop-left-smaller
loop-left-smaller g c =
    let a : Lent = lent g.M.UserBytes.memory c.loop-left.context c.loop-left.trace c.loop-left.vectors c.loop-left.memory in
    let b : Lent = lent g.M.UserBytes.memory c.try_instruction-stop.new.context c.try_instruction-stop.new.trace c.try_instruction-stop.new.vectors c.try_instruction-stop.new.memory in
    let some : 1 ≤ c.loop-left.left = omega (arith, c.loop-left-test.true) in
    omega (arith, some, (took_some c.loop-left.left c.try_instruction-stop.result.1 a b c.try_instruction-stop.result.0 some c.try_instruction-stop.ensures.run).0)

pub loop-left-preserved : goal.loop-left-preserved
loop-left-preserved g c =
    let a : Lent = lent g.M.UserBytes.memory c.loop-left.context c.loop-left.trace c.loop-left.vectors c.loop-left.memory in
    let b : Lent = lent g.M.UserBytes.memory c.try_instruction-stop.new.context c.try_instruction-stop.new.trace c.try_instruction-stop.new.vectors c.try_instruction-stop.new.memory in
    let ticks : ℕ = c.try_instruction-stop.result.1 in
    record {
      left = λ end reason later.
          c.loop-left.invariant.left end reason
          (slices_add_up c.loop-left.left ticks a b end reason (omega (arith, c.loop-left-test.true)) (sym c.should_break.ensures ∙ c.if-should_break.false)
          (subst (λ (o : Option Stop). TriesTo c.loop-left.left a b o ticks) c.in_default.is c.try_instruction-stop.ensures.run) c.try_instruction-stop.ensures.vectors.user later);
      watched = λ none. ap (λ (xs : List ℕ). nat_le (length xs) 0) c.try_instruction-stop.ensures.breakpoints ∙ c.loop-left.invariant.watched none;
      vectors = lent_twice c.args.vectors.now c.loop-left.vectors c.try_instruction-stop.new.vectors c.loop-left.invariant.vectors c.try_instruction-stop.ensures.vectors;
      entered = c.try_instruction-stop.ensures.entered ∙ c.loop-left.invariant.entered;
      policy = c.loop-left.invariant.policy ∙ sym c.try_instruction-stop.ensures.policy;
      memory =
          c.try_instruction-stop.ensures.memory
          ∙ ap (λ u. g.M.UserBytes.with_memory u (g.M.UserBytes.memory c.try_instruction-stop.new.memory)) c.loop-left.invariant.memory
          ∙ g.met.M.UserBytes.with_memory_twice c.args.memory.now (g.M.UserBytes.memory c.loop-left.memory) (g.M.UserBytes.memory c.try_instruction-stop.new.memory);
    }
