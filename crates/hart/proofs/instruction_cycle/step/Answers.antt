-- A step that is cut or faults can be resumed: it borrowed the vector state before it, if it touches the vector unit.
use Rattle.std.proofs.Common.{◌≡◌, arith}
use Rattle.std.proofs.lemmas.Grind.{common_steps}
use Rattle.rv_model.specs.step.Hart.{HartState, Stepped, ends_after}
use Rattle.rv_model.specs.step.Step.{step}
use Rattle.rv_model.proofs.step_lemmas.GoesOn.{step_goes_on}
use Rattle.hart.specs.States.{hart_of}
use Rattle.hart.proofs.Uncut.{never_cut}
use Rattle.hart.proofs.instruction_cycle.step.Goals as goal

pub returns-clause-goes_on : goal.returns-clause-goes_on
returns-clause-goes_on g c =
    let before : HartState = hart_of g.M.UserBytes.memory g.V.Vectors.lent c.args.view.now in
    let after : Stepped = ends_after c.unpack.result.1 c.unpack.result.0 (hart_of g.M.UserBytes.memory g.V.Vectors.lent c.cycle-ticks.new.view) in
    let is : step c.args.limit before ≡ after = grind (arith, common_steps) in
    step_goes_on c.args.limit before after c.cycle-ticks.ensures.vectors.0.2 is

pub returns-clause-uncut : goal.returns-clause-uncut
returns-clause-uncut g c = λ enough cut.
    never_cut c.args.limit (hart_of g.M.UserBytes.memory g.V.Vectors.lent c.args.view.now) c.cycle-ticks.ensures.vectors.0.2 enough
    (grind (arith, common_steps))
