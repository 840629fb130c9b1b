use Rattle.std.proofs.Common.{◌+◌, ◌≤◌, ℕ, ap, refl, ◌∙◌, arith, Ok}
use Rattle.rv_model.specs.commands.Commands.{Parsed, commanded}
use Rattle.rv_model.specs.machine.UserMachine.{Private}
use Rattle.rv_model.specs.machine.Script.{World, user_machine}
use Rattle.rv_model.specs.machine.VectorUnit.{unit_after_uses}
use Rattle.rv_model.specs.text.Lines.{text}
use Rattle.monitor_machine.specs.Images.{named_images}
use Rattle.monitor_machine.specs.MachineState.{after_parsed}
use Rattle.monitor_machine.proofs.PartLaws.{machine_in, whole_with, world_with}
use Rattle.monitor_machine.proofs.users.Users.command.Goals as goal

pub returns-in-Ok : goal.returns-in-Ok
returns-in-Ok g c =
    let user : ℕ = c.args.user in
    let low : 1 ≤ user = omega (arith, c.number.ensures.low, c.number.ensures.value) in
    let images = named_images c.args.images.now in
    let inside = c.self.inside in
    let before = machine_in inside.contexts inside.traces.items inside.unit inside.pool inside.cursor user c.index-index.result c.index-self-index.result c.index_mut.result.now c.args.self.now c.index-index.ensures.value c.index-index.ensures.small low c.self.invariant c.index_mut.ensures.value c.self.view_is in
    record {
      world =
          world_with _ c.execute.new.parts _ c.execute.ensures.parts inside.contexts inside.traces.items c.index_mut.result.now c.execute.new.trace inside.cursor c.index-index.result c.index-self-index.result (λ p. (commanded images p (Ok c.in-Ok.cmd)).next) (λ p r. unit_after_uses user (commanded images p (Ok c.in-Ok.cmd)).uses r) c.index-index.ensures.value c.index-index.ensures.small low c.self.invariant refl c.index_mut.ensures.value c.execute.ensures.next refl
          ∙ ap (λ (w : World). after_parsed images user (Ok c.in-Ok.cmd) w) c.self.view_is
          ∙ ap (λ (p : Parsed). after_parsed images user p c.args.self.now) c.in-Ok.ensures;
      reply =
          c.execute.ensures.reply
          ∙ ap (λ (p : Private). text (48 + user) (commanded images p (Ok c.in-Ok.cmd)).lines) before
          ∙ ap (λ (p : Parsed). text (48 + user) (commanded images (user_machine user c.args.self.now) p).lines) c.in-Ok.ensures;
    }

pub invariant_of-self : goal.invariant_of-self
invariant_of-self g c =
    whole_with _ c.execute.new.parts _ c.execute.ensures.parts c.self.inside.contexts c.self.inside.traces.items c.execute.new.trace c.index-index.result c.self.invariant
