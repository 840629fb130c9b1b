use Rattle.std.proofs.Common.{◌+◌, ◌++◌, List, [], ℕ, ap, subst, ◌∙◌, sym}
use Rattle.rv_model.specs.machine.World.{Outcome, sliced}
use Rattle.rv_model.specs.machine.Script.{World, user_machine}
use Rattle.rv_model.specs.text.Lines.{text}
use Rattle.monitor_machine.specs.MachineState.{MachineState, SlicesAddUp}
use Rattle.monitor_machine.specs.Images.{setup_of}
use Rattle.monitor_machine.proofs.CutLaws.{slices_add_up}
use Rattle.monitor_machine.proofs.GrantLaws.{not_sliced, nothing_sliced}
use Rattle.monitor_machine.proofs.machine.Machine.slice.Goals as goal

pub returns-clause-silent : goal.returns-clause-silent
returns-clause-silent g c = λ stopped.
    let user : ℕ = c.args.user in
    let none = not_sliced c.self.inside.quantum (user_machine user c.self.inside.users) (sym c.grant.ensures.ran ∙ stopped) in
    c.grant.ensures.reply
    ∙ ap (λ (o : Outcome). c.clear.new.self ++ text (48 + user) o.lines) none
    ∙ ap (λ (bytes : List ℕ). bytes ++ []) c.clear.ensures

pub returns-clause-same : goal.returns-clause-same
returns-clause-same g c = λ stopped.
    let user : ℕ = c.args.user in
    let world = c.grant.ensures.world ∙ nothing_sliced c.self.inside.quantum user c.self.inside.users (sym c.grant.ensures.ran ∙ stopped) in
    ap (λ (w : World). let m : MachineState = record { setup = setup_of c.self.inside.quantum c.self.inside.images.now; world = w } in m) world ∙ c.self.view_is

pub returns-clause-adds_up : goal.returns-clause-adds_up
returns-clause-adds_up g c =
    let user : ℕ = c.args.user in
    let before : MachineState =
    record { setup = setup_of c.self.inside.quantum c.self.inside.images.now; world = c.self.inside.users } in
    let now : MachineState = record { setup = before.setup; world = c.grant.new.self } in
    let lines : List (List ℕ) = (sliced c.self.inside.quantum (user_machine user c.self.inside.users)).lines in
    let printed = c.grant.ensures.reply ∙ ap (λ (bytes : List ℕ). bytes ++ text (48 + user) lines) c.clear.ensures in
    subst (λ (m : MachineState). SlicesAddUp m user now c.grant.new.reply) c.self.view_is
    (slices_add_up before now user c.grant.new.reply c.grant.ensures.configured c.grant.ensures.next printed)
