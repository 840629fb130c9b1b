use Rattle.std.proofs.Common.{◌+◌, ◌-◌, ◌<◌, ◌≤◌, ℕ, length, get_or-set_same, ap, refl, subst, ◌++◌, ◌∙◌, sym, arith, None}
use Rattle.rv_model.specs.machine.Cuts.{IsConfigured}
use Rattle.rv_model.specs.machine.Grants.{runs}
use Rattle.rv_model.specs.machine.World.{sliced}
use Rattle.rv_model.specs.machine.UserMachine.{Private}
use Rattle.rv_model.specs.machine.Script.{World, user_machine}
use Rattle.rv_model.specs.machine.VectorUnit.{unit_after_uses}
use Rattle.rv_model.specs.text.Lines.{text}
use Rattle.monitor_machine.specs.MachineState.{after_slice}
use Rattle.monitor_machine.specs.StopLineBounds.{stop_line_bound, stop_lines_bound}
use Rattle.monitor_machine.proofs.GrantLaws.{room_left, stop_room_within, stops_room_set}
use Rattle.monitor_machine.proofs.PartLaws.{eight_parts, machine_in, whole_with, world_with}
use Rattle.monitor_machine.proofs.users.Users.grant.Goals as goal

pub run_slice-requires : goal.run_slice-requires
run_slice-requires g c =
    let user : ℕ = c.args.user in
    let low : 1 ≤ user = omega (arith, c.number.ensures.low, c.number.ensures.value) in
    let inside = c.self.inside in
    let before = machine_in inside.contexts inside.traces.items inside.unit inside.pool inside.cursor user c.index-index.result c.index-self-index.result c.index_mut.result.now c.args.self.now c.index-index.ensures.value c.index-index.ensures.small low c.self.invariant c.index_mut.ensures.value c.self.view_is in
    let count =
    sym (ap (λ (w : World). length w.parts) c.self.view_is)
    ∙ eight_parts inside.contexts inside.traces.items inside.unit inside.pool c.self.invariant in
    let within = stop_room_within c.args.self.now.parts (user - 1) (omega (arith, count, c.index-index.ensures.value, c.index-index.ensures.small)) in
    record { room = omega (arith, ap stop_line_bound before, within, c.requires) }

pub returns : goal.returns
returns g c =
    let user : ℕ = c.args.user in
    let low : 1 ≤ user = omega (arith, c.number.ensures.low, c.number.ensures.value) in
    let inside = c.self.inside in
    let parts = c.args.self.now.parts in
    let before = machine_in inside.contexts inside.traces.items inside.unit inside.pool inside.cursor user c.index-index.result c.index-self-index.result c.index_mut.result.now c.args.self.now c.index-index.ensures.value c.index-index.ensures.small low c.self.invariant c.index_mut.ensures.value c.self.view_is in
    let after = c.run_slice.ensures.next ∙ ap (λ (p : Private). (sliced c.args.quantum p).next) before in
    let count =
    sym (ap (λ (w : World). length w.parts) c.self.view_is)
    ∙ eight_parts inside.contexts inside.traces.items inside.unit inside.pool c.self.invariant in
    let index : user - 1 < length parts = omega (arith, count, c.index-index.ensures.value, c.index-index.ensures.small) in
    let next = (sliced c.args.quantum (user_machine user c.args.self.now)).next in
    let world =
    world_with _ c.run_slice.new.parts _ c.run_slice.ensures.parts inside.contexts inside.traces.items c.index_mut.result.now c.run_slice.new.trace inside.cursor c.index-index.result c.index-self-index.result (λ p. (sliced c.args.quantum p).next) (λ p r. unit_after_uses user (sliced c.args.quantum p).uses r) c.index-index.ensures.value c.index-index.ensures.small low c.self.invariant refl c.index_mut.ensures.value c.run_slice.ensures.next refl
    ∙ ap (λ (w : World). after_slice c.args.quantum user w) c.self.view_is in
    record {
      world = world;
      reply = c.run_slice.ensures.reply ∙ ap (λ (p : Private). c.args.reply.now ++ text (48 + user) (sliced c.args.quantum p).lines) before;
      ran = c.run_slice.ensures.ran ∙ ap runs before;
      bound = room_left _ _ _ _ _ _ _ _ _ c.run_slice.ensures.bound (ap stop_line_bound after) (ap stop_line_bound before) (ap (λ (w : World). stop_lines_bound w.parts) world) (stops_room_set parts (user - 1) next index);
      next = ap (λ (w : World). user_machine user w) world ∙ get_or-set_same parts (user - 1) next None index;
      configured = subst (λ (p : Private). IsConfigured p) before c.run_slice.ensures.configured;
    }

pub invariant_of-self : goal.invariant_of-self
invariant_of-self g c =
    whole_with _ c.run_slice.new.parts _ c.run_slice.ensures.parts c.self.inside.contexts c.self.inside.traces.items c.run_slice.new.trace c.index-index.result c.self.invariant
