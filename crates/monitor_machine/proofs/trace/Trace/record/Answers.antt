use Rattle.std.proofs.Common.{subst, ℕ, ap, ◌∙◌, ◌≡◌, ◌++◌}
use Rattle.circular_buffer.specs.Buffer.{keep_last}
use Rattle.rv_model.specs.machine.UserMachine.{recorded}
use Rattle.monitor_machine.proofs.TraceLaws.{recorded_last}
use Rattle.monitor_machine.proofs.trace.Trace.record.Goals as goal

pub returns : goal.returns
returns g c =
    let again = subst (λ (n : ℕ). keep_last n (c.make_room.new.ring.items ++ c.make_room.new.recent.items) ≡ keep_last n (c.self.inside.ring.items ++ c.self.inside.recent.items)) c.self.invariant c.make_room.ensures.kept in
    ap (λ l. keep_last 16 (c.make_room.new.ring.items ++ l)) c.push.ensures.items
    ∙ recorded_last c.make_room.new.ring.items c.make_room.new.recent.items c.args.addr
    ∙ ap (λ t. recorded t c.args.addr) (again ∙ c.self.view_is)
