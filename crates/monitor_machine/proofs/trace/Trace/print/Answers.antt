use Rattle.std.proofs.Common.{arith, ap, ◌++◌, ◌-◌, length}
use Rattle.std.proofs.lemmas.List.{length-drop, length-append}
use Rattle.monitor_machine.proofs.trace.Trace.print.Goals as goal

pub trace_line-requires-clause-few : goal.trace_line-requires-clause-few
trace_line-requires-clause-few g c =
    let all = c.self.inside.ring.items ++ c.self.inside.recent.items in
    let kept = ap (λ b. length b.items) c.settle.ensures.ring in
    omega (arith, length-append c.as_slices.result.0.now c.as_slices.result.1.now, ap length c.as_slices.ensures, kept, c.self.invariant, length-drop (length all - c.self.inside.ring.capacity) all)
