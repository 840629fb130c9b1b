use Rattle.std.proofs.Common.{◌≡◌, ℕ, ◌+◌, ◌<◌, ◌++◌, List, length, take, drop, get_or, ap, ◌∙◌, sym, append-nil, arith}
use Rattle.monitor_machine.specs.MachineState.{MachineState, after_line, line_output}
use Rattle.monitor_script.specs.Feed.{Fed, feed, fed}
use Rattle.devices.proofs.Moves.{moved, on_err}
use Rattle.monitor_script.proofs.Feeding.{one_more, split_at_byte}
use Rattle.monitor_script.proofs.feed.take_bytes.Goals as goal

pub loop-byte-preserved : goal.loop-byte-preserved
loop-byte-preserved g c =
    let i : ℕ = c.loop-byte.byte-index in
    let m : MachineState = c.loop-byte.machine in
    let line : List ℕ = c.loop-byte.line in
    let b : ℕ = get_or c.args.bytes.now i 0 in
    let out : List ℕ = (fed c.args.machine.now c.args.line.now (take i c.args.bytes.now)).output in
    let more = one_more c.args.machine.now c.args.line.now c.args.bytes.now i m line c.loop-byte-test.true c.loop-byte.invariant.machine c.loop-byte.invariant.line in
    record {
      machine = c.in_ok-take_byte.ensures.machine ∙ sym more.machine;
      setup = c.take_byte.ensures.setup ∙ c.loop-byte.invariant.setup;
      line = c.in_ok-take_byte.ensures.line ∙ sym more.line;
      output = moved g.K.Sink.took _ _ _ _
          (ap (λ (x : List ℕ). out ++ x) (sym (append-nil (feed m line b).output)) ∙ sym more.output)
          (g.met.K.Sink.took_more _ _ _ _ _ c.loop-byte.invariant.output c.in_ok-take_byte.ensures.ok);
      failures = c.in_ok-take_byte.ensures.unfailed ∙ c.loop-byte.invariant.failures;
    }

pub returns-in_err-take_byte-clause-cut : goal.returns-in_err-take_byte-clause-cut
returns-in_err-take_byte-clause-cut g c =
    let i : ℕ = c.loop-byte.byte-index in
    let bytes : List ℕ = c.args.bytes.now in
    let m : MachineState = c.loop-byte.machine in
    let line : List ℕ = c.loop-byte.line in
    let before : Fed = fed c.args.machine.now c.args.line.now (take i bytes) in
    let same : line_output m line ≡ line_output before.machine before.line = ap (λ (v : MachineState). line_output v line) c.loop-byte.invariant.machine ∙ ap (line_output before.machine) c.loop-byte.invariant.line in
    let part = c.in_err-take_byte.ensures.part in
    let n : ℕ = part.0 in
    let few : n < length (line_output m line) = part.1.0 in
    on_err c.from_residual.result (record {
      front = take i bytes;
      back = drop (i + 1) bytes;
      count = n;
      newline = split_at_byte bytes i 10 c.loop-byte-test.true c.in_err-take_byte.ensures.newline;
      machine =
          c.in_err-take_byte.ensures.command_outcome
          ∙ ap (λ (v : MachineState). after_line v line) c.loop-byte.invariant.machine
          ∙ ap (after_line before.machine) c.loop-byte.invariant.line;
      less = omega (arith, few, ap length same);
      output = moved g.K.Sink.took _ _ _ _
          (ap (λ (x : List ℕ). before.output ++ take n x) same)
          (g.met.K.Sink.took_more _ _ _ _ _ c.loop-byte.invariant.output part.1.1);
    })
