use Rattle.std.proofs.Common.{◌≡◌, ◌+◌, ◌-◌, ◌≤◌, ◌++◌, length}
use Rattle.rv_model.specs.machine.Grants.{granted}
use Rattle.rv_model.specs.machine.Script.{after_events, printed_by_events}
use Rattle.monitor_machine.specs.Images.{setup_of}
use Rattle.monitor_machine.specs.StopLineBounds.{stop_lines_bound}
use Rattle.monitor_machine.proofs.machine.Machine.grant_slices.Given as goal

-- the granted slices and the remaining ones together have the effect of all slices
abbrev pub invariant-loop-granted : goal.invariant-loop-granted
invariant-loop-granted g l =
    let setup = l.fn.self.setup in
    let now = l.self-inside.users in
    let before = l.fn.self.world in
    record {
      same : setup_of l.self-inside.quantum l.self-inside.images.now ≡ setup;
      eight : length now.parts ≡ 8;
      world : after_events setup now (granted setup (l.count - l.granted) now) ≡ after_events setup before (granted setup l.count before);
      printed_by_line : l.reply ++ printed_by_events setup now (granted setup (l.count - l.granted) now) ≡ printed_by_events setup before (granted setup l.count before);
      number : l.granted + length (granted setup (l.count - l.granted) now) ≡ length (granted setup l.count before);
      room : length l.reply + stop_lines_bound now.parts ≤ 640;
    }
