use Rattle.std.proofs.Common.{◌≡◌, ◌+◌, ◌≤◌, [], suc, length}
use Rattle.std.specs.Option.{option_map_or}
use Rattle.rv_model.specs.text.Lines.{pieces}
use Rattle.first_state.specs.RegisterFile.{laid, state_with}
use Rattle.first_state.proofs.registers.lay_lines.Given as goal

-- applying the remaining lines to the current state has the result of applying all lines
abbrev pub invariant-loop-rest : goal.invariant-loop-rest
invariant-loop-rest g l = record {
  laid : laid l.number (option_map_or (λ rest. pieces rest.now) l.rest []) (state_with g.M.UserBytes.memory l.machine l.lengths)
      ≡ laid 1 (pieces l.text) (state_with g.M.UserBytes.memory l.fn.machine l.fn.lengths);
  memory : l.machine.memory ≡ l.fn.machine.memory;
  few : l.number + option_map_or (λ rest. suc (length rest.now)) l.rest 0 ≤ length l.text + 2;
}

abbrev pub decreases-loop-rest : goal.decreases-loop-rest
decreases-loop-rest g l = option_map_or (λ rest. suc (length rest.now)) l.rest 0
