use Rattle.std.proofs.Common.{◌≡◌, ◌≤◌, ◌*◌, flat_map, length}
use Rattle.std.specs.List.{range_with_len}
use Rattle.open_choices.specs.Groups.{fill_of_group}
use Rattle.choice_log.specs.ChoiceLines.{element_text, is_listed}
use Rattle.choice_log.proofs.elements.push_elements.Given as goal

-- the texts of the elements before the current one
abbrev pub invariant-loop-e : goal.invariant-loop-e
invariant-loop-e l = record {
  text : l.reply ≡ flat_map (element_text (is_listed l.tail l.choices.seed l.choices.number (fill_of_group l.group))) (range_with_len 0 l.e);
  room : length l.reply ≤ 4 * l.e;
}
