use Rattle.std.proofs.Common.{◌≡◌, ◌++◌, ◌+◌, ◌-◌, ◌*◌, length}
use Rattle.std.specs.Prelude.{flat_map}
use Rattle.std.specs.List.{range_with_len}
use Rattle.commit_log.specs.LineTexts.{vector_text}
use Rattle.commit_log.specs.Lines.{printed_vectors}
use Rattle.commit_log.proofs.lines.push_vectors.Given as goal

abbrev pub invariant-loop-place : goal.invariant-loop-place
invariant-loop-place l = record {
  room : length l.text ≡ length l.fn.text + 71 * l.place;
  text : l.text ++ flat_map vector_text (printed_vectors l.state.file (range_with_len (l.registers.first + l.place) (l.place-end - l.place)))
      ≡ l.fn.text ++ flat_map vector_text (printed_vectors l.state.file (range_with_len l.registers.first l.place-end));
}
