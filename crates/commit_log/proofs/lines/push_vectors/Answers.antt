use Rattle.std.proofs.Common.{◌++◌, arith}
use Rattle.std.proofs.lemmas.Bool.Decides.{nat_tests}
use Rattle.std.specs.Prelude.{flat_map}
use Rattle.std.specs.List.{range_with_len}
use Rattle.commit_log.specs.LineTexts.{vector_text}
use Rattle.commit_log.specs.Lines.{printed_vectors}
use Rattle.commit_log.proofs.Steps.{vectors_more}
use Rattle.commit_log.proofs.lines.push_vectors.Goals as goal

pub loop-place-preserved : goal.loop-place-preserved
loop-place-preserved c =
    let l = c.loop-place in
    record {
      room = omega (arith, c.push_vector.ensures.bound, l.invariant.room);
      text = vectors_more c.args.state.now.file l.text c.push_vector.new.text
          (c.args.text.now ++ flat_map vector_text (printed_vectors c.args.state.now.file (range_with_len c.args.registers.first c.min-place-end.result)))
          c.args.registers.first l.place c.min-place-end.result (grind (arith, nat_tests, c.loop-place-test.true)) c.push_vector.ensures.text l.invariant.text;
    }
