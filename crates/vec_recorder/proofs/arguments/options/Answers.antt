use Rattle.std.proofs.Common.{◌∙◌, ◌++◌, ap}
use Rattle.clap.specs.Walk.{texts}
use Rattle.vec_recorder.specs.CommandLine.{run_arguments}
use Rattle.vec_recorder.proofs.CommandLineLaws.{refused_by, rows_by, taken_by, texts_in, word_read, arguments_alike, arguments_read}
use Rattle.vec_recorder.proofs.arguments.options.Goals as goal

pub returns : goal.returns
returns c =
    let arguments = texts c.args.arguments.now in
    let command = c.in_ok-command.field-0 in
    let matches = c.in_ok-matches.matches in
    let rows = rows_by command matches arguments c.in_ok-command.ensures c.in_ok-matches.ensures.matches in
    record {
      arguments = arguments_alike (run_arguments arguments) _ _ _ _ _ _ _ _ _ _ _ _ _ _ _ _ _
          (c.get_str.ensures ∙ word_read matches arguments _ rows)
          (c.get_str-2.ensures ∙ word_read matches arguments _ rows)
          (ap texts (c.in_ok-extend_from_slice.ensures.items ∙ ap (λ items. items ++ c.unwrap_or_default.result.now) c.new-memory.ensures.items)
          ∙ texts_in _ c.get_strs.result c.unwrap_or_default.result _ (c.get_strs.ensures ∙ arguments_read matches arguments _ rows) c.unwrap_or_default.ensures (λ none is. is))
          (c.get_str-3.ensures ∙ word_read matches arguments _ rows)
          (c.get_str-4.ensures ∙ word_read matches arguments _ rows)
          (ap texts (c.in_ok-extend_from_slice-2.ensures.items ∙ ap (λ items. items ++ c.unwrap_or_default-2.result.now) c.new-watch.ensures.items)
          ∙ texts_in _ c.get_strs-2.result c.unwrap_or_default-2.result _ (c.get_strs-2.ensures ∙ arguments_read matches arguments _ rows) c.unwrap_or_default-2.ensures (λ none is. is))
          (c.get_str-5.ensures ∙ word_read matches arguments _ rows)
          (c.get_str-6.ensures ∙ word_read matches arguments _ rows)
          (c.get_str-7.ensures ∙ word_read matches arguments _ rows)
          (c.get_str-8.ensures ∙ word_read matches arguments _ rows)
          (c.get_str-9.ensures ∙ word_read matches arguments _ rows)
          (c.get_str-10.ensures ∙ word_read matches arguments _ rows)
          (c.get_str-11.ensures ∙ word_read matches arguments _ rows)
          (c.get_str-12.ensures ∙ word_read matches arguments _ rows)
          (c.get_str-13.ensures ∙ word_read matches arguments _ rows)
          (c.get_str-14.ensures ∙ word_read matches arguments _ rows)
          (c.get_str-15.ensures ∙ word_read matches arguments _ rows);
      taken = λ taken. taken_by command arguments c.in_ok-command.ensures c.in_ok-matches.ensures.kinds;
      refused = tt;
    }

pub returns-in_err-matches-clause-refused : goal.returns-in_err-matches-clause-refused
returns-in_err-matches-clause-refused c =
    refused_by c.in_ok-command.field-0 (texts c.args.arguments.now) c.in_err-matches.field-0.0 c.from_residual-in_err-matches.result c.in_ok-command.ensures
    c.in_err-matches.ensures.kinds c.from_residual-in_err-matches.ensures.1
