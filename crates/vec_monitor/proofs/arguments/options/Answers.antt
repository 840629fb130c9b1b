use Rattle.std.proofs.Common.{rules, ◌∙◌, ◌++◌, ap}
use Rattle.clap.specs.Walk.{texts}
use Rattle.std.specs.Str.Parse.{ParsesUnsigned, ExplainsUnsignedError, HasUnsignedDigitsIfOk}
use Rattle.vec_monitor.proofs.CommandLineLaws.{images_in, images_read, taken_by, quantum_read, rows_by, script_read}
use Rattle.vec_monitor.proofs.arguments.options.Goals as goal

pub returns : goal.returns
returns c =
    let arguments = texts c.args.arguments.now in
    let command = c.in_ok-command.field-0 in
    let matches = c.in_ok-matches.matches in
    let rows = rows_by command matches arguments c.in_ok-command.ensures c.in_ok-matches.ensures.matches in
    let read = quantum_read _ (λ text r. ParsesUnsigned 16 10 text r × ExplainsUnsignedError 10 text r × HasUnsignedDigitsIfOk text r) command matches arguments
    c.in_ok-command.ensures c.in_ok-matches.ensures.parsed rows (λ text r gives. gives.0)
    c.get_one.result c.from.result c.get_one.ensures.none c.get_one.ensures.value (search rules) in
    record {
      quantum = read.0;
      range = (read.1, read.2);
      script = c.get_str.ensures ∙ script_read matches arguments rows;
      images = ap texts (c.in_ok-extend_from_slice.ensures.items ∙ ap (λ items. items ++ c.unwrap_or_default.result.now) c.new-images.ensures.items)
          ∙ images_in _ c.get_strs.result c.unwrap_or_default.result _ (c.get_strs.ensures ∙ images_read matches arguments rows) c.unwrap_or_default.ensures (λ none is. is);
      taken = λ taken. taken_by command arguments c.in_ok-command.ensures c.in_ok-matches.ensures.kinds;
      refused = tt;
    }
