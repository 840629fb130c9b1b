use Rattle.std.proofs.Common.{List, ℕ}
use Rattle.std.specs.Prelude.{option_map}
use Rattle.std.specs.Option.{option_map_or}
use Rattle.vec_monitor.proofs.ProgramRunLaws.{put_out_none}
use Rattle.either.specs.Either.{either}
use Rattle.vec_monitor.proofs.program.run_script.Goals as goal

pub returns-in_default-clause-printed : goal.returns-in_default-clause-printed
returns-in_default-clause-printed g c = λ new.
    put_out_none (λ (printed : List ℕ). g.K.Sink.took c.args.output.now printed c.args.output.now) c.args.machine.now.setup
    (option_map_or (g.I.Inputs.file_bytes c.args.inputs.now) (option_map (λ path. path.now) c.args.script) (either g.I.File.Read.remaining g.S.Read.remaining c.args.reader.now.reader))
    (g.met.K.Sink.took_none c.args.output.now)
