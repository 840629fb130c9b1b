use Rattle.std.proofs.Common.{rules, ap, inl, inr, map, ◌≡◌, ◌⊎◌, ◌∙◌, []}
use Rattle.std.specs.Prelude.{option_map}
use Rattle.std.proofs.lemmas.Result.{on_ok_weaker}
use Rattle.monitor_machine.specs.Images.{named_images}
use Rattle.monitor_machine.specs.MachineState.{MachineState}
use Rattle.rv_model.specs.machine.Script.{new_world}
use Rattle.monitor_machine.specs.Images.{setup_of}
use Rattle.vec_monitor.proofs.ImageArgumentLaws.{no_machine_fault, none_lacks, nothing_named, zip_nothing}
use Rattle.vec_monitor.specs.ProgramRuns.{OutputPrefix, RanScript}
use Rattle.vec_monitor.proofs.ProgramRunLaws.{no_image_fault, no_usage, of_created, ran_options, script_unread, unused_unless, was_created, write_failed}
use Rattle.either.specs.Either.{either}
use Rattle.vec_monitor.proofs.program.run_options.Goals as goal

pub returns-clause-ran : goal.returns-clause-ran
returns-clause-ran g c =
    on_ok_weaker c.run_machine.result
    (λ has. ran_options (g.I.Inputs.file_bytes c.args.inputs.now) (either g.I.File.Read.remaining g.S.Read.remaining c.args.reader.now.reader) c.args.options.now.quantum
    (option_map (λ path. path.now) c.args.options.now.script) _ _ _ _ _ _ _ _ has.0 (RanScript (λ printed. g.K.Sink.took c.args.output.now printed c.run_machine.new.output))
    c.as_slice.ensures.value c.in_ok-paths.ensures.images c.as_slice-2.ensures.value c.in_ok-files.ensures.files c.as_slice-3.ensures.value c.in_ok-images.ensures
    c.as_slice-4.ensures.value (c.new.ensures.faultless (was_created _ _ has.1)) (of_created _ _ _ has.1 c.new.ensures.new) (λ _. has.2))
    c.run_machine.ensures.ran

pub returns-clause-printed : goal.returns-clause-printed
returns-clause-printed g c =
    elim c.run_machine.ensures.printed [
      | inl none ↦ inl none
      | inr has ↦
          inr (ran_options (g.I.Inputs.file_bytes c.args.inputs.now) (either g.I.File.Read.remaining g.S.Read.remaining c.args.reader.now.reader) c.args.options.now.quantum
          (option_map (λ path. path.now) c.args.options.now.script) _ _ _ _ _ _ _ _ has.0 (OutputPrefix (λ printed. g.K.Sink.took c.args.output.now printed c.run_machine.new.output))
          c.as_slice.ensures.value c.in_ok-paths.ensures.images c.as_slice-2.ensures.value c.in_ok-files.ensures.files c.as_slice-3.ensures.value c.in_ok-images.ensures
          c.as_slice-4.ensures.value (c.new.ensures.faultless (was_created _ _ has.1)) (of_created _ _ _ has.1 c.new.ensures.new) (λ _. has.2))
    ]

pub returns-clause-nothing : goal.returns-clause-nothing
returns-clause-nothing g c = unused_unless _ _ _ c.run_machine.result c.new.result c.run_machine.ensures.fault

pub returns-clause-usage : goal.returns-clause-usage
returns-clause-usage g c = no_usage _ _ _ _ c.run_machine.result c.new.result c.run_machine.ensures.fault

pub returns-clause-failed : goal.returns-clause-failed
returns-clause-failed g c = write_failed _ _ _ c.run_machine.result c.new.result c.run_machine.ensures.fault

pub returns-clause-unread : goal.returns-clause-unread
returns-clause-unread g c = script_unread _ _ _ _ _ c.run_machine.result c.new.result c.run_machine.ensures.fault

pub returns-in_err-files-clause-refused : goal.returns-in_err-files-clause-refused
returns-in_err-files-clause-refused g c = λ some. absurd (none_lacks c.args.options.now.images.items c.in_ok-paths.paths.items (search rules) some)

pub returns-clause-refused : goal.returns-clause-refused
returns-clause-refused g c = λ some. absurd (none_lacks c.args.options.now.images.items c.in_ok-paths.paths.items (search rules) some)

pub returns-clause-images : goal.returns-clause-images
returns-clause-images g c = λ low high none.
    let paths : c.in_ok-paths.paths.items ≡ [] = zip_nothing _ _ _ c.in_ok-paths.ensures.images (c.as_slice.ensures.value ∙ none) in
    let files : c.in_ok-files.files.items ≡ [] = zip_nothing _ _ _ c.in_ok-files.ensures.files (c.as_slice-2.ensures.value ∙ paths) in
    let named = ap named_images c.as_slice-4.ensures.value ∙ c.in_ok-images.ensures in
    let images = nothing_named c.as_slice-3.result.now c.as_slice-4.result.now (c.as_slice-3.ensures.value ∙ files) named in
    let only = c.new.ensures.memory (no_machine_fault c.args.options.now.quantum c.as_slice-4.result.now low high images) in
    no_image_fault _ _ _ c.run_machine.result c.new.result only c.run_machine.ensures.fault
