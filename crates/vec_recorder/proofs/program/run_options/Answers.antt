use Rattle.std.proofs.Common.{[], append-nil, inl, inr}
use Rattle.std.specs.Prelude.{option_map}
use Rattle.recording.specs.Machines.{state_of}
use Rattle.first_state.specs.OwnMemory.{own_memory}
use Rattle.vec_recorder.specs.InitialMachine.{StartsFrom}
use Rattle.vec_recorder.proofs.RunLaws.{starts_as, when_created}
use Rattle.vec_recorder.proofs.StopLaws.{caused_by, not_five, nothing_by, unused_by}
use Rattle.vec_recorder.proofs.program.run_options.Goals as goal

pub prepare-requires : goal.prepare-requires
prepare-requires g c = (when_created _ _ _ c.in-Ok.is c.requires.machine).0

pub returns : goal.returns
returns g c =
    let s = state_of own_memory c.prepare.new.machine in
    let begins : StartsFrom (g.I.Inputs.file_bytes c.args.inputs.now) c.args.values.policy (option_map (λ path. path.now) c.args.options.now.image) c.args.values.memories.items
    (option_map (λ path. path.now) c.args.options.now.registers) s =
    starts_as _ _ _ _ _ _ _ s (when_created _ _ _ c.in-Ok.is c.requires.machine).1 c.as_slice.ensures.value c.in_ok-prepare.ensures.begins in
    record {
      ran = record {
        state = s;
        begins = begins;
        run = record { output = c.in_ok-short.ensures.output; records = c.in_ok-short.ensures.records };
      };
      printed = inr (record { state = s; begins = begins; run = record { first = _; rest = []; are_first = append-nil _; took = c.in_ok-short.ensures.output } });
      nothing = tt;
      unused = tt;
      failed = tt;
      kept = c.in_ok-short.ensures.kept;
    }

pub returns-in_err-short-clause-printed : goal.returns-in_err-short-clause-printed
returns-in_err-short-clause-printed g c =
    let s = state_of own_memory c.prepare.new.machine in
    elim c.in_err-short.ensures.stopped [
      | inl unstarted ↦ inl unstarted.nothing
      | inr stopped ↦ inr (record {
        state = s;
        begins = starts_as _ _ _ _ _ _ _ s (when_created _ _ _ c.in-Ok.is c.requires.machine).1 c.as_slice.ensures.value c.in_ok-prepare.ensures.begins;
        run = stopped.first;
      })
    ]

pub returns-in_err-short-clause-nothing : goal.returns-in_err-short-clause-nothing
returns-in_err-short-clause-nothing g c = nothing_by g.K.Sink.took _ _ _ _ _ _ _ _ c.from_residual-in_err-short.result c.in_err-short.ensures.stopped c.from_residual-in_err-short.ensures.1

pub returns-in_err-short-clause-unused : goal.returns-in_err-short-clause-unused
returns-in_err-short-clause-unused g c = unused_by g.K.Sink.took _ _ _ _ _ _ _ _ c.from_residual-in_err-short.result c.in_err-short.ensures.stopped c.from_residual-in_err-short.ensures.1

pub returns-in_err-short-clause-failed : goal.returns-in_err-short-clause-failed
returns-in_err-short-clause-failed g c = caused_by g.K.Sink.took _ _ _ _ _ _ _ _ c.from_residual-in_err-short.result c.in_err-short.ensures.stopped c.from_residual-in_err-short.ensures.1

pub returns-in_err-prepare-clause-failed : goal.returns-in_err-prepare-clause-failed
returns-in_err-prepare-clause-failed g c = not_five _ c.from_residual.result c.in_err-prepare.field-0.0 (inr c.in_err-prepare.ensures.refused) c.from_residual.ensures.1

pub returns-in_err-check_places-clause-failed : goal.returns-in_err-check_places-clause-failed
returns-in_err-check_places-clause-failed g c = not_five _ c.from_residual-in_err-check_places.result c.in_err-check_places.field-0.0 (inr (inl c.in_err-check_places.ensures)) c.from_residual-in_err-check_places.ensures.1

pub run_machine-requires : goal.run_machine-requires
run_machine-requires g c = record { alone = c.requires.alone; unchosen = c.requires.unchosen }
