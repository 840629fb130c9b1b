use Rattle.std.proofs.Common.{◌≡◌, ℕ, ◌<◌, ◌≤◌, ◌++◌, List, length, take, ◌∙◌, append-nil, arith, inr, length-append, refl, Err}
use Rattle.std.proofs.lemmas.List.{length-take-le}
use Rattle.std.proofs.lemmas.Result.{on_ok_weaker, err_from_is_err_and}
use Rattle.monitor_machine.specs.MachineState.{MachineState}
use Rattle.rv_model.specs.machine.Script.{whole_from}
use Rattle.rv_model.proofs.machine_lemmas.Headline.{headline}
use Rattle.monitor_script.specs.declared.script.RunFault.TheVariants.{TooLong, Write}
use Rattle.devices.proofs.Moves.{moved}
use Rattle.monitor_script.proofs.ReadsInTurn.{one_read_more}
use Rattle.monitor_script.proofs.Runs.{so_far_more, output_more, world_ends, output_ends, world_before_end, output_before_end, world_too_long, output_too_long, cut_at_end, cut_in_piece, eight_before, new_headline, nothing_read}
use Rattle.monitor_script.proofs.script.run.Goals as goal

pub loop-count-preserved : goal.loop-count-preserved
loop-count-preserved g c =
    let m0 : MachineState = c.args.machine.now in
    let front : List ℕ = c.loop-count.invariant.0 in
    let so_far = c.loop-count.invariant.1 in
    let piece : List ℕ = take c.in-Ok.count c.read.new.buffer in (
      front ++ piece,
      record {
        gave = one_read_more g.S.Source.gave g.S.Source.ended g.met.S.Source.gave_more _ _ _ _ _ so_far.gave so_far.no_end c.in-Ok.ensures.bytes;
        no_end = inr (c.in-Ok.ensures.more (omega (arith, c.if-count-eq0.false)));
        so_far = so_far_more m0 front piece _ _ _ _ _ _ so_far.so_far c.in_ok-left.ensures.left c.in_ok-left.ensures.machine c.in_ok-left.ensures.line;
        took = moved g.K.Sink.took _ _ _ _ (output_more m0 front piece _ _ _ so_far.so_far)
            (g.met.K.Sink.took_more _ _ _ _ _ so_far.took c.in_ok-left.ensures.ok);
        setup = c.take_piece.ensures.setup ∙ so_far.setup;
        read_failures = c.in-Ok.ensures.count ∙ so_far.read_failures;
        write_failures = c.in_ok-left.ensures.unfailed ∙ so_far.write_failures;
      },
    )

pub returns-then-count-eq0-clause-headline : goal.returns-then-count-eq0-clause-headline
returns-then-count-eq0-clause-headline g c =
    let m0 : MachineState = c.args.machine.now in
    let front : List ℕ = c.loop-count.invariant.0 in
    let so_far = c.loop-count.invariant.1 in
    let zero : c.in-Ok.count ≡ 0 = c.if-count-eq0.true in
    let room : 0 < length c.read.new.buffer = omega arith in
    let limit = so_far.so_far.limit in
    let world = world_ends m0 front _ _ _ _ so_far.so_far c.end_script.ensures.machine in
    let eight = eight_before m0 c.end_script.new.machine.world front world c.end_script.ensures.eight in
    on_ok_weaker c.end_script.result
    (λ took. (
      front,
      (
        whole_from m0.setup m0.world front,
        (
          moved g.S.Source.gave _ _ _ _ (nothing_read front c.read.new.buffer c.in-Ok.count zero)
              (one_read_more g.S.Source.gave g.S.Source.ended g.met.S.Source.gave_more _ _ _ _ _ so_far.gave so_far.no_end c.in-Ok.ensures.bytes),
          c.in-Ok.ensures.end room zero,
          moved g.K.Sink.took _ _ _ _ (output_ends m0 front _ _ _ so_far.so_far) (g.met.K.Sink.took_more _ _ _ _ _ so_far.took took),
          λ new. new_headline m0 front eight new,
          λ u low high. headline m0.setup u m0.world front low high eight,
          refl,
          world,
          omega (arith, limit),
        ),
      ),
    ))
    c.end_script.ensures.ok

pub returns-then-count-eq0-clause-after_write : goal.returns-then-count-eq0-clause-after_write
returns-then-count-eq0-clause-after_write g c = λ fault.
    let m0 : MachineState = c.args.machine.now in
    let front : List ℕ = c.loop-count.invariant.0 in
    let so_far = c.loop-count.invariant.1 in
    let zero : c.in-Ok.count ≡ 0 = c.if-count-eq0.true in
    let room : 0 < length c.read.new.buffer = omega arith in
    let part = c.end_script.ensures.part fault in (
      front,
      (
        moved g.S.Source.gave _ _ _ _ (nothing_read front c.read.new.buffer c.in-Ok.count zero)
            (one_read_more g.S.Source.gave g.S.Source.ended g.met.S.Source.gave_more _ _ _ _ _ so_far.gave so_far.no_end c.in-Ok.ensures.bytes),
        cut_at_end m0 front _ _ _ _ _ part.0 _ so_far.so_far (c.in-Ok.ensures.end room zero) c.end_script.ensures.machine part.1.0
            (g.met.K.Sink.took_more _ _ _ _ _ so_far.took part.1.1),
      ),
    )

pub returns-in_default-clause-after_read : goal.returns-in_default-clause-after_read
returns-in_default-clause-after_read g c = λ fault.
    let m0 : MachineState = c.args.machine.now in
    let front : List ℕ = c.loop-count.invariant.0 in
    let so_far = c.loop-count.invariant.1 in
    let limit = so_far.so_far.limit in (
      front,
      (
        moved g.S.Source.gave _ _ _ _ (append-nil front) (one_read_more g.S.Source.gave g.S.Source.ended g.met.S.Source.gave_more _ _ _ _ _ so_far.gave so_far.no_end c.in_default.ensures.kept),
        omega (arith, limit),
        world_before_end m0 c.loop-count.machine front so_far.so_far.machine,
        moved g.K.Sink.took _ _ _ _ (output_before_end m0 front) so_far.took,
      ),
    )

pub returns-in_err-left-clause-after_too_long : goal.returns-in_err-left-clause-after_too_long
returns-in_err-left-clause-after_too_long g c = λ fault.
    let m0 : MachineState = c.args.machine.now in
    let front : List ℕ = c.loop-count.invariant.0 in
    let so_far = c.loop-count.invariant.1 in
    let buffer : List ℕ = c.read.new.buffer in
    let n : ℕ = c.in-Ok.count in
    let piece : List ℕ = take n buffer in
    let bound : n ≤ length buffer = c.in-Ok.ensures.bound in
    let len : length piece ≡ n = length-take-le n buffer bound in
    let some : 0 < n = omega (arith, c.if-count-eq0.false) in
    let most : n ≤ 512 = omega (arith, bound) in
    let p = err_from_is_err_and c.from_residual.result c.from_residual.ensures.1 in
    let e : Err c.in_err-left.field-0.0 ≡ Err TooLong = cc (p.1, p.2, fault) in
    let limit = so_far.so_far.limit in
    let more : c.loop-count.left < length piece = c.in_err-left.ensures.long e in (
      front ++ piece,
      (
        one_read_more g.S.Source.gave g.S.Source.ended g.met.S.Source.gave_more _ _ _ _ _ so_far.gave so_far.no_end c.in-Ok.ensures.bytes,
        c.in-Ok.ensures.more some,
        omega (arith, limit, more, len, length-append front piece),
        omega (arith, limit, most, len, length-append front piece),
        world_too_long m0 front piece _ _ _ _ so_far.so_far (c.in_err-left.ensures.machine_long e),
        moved g.K.Sink.took _ _ _ _ (output_too_long m0 front piece _ _ _ so_far.so_far)
            (g.met.K.Sink.took_more _ _ _ _ _ so_far.took (c.in_err-left.ensures.output_long e)),
      ),
    )

pub returns-in_err-left-clause-after_write : goal.returns-in_err-left-clause-after_write
returns-in_err-left-clause-after_write g c = λ fault.
    let m0 : MachineState = c.args.machine.now in
    let front : List ℕ = c.loop-count.invariant.0 in
    let so_far = c.loop-count.invariant.1 in
    let piece : List ℕ = take c.in-Ok.count c.read.new.buffer in
    let p = err_from_is_err_and c.from_residual.result c.from_residual.ensures.1 in
    let e : Err c.in_err-left.field-0.0 ≡ Err Write = cc (p.1, p.2, fault) in (
      front ++ piece,
      (
        one_read_more g.S.Source.gave g.S.Source.ended g.met.S.Source.gave_more _ _ _ _ _ so_far.gave so_far.no_end c.in-Ok.ensures.bytes,
        cut_in_piece m0 front piece _ _ _ _ _ _ _ so_far.so_far (c.in_err-left.ensures.cut e)
            (λ xs took. g.met.K.Sink.took_more _ _ _ _ _ so_far.took took),
      ),
    )
