use Rattle.std.proofs.Common.{rules, inr, refl, subst, sym, ◌<◌, length}
use Rattle.std.specs.List.{AllZip}
use Rattle.vec_recorder.specs.MemoryArguments.{IsMemoryAt, NamesNone}
use Rattle.vec_recorder.proofs.MemoryArgumentLaws.{some_holds, zip_next}
use Rattle.vec_recorder.proofs.memory_arguments.memory_paths.Goals as goal

pub returns-in_default-clause-refused : goal.returns-in_default-clause-refused
returns-in_default-clause-refused g c =
    let below : c.loop-word.word-index < length c.args.arguments.now = search rules in
    inr (refl, some_holds NamesNone c.args.arguments.now c.loop-word.word-index _ below c.in_default.ensures)

pub loop-word-preserved : goal.loop-word-preserved
loop-word-preserved g c =
    let below : c.loop-word.word-index < length c.args.arguments.now = search rules in
    subst (AllZip IsMemoryAt _) (sym c.in_ok-push.ensures.items)
    (zip_next IsMemoryAt c.args.arguments.now c.loop-word.paths.items c.loop-word.word-index _ _ below c.loop-word.invariant c.in-Some.ensures)
