use Rattle.std.proofs.Common.{take}
use Rattle.std.specs.List.{AllZip}
use Rattle.vec_recorder.specs.WatchArguments.{IsPlaceAt}
use Rattle.vec_recorder.proofs.watch_arguments.watched_places.Given as goal

-- the values before the current index have been split
abbrev pub invariant-loop-word : goal.invariant-loop-word
invariant-loop-word g l = AllZip IsPlaceAt (take l.word-index l.arguments) l.places.items
