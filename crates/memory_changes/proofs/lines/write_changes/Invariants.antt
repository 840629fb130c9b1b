use Rattle.std.proofs.Common.{◌≡◌, drop, flat_map, take}
use Rattle.rv_model.specs.memory.Memory.{Memory}
use Rattle.memory_changes.specs.Changes.{changes_at, held}
use Rattle.memory_changes.proofs.lines.write_changes.Given as goal

-- the remaining bytes are the old bytes of the remaining places, and the lines of the other places are written
abbrev pub invariant-loop-place : goal.invariant-loop-place
invariant-loop-place g l = (m : Memory) → l.old ≡ flat_map (held m) l.places → record {
  left : l.rest ≡ flat_map (held m) (drop l.place-index l.places);
  took : g.K.Sink.took l.fn.sink (changes_at l.moment.number l.moment.ticks l.moment.pc m (g.M.UserBytes.memory l.memory) (take l.place-index l.places)) l.sink;
}
