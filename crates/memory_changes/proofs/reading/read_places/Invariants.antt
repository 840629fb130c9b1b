use Rattle.std.proofs.Common.{◌≡◌, flat_map, take}
use Rattle.memory_changes.specs.Changes.{held}
use Rattle.memory_changes.proofs.reading.read_places.Given as goal

-- the bytes of the places read so far
abbrev pub invariant-loop-place : goal.invariant-loop-place
invariant-loop-place g l = l.bytes.items ≡ flat_map (held (g.M.UserBytes.memory l.memory)) (take l.place-index l.places)
