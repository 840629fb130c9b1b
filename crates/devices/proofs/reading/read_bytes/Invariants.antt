use Rattle.std.proofs.Common.{◌≡◌, ◌+◌, length}
use Rattle.std.specs.Io.KnownBytes.{Consumes}
use Rattle.devices.proofs.reading.read_bytes.Given as goal

-- all bytes read so far are in the buffer, which has room for `left` more
abbrev pub invariant-loop-left : goal.invariant-loop-left
invariant-loop-left g l = record {
  given : Consumes (g.F.Read.remaining l.fn.file) (g.F.Read.remaining l.file) l.bytes.items;
  most : l.left + length l.bytes.items ≡ l.most;
}

abbrev pub decreases-loop-left : goal.decreases-loop-left
decreases-loop-left g l = l.left
