use Rattle.std.proofs.Common.{nat_lt}
use mathlib.Core.Bool.{◌&&◌}
use Rattle.rv_model.specs.elements.Elements.{element, in_range}
use Rattle.rv_model.specs.elements.PermutationResults.{gathered}
use Rattle.rv_model.specs.lending.Writes.{Writes}
use Rattle.rv_model.specs.vector.Groups.{width_bytes}
use Rattle.lane_permute.proofs.gathers.GatherResults.write_range.Given as goal

abbrev pub invariant-loop-i : goal.invariant-loop-i
invariant-loop-i g l =
    Writes (width_bytes g.L.Lane.width) (λ e. in_range l.start l.end e && nat_lt e l.i)
    (λ e. gathered l.self.limit (element (width_bytes g.L.Lane.width) l.self.a.now) (element (width_bytes g.I.Lane.width) l.self.indices.now e))
    l.initial.destination l.destination
