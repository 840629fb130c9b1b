use Rattle.std.proofs.Common.{◌*◌, min}
use Rattle.rv_model.specs.elements.Elements.{element}
use Rattle.rv_model.specs.vector.Groups.{width_bytes}
use Rattle.rv_model.proofs.element_lemmas.Packed.{PackedTo}
use Rattle.lane_permute.proofs.packing.compress.Given as goal

abbrev pub invariant-loop-word : goal.invariant-loop-word
invariant-loop-word g l =
    let k = width_bytes g.L.Lane.width in
    PackedTo l.select (element k l.a) k (min (32 * l.word) l.end) l.count l.initial.destination l.destination
