use Rattle.std.proofs.Common.{ℕ, List, ◌≤◌, ◌≡◌, length, nat_lt, slice_index}
use Rattle.rv_model.specs.elements.Elements.{element}
use Rattle.rv_model.specs.elements.PermutationResults.{packed}
use Rattle.rv_model.specs.lending.Writes.{Writes}
use Rattle.rv_model.specs.vector.Groups.{width_bytes}
use Rattle.rv_model.proofs.element_lemmas.Packed.{PackedTo}
use Rattle.lane_permute.proofs.PackedBits.{Shows}
use Rattle.lane_permute.proofs.packing.pack_word.Given as goal

abbrev pub invariant-loop-set : goal.invariant-loop-set
invariant-loop-set g l =
    let k = width_bytes g.L.Lane.width in
    record {
      few : l.count ≤ l.next;
      inside : l.next ≤ l.to;
      sized : length l.destination ≡ length l.initial.destination;
      known : Shows l.select l.set l.next l.to;
      writes : (old : List ℕ) → Writes k (λ j. nat_lt j (length (packed l.select (element k l.a) l.from))) (slice_index (packed l.select (element k l.a) l.from)) old l.initial.destination
          → PackedTo l.select (element k l.a) k l.next l.count old l.destination;
    }

abbrev pub decreases-loop-set : goal.decreases-loop-set
decreases-loop-set g l = l.set
