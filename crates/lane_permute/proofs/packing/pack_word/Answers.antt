use Rattle.std.proofs.Common.{ℕ, List, ◌+◌, ◌-◌, ◌*◌, ◌<◌, ◌≤◌, ◌≡◌, ◌∙◌, ap, arith, length, refl, subst, w64}
use Rattle.std.proofs.lemmas.Simd.{length-put_chunk}
use Rattle.std.specs.Int.{bytes_low_first, trailing_zeros}
use lib.Lanes.{put_chunk}
use Rattle.rv_model.specs.elements.Elements.{element}
use Rattle.rv_model.specs.vector.Groups.{width_bytes}
use Rattle.rv_model.proofs.element_lemmas.Packed.{PackedTo, pack_taken, packed_few}
use Rattle.rv_model.proofs.element_lemmas.Sets.{room_for}
use Rattle.lane_permute.proofs.PackedBits.{lowest, none_left, passed_many, shows_next}
use Rattle.lane_permute.proofs.packing.pack_word.Goals as goal

pub loop-set-init : goal.loop-set-init
loop-set-init g c =
    let number : ℕ → ℕ = element (width_bytes g.L.Lane.width) c.args.a.now in
    let least : c.args.before ≤ c.args.from = omega (arith, c.requires.many, packed_few c.args.select.now number c.args.from) in
    record {
      few = least;
      inside = omega (arith, c.requires.some);
      sized = refl;
      known = c.selected-set.ensures;
      writes = λ old w. record { many = c.requires.many; few = least; writes = w };
    }

pub load-requires : goal.load-requires
load-requires g c =
    let low = lowest c.args.select.now c.loop-set.set c.loop-set.next c.args.to (omega (arith, c.loop-set-test.true)) (omega (arith, c.loop-set.auto.set-fits.fits)) c.loop-set.invariant.known in
    room_for (width_bytes g.L.Lane.width) (c.loop-set.next + trailing_zeros w64 c.loop-set.set) c.args.to (length c.args.a.now) low.0 c.requires.operand

pub store-requires : goal.store-requires
store-requires g c =
    let low = lowest c.args.select.now c.loop-set.set c.loop-set.next c.args.to (omega (arith, c.loop-set-test.true)) (omega (arith, c.loop-set.auto.set-fits.fits)) c.loop-set.invariant.known in
    let inside : c.loop-set.count < c.args.to = omega (arith, low.0, c.loop-set.invariant.few) in
    omega (arith, room_for (width_bytes g.L.Lane.width) c.loop-set.count c.args.to (length c.args.destination.now) inside c.requires.room, c.loop-set.invariant.sized)

pub loop-set-preserved : goal.loop-set-preserved
loop-set-preserved g c =
    let k : ℕ = width_bytes g.L.Lane.width in
    let number : ℕ → ℕ = element k c.args.a.now in
    let select : List ℕ = c.args.select.now in
    let set : ℕ = c.loop-set.set in
    let next : ℕ = c.loop-set.next in
    let count : ℕ = c.loop-set.count in
    let bytes : List ℕ = c.loop-set.destination in
    let t : ℕ = trailing_zeros w64 set in
    let low = lowest select set next c.args.to (omega (arith, c.loop-set-test.true)) (omega (arith, c.loop-set.auto.set-fits.fits)) c.loop-set.invariant.known in
    let inside : count < c.args.to = omega (arith, low.0, c.loop-set.invariant.few) in
    let room : k * count + k ≤ length c.args.destination.now = room_for k count c.args.to (length c.args.destination.now) inside c.requires.room in
    record {
      few = omega (arith, c.loop-set.invariant.few);
      inside = omega (arith, low.0);
      sized = ap length c.store.ensures ∙ length-put_chunk (k * count) bytes _ ∙ c.loop-set.invariant.sized;
      known = shows_next select set next c.args.to t c.loop-set.invariant.known;
      writes = λ old w.
          let was : PackedTo select number k (next + t) count old bytes =
          passed_many select number k next t count old bytes low.2 (c.loop-set.invariant.writes old w) in
          let fits : k * count + k ≤ length old = omega (arith, room, was.writes.same_length, c.loop-set.invariant.sized) in
          pack_taken select number k (next + t) count old bytes c.store.new.bytes low.1 fits was
          (c.store.ensures ∙ ap (λ n. put_chunk (k * count) bytes (bytes_low_first 0 k n)) c.load.ensures);
    }

pub returns : goal.returns
returns g c = λ old w.
    let k : ℕ = width_bytes g.L.Lane.width in
    let number : ℕ → ℕ = element k c.args.a.now in
    let select : List ℕ = c.args.select.now in
    let next : ℕ = c.loop-set.next in
    let bytes : List ℕ = c.loop-set.destination in
    let all : next + (c.args.to - next) ≡ c.args.to = omega (arith, c.loop-set.invariant.inside) in
    let done : PackedTo select number k c.args.to c.loop-set.count old bytes =
    subst (λ n. PackedTo select number k n c.loop-set.count old bytes) all
    (passed_many select number k next (c.args.to - next) c.loop-set.count old bytes
    (none_left select c.loop-set.set next c.args.to (omega (arith, c.loop-set-test.false)) c.loop-set.invariant.known) (c.loop-set.invariant.writes old w)) in
    (done.many, done.writes)
