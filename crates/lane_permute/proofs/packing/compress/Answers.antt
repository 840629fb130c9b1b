use Rattle.std.proofs.Common.{ℕ, List, ◌+◌, ◌*◌, ◌<◌, ◌≡◌, arith, min, subst}
use Rattle.rv_model.specs.elements.Elements.{element}
use Rattle.rv_model.specs.vector.Groups.{width_bytes}
use Rattle.rv_model.proofs.element_lemmas.Packed.{PackedTo, packed_few}
use Rattle.lane_permute.proofs.packing.compress.Goals as goal

pub loop-word-preserved : goal.loop-word-preserved
loop-word-preserved g c =
    let k : ℕ = width_bytes g.L.Lane.width in
    let number : ℕ → ℕ = element k c.args.a.now in
    let select : List ℕ = c.args.select.now in
    let old : List ℕ = c.args.destination.now in
    let some : 32 * c.loop-word.word < c.args.end = omega (arith, c.loop-word-test.true) in
    let here : min (32 * c.loop-word.word) c.args.end ≡ 32 * c.loop-word.word = omega (arith, some) in
    let there : c.min.result ≡ min (32 * (c.loop-word.word + 1)) c.args.end = omega (arith, c.min.ensures) in
    let was : PackedTo select number k (32 * c.loop-word.word) c.loop-word.count old c.loop-word.destination =
    subst (λ n. PackedTo select number k n c.loop-word.count old c.loop-word.destination) here c.loop-word.invariant in
    let done = c.pack_word-count.ensures old was.writes in
    subst (λ n. PackedTo select number k n c.pack_word-count.result old c.pack_word-count.new.destination) there
    (record { many = done.0; few = omega (arith, done.0, packed_few select number c.min.result); writes = done.1 })
