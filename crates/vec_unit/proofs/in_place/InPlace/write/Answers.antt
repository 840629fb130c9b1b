use Rattle.std.proofs.Common.{ℕ, suc, ◌≡◌, ◌+◌, ◌*◌, ◌%◌, ◌^◌, ◌<◌, ◌≤◌, ◌∙◌, List, length, ap, arith}
use Rattle.std.proofs.Math.Nat.{mul-le-mul_left, mul-suc}
use Rattle.rv_model.specs.elements.Elements.{Body, element}
use Rattle.rv_model.specs.elements.Formulas.{ones}
use Rattle.rv_model.specs.vector.Groups.{width_bytes}
use Rattle.vec_unit.proofs.InPlaceLaws.{all_done, at_register, one_more, operand, second_operand}
use Rattle.vec_unit.specs.InPlace.{IsReadBeforeWrite, SourceIsReadFirst, second_in, in_place_result}
use mir.Val.{bits}
use Rattle.vec_unit.proofs.in_place.InPlace.write.Goals as goal

pub active_in_turn-active-requires-clause-all : goal.active_in_turn-active-requires-clause-all
active_in_turn-active-requires-clause-all g c = λ all.
    let n : ℕ = g.L.Lane.count in
    let is : c.count-count.result ≡ n = c.count-count.ensures in
    let more : c.loop-r.r < c.args.registers = omega (arith, c.loop-r-test.true) in
    let next : n * suc c.loop-r.r ≤ n * c.args.registers = mul-le-mul_left n more in
    rw is ((c.requires.all all).0, omega (arith, (c.requires.all all).1, next, mul-suc n c.loop-r.r))

pub loop-r-preserved : goal.loop-r-preserved
loop-r-preserved g c =
    let k : ℕ = width_bytes g.L.Lane.width in
    let n : ℕ = g.L.Lane.count in
    let o = c.args.self.now in
    let vd : ℕ = c.number-2.result in
    let r : ℕ = c.loop-r.r in
    let body : Body = c.args.body.now in
    let old : List ℕ = c.args.bytes.now in
    let mid : List ℕ = c.loop-r.bytes in
    let result : ℕ → ℕ = in_place_result g.L.Lane.width n o.op o.vs2 o.source o.number old in
    let is : c.count-count.result ≡ n = c.count-count.ensures in
    let first_is : c.number.result ≡ o.vs2 = c.number.ensures.value in
    let vd_is : vd ≡ c.args.self.now.vd = c.number-2.ensures.value in
    let fills : k * n ≡ 32 = g.met.L.Lane.fills in
    let more : r < c.args.registers = omega (arith, c.loop-r-test.true) in
    let inside : c.args.self.now.vd + c.args.registers ≤ 32 = c.requires.destination in
    let has : o.vs2 + c.args.registers ≤ 32 = c.requires.first in
    let long : length old ≡ 1024 = c.requires.whole in
    let room : 32 * (vd + r) + 32 ≤ length mid = omega (arith, vd_is, inside, long, more, c.loop-r.invariant.same_length) in
    let reads : IsReadBeforeWrite o.vs2 vd c.args.registers = rw vd_is c.requires.first_read in
    let second_reads : SourceIsReadFirst o.source vd c.args.registers = rw vd_is c.requires.second_read in
    one_more k n vd c.args.registers body c.args.fill_masked_off result (ones g.L.Lane.width) old r mid c.put_results.new.destination
    c.put_results.ensures.0 c.active_in_turn-active.result c.filled_bits-filled.result (g.L.Lane.lane c.simd_results-made.result) fills room
    c.put_results.ensures.1 c.put_results.ensures.2 (λ i m h l. c.put_results.ensures.3 i m h l)
    (λ i h. rw is at (c.active_in_turn-active.ensures i (rw is h))) (λ i h. rw is at (c.filled_bits-filled.ensures i (rw is h)))
    (λ i h.
    let a : g.L.Lane.lane c.chunk_elements-a.result i ≡ element k old (n * o.vs2 + (n * r + i)) =
    (rw first_is at (c.chunk_elements-a.ensures.value i h)) ∙ ap (λ e. element k mid e) (at_register n o.vs2 r i)
    ∙ operand k n vd c.args.registers body c.args.fill_masked_off result (ones g.L.Lane.width) old r o.vs2 i mid fills more h reads
    (omega (arith, has, long)) c.loop-r.invariant in
    let b : g.L.Lane.lane c.second-b.result i ≡ second_in k n o.source (o.number % 2 ^ bits g.L.Lane.width) old (n * r + i) =
    c.second-b.ensures.value i h
    ∙ second_operand k n vd c.args.registers body c.args.fill_masked_off result (ones g.L.Lane.width) old o.source
    (o.number % 2 ^ bits g.L.Lane.width) r i mid fills more h second_reads c.requires.second long c.loop-r.invariant in
    rw (a, b) at (c.simd_results-made.ensures i h))
    c.loop-r.invariant

pub returns : goal.returns
returns g c =
    let vd_is : c.number-2.result ≡ c.args.self.now.vd = c.number-2.ensures.value in
    let all : c.loop-r.r ≡ c.args.registers = omega (arith, c.loop-r-test.false, c.loop-r.auto.r-end) in
    rw (← vd_is)
    (all_done (width_bytes g.L.Lane.width) g.L.Lane.count c.number-2.result c.args.registers c.args.body.now c.args.fill_masked_off
    (in_place_result g.L.Lane.width g.L.Lane.count c.args.self.now.op c.args.self.now.vs2 c.args.self.now.source c.args.self.now.number c.args.bytes.now)
    (ones g.L.Lane.width) c.args.bytes.now c.loop-r.bytes c.requires.covers (rw all at c.loop-r.invariant))
