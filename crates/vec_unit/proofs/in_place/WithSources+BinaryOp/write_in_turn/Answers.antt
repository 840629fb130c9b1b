use Rattle.std.proofs.Common.{ℕ, ◌≡◌, ◌*◌, ◌<◌, List, length, false, arith}
use Rattle.rv_model.specs.vector.Groups.{GroupType, width_bytes, registers}
use Rattle.rv_model.specs.elements.Elements.{is_changed, result_or_ones}
use Rattle.rv_model.specs.elements.Formulas.{ones}
use Rattle.rv_model.specs.lending.Writes.{Writes}
use Rattle.rv_model.proofs.element_lemmas.Widths.{bytes_positive}
use Rattle.vec_unit.proofs.WrittenGroups.{all_bytes, all_covered, all_put, covered, few_elements, turned_results, within}
use Rattle.vec_unit.specs.InPlace.{number_from, test_from, in_place_result}
use Rattle.vec_unit.proofs.in_place.WithSources+BinaryOp.write_in_turn.Goals.{then-all, else-all}
use Rattle.vec_unit.proofs.in_place.WithSources+BinaryOp.write_in_turn.Goals as goal

pub write-requires-clause-few : goal.write-requires-clause-few
write-requires-clause-few g c =
    let k : ℕ = width_bytes g.L.Lane.width in
    let some : 0 < k = bytes_positive g.L.Lane.width in
    elim c.if-all.branch [
      | then-all w ↦
          rw w.used-is
          (few_elements k g.L.Lane.count _ some g.met.L.Lane.fills (omega (arith, c.registers-size.ensures.value, c.requires.in_place.holds.most)))
      | else-all w ↦
          rw w.used-is
          (few_elements k g.L.Lane.count w.min-used.result some g.met.L.Lane.fills
          (omega (arith, w.min-used.ensures, c.registers-size.ensures.value, c.requires.in_place.holds.most)))
    ]

pub write-requires-clause-all : goal.write-requires-clause-all
write-requires-clause-all g c = λ all.
    elim c.if-all.branch [
      | then-all w ↦
          let whole : c.args.body.now.end ≡ g.L.Lane.count * registers c.args.destination.emul =
          all_covered (width_bytes g.L.Lane.width) g.L.Lane.count (registers c.args.destination.emul) c.args.body.now.end
          c.args.destination.count (bytes_positive g.L.Lane.width) g.met.L.Lane.fills c.requires.in_place.holds.whole (c.requires.all all).1 in
          rw (w.used-is, c.registers-size.ensures.value) ((c.requires.all all).0, whole)
      | else-all w ↦ absurd (cc)
    ]

pub write-requires-clause-covers : goal.write-requires-clause-covers
write-requires-clause-covers g c =
    let k : ℕ = width_bytes g.L.Lane.width in
    let some : 0 < k = bytes_positive g.L.Lane.width in
    elim c.if-all.branch [
      | then-all w ↦
          rw (w.used-is, c.registers-size.ensures.value)
          (within k g.L.Lane.count (registers c.args.destination.emul) c.args.body.now.end some g.met.L.Lane.fills c.requires.in_place.holds.room)
      | else-all w ↦
          rw (w.used-is, w.min-used.ensures, w.div_ceil.ensures, w.end.ensures.value, w.count.ensures, c.registers-size.ensures.value)
          (covered k g.L.Lane.count _ c.args.body.now.end some g.met.L.Lane.fills c.requires.in_place.holds.room)
    ]

pub returns : goal.returns
returns g c =
    let t : GroupType = record { width = g.L.Lane.width; emul = c.args.destination.emul } in
    let n : ℕ = g.L.Lane.count in
    let o = c.args.self.now in
    let file : List ℕ = c.args.file.now in
    let new : List ℕ = c.write.new.bytes in
    let long : length file ≡ 1024 = c.group_mut-bytes.ensures.whole in
    let first : c.new.result ≡ 0 = c.new.ensures in
    let given : c.group_mut-bytes.result.now ≡ file =
    rw (first, all_bytes file long) at c.group_mut-bytes.ensures.value in
    let was : Writes (width_bytes g.L.Lane.width)
    (test_from (n * c.args.destination.vd)
    (is_changed c.args.body.now c.args.destination.fill_masked_off false))
    (number_from (n * c.args.destination.vd)
    (result_or_ones c.args.body.now (in_place_result g.L.Lane.width n o.op o.vs2 o.source c.second_number.result file) (ones g.L.Lane.width))) file new =
    rw given at c.write.ensures in
    rw (first, all_put file new was.same_length)
    (turned_results t n c.args.destination.vd c.second_number.result o.op o.vs2 o.source c.args.scalar.now c.args.body.now
    c.args.destination.fill_masked_off c.args.destination.fill_tail c.args.destination.count file new
    (bytes_positive g.L.Lane.width) g.met.L.Lane.fills long c.requires.in_place.inside
    (rw (← c.has_unsigned_immediate-unsigned.ensures) c.second_number.ensures) c.requires.in_place.holds.room c.requires.in_place.holds.whole c.requires.in_place.no_tail was)
