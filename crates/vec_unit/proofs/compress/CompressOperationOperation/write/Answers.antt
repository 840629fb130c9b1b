use Rattle.std.proofs.Common.{ℕ, List, ◌≡◌, ◌∙◌, ap, Bool}
use Rattle.rv_model.specs.elements.Arithmetic.{group_element}
use Rattle.rv_model.specs.vector.Groups.{GroupType, width_bytes, register_of}
use Rattle.rv_model.specs.elements.Elements.{element}
use Rattle.rv_model.specs.elements.PermutationResults.{with_packed, packed}
use Rattle.rv_model.proofs.element_lemmas.Packed.{packed_are}
use Rattle.vec_unit.proofs.compress.CompressOperationOperation.write.Goals as goal

pub returns : goal.returns
returns g c =
    let t : GroupType = record { width = g.L.Lane.width; emul = c.args.to.emul } in
    let k : ℕ = width_bytes g.L.Lane.width in
    let o = c.args.self.now in
    let file = c.args.file.now in
    let end : ℕ = c.end-end.result in
    let fill_tail : Bool = c.args.to.fill_tail in
    let numbers : List ℕ = packed c.register_copy-select.result (element k c.group_copy_mut.result.now) end in
    let same : numbers ≡ packed (register_of file o.vs1) (group_element t file o.vs2) end =
    ap (λ (select : List ℕ). packed select (element k c.group_copy_mut.result.now) end) c.register_copy-select.ensures
    ∙ ap (λ (bytes : List ℕ). packed (register_of file o.vs1) (element k bytes) end) c.group_copy_mut.ensures.value in
    packed_are t c.args.to.vd end fill_tail numbers file c.compress_filled.new.destination
    (rw (← c.group_mut-group.ensures.value) c.compress_filled.ensures)
    ∙ ap (λ (l : List ℕ). with_packed t c.args.to.vd end fill_tail l file) same
    ∙ ap (λ (e : ℕ). with_packed t c.args.to.vd e fill_tail
    (packed (register_of file o.vs1) (group_element t file o.vs2) e) file) c.end-end.ensures.value
