use Rattle.std.proofs.Common.{◌∙◌, [], List, Option, ap, arith, subst, sym}
use Rattle.std.specs.Option.{option_map_or}
use Rattle.rv_model.specs.accesses.VectorAccess.{VectorAccess}
use Rattle.vector_memory.specs.MovedElements.{MovedElement, moved_elements}
use Rattle.vector_memory.proofs.Transferred.{access_is, fits}
use Rattle.vector_memory.proofs.instructions.show_moves.Goals as goal

pub show-requires-clause-fits : goal.show-requires-clause-fits
show-requires-clause-fits g c =
    let a = c.args in
    fits a.state.now a.scalar.now c.in-Some-transfer_of.transfer a.access.now (sym c.transfer_of.ensures.value ∙ c.in-Some-transfer_of.is)
    c.requires.legal c.length_law.ensures c.in-Some-transfer_of.ensures.fields

pub returns-clause-seen : goal.returns-clause-seen
returns-clause-seen g c =
    let a = c.args in
    let v = a.state.now in
    let is = access_is v a.scalar.now c.in-Some-transfer_of.transfer a.access.now (sym c.transfer_of.ensures.value ∙ c.in-Some-transfer_of.is) c.requires.legal (omega arith) in
    subst (λ (xs : List MovedElement). g.V.Viewer.saw a.viewer.now xs c.show.new.viewer)
    (sym (ap (λ (o : Option VectorAccess). option_map_or (moved_elements v a.left) o []) is)) c.show.ensures.seen
