use Rattle.std.proofs.Common.{◌∙◌, ℕ, List, ap, subst}
use Rattle.rv_model.specs.accesses.VectorAccess.{unit_direction}
use Rattle.rv_model.specs.elements.Elements.{Body}
use Rattle.vector_memory.specs.Distances.{moved_by}
use Rattle.vector_memory.specs.MovedElements.{MovedElement, elements_before}
use Rattle.vector_memory.proofs.ShownElements.{transfer_elements}
use Rattle.vector_memory.proofs.transfers.Transfer.show.Goals as goal

pub returns-clause-seen : goal.returns-clause-seen
returns-clause-seen g c =
    let t = c.args.self.now in
    let v = c.args.state.now in
    let shown : Body → List MovedElement = λ b. elements_before (unit_direction t.op) t.segments b (moved_by t v).address v.file b.end in
    let body : List ℕ → ℕ → Body = λ mask start. record { unmasked = t.unmasked; mask = mask; start = start; end = c.end.result } in
    subst (λ (xs : List MovedElement). g.V.Viewer.saw c.args.viewer.now xs c.show.new.viewer)
    (ap shown c.new.ensures ∙ ap (λ (mask : List ℕ). shown (body mask c.from-start.result)) c.mask_register-mask.ensures
    ∙ ap (λ (start : ℕ). shown (body (moved_by t v).body.mask start)) c.from-start.ensures
    ∙ transfer_elements t v c.args.left c.end.result c.end.ensures.value) c.show.ensures.seen
