use Rattle.std.proofs.Common.{◌≡◌, false, refl, sym, ◌∙◌}
use Rattle.std.proofs.lemmas.Bool.{false_from_ne_true}
use Rattle.std.proofs.lemmas.Result.{err_from_is_err_and}
use Rattle.rv_model.specs.accesses.Transfers.{are_allowed, can_transfer}
use Rattle.rv_model.specs.accesses.VectorAccess.{moved_segment}
use Rattle.rv_model.proofs.access_lemmas.Segments.{allowed_more, allowed_not, bad_found, field_transfer}
use Rattle.vector_memory.proofs.segments.Segments.check.Goals as goal

pub loop-field-init : goal.loop-field-init
unfolding are_allowed
loop-field-init g c = λ index. refl

pub loop-field-preserved : goal.loop-field-preserved
loop-field-preserved g c = λ index.
    let m = g.M.UserBytes.memory c.args.memory.now in
    allowed_more c.args.access m index c.args.address c.args.self.now.size c.loop-field.field (c.loop-field.invariant index)
    (rw (sym c.field_address.ensures) (c.in_ok-check.ensures.ok.0 refl))

pub returns-in_err-check-clause-ok : goal.returns-in_err-check-clause-ok
returns-in_err-check-clause-ok g c = λ index.
    let m = g.M.UserBytes.memory c.args.memory.now in
    let field = field_transfer index c.args.address c.args.self.now.size c.loop-field.field in
    let here : can_transfer c.args.access m field ≡ false =
    false_from_ne_true _ (λ t. let is_not = c.in_err-check.ensures.ok.1 (rw c.field_address.ensures t) in cc) in
    let bad : are_allowed c.args.access m (moved_segment index c.args.address c.args.self.now.size c.args.self.now.fields) ≡ false =
    allowed_not c.args.access m index c.args.address c.args.self.now.size c.loop-field.field c.args.self.now.fields c.loop-field-test.true
    (c.loop-field.invariant index) here in
    let p = err_from_is_err_and c.from_residual.result c.from_residual.ensures.1 in
    rw p.1 (λ t. cc, λ t. cc)

pub returns-in_err-check-clause-fault : goal.returns-in_err-check-clause-fault
returns-in_err-check-clause-fault g c = λ index.
    let m = g.M.UserBytes.memory c.args.memory.now in
    let field = field_transfer index c.args.address c.args.self.now.size c.loop-field.field in
    let here : can_transfer c.args.access m field ≡ false =
    false_from_ne_true _ (λ t. let is_not = c.in_err-check.ensures.ok.1 (rw c.field_address.ensures t) in cc) in
    let p = err_from_is_err_and c.from_residual.result c.from_residual.ensures.1 in
    rw (p.1, p.2)
    (c.in_err-check.ensures.fault ∙ c.field_address.ensures
    ∙ sym (bad_found c.args.access m index c.args.address c.args.self.now.size c.loop-field.field c.args.self.now.fields c.loop-field-test.true
    (c.loop-field.invariant index) here))
