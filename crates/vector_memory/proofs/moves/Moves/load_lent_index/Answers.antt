use Rattle.std.proofs.Common.{sym, ◌∙◌}
use Rattle.rv_model.specs.declared.memory.Access.TheVariants.{Load}
use Rattle.rv_model.proofs.access_lemmas.Moves.{allowed_none, loaded_none}
use Rattle.rv_model.proofs.access_lemmas.Segments.{filled_allowed, plan_active, plan_filled, plan_kept}
use Rattle.vector_memory.specs.SegmentRoom.{segments_access, place_in}
use Rattle.vector_memory.proofs.moves.Moves.load_lent_index.Goals as goal

pub returns-then-is_enabled-clause-moved : goal.returns-then-is_enabled-clause-moved
returns-then-is_enabled-clause-moved g c = λ done m lent.
    let active = plan_active (segments_access c.args.self.now.segments c.args.self.now.body (g.A.Addresses.address c.args.self.now.addresses)) c.args.fill c.args.index (sym c.is_enabled.ensures ∙ c.if-is_enabled.true) in
    rw (active, sym c.address-address.ensures) (c.read_lent.ensures.moved done m lent)

pub returns-then-fill-clause-moved : goal.returns-then-fill-clause-moved
returns-then-fill-clause-moved g c = λ _ m lent.
    let self = c.args.self.now in
    let filled = plan_filled (segments_access self.segments self.body (g.A.Addresses.address self.addresses)) c.args.fill c.args.index (sym c.is_enabled.ensures ∙ c.if-is_enabled.false) c.if-fill.true in
    rw filled (record { allowed = filled_allowed Load m c.args.index self.segments.size self.segments.fields; value = c.fill.ensures m })

pub returns-else-fill-clause-moved : goal.returns-else-fill-clause-moved
returns-else-fill-clause-moved g c = λ _ m lent.
    let self = c.args.self.now in
    let kept = plan_kept (segments_access self.segments self.body (g.A.Addresses.address self.addresses)) c.args.fill c.args.index (sym c.is_enabled.ensures ∙ c.if-is_enabled.false) c.if-fill.false in
    rw kept (record { allowed = allowed_none Load m; value = sym (loaded_none m (place_in self.segments) c.args.file.now) })
