use Rattle.std.proofs.Common.{false, refl, sym, ◌∙◌}
use Rattle.rv_model.specs.declared.memory.Access.TheVariants.{Store}
use Rattle.rv_model.specs.memory.Memory.{put_bytes}
use Rattle.rv_model.proofs.access_lemmas.Moves.{allowed_none, stored_none}
use Rattle.rv_model.proofs.access_lemmas.Segments.{plan_active, plan_kept}
use Rattle.vector_memory.specs.SegmentRoom.{segments_access, place_in}
use Rattle.vector_memory.proofs.moves.Moves.store_lent_index.Goals as goal

pub returns-then-is_enabled-clause-allowed : goal.returns-then-is_enabled-clause-allowed
returns-then-is_enabled-clause-allowed g c = λ done m all.
    let active = plan_active (segments_access c.args.self.now.segments c.args.self.now.body (g.A.Addresses.address c.args.self.now.addresses)) false c.args.index (sym c.is_enabled.ensures ∙ c.if-is_enabled.true) in
    rw (active, sym c.address-address.ensures) (c.write_lent.ensures.allowed done m all)

pub returns-then-is_enabled-clause-value : goal.returns-then-is_enabled-clause-value
returns-then-is_enabled-clause-value g c = λ done m.
    let active = plan_active (segments_access c.args.self.now.segments c.args.self.now.body (g.A.Addresses.address c.args.self.now.addresses)) false c.args.index (sym c.is_enabled.ensures ∙ c.if-is_enabled.true) in
    rw (active, sym c.address-address.ensures) (c.write_lent.ensures.value done m)

pub returns-clause-allowed : goal.returns-clause-allowed
returns-clause-allowed g c = λ _ m all.
    let kept = plan_kept (segments_access c.args.self.now.segments c.args.self.now.body (g.A.Addresses.address c.args.self.now.addresses)) false c.args.index (sym c.is_enabled.ensures ∙ c.if-is_enabled.false) refl in
    rw kept (allowed_none Store m)

pub returns-clause-value : goal.returns-clause-value
returns-clause-value g c = λ _ m.
    let kept = plan_kept (segments_access c.args.self.now.segments c.args.self.now.body (g.A.Addresses.address c.args.self.now.addresses)) false c.args.index (sym c.is_enabled.ensures ∙ c.if-is_enabled.false) refl in
    rw kept (sym (stored_none (put_bytes m c.args.first c.args.bytes.now) (place_in c.args.self.now.segments) c.args.file.now))
