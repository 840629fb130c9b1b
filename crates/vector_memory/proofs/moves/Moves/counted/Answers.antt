use Rattle.std.proofs.Common.{◌≡◌, ◌≤◌, ◌∙◌, subst, sym, ap}
use denote.Struct.Props.{props}
use Rattle.rv_model.specs.declared.vector.sizes.TheConstants.{GROUP_BYTES}
use Rattle.rv_model.specs.elements.Elements.{Body}
use Rattle.vector_memory.specs.SegmentRoom.{HasRoom}
use Rattle.vector_memory.specs.declared.moves.Moves.{Moves}
use Rattle.vector_memory.specs.declared.segments.Segments.{Segments}
use Rattle.vector_memory.proofs.moves.Moves.counted.Goals as goal

pub returns : goal.returns
returns g c =
    let b : Moves g.row.A.Denot g.A.Addresses = c.args.self.now in
    let s : Segments = b.segments in
    let one : IsProp (HasRoom b.segments b.body.end) = hlevel props in
    let two : IsProp (b.body.end ≤ GROUP_BYTES) = hlevel props in
    let three : IsProp (b.body.end ≤ g.A.Addresses.count b.addresses) = hlevel props in
    let P : Segments → Body → Type 0 = λ segments body. (room : HasRoom segments body.end) (most : body.end ≤ GROUP_BYTES) (addressed : body.end ≤ g.A.Addresses.count b.addresses)
    → ◌≡◌ {A = Moves g.row.A.Denot g.A.Addresses} (record b { segments = segments; body = body; room = room; most = most; addressed = addressed }) b in
    let counts : s ≡ record s { fields = c.args.fields; size = c.args.size } =
    ap (λ n. record s { fields = n }) (sym c.requires.fields) ∙ ap (λ n. record s { fields = c.args.fields; size = n }) (sym c.requires.size) in
    subst (λ x. P x c.copied.result) counts
    (subst (P s) (sym c.copied.ensures)
    (λ room most addressed.
    ap (λ x. record b { room = x; most = most; addressed = addressed }) (one room b.room)
    ∙ ap (λ x. record b { most = x; addressed = addressed }) (two most b.most) ∙ ap (λ x. record b { addressed = x }) (three addressed b.addressed)))
    _ _ _
