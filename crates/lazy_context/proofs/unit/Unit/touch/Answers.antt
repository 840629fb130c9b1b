use Rattle.std.proofs.Common.{◌∙◌, ap, refl, subst}
use Rattle.lazy_context.specs.LazyUnit.{KeepsOtherAreas, with_seat}
use Rattle.lazy_context.specs.declared.unit.Unit.{Unit}
use Rattle.lazy_context.proofs.unit.Unit.touch.Goals as goal

pub returns : goal.returns
returns c =
    let same = c.switch.ensures.value in
    let law = c.lending_law.ensures in (
      (refl, λ w. ap (λ (u : Unit). with_seat w u) same),
      record {
        writes_back = tt;
        value = ap (λ (u : Unit). u.seat) same;
        states = law.states c.requires;
        own = ap (λ (u : Unit). u.seat.state) same ∙ law.own c.requires;
        counts = law.counts;
        kept = subst (λ (u : Unit). KeepsOtherAreas c.args.self.now u) same c.switch.ensures.kept;
      },
    )
