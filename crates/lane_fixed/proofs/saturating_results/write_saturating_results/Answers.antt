use Rattle.std.proofs.Common.{Bool, ℕ, ◌≡◌, ◌∙◌, ◌≤◌, max, refl, sym}
use Rattle.rv_model.specs.elements.Elements.{Body}
use Rattle.lane_fixed.proofs.SomeActive.{none_left, rest_shows}
use Rattle.lane_fixed.proofs.saturating_results.write_saturating_results.Goals as goal

pub returns-then-start-end-clause-saturated : goal.returns-then-start-end-clause-saturated
returns-then-start-end-clause-saturated g c =
    let body : Body = c.args.body.now in
    let left : ℕ = c.write_chunks-done.result.left in
    let saturates : ℕ → Bool = g.R.SaturatingResults.saturates c.args.results.now in
    let from : c.max-start.result ≡ max body.start left = rw c.start.ensures at c.max-start.ensures in
    let rest : c.new-rest.result ≡ record { unmasked = body.unmasked; mask = body.mask; start = max body.start left; end = body.end } =
    c.new-rest.ensures ∙ rw (c.is_unmasked.ensures, c.mask.ensures, from, c.end-end.ensures.value) refl in
    rw (c.write_chunks-done.ensures.saturated, c.write_rest.ensures.saturated) (rest_shows body c.new-rest.result saturates left rest)

pub returns-else-start-end-clause-saturated : goal.returns-else-start-end-clause-saturated
returns-else-start-end-clause-saturated g c =
    let body : Body = c.args.body.now in
    let left : ℕ = c.write_chunks-done.result.left in
    let from : c.max-start.result ≡ max body.start left = rw c.start.ensures at c.max-start.ensures in
    let none : body.end ≤ max body.start left = rw (sym from, sym c.end-end.ensures.value) c.if-start-end.false in
    c.write_chunks-done.ensures.saturated ∙ none_left body (g.R.SaturatingResults.saturates c.args.results.now) left none
