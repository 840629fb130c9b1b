use Rattle.std.proofs.Common.{List, subst}
use Rattle.vector_memory.specs.MovedElements.{MovedElement}
use Rattle.vector_memory.proofs.Offsets.{offset_elements}
use Rattle.vector_memory.proofs.instructions.show_offsets.Goals as goal

pub returns-clause-seen : goal.returns-clause-seen
returns-clause-seen g c =
    let a = c.args in
    subst (λ (xs : List MovedElement). g.V.Viewer.saw a.viewer.now xs c.show.new.viewer)
    (offset_elements a.state.now a.scalar.now c.in-Some.transfer a.access.now a.left c.in-Some.ensures.moves c.in-Some.ensures.fits.op) c.show.ensures.seen
