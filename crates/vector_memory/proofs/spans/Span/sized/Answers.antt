use Rattle.std.proofs.Common.{sym, ap}
use Rattle.vector_memory.specs.declared.segments.Segments.{Segments}
use Rattle.vector_memory.proofs.SameSpans.{same_span}
use Rattle.vector_memory.proofs.spans.Span.sized.Goals as goal

pub returns : goal.returns
returns c =
    let s : Segments = c.args.self.now.segments in
    same_span _ _ _ (ap (λ n. record s { size = n }) (sym c.requires)) (sym c.copied.ensures) _
