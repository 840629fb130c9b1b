-- A span with the same segments and the same body is the same.
use Rattle.std.proofs.Common.{◌≡◌, ap, subst}
use denote.Struct.Props.{props}
use Rattle.rv_model.specs.elements.Elements.{Body}
use Rattle.vector_memory.specs.Spans.{IsSpan}
use Rattle.vector_memory.specs.declared.segments.Segments.{Segments}
use Rattle.vector_memory.specs.declared.spans.Span.{Span}

pub same_span : (b : Span) (s : Segments) (body : Body) → b.segments ≡ s → b.body ≡ body → (h : IsSpan s body b.stop b.address b.length b.distance)
    → ◌≡◌ {A = Span} (record b { segments = s; body = body; span = h }) b
same_span b s body e f =
    let one : IsProp (IsSpan b.segments b.body b.stop b.address b.length b.distance) = hlevel props in
    let P : Segments → Type 0 = λ s. (h : IsSpan s body b.stop b.address b.length b.distance) → ◌≡◌ {A = Span} (record b { segments = s; body = body; span = h }) b in
    let Q : Body → Type 0 = λ body. (h : IsSpan b.segments body b.stop b.address b.length b.distance) → ◌≡◌ {A = Span} (record b { body = body; span = h }) b in
    subst P e (subst Q f (λ h. ap (λ x. record b { span = x }) (one h b.span)))
