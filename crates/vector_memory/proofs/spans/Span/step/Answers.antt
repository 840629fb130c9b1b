use Rattle.std.proofs.Common.{arith}
use Rattle.std.proofs.lemmas.Nat.{mul-le}
use Rattle.vector_memory.proofs.spans.Span.step.Goals as goal

pub returns : goal.returns
returns c =
    let b = c.args.self.now in
    let size = b.segments.size in
    omega (arith, b.span.apart, mul-le 1 size b.segments.fields size c.requires (omega arith))
