use Rattle.std.proofs.Common.{◌≡◌, ◌+◌, ◌-◌, ◌*◌, ◌≤◌, ap, ◌∙◌, arith}
use Rattle.std.proofs.Math.Nat.{add-mul, le-div_iff_mul-le}
use Rattle.std.proofs.lemmas.Nat.{mul-le}
use Rattle.rv_model.specs.declared.vector.sizes.TheConstants.{GROUP_BYTES}
use Rattle.vector_memory.proofs.spans.Span.count.Goals as goal

pub returns : goal.returns
returns c =
    let b = c.args.self.now in
    let size = b.segments.size in
    let n = b.stop - b.body.start in
    let one = mul-le 1 size b.segments.fields size c.requires.fields (omega arith) in
    let others = mul-le (n - 1) size (n - 1) b.distance (omega arith) (omega (arith, b.span.apart, one)) in
    let last : n ≡ (n - 1) + 1 = omega (arith, b.span.some) in
    let all : n * size ≤ GROUP_BYTES = omega (arith, ap (λ k. k * size) last ∙ add-mul (n - 1) 1 size, b.span.length, b.span.few, one, others) in
    omega (arith, (le-div_iff_mul-le {k = size} {x = n} {y = GROUP_BYTES} (omega (arith, c.requires.size))).1 all, c.min.ensures, c.start.ensures)
