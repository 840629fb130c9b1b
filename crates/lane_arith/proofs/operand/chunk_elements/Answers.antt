use Rattle.std.proofs.Common.{ℕ, zero, suc, ◌+◌, ◌*◌, ◌/◌, ◌<◌, ◌≡◌, List, [], get_or, length, take, drop, sym, ap, ◌∙◌, arith}
use Rattle.std.proofs.Math.Nat.{mul-suc, mul-zero}
use Rattle.std.proofs.lemmas.List.{drop-drop}
use Rattle.std.specs.Simd.{first_chunks}
use lib.Lanes.{chunk}
use Rattle.rv_model.specs.elements.Elements.{element}
use Rattle.rv_model.specs.vector.Groups.{width_bytes}
use Rattle.lane_arith.proofs.ChunkWrites.{element_of_chunk}
use Rattle.lane_arith.proofs.operand.chunk_elements.Goals as goal

-- the chunk with index c
chunk_at : (n k : ℕ) (xs : List ℕ) (c : ℕ) → c < k → get_or (first_chunks n k xs) c [] ≡ chunk (n * c) n xs
chunk_at n zero xs c h = absurd (omega (arith, h))
chunk_at n (suc k) xs zero h = ap (λ i. chunk i n xs) (sym (mul-zero n))
chunk_at n (suc k) xs (suc c) h =
    let next : n + n * c ≡ n * suc c = omega (arith, mul-suc n c) in
    chunk_at n k (drop n xs) c (omega (arith, h)) ∙ ap (take n) (drop-drop (n * c) n xs) ∙ ap (λ i. chunk i n xs) next

pub returns-clause-value : goal.returns-clause-value
returns-clause-value g c = λ i h.
    let inside : c.args.chunk < length c.args.bytes.now / 32 = omega (arith, c.requires) in
    c.from_bytes.ensures.value i h
    ∙ ap (λ ys. element (width_bytes g.L.Lane.width) ys i)
    (ap (λ zs. get_or zs c.args.chunk []) c.as_chunks.ensures.front ∙ chunk_at 32 (length c.args.bytes.now / 32) c.args.bytes.now c.args.chunk inside)
    ∙ element_of_chunk (width_bytes g.L.Lane.width) g.L.Lane.count c.args.chunk i c.args.bytes.now g.met.L.Lane.fills h
