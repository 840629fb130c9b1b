use Rattle.std.proofs.Common.{ℕ, ◌+◌, ◌*◌, ◌/◌, ◌<◌, ◌≤◌, ◌≡◌, List, length, replicate, ap, ◌∙◌, arith}
use Rattle.rv_model.specs.elements.Elements.{element}
use Rattle.rv_model.specs.vector.Groups.{width_bytes}
use lib.Lanes.{chunk, put_chunk}
use Rattle.lane_reduce.proofs.MovedLanes.{bytes_in_chunk, moved_element}
use Rattle.lane_reduce.proofs.lanes.moved_down.Goals as goal

pub returns-clause-value : goal.returns-clause-value
returns-clause-value g c = λ i h.
    let w = g.L.Lane.width in
    let k : ℕ = width_bytes w in
    let n : ℕ = g.L.Lane.count in
    let by : ℕ = c.args.by in
    let long : length c.to_bytes.result ≡ 32 = omega arith in
    let room : List ℕ = replicate 64 0 in
    let wide : 32 ≤ length room = omega arith in
    let within : i < n = omega (arith, h) in
    let size : 32 / c.count-width.result ≡ k = rw c.count-width.ensures (bytes_in_chunk k n g.met.L.Lane.fills) in
    c.from_bytes.ensures.value i within
    ∙ ap (λ xs. element k xs i) (c.bytes_from.ensures ∙ ap (λ s. chunk (s * by) 32 (put_chunk 0 room c.to_bytes.result)) size)
    ∙ moved_element w n (g.L.Lane.lane c.args.elements) room c.to_bytes.result long wide g.met.L.Lane.fills c.to_bytes.ensures by i h (c.requires.fits (by + i) h)
