use Rattle.std.proofs.Common.{ℕ, ◌≤◌, ◌≡◌, List, length, replicate, ◌∙◌, arith}
use Rattle.rv_model.specs.vector.Groups.{width_bytes}
use Rattle.lane_arith.proofs.MaskBits.{count_positive}
use Rattle.lane_reduce.proofs.MovedLanes.{stored_element}
use Rattle.lane_reduce.proofs.lanes.first_lane.Goals as goal

pub returns : goal.returns
returns g c =
    let w = g.L.Lane.width in
    let n : ℕ = g.L.Lane.count in
    let long : length c.to_bytes.result ≡ 32 = omega arith in
    let room : List ℕ = replicate 32 0 in
    let wide : 32 ≤ length room = omega arith in
    c.load.ensures
    ∙ stored_element w n (g.L.Lane.lane c.args.lanes) room c.to_bytes.result long wide g.met.L.Lane.fills c.to_bytes.ensures 0
    (count_positive (width_bytes w) n g.met.L.Lane.fills) c.requires
