use Rattle.std.proofs.Common.{◌+◌, ◌-◌, ◌*◌, ◌/◌, ◌≤◌, ℕ, arith, length}
use Rattle.commit_log.proofs.moves.push_moves.Goals as goal

pub returns-then-vl-clause-bound : goal.returns-then-vl-clause-bound
returns-then-vl-clause-bound c =
    let before : ℕ = length c.args.text.now in
    -- the number of elements for which there is room in addition to the 2,048 of one instruction
    let others : ℕ = (163840 - (before + 86016)) / 42 in
    let room : before + 42 * (others + 2048) ≤ 163840 = omega (arith, c.requires.room) in
    omega (arith, c.show_moves.ensures.room others room)
