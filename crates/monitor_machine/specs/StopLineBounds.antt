-- Upper bounds on the bytes of users' stop lines in a reply: each user whose program is running may stop once.
use Rattle.std.specs.Prelude.{ℕ, ◌+◌, List, [], ◌∷◌, if◌then◌else◌}
use Rattle.rv_model.specs.machine.Grants.{runs}
use Rattle.rv_model.specs.machine.World.{Private}

-- bound on the bytes of a user's stop line, with its digit and newline
abbrev pub stop_line_bound : Private → ℕ
stop_line_bound p = if runs p then 80 else 0

-- the same for all users
abbrev pub stop_lines_bound : List Private → ℕ
stop_lines_bound [] = 0
stop_lines_bound (p ∷ ps) = stop_line_bound p + stop_lines_bound ps
