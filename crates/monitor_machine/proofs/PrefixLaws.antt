-- The prefix of a line, by its first two bytes.
use Rattle.std.proofs.Common.{◌≡◌, ℕ, ◌≤◌, ◌-◌, List, ◌∷◌, length, get_or, drop, eqb, leb, refl, arith}
use Rattle.std.specs.Prelude.{if◌then◌else◌, ◌&&◌}
use Rattle.rv_model.specs.machine.Script.{Bad, Operator, Of, prefixed}

pub prefixed_at : (line : List ℕ) → 2 ≤ length line → prefixed line ≡ (if eqb (get_or line 1 0) 32 then (if eqb (get_or line 0 0) 42 then Operator (drop 2 line) else if leb 49 (get_or line 0 0) && leb (get_or line 0 0) 56 then Of (get_or line 0 0 - 48) (drop 2 line) else Bad) else Bad)
prefixed_at (d ∷ s ∷ rest) h = refl
prefixed_at _ h = absurd (omega arith)
