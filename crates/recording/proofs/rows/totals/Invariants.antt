use Rattle.std.proofs.Common.{◌≡◌, ◌%◌, ◌^◌, take}
use Rattle.recording.specs.Sums.{OfEach, is_word, total}
use Rattle.recording.proofs.rows.totals.Given as goal

-- the sums of the rows so far
abbrev pub invariant-loop-row : goal.invariant-loop-row
invariant-loop-row l = OfEach (λ number. number l.sums ≡ total number is_word (take l.row-index l.rows) % 2 ^ 64)
