use Rattle.std.proofs.Common.{◌≡◌, ℕ, ◌<◌, ◌≤◌, ◌+◌, ◌*◌, ◌⊎◌, get_or, length}
use Rattle.user_mem.proofs.frames.zero_frame.Given as goal
use Rattle.rv_model.specs.memory.Sizes.{page_size}

abbrev pub invariant-loop-k : goal.invariant-loop-k
invariant-loop-k l = record {
  size : length l.frames ≡ length l.fn.frames;
  zeros : (j : ℕ) → j < l.k → get_or l.frames (page_size * l.frame + j) 0 ≡ 0;
  kept : (i : ℕ) → ((i < page_size * l.frame) ⊎ (page_size * l.frame + page_size ≤ i)) → get_or l.frames i 0 ≡ get_or l.fn.frames i 0;
}
