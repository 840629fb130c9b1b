use Rattle.std.proofs.Common.{◌≡◌, ◌≤◌}
use Rattle.rv_model.specs.images.Image.{placed_headers, is_touched}
use Rattle.rv_model.specs.memory.Sizes.{page_limit}
use Rattle.elf_load.specs.Pages.{pages_below}
use Rattle.elf_load.proofs.plan.Plan.pages.Given as goal

abbrev pub invariant-loop-count : goal.invariant-loop-count
invariant-loop-count l = record {
  counted : pages_below (is_touched (placed_headers l.self-inside.image.now)) l.from ≡ l.count;
  bound : l.from ≤ page_limit;
}
