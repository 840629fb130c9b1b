use Rattle.std.proofs.Common.{◌<◌, IfSome}
use Rattle.rv_model.specs.images.Image.{is_touched}
use Rattle.rv_model.specs.memory.Sizes.{page_limit}
use Rattle.elf_load.specs.Pages.{IsFirstIfAny, first_placed}
use Rattle.elf_load.proofs.pages.next_page.Given as goal

abbrev pub invariant-loop-number : goal.invariant-loop-number
invariant-loop-number l = record {
  first : IsFirstIfAny (is_touched (first_placed l.image l.number)) l.from l.next;
  bound : IfSome l.next (λ page. page < page_limit);
}
