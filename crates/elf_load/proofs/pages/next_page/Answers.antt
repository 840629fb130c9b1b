use Rattle.std.proofs.Common.{ℕ, ◌+◌, Option, ◌<◌, IfSome, sym, subst, arith}
use Rattle.rv_model.specs.declared.images.ProgramHeader.{ProgramHeader}
use Rattle.rv_model.specs.images.Image.{touches_page, is_touched}
use Rattle.rv_model.specs.memory.Sizes.{page_limit}
use Rattle.elf_load.specs.Pages.{IsFirstIfAny, EndsInMemory, first_placed}
use Rattle.elf_load.proofs.FaultLaws.{sound_headers}
use Rattle.elf_load.proofs.PageLaws.{next_page-stack, next_page-more, next_page-all, earlier_below, stack_ends, header_ends}
use Rattle.elf_load.proofs.pages.next_page.Goals as goal

pub first_touched-next-requires : goal.first_touched-next-requires
first_touched-next-requires c = subst (λ (h : ProgramHeader). EndsInMemory h) (sym c.stack.ensures) stack_ends

pub header_count-requires : goal.header_count-requires
header_count-requires c = (sound_headers c.args.image.now c.requires).file

pub loop-number-init : goal.loop-number-init
loop-number-init c = record {
  first = next_page-stack c.args.image.now c.args.from c.first_touched-next.result
      (subst (λ (h : ProgramHeader). IsFirstIfAny (λ p. touches_page p h) c.args.from c.first_touched-next.result) c.stack.ensures c.first_touched-next.ensures.first);
  bound = c.first_touched-next.ensures.bound;
}

pub program_header-requires : goal.program_header-requires
program_header-requires c = let headers = sound_headers c.args.image.now c.requires in record { file = headers.file; table = headers.table c.loop-number.number (omega arith) }

pub first_touched-requires : goal.first_touched-requires
first_touched-requires c = subst (λ (h : ProgramHeader). EndsInMemory h) (sym c.program_header.ensures) (header_ends c.args.image.now c.loop-number.number c.requires (omega arith))

pub loop-number-preserved : goal.loop-number-preserved
loop-number-preserved c = record {
  first = subst (λ (o : Option ℕ). IsFirstIfAny (is_touched (first_placed c.args.image.now (c.loop-number.number + 1))) c.args.from o) (sym c.earlier-next.ensures)
      (next_page-more c.args.image.now c.loop-number.number c.args.from c.loop-number.next c.first_touched.result c.loop-number.invariant.first
      (subst (λ (h : ProgramHeader). IsFirstIfAny (λ p. touches_page p h) c.args.from c.first_touched.result) c.program_header.ensures c.first_touched.ensures.first));
  bound = subst (λ (o : Option ℕ). IfSome o (λ p. p < page_limit)) (sym c.earlier-next.ensures)
      (earlier_below c.loop-number.next c.first_touched.result page_limit c.loop-number.invariant.bound c.first_touched.ensures.bound);
}

pub returns-clause-first : goal.returns-clause-first
returns-clause-first c = next_page-all c.args.image.now c.loop-number.number c.args.from c.loop-number.next (omega arith) c.loop-number.invariant.first
