use Rattle.std.proofs.Common.{◌∙◌, sym, ap, subst, Bool, ◌||◌, arith}
use Rattle.rv_model.specs.declared.images.ProgramHeader.{ProgramHeader}
use Rattle.rv_model.specs.images.Fields.{program_header}
use Rattle.elf_load.specs.Pages.{EndsInMemory, grants}
use Rattle.elf_load.proofs.FaultLaws.{sound_headers}
use Rattle.elf_load.proofs.HeaderLaws.{any_none, any_more}
use Rattle.elf_load.proofs.PageLaws.{stack_ends, header_ends, is_allowed_by-stack, is_allowed_by-header, is_allowed_by-none}
use Rattle.elf_load.proofs.permissions.is_allowed_by.Goals as goal

pub grants-requires-clause-ends : goal.grants-requires-clause-ends
grants-requires-clause-ends c = subst (λ (h : ProgramHeader). EndsInMemory h) (sym c.stack.ensures) stack_ends

pub returns-then-grants : goal.returns-then-grants
returns-then-grants c =
    sym (is_allowed_by-stack c.args.image.now c.args.flag c.args.page (ap (grants c.args.flag c.args.page) (sym c.stack.ensures) ∙ sym c.grants.ensures ∙ c.if-grants.true))

pub header_count-requires : goal.header_count-requires
header_count-requires c = (sound_headers c.args.image.now c.requires.sound).file

pub loop-number-init : goal.loop-number-init
loop-number-init c = any_none (grants c.args.flag c.args.page) c.args.image.now

pub program_header-requires : goal.program_header-requires
program_header-requires c = let headers = sound_headers c.args.image.now c.requires.sound in record { file = headers.file; table = headers.table c.loop-number.number (omega arith) }

pub grants-requires-in-loop-number-clause-ends : goal.grants-requires-in-loop-number-clause-ends
grants-requires-in-loop-number-clause-ends c =
    subst (λ (h : ProgramHeader). EndsInMemory h) (sym c.program_header.ensures) (header_ends c.args.image.now c.loop-number.number c.requires.sound (omega arith))

pub returns-then-grants-2 : goal.returns-then-grants-2
returns-then-grants-2 c =
    sym (is_allowed_by-header c.args.image.now c.args.flag c.args.page c.loop-number.number (omega arith)
    (ap (grants c.args.flag c.args.page) (sym c.program_header.ensures) ∙ sym c.grants-in-loop-number.ensures ∙ c.if-grants-2.true))

pub loop-number-preserved : goal.loop-number-preserved
loop-number-preserved c =
    any_more (grants c.args.flag c.args.page) c.args.image.now c.loop-number.number
    ∙ ap (λ (b : Bool). b || grants c.args.flag c.args.page (program_header c.args.image.now c.loop-number.number)) c.loop-number.invariant
    ∙ ap (grants c.args.flag c.args.page) (sym c.program_header.ensures) ∙ sym c.grants-in-loop-number.ensures ∙ c.if-grants-2.false

pub returns : goal.returns
returns c =
    sym (is_allowed_by-none c.args.image.now c.args.flag c.args.page c.loop-number.number (omega arith)
    (ap (grants c.args.flag c.args.page) (sym c.stack.ensures) ∙ sym c.grants.ensures ∙ c.if-grants.false) c.loop-number.invariant)
