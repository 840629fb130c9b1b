use Rattle.std.proofs.Common.{◌∙◌, sym, ap, length, ◌||◌, Bool, arith}
use Rattle.std.specs.List.{list_any}
use Rattle.rv_model.specs.images.Fields.{program_header}
use Rattle.elf_load.specs.Parts.{header_has}
use Rattle.elf_load.proofs.HeaderLaws.{any_none, any_more, any_at, first_headers_all}
use Rattle.elf_load.proofs.faults.any_header_has.Goals as goal

pub returns-then-header_has : goal.returns-then-header_has
returns-then-header_has c =
    sym (any_at (header_has (length c.args.image.now) c.args.fault) c.args.image.now c.loop-number.number (omega arith)
    (ap (header_has (length c.args.image.now) c.args.fault) (sym c.program_header.ensures) ∙ sym c.header_has.ensures ∙ c.if-header_has.true))

pub loop-number-init : goal.loop-number-init
loop-number-init c = any_none (header_has (length c.args.image.now) c.args.fault) c.args.image.now

pub loop-number-preserved : goal.loop-number-preserved
loop-number-preserved c =
    any_more (header_has (length c.args.image.now) c.args.fault) c.args.image.now c.loop-number.number
    ∙ ap (λ (b : Bool). b || header_has (length c.args.image.now) c.args.fault (program_header c.args.image.now c.loop-number.number)) c.loop-number.invariant
    ∙ ap (header_has (length c.args.image.now) c.args.fault) (sym c.program_header.ensures) ∙ sym c.header_has.ensures ∙ c.if-header_has.false

pub returns : goal.returns
returns c = sym (ap (list_any (header_has (length c.args.image.now) c.args.fault)) (sym (first_headers_all c.args.image.now c.loop-number.number (omega arith))) ∙ c.loop-number.invariant)
