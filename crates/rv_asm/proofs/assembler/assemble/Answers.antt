use Rattle.std.proofs.Common.{◌+◌, length, sym, ◌∙◌}
use Rattle.std.proofs.lemmas.Result.{err_from_is_err_and}
use Rattle.rv_model.specs.assembler.Table.{read_operands, spelled}
use Rattle.rv_model.proofs.assembler_lemmas.Spellings.{spelled_is_listed}
use Rattle.rv_asm.specs.Places.{rest}
use Rattle.rv_asm.proofs.Assembling.{spelled_nothing, spelled_unknown, spelled_known, answers}
use Rattle.rv_asm.proofs.assembler.assemble.Goals as goal

pub returns-in_err-name-clause-err : goal.returns-in_err-name-clause-err
returns-in_err-name-clause-err c =
    let p = err_from_is_err_and c.from_residual.result c.from_residual.ensures.1 in
    rw (p.1, p.2) (spelled_is_listed c.args.text.now ∙ spelled_nothing c.args.text.now c.in_err-name.field-0.0.column c.in_err-name.ensures.0 c.in_err-name.ensures.1)

pub returns-in_default-clause-err : goal.returns-in_default-clause-err
returns-in_default-clause-err c = spelled_is_listed c.args.text.now ∙ spelled_unknown c.args.text.now (record { column = c.in_ok-name.name.column; text = c.in_ok-name.name.text.now }) (rest c.args.text.now c.in_ok-name.after) c.fault.result.column c.in_ok-name.ensures.0 (sym c.in_default.ensures.first) c.fault.ensures

pub returns : goal.returns
returns c =
    let text = c.args.text.now in
    let ts = rest text c.in_ok-name.after in
    let both = answers c.read_operands.result (read_operands (length text + 1) c.row_at-form.result.2 c.slots_of.result.now ts) (spelled text)
    (spelled_is_listed text ∙ spelled_known text (record { column = c.in_ok-name.name.column; text = c.in_ok-name.name.text.now }) ts c.in-Some.row c.row_at-form.result c.slots_of.result.now c.in_ok-name.ensures.0 (sym c.in-Some.ensures.first) c.row_at-form.ensures.value c.slots_of.ensures.slots)
    c.read_operands.ensures in
    record { ok = both.0; err = both.1 }
