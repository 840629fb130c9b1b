use Rattle.std.proofs.Common.{ℕ, length, sym, ap, ◌∙◌, ltb, List, None}
use Rattle.std.specs.Prelude.{position, ◌++◌, ◌-◌, replicate}
use Rattle.std.specs.Str.{bytes_eq}
use Rattle.std.proofs.lemmas.Bool.{cond-false, le-ltb}
use Rattle.rv_model.specs.declared.assembler.mnemonics.TheConstants.{MNEMONICS}
use Rattle.rv_asm.proofs.table.row_named.Goals as goal
use Rattle.rv_model.specs.lending.NameTable.{row_named}

pub returns-clause-first : goal.returns-clause-first
unfolding row_named
returns-clause-first c =
    let name = c.args.name.now in
    let f = λ (p : List ℕ). position (λ row. bytes_eq row.0 p) MNEMONICS in
    c.row_padded.ensures.first ∙ ap f c.padded.ensures ∙ sym (cond-false (ltb 16 (length name)) None (f (name ++ replicate (16 - length name) 32)) (le-ltb 16 (length name) c.if-name-gt16.false))
