use Rattle.std.proofs.Common.{[], ap, false, sym, true, ◌∙◌}
use Rattle.std.specs.Option.{option_map_or}
use Rattle.rv_model.specs.text.Lines.{pieces}
use Rattle.first_state.proofs.LaidLines.{laid_all, laid_next}
use Rattle.first_state.proofs.Texts.{fewer_left}
use Rattle.first_state.proofs.registers.lay_lines.Goals as goal

pub returns-then-not-lay_line-clause-laid : goal.returns-then-not-lay_line-clause-laid
returns-then-not-lay_line-clause-laid g c =
    sym c.loop-rest.invariant.laid
    ∙ laid_next c.loop-rest.number c.cut.result.0.now _ _ _ _ c.lay_line.result false
    (ap (λ r. option_map_or (λ rest. pieces rest.now) r []) c.in-Some.is ∙ c.cut.ensures.pieces) c.lay_line.ensures.laid c.if-not-lay_line.true

pub loop-rest-preserved : goal.loop-rest-preserved
loop-rest-preserved g c = record {
  laid = sym (laid_next c.loop-rest.number c.cut.result.0.now _ _ _ _ c.lay_line.result true
      (ap (λ r. option_map_or (λ rest. pieces rest.now) r []) c.in-Some.is ∙ c.cut.ensures.pieces) c.lay_line.ensures.laid c.if-not-lay_line.false)
      ∙ c.loop-rest.invariant.laid;
  memory = c.lay_line.ensures.memory ∙ c.loop-rest.invariant.memory;
  few = fewer_left c.loop-rest.number _ c.loop-rest.rest c.cut.result.1 c.in-Some.lines c.in-Some.is c.cut.ensures.shorter c.loop-rest.invariant.few;
}

pub returns-clause-laid : goal.returns-clause-laid
returns-clause-laid g c =
    sym c.loop-rest.invariant.laid ∙ laid_all c.loop-rest.number _ _ (ap (λ r. option_map_or (λ rest. pieces rest.now) r []) c.in_default.is)
