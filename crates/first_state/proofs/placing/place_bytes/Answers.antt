use Rattle.std.proofs.Common.{ap, sym, ◌∙◌, arith, refl}
use Rattle.rv_model.specs.step.Hart.{HartState}
use Rattle.first_state.specs.OwnMemory.{own_memory}
use Rattle.first_state.specs.Placed.{in_memory}
use Rattle.first_state.proofs.Pages.{placed_all, placed_next}
use Rattle.first_state.proofs.placing.place_bytes.Goals as goal

pub returns-in-Err-clause-placed : goal.returns-in-Err-clause-placed
returns-in-Err-clause-placed g c =
    sym c.loop-byte.invariant.rest ∙ placed_next c.args.permissions c.loop-byte.at c.loop-byte.byte-index _ c.args.bytes.now _ _ (omega arith) refl c.in-Err.ensures.placed

pub loop-byte-preserved : goal.loop-byte-preserved
loop-byte-preserved g c = record {
  at = omega (arith, c.loop-byte.invariant.at);
  rest = sym (placed_next c.args.permissions c.loop-byte.at c.loop-byte.byte-index _ c.args.bytes.now _ _ (omega arith) refl c.in_default.ensures.placed) ∙ c.loop-byte.invariant.rest;
  others = ap (λ (s : HartState). in_memory s (own_memory c.place_byte.new.memory)) c.loop-byte.invariant.others;
}

pub returns-clause-placed : goal.returns-clause-placed
returns-clause-placed g c = sym c.loop-byte.invariant.rest ∙ placed_all c.args.permissions c.loop-byte.at c.loop-byte.byte-index c.args.bytes.now _ c.loop-byte-test.false
