use Rattle.std.proofs.Common.{◌≡◌, ℕ, Bool, ap, ◌∙◌, subst, sym}
use Rattle.rv_model.specs.declared.vector.state.VState.{VState}
use Rattle.rv_model.specs.step.Hart.{ends_after}
use Rattle.rv_model.specs.step.Step.{dirties, fetched, step, touches}
use Rattle.hart.specs.States.{end_by, ticks_by}
use Rattle.lazy_context.specs.LazyUnit.{state_of, touched}
use Rattle.monitor_machine.specs.Parts.{context_state}
use Rattle.monitor_machine.proofs.UnitSteps.{counts_instruction, lender_back, mark_lent, state_lent, strangers_keep}
use Rattle.monitor_machine.proofs.stepping.step_lent.Goals as goal

pub returns-clause-model : goal.returns-clause-model
returns-clause-model g c =
    let old = c.args.vectors.now in
    let new = c.step_context.new.vectors in
    let back = lender_back _ old new c.step_context.ensures.vectors.1 in
    let own = c.lending_law.ensures.own c.requires.settled in
    let lent : (touched new.user new.unit.now).seat.state ≡ state_of new.unit.now new.user =
    subst (λ (u : ℕ). (touched u new.unit.now).seat.state ≡ state_of new.unit.now u) (sym back.2) (state_lent _ old.user old.unit.now new.unit.now back.0 own) in
    ap (λ (v : VState). step c.args.terms.limit (context_state c.args.context.now v (g.M.UserBytes.memory c.args.memory.now))) (sym own)
    ∙ c.step_context.ensures.model
    ∙ ap (λ (v : VState). ends_after (ticks_by c.step_context.result c.step_context.new.ending) (end_by c.step_context.result c.step_context.new.ending) (context_state c.step_context.new.context v (g.M.UserBytes.memory c.step_context.new.memory))) lent

pub returns-clause-vectors : goal.returns-clause-vectors
returns-clause-vectors g c =
    let old = c.args.vectors.now in
    let new = c.step_context.new.vectors in
    let instruction = fetched (g.M.UserBytes.memory c.args.memory.now) c.args.context.now.scalar.pc in
    let back = lender_back (touches instruction) old new c.step_context.ensures.vectors.1 in
    record {
      settled = c.step_context.ensures.vectors.2;
      others_keep = strangers_keep (touches instruction) old.user old.unit.now new.unit.now back.0 (c.lending_law.ensures.states c.requires.settled);
      user = back.2;
      same_unit = back.1;
    }

pub returns-clause-unit : goal.returns-clause-unit
returns-clause-unit g c =
    let old = c.args.vectors.now in
    let new = c.step_context.new.vectors in
    let instruction = fetched (g.M.UserBytes.memory c.args.memory.now) c.args.context.now.scalar.pc in
    let changes : VState → Bool = λ v. dirties c.args.terms.limit instruction (context_state c.args.context.now v (g.M.UserBytes.memory c.args.memory.now)) in
    let back = lender_back (touches instruction) old new c.step_context.ensures.vectors.1 in
    let own = c.lending_law.ensures.own c.requires.settled in
    let marked = mark_lent changes (touched old.user old.unit.now).seat.state (state_of old.unit.now old.user) (touched old.user old.unit.now).seat.dirty old.user new.user new.unit.now back.2 own (c.step_context.ensures.vectors.0.0 c.args.context.now.output.items) in
    counts_instruction (touches instruction) (changes (state_of old.unit.now old.user)) old.user old.unit.now new.unit.now back.0 c.lending_law.ensures.counts marked
