use Rattle.std.proofs.Common.{◌≡◌, ◌+◌, sym, ◌∙◌, arith, inl, inr}
use Rattle.std.proofs.lemmas.Bool.{cases_Bool, false_from_ne_true, true≢false}
use Rattle.std.proofs.Common.{get_or}
use Rattle.rv_model.specs.assembler.Tokens.{in_run}
use Rattle.rv_asm.proofs.Tokens.{takes_run, takes_single, takes_none}
use Rattle.rv_asm.proofs.token.next_token.Goals as goal

pub returns-then-start-text : goal.returns-then-start-text
returns-then-start-text c = sym c.after_spaces-start.ensures.same ∙ takes_none c.args.text.now c.after_spaces-start.result (omega arith)

pub returns : goal.returns
returns c =
    let text = c.args.text.now in
    let start = c.after_spaces-start.result in
    let e = c.run_end-end.result in
    let done = c.run_end-end.ensures in
    elim (cases_Bool (in_run (get_or text start 0))) [
      | inl is_run ↦ (sym c.after_spaces-start.ensures.same ∙ takes_run text start e done.above done.range is_run done.run (λ lt. false_from_ne_true _ (done.ends lt is_run)), done.range)
      | inr not_run ↦ let one : e ≡ start + 1 = done.single (λ y. true≢false (sym y ∙ not_run)) in
          (rw one (sym c.after_spaces-start.ensures.same ∙ takes_single text start (omega arith) (c.after_spaces-start.ensures.first (omega arith)) not_run), done.range)
    ]
