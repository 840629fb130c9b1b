-- The ticks of steps, with the fetch and the scalar instructions.
use Rattle.std.proofs.Common.{◌≡◌, ◌≢◌, ℕ, ◌≤◌, refl, arith, ◌⊎◌, inl, inr, sym, subst, ap, ◌∙◌}
use Rattle.std.proofs.lemmas.Bool.{false≢true}
use Rattle.rv_model.specs.declared.step.step_end.StepEnd.TheVariants.{Cut}
use Rattle.rv_model.specs.step.Hart.{HartState, Stepped}
use Rattle.rv_model.specs.step.Step.{fetched, step, word_at}
use Rattle.rv_model.specs.step.Ticks.{ScalarStepsTakeOneTick, TakesTicks, is_scalar}
use Rattle.rv_model.proofs.step_lemmas.StepCases.{IsScalarStep, IsVector, by_case}
use Rattle.rv_model.proofs.step_lemmas.Ticks.{vector_steps_take_ticks}

-- ---- an instruction other than a vector instruction takes one tick and is never cut

record AtOnce (r : Stepped) : Type 0 where
  ticks : r.ticks ≡ 1
  uncut : r.end ≢ Cut

timed : (s : HartState) → IsScalarStep AtOnce (is_scalar (fetched s.memory s.scalar.pc)) (λ n. step n s) ⊎ IsVector s
timed s = by_case s AtOnce (record {
  fault = λ cause value. record { ticks = refl; uncut = λ e. cc };
  runs = λ scalar first. record { ticks = refl; uncut = λ e. cc };
  stores = λ addr bytes. record { ticks = refl; uncut = λ e. cc };
  controls = λ register n value. record { ticks = refl; uncut = λ e. cc };
  puts = λ addr asked. record { ticks = refl; uncut = λ e. cc };
  exits = λ status. record { ticks = refl; uncut = λ e. cc };
  breaks = record { ticks = refl; uncut = λ e. cc };
  full = record { ticks = refl; uncut = λ e. cc };
})

-- ---- steps of either kind, by the remaining ticks

pub steps_take_ticks : TakesTicks step
steps_take_ticks = record {
  within = λ limit s some. elim (timed s) [
    | inl t ↦ let once = subst AtOnce (sym (t.same limit)) t.holds in (omega (arith, once.ticks), omega (arith, once.ticks, some))
    | inr v ↦ subst (λ (r : Stepped). (1 ≤ r.ticks) × (r.ticks ≤ limit)) (sym (v.same limit)) ((vector_steps_take_ticks v.vector.instr (word_at s.memory s.scalar.pc)).within limit s some)
  ];
  cut = λ limit s. elim (timed s) [
    | inl t ↦ λ cut. absurd ((subst AtOnce (sym (t.same limit)) t.holds).uncut cut)
    | inr v ↦
        subst (λ (r : Stepped). r.end ≡ Cut → (r.ticks ≡ limit) × (r.state.scalar ≡ s.scalar)) (sym (v.same limit))
        ((vector_steps_take_ticks v.vector.instr (word_at s.memory s.scalar.pc)).cut limit s)
  ];
  more = λ limit larger s more. elim (timed s) [
    | inl t ↦ λ uncut. t.same larger ∙ sym (t.same limit)
    | inr v ↦ λ uncut.
        let vector = vector_steps_take_ticks v.vector.instr (word_at s.memory s.scalar.pc) in
        v.same larger ∙ vector.more limit larger s more (subst (λ (r : Stepped). r.end ≢ Cut) (v.same limit) uncut) ∙ sym (v.same limit)
  ];
}

pub step_takes_ticks : (limit : ℕ) (s : HartState) → 1 ≤ limit → (1 ≤ (step limit s).ticks) × ((step limit s).ticks ≤ limit)
step_takes_ticks limit s some = steps_take_ticks.within limit s some

pub scalar_steps_take_one_tick : ScalarStepsTakeOneTick
scalar_steps_take_one_tick limit s scalar = elim (timed s) [
  | inl t ↦ let once = subst AtOnce (sym (t.same limit)) t.holds in (once.ticks, once.uncut)
  | inr v ↦ absurd (false≢true (sym (ap is_scalar v.is_fetched ∙ sym (ap is_scalar v.vector.is) ∙ v.vector.vector) ∙ scalar))
]
