-- A step that is cut or faults and is executed again, with the fetch of its word.
use Rattle.std.proofs.Common.{◌≡◌, ◌≢◌, ◌⊎◌, inl, inr, ℕ, zero, suc, ◌+◌, ◌-◌, ◌<◌, ◌≤◌, true, Option, Some, refl, sym, ◌∙◌, ap, subst, arith}
use Rattle.std.specs.FinMap.{get}
use Rattle.std.proofs.lemmas.Bool.Decides.{nat_tests}
use Rattle.rv_model.specs.declared.instructions.instruction.Instr.{Instr}
use Rattle.rv_model.specs.declared.memory.Access.{Access}
use Rattle.rv_model.specs.declared.step.step_end.StepEnd.TheVariants.{Cut}
use Rattle.rv_model.specs.declared.step.vector_end.VEnd.{VEnd}
use Rattle.rv_model.specs.declared.step.vector_end.VEnd.TheVariants as vector_end
use Rattle.rv_model.specs.declared.vector.sizes.TheConstants.{GROUP_BYTES}
use Rattle.rv_model.specs.accesses.Restarts.{Extends, overlay}
use Rattle.rv_model.specs.instructions.Table.{scan, table}
use Rattle.rv_model.specs.memory.Memory.{Memory, bytes_at, can_access}
use Rattle.rv_model.specs.step.Hart.{HartState, Stepped}
use Rattle.rv_model.specs.step.Resumes.{IsUndone, KeepsOwnWord, StopsShort, after_ticks, finds}
use Rattle.rv_model.specs.step.Step.{fetched, step, touches, word_at, VectorStepped, after_vector, vector_executed, vector_step, vector_ticks}
use Rattle.rv_model.specs.vector.Groups.{IsConfiguration}
use Rattle.rv_model.proofs.access_lemmas.Growth.{allowed_by_get, byte_by_get, bytes_at_extends, can_access_extends, overlay_extends, overlay_grown}
use Rattle.rv_model.proofs.legality_lemmas.Bounds.{configuration_below}
use Rattle.rv_model.proofs.step_lemmas.Cuts.{cut_index, cut_short, uncut}
use Rattle.rv_model.proofs.step_lemmas.Effects.{IfIllegal, vector_keeps}
use Rattle.rv_model.proofs.step_lemmas.StepsResume.{after_short, instruction_leaves_off, instruction_stops, part_keeps_word, step_resumes}
use Rattle.rv_model.specs.step.Ticks.{is_scalar}
use Rattle.rv_model.proofs.step_lemmas.StepCases.{Fetches, IsScalarStep, IsVector, IsVectorStep, step_of, by_case}
use Rattle.rv_model.proofs.step_lemmas.StoredWords.{SameWord}

-- ---- an instruction other than a vector instruction is never cut, and changes nothing if it faults

abbrev AllOrNothing : HartState → Stepped → Type 0
AllOrNothing s r = IsUndone r.end → (r.state ≡ s) × (r.end ≢ Cut)

whole : (s : HartState) → IsScalarStep (AllOrNothing s) (is_scalar (fetched s.memory s.scalar.pc)) (λ n. step n s) ⊎ IsVector s
whole s = search (arith, nat_tests, by_case)

-- ---- the fetched word

bytes_kept : (m other : Memory) (a n : ℕ) → ((x : ℕ) → a ≤ x → x < a + n → get other x ≡ get m x) → bytes_at other a n ≡ bytes_at m a n
unfolding bytes_at
bytes_kept m other a zero h = refl
bytes_kept m other a (suc n) h = search (arith, byte_by_get, bytes_kept m other (a + 1) n (λ x l g. h x (omega (arith, l)) (omega (arith, g))))

access_kept : (kind : Access) (m other : Memory) (a n : ℕ) → ((x : ℕ) → a ≤ x → x < a + n → get other x ≡ get m x) → can_access kind other a n ≡ can_access kind m a n
unfolding can_access
access_kept kind m other a zero h = refl
access_kept kind m other a (suc n) h =
    search (arith, allowed_by_get, access_kept kind m other (a + 1) n (λ x l g. h x (omega (arith, l)) (omega (arith, g))))

fetch_grown : (word : ℕ) (s : HartState) (more : Memory) → Extends s.memory more → Fetches word s → Fetches word (finds more s)
fetch_grown word s more grown f = search (arith, nat_tests, bytes_at_extends, can_access_extends)

-- ---- steps without effect

-- a step from the state that an earlier part left equals the uninterrupted step
abbrev pub ResumesFrom : (ℕ → HartState → Stepped) → ℕ → HartState → Memory → HartState → Type 0
ResumesFrom make later s more left =
    make (left.vector.vstart - s.vector.vstart + later) (finds (overlay s.memory more) s)
    ≡ after_ticks (left.vector.vstart - s.vector.vstart) (make later (finds more left))

no_ticks : (n : ℕ) (r : Stepped) → n ≡ 0 → after_ticks n r ≡ r
no_ticks n r none = let same : r.ticks + n ≡ r.ticks = omega (arith, none) in ap (λ (t : ℕ). record r { ticks = t }) same

unchanged_resumes : (make : ℕ → HartState → Stepped) (later : ℕ) (s : HartState) (more : Memory) (left : HartState) → left ≡ s → Extends left.memory more → ResumesFrom make later s more left
unchanged_resumes make later s more left same grown = search (arith, no_ticks, overlay_grown)

-- ---- a vector instruction

-- if a step is incomplete, its instruction stops early or changes nothing
short_or_same : (ticks word : ℕ) (d : VectorStepped) (s : HartState) → IfIllegal d.end (d.state ≡ s) → IsUndone (after_vector ticks d.end word d.state).end
    → StopsShort d.end ⊎ ((after_vector ticks d.end word d.state).state ≡ s)
short_or_same ticks word d s = named d.end
  where
    named : (end : VEnd) → IfIllegal end (d.state ≡ s) → IsUndone (after_vector ticks end word d.state).end
        → StopsShort end ⊎ ((after_vector ticks end word d.state).state ≡ s)
    named vector_end.Done h u = absurd u
    named vector_end.Illegal h u = inr h
    named _ h u = inl (record { undone = λ e. cc; legal = λ e. cc })

module _ (limit later : ℕ) (s : HartState) (more : Memory) (is : IsConfiguration s.vector.conf) where
  -- an instruction that stops early, and whose word is fetched again
  short_resumes : (word : ℕ) (f : Fetches word s) (v : IsVectorStep (scan table word) word) → StopsShort (vector_executed limit v.instr s).end
      → KeepsOwnWord (vector_step limit v.instr word s).state.vector.vstart (Some v.instr) s
      → Extends (vector_step limit v.instr word s).state.memory more
      → ResumesFrom step later s more (vector_step limit v.instr word s).state
  short_resumes word f v stops keeps grown =
      let i : Instr = v.instr in
      let d : VectorStepped = vector_executed limit i s in
      let left : HartState = (vector_step limit i word s).state in
      let leaves_part : left ≡ d.state = after_short (vector_ticks limit i s) d.end word d.state stops in
      let scalar : left.scalar ≡ s.scalar =
      ap (λ (w : HartState). w.scalar) leaves_part ∙ ap (λ (w : HartState). w.scalar) (instruction_stops limit i s is stops).rest in
      let same : SameWord s.scalar.pc s.memory left.memory =
      subst (λ (w : HartState). SameWord s.scalar.pc s.memory w.memory) (sym leaves_part)
      (part_keeps_word limit i s is stops (subst (λ (w : HartState). KeepsOwnWord w.vector.vstart (Some i) s) leaves_part keeps)) in
      let again : Fetches word (finds more left) = fetch_grown word left more grown (search (arith, nat_tests, access_kept, bytes_kept)) in
      let first : Fetches word (finds (overlay s.memory more) s) = fetch_grown word s (overlay s.memory more) (overlay_extends s.memory more) f in
      let done : ℕ = left.vector.vstart - s.vector.vstart in
      step_of (done + later) word (finds (overlay s.memory more) s) first
      ∙ v.same (done + later) (finds (overlay s.memory more) s)
      ∙ step_resumes limit later i word s more is stops grown
      ∙ ap (λ (r : Stepped). after_ticks done r) (sym (step_of later word (finds more left) again ∙ v.same later (finds more left)))

  vector_resumes : (word : ℕ) (f : Fetches word s) (v : IsVectorStep (scan table word) word)
      → IsUndone (vector_step limit v.instr word s).end
      → KeepsOwnWord (vector_step limit v.instr word s).state.vector.vstart (Some v.instr) s
      → Extends (vector_step limit v.instr word s).state.memory more
      → ResumesFrom step later s more (vector_step limit v.instr word s).state
  vector_resumes word f v undone keeps grown =
      elim (short_or_same (vector_ticks limit v.instr s) word (vector_executed limit v.instr s) s (vector_keeps limit v.instr s).illegal undone) [
        | inl stops ↦ short_resumes word f v stops keeps grown
        | inr same ↦ unchanged_resumes step later s more (vector_step limit v.instr word s).state same grown
      ]

-- the same without the fetch
pub vector_step_resumes : (limit later : ℕ) (i : Instr) (word : ℕ) (s : HartState) (more : Memory) → IsConfiguration s.vector.conf
    → IsUndone (vector_step limit i word s).end → Extends (vector_step limit i word s).state.memory more
    → ResumesFrom (λ n. vector_step n i word) later s more (vector_step limit i word s).state
vector_step_resumes limit later i word s more is undone grown =
    elim (short_or_same (vector_ticks limit i s) word (vector_executed limit i s) s (vector_keeps limit i s).illegal undone) [
      | inl stops ↦ step_resumes limit later i word s more is stops grown
      | inr same ↦ unchanged_resumes (λ n. vector_step n i word) later s more (vector_step limit i word s).state same grown
    ]

-- ---- a step

-- an incomplete step resumes if the vector type allows the vector length, which is needed only for instructions that touch the vector
-- unit
pub fetched_resumes : (limit later : ℕ) (s : HartState) (more : Memory)
    → (touches (fetched s.memory s.scalar.pc) ≡ true → IsConfiguration s.vector.conf)
    → IsUndone (step limit s).end
    → KeepsOwnWord (step limit s).state.vector.vstart (fetched s.memory s.scalar.pc) s
    → Extends (step limit s).state.memory more
    → ResumesFrom step later s more (step limit s).state
fetched_resumes limit later s more is undone keeps grown = elim (whole s) [
  | inl t ↦ unchanged_resumes step later s more (step limit s).state (subst (AllOrNothing s) (sym (t.same limit)) t.holds undone).0 grown
  | inr t ↦
      let word : ℕ = word_at s.memory s.scalar.pc in
      subst (λ (r : Stepped). ResumesFrom step later s more r.state) (sym (t.same limit))
      (vector_resumes limit later s more (is (ap touches t.is_fetched ∙ sym (ap touches t.vector.is) ∙ t.vector.touching)) word t.fetches t.vector
      (subst (λ (r : Stepped). IsUndone r.end) (t.same limit) undone)
      (subst (λ (r : Stepped). KeepsOwnWord r.state.vector.vstart (Some t.vector.instr) s) (t.same limit)
      (subst (λ (o : Option Instr). KeepsOwnWord (step limit s).state.vector.vstart o s) t.is_fetched keeps))
      (subst (λ (r : Stepped). Extends r.state.memory more) (t.same limit) grown))
]

pub fetched_step_resumes : (limit later : ℕ) (s : HartState) (more : Memory) → IsConfiguration s.vector.conf → IsUndone (step limit s).end
    → KeepsOwnWord (step limit s).state.vector.vstart (fetched s.memory s.scalar.pc) s
    → Extends (step limit s).state.memory more → ResumesFrom step later s more (step limit s).state
fetched_step_resumes limit later s more is undone keeps grown = fetched_resumes limit later s more (λ t. is) undone keeps grown

-- if a step is cut, its instruction is a vector instruction that is cut
record CutIndex (limit : ℕ) (s : HartState) : Type 0 where
  vector : IsVector s
  index : ℕ
  end : (vector_executed limit vector.vector.instr s).end ≡ vector_end.Cut index

cut_step : (limit : ℕ) (s : HartState) → (step limit s).end ≡ Cut → CutIndex limit s
cut_step limit s cut = elim (whole s) [
  | inl t ↦ absurd ((subst (AllOrNothing s) (sym (t.same limit)) t.holds (subst IsUndone (sym cut) tt)).1 cut)
  | inr t ↦
      let word : ℕ = word_at s.memory s.scalar.pc in
      let d : VectorStepped = vector_executed limit t.vector.instr s in
      let at = cut_index (vector_ticks limit t.vector.instr s) d.end word d.state (ap (λ (r : Stepped). r.end) (sym (t.same limit)) ∙ cut) in
      record { vector = t; index = at.0; end = at.1 }
]

-- the progress of a vector instruction that is cut
vector_leaves_off : (limit : ℕ) (i : Instr) (word index : ℕ) (s : HartState) → (vector_executed limit i s).end ≡ vector_end.Cut index
    → (vector_step limit i word s).state.vector.vstart ≡ s.vector.vstart + limit
vector_leaves_off limit i word index s end = search (arith, nat_tests, after_short, cut_short, instruction_leaves_off)

pub cut_vector_step_leaves_off : (limit : ℕ) (i : Instr) (word : ℕ) (s : HartState)
    → (vector_step limit i word s).end ≡ Cut → (vector_step limit i word s).state.vector.vstart ≡ s.vector.vstart + limit
cut_vector_step_leaves_off limit i word s cut = search (arith, nat_tests, cut_index, vector_leaves_off)

pub cut_step_leaves_off : (limit : ℕ) (s : HartState) → (step limit s).end ≡ Cut → (step limit s).state.vector.vstart ≡ s.vector.vstart + limit
cut_step_leaves_off limit s cut =
    ap (λ (r : Stepped). r.state.vector.vstart) ((cut_step limit s cut).vector.same limit)
    ∙ vector_leaves_off limit (cut_step limit s cut).vector.vector.instr (word_at s.memory s.scalar.pc) (cut_step limit s cut).index s (cut_step limit s cut).end

-- `GROUP_BYTES` ticks are enough for any step
pub step_uncut : (limit : ℕ) (s : HartState) → IsConfiguration s.vector.conf → GROUP_BYTES ≤ limit → (step limit s).end ≢ Cut
step_uncut limit s is enough cut =
    uncut limit (cut_step limit s cut).vector.vector.instr s (cut_step limit s cut).index (configuration_below s.vector.conf is) enough (cut_step limit s cut).end

pub vector_step_uncut : (limit : ℕ) (i : Instr) (word : ℕ) (s : HartState) → IsConfiguration s.vector.conf → GROUP_BYTES ≤ limit
    → (vector_step limit i word s).end ≢ Cut
vector_step_uncut limit i word s is enough cut = search (arith, nat_tests, configuration_below, cut_index, uncut)
