-- Runs that end with a fault: the output, and the reason for the exit status
use Rattle.std.proofs.Common.{◌≡◌, ◌∙◌, [], ℕ, List, ap, append-nil, arith, flat_map, inl, inr, refl, subst, sym, Option, Some, None, Result, Ok, Err, IfErr, IsErrAnd}
use Rattle.std.specs.Prelude.{◌⊎◌, IsSome, option_map}
use Rattle.devices.specs.Device.{Rose}
use Rattle.recording.specs.Runs.{TakesFirst, output_of, ran_by}
use Rattle.recording.specs.declared.fault.RecordFault.{RecordFault}
use Rattle.recording.specs.declared.fault.RecordFault.TheVariants.{TableFull, Unmapped, Write}
use Rattle.rv_model.specs.step.Hart.{HartState}
use Rattle.open_choices.specs.declared.seeds.Seed.{Seed}
use Rattle.std.proofs.Math.Path.{fun_ext}
use Rattle.recording.specs.OpenRuns.{seeded_from}
use Rattle.recording.specs.declared.open_chooser.OpenChooser.{OpenChooser}
use Rattle.vec_recorder.specs.CommandLine.{RunArguments}
use Rattle.vec_recorder.specs.OpenArguments.{AreChoicesOf, next_of}
use Rattle.vec_recorder.specs.Recorded.{IsStopped, IsUnstarted}
use Rattle.vec_recorder.specs.Statuses.{HasCause, program_status, record_fault}
use Rattle.vec_recorder.specs.declared.program_fault.ProgramFault.{ProgramFault}

stopped_status : (stopped : RecordFault) → program_status (record_fault stopped) ≡ 5
stopped_status TableFull = refl
stopped_status Unmapped = refl
stopped_status (Write name) = refl

pub whole_first : {K : Type 0} (took : K → List ℕ → K → Type 0) (next : ℕ → HartState → HartState) (ticks : ℕ) (s : HartState) (before after : K) → took before (flat_map output_of (ran_by next ticks s).found) after → TakesFirst took before (flat_map output_of (ran_by next ticks s).found) after
whole_first took next ticks s before after whole =
    record { first = flat_map output_of (ran_by next ticks s).found; rest = []; are_first = append-nil (flat_map output_of (ran_by next ticks s).found); took = whole }

not_early : (fault : ProgramFault) → program_status fault ≡ 5 → (program_status fault ≡ 2) ⊎ ((program_status fault ≡ 4) ⊎ (program_status fault ≡ 6)) → ⊥
not_early fault five status = elim status [
  | inl two ↦ omega (arith, five, two)
  | inr other ↦ elim other [ inl four ↦ omega (arith, five, four) | inr six ↦ omega (arith, five, six) ]
]

module _ {K : Type 0} (took : K → List ℕ → K → Type 0) (next : ℕ → HartState → HartState) (ticks : ℕ) (s : HartState) (Cause : Type 0) where
  -- before the first instruction
  pub unstarted : (k : K) (fault : ProgramFault) → took k [] k → program_status fault ≡ 5 → Cause → IsStopped took next ticks s k k Cause fault
  unstarted k fault none five cause =
      record { status = five; first = record { first = []; rest = flat_map output_of (ran_by next ticks s).found; are_first = refl; took = none }; cause = cause }

  -- after the last instruction
  pub stopped_late : (before after : K) (fault : ProgramFault) → took before (flat_map output_of (ran_by next ticks s).found) after → program_status fault ≡ 5 → Cause
      → IsStopped took next ticks s before after Cause fault
  stopped_late before after fault whole five cause =
      record {
        status = five;
        first = record { first = flat_map output_of (ran_by next ticks s).found; rest = []; are_first = append-nil (flat_map output_of (ran_by next ticks s).found); took = whole };
        cause = cause;
      }

  -- while the recorder or the output failed
  pub stopped_by : {T : Type 0} (before after : K) (stopped : RecordFault) (r : Result T ProgramFault) → TakesFirst took before (flat_map output_of (ran_by next ticks s).found) after → Cause
      → IsErrAnd r (λ fault. fault ≡ record_fault stopped) → IfErr r (IsStopped took next ticks s before after Cause)
  stopped_by before after stopped (Ok x) first cause is = tt
  stopped_by before after stopped (Err fault) first cause is = record { status = ap program_status is ∙ stopped_status stopped; first = first; cause = cause }

  pub stopped_as : (before after : K) (stopped : RecordFault) (fault : ProgramFault) → TakesFirst took before (flat_map output_of (ran_by next ticks s).found) after → Cause
      → fault ≡ record_fault stopped → IsStopped took next ticks s before after Cause fault
  stopped_as before after stopped fault first cause is = record { status = ap program_status is ∙ stopped_status stopped; first = first; cause = cause }

  -- a fault that is passed on, for the reason of the caller
  pub passed_on : {T Old : Type 0} (before after : K) {fault : ProgramFault} (r : Result T ProgramFault) → (Old → Cause) → IsStopped took next ticks s before after Old fault
      → IsErrAnd r (λ e. e ≡ fault) → IfErr r (IsStopped took next ticks s before after Cause)
  passed_on before after (Ok x) wider stopped is = tt
  passed_on before after (Err e) wider stopped is = record { status = ap program_status is ∙ stopped.status; first = stopped.first; cause = wider stopped.cause }

  -- a result that is passed on, for the reason of the caller
  pub widened : {T Old : Type 0} (before after : K) (r : Result T ProgramFault) → (Old → Cause) → IfErr r (IsStopped took next ticks s before after Old)
      → IfErr r (IsStopped took next ticks s before after Cause)
  widened before after (Ok x) wider of = tt
  widened before after (Err e) wider of = record { status = of.status; first = of.first; cause = wider of.cause }

  -- the same of a run that may not have started
  pub widened_or : {T O Old : Type 0} (before after : K) (old new : O) (r : Result T ProgramFault) → (Old → Cause)
      → IfErr r (λ fault. IsUnstarted took before after old new fault ⊎ IsStopped took next ticks s before after Old fault)
      → IfErr r (λ fault. IsUnstarted took before after old new fault ⊎ IsStopped took next ticks s before after Cause fault)
  widened_or before after old new (Ok x) wider of = tt
  widened_or before after old new (Err e) wider (inl none) = inl none
  widened_or before after old new (Err e) wider (inr of) = inr (record { status = of.status; first = of.first; cause = wider of.cause })

  -- the output accepts nothing with exit status 2, 4 or 6
  pub nothing_by : {T O : Type 0} (before after : K) (old new : O) {fault : ProgramFault} (r : Result T ProgramFault)
      → IsUnstarted took before after old new fault ⊎ IsStopped took next ticks s before after Cause fault → IsErrAnd r (λ e. e ≡ fault)
      → IfErr r (λ e. (program_status e ≡ 2) ⊎ ((program_status e ≡ 4) ⊎ (program_status e ≡ 6)) → took before [] after)
  nothing_by before after old new (Ok x) ended is = tt
  nothing_by before after old new (Err e) (inl unstarted) is = λ status. unstarted.nothing
  nothing_by before after old new (Err e) (inr stopped) is = λ status. absurd (not_early e (ap program_status is ∙ stopped.status) status)

  -- no file is created with exit status 2, 4 or 6
  pub unused_by : {T O : Type 0} (before after : K) (old new : O) {fault : ProgramFault} (r : Result T ProgramFault)
      → IsUnstarted took before after old new fault ⊎ IsStopped took next ticks s before after Cause fault → IsErrAnd r (λ e. e ≡ fault)
      → IfErr r (λ e. (program_status e ≡ 2) ⊎ ((program_status e ≡ 4) ⊎ (program_status e ≡ 6)) → new ≡ old)
  unused_by before after old new (Ok x) ended is = tt
  unused_by before after old new (Err e) (inl unstarted) is = λ status. unstarted.files
  unused_by before after old new (Err e) (inr stopped) is = λ status. absurd (not_early e (ap program_status is ∙ stopped.status) status)

  -- the reason for exit status 5
  pub caused_by : {T O : Type 0} (before after : K) (old new : O) {fault : ProgramFault} (r : Result T ProgramFault)
      → IsUnstarted took before after old new fault ⊎ IsStopped took next ticks s before after Cause fault → IsErrAnd r (λ e. e ≡ fault)
      → IfErr r (λ e. program_status e ≡ 5 → Cause)
  caused_by before after old new (Ok x) ended is = tt
  caused_by before after old new (Err e) (inl unstarted) is = λ five. let six : program_status e ≡ 6 = ap program_status is ∙ unstarted.status in absurd (omega (arith, five, six))
  caused_by before after old new (Err e) (inr stopped) is = λ five. stopped.cause

-- a run by equal states
pub stopped_in : {K : Type 0} (took : K → List ℕ → K → Type 0) (next other : ℕ → HartState → HartState) (ticks : ℕ) (s : HartState) (before after : K) (Cause : Type 0) (fault : ProgramFault)
    → next ≡ other → IsStopped took next ticks s before after Cause fault → IsStopped took other ticks s before after Cause fault
stopped_in took next other ticks s before after Cause fault same stopped = subst (λ (n : ℕ → HartState → HartState). IsStopped took n ticks s before after Cause fault) same stopped

-- another exit status than 5
pub not_five : {T : Type 0} (P : Type 0) (r : Result T ProgramFault) (fault : ProgramFault) → (program_status fault ≡ 2) ⊎ ((program_status fault ≡ 4) ⊎ (program_status fault ≡ 6))
    → IsErrAnd r (λ e. e ≡ fault) → IfErr r (λ e. program_status e ≡ 5 → P)
not_five P (Ok x) fault status is = tt
not_five P (Err e) fault status is = λ status_is.
    let five : program_status fault ≡ 5 = sym (ap program_status is) ∙ status_is in
    elim status [
      | inl two ↦ absurd (omega (arith, five, two))
      | inr other ↦ elim other [ inl four ↦ absurd (omega (arith, five, four)) | inr six ↦ absurd (omega (arith, five, six)) ]
    ]

-- a recorder's fault
pub failed_by : {T R : Type 0} (r : Result T RecordFault) (stopped : RecordFault) {Rise : Type 0} (Failed : R → RecordFault → Type 0) (last : R) → Rise ⊎ Failed last stopped
    → IsErrAnd r (λ fault. fault ≡ stopped) → IfErr r (λ fault. Rise ⊎ ((state : R) × Failed state fault))
failed_by (Ok x) stopped Failed last cause is = tt
failed_by (Err fault) stopped Failed last (inl rise) is = inl rise
failed_by (Err fault) stopped Failed last (inr failed) is = inr (last, subst (Failed last) (sym is) failed)

-- a reason of a part of the run, after a file was created
pub wider_cause : {Old New : Type 0} {output_before output_now files_before files_mid files_now writes_before writes_mid writes_now : ℕ} → files_mid ≡ files_before → writes_mid ≡ writes_before → (Old → New)
    → HasCause Old output_before output_now files_mid files_now writes_mid writes_now → HasCause New output_before output_now files_before files_now writes_before writes_now
wider_cause same same_writes wider (inl rose) = inl rose
wider_cause {files_now = files_now} same same_writes wider (inr (inl rose)) = inr (inl (subst (λ (n : ℕ). Rose n files_now) same rose))
wider_cause {writes_now = writes_now} same same_writes wider (inr (inr (inl rose))) = inr (inr (inl (subst (λ (n : ℕ). Rose n writes_now) same_writes rose)))
wider_cause same same_writes wider (inr (inr (inr other))) = inr (inr (inr (wider other)))

pub some_is : {A B : Type 0} (f : A → B) (o : Option A) (x : A) → o ≡ Some x → IsSome (option_map f o)
some_is {A} f o x is = subst (λ (o : Option A). IsSome (option_map f o)) (sym is) refl

-- a run without choices has no file of choices
pub unchosen : (arguments : RunArguments) (seed : Option Seed) → AreChoicesOf arguments seed → seed ≡ None → arguments.chosen ≡ None
unchosen arguments (Some seed) are none = absurd (cc none)
unchosen arguments None are none = are.1

-- a run with choices has neither counts nor changes
pub alone : (arguments : RunArguments) (seed : Option Seed) → AreChoicesOf arguments seed → IsSome seed → (arguments.counts ≡ None) × (arguments.changes ≡ None)
alone arguments (Some seed) are some = (are.no_counts, are.no_changes)
alone arguments None are some = absurd (cc some)

-- the choices of a chooser before the first instruction
pub chosen_next : (chooser : OpenChooser) (seed : Seed) → chooser.seed ≡ seed → chooser.done ≡ 0
    → ◌≡◌ {A = ℕ → HartState → HartState} (λ k s. seeded_from chooser.seed chooser.done k s) (next_of (Some seed))
chosen_next chooser seed same none =
    fun_ext (λ (k : ℕ). fun_ext (λ (s : HartState). ap (λ c. seeded_from c chooser.done k s) same ∙ ap (λ d. seeded_from seed d k s) none))
