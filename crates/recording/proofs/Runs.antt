-- The first instruction of a run, and the others.
use Rattle.std.proofs.Common.{◌≡◌, refl, ℕ, suc, zero, ◌-◌, Bool, true, false, List, [], ◌∷◌, ◌++◌, is_none, ap, ◌∙◌, sym, subst, append-nil, append_assoc, flat_map, take, drop, arith, inl, inr, Result, Ok, Err, IfErr, IsErrAnd}
use Rattle.std.proofs.lemmas.List.{take-append-drop}
use Rattle.std.proofs.lemmas.List.Concat.{flat_map-append}
use Rattle.std.specs.Prelude.{◌⊎◌}
use Rattle.devices.specs.Device.{Rose}
use Rattle.recording.specs.declared.fault.RecordFault.{RecordFault}
use Rattle.rv_model.specs.declared.step.step_end.StepEnd.{StepEnd}
use Rattle.rv_model.specs.machine.UserMachine.{stop_of}
use Rattle.rv_model.specs.step.Hart.{HartState, Stepped, ends_after}
use Rattle.rv_model.specs.step.Step.{step}
use Rattle.recording.specs.Machines.{Advances, taken}
use Rattle.recording.specs.Runs.{Run, TakesFirst, begins, output_of, run_by, stays}

-- ---- no instruction is executed without fuel or ticks

pub without_fuel : (next : ℕ → HartState → HartState) (k left : ℕ) (s : HartState) → k ≡ 0 → run_by next k left s ≡ stays s
unfolding run_by
without_fuel next zero left s none = refl
without_fuel next (suc k) left s none = absurd (omega (arith, none))

pub without_ticks : (next : ℕ → HartState → HartState) (k left : ℕ) (s : HartState) → left ≡ 0 → run_by next k left s ≡ stays s
unfolding run_by
without_ticks next zero left s none = refl
without_ticks next (suc k) zero s none = refl
without_ticks next (suc k) (suc left) s none = absurd (omega (arith, none))

-- ---- an instruction is executed if fuel and ticks are left

-- what the instructions after the first one leave
abbrev pub later : (ℕ → HartState → HartState) → ℕ → HartState → HartState
later next k s = next (suc k) s

first : (next : ℕ → HartState → HartState) (n m : ℕ) (s : HartState)
    → run_by next (suc n) (suc m) s ≡ begins s (is_none (stop_of (step 256 s).end)) (step 256 s).end (taken (next 0 s)) (run_by (later next) n (suc m - (step 256 s).ticks) (taken (next 0 s)))
unfolding run_by
first next n m s = refl

pub run_is : (next after : ℕ → HartState → HartState) (k n left m ticks : ℕ) (s new : HartState) (end : StepEnd) (goes : Bool) → k ≡ suc n → left ≡ suc m
    → Advances (next 0 s) s new end ticks → is_none (stop_of end) ≡ goes → after ≡ later next
    → run_by next k left s ≡ begins s goes end new (run_by after n (left - ticks) new)
run_is next after k n left m ticks s new end goes fuel some made whether same =
    let x : HartState = taken (next 0 s) in
    ap (λ (f : ℕ). run_by next f left s) fuel ∙ ap (λ (l : ℕ). run_by next (suc n) l s) some ∙ first next n m s
    ∙ ap (λ (l : ℕ). begins s (is_none (stop_of (step 256 s).end)) (step 256 s).end x (run_by (later next) n (l - (step 256 s).ticks) x)) (sym some)
    ∙ ap (λ (t : ℕ). begins s (is_none (stop_of (step 256 s).end)) (step 256 s).end x (run_by (later next) n (left - t) x)) made.ticks_are
    ∙ ap (λ (e : StepEnd). begins s (is_none (stop_of e)) e x (run_by (later next) n (left - ticks) x)) made.end_is
    ∙ ap (λ (b : Bool). begins s b end x (run_by (later next) n (left - ticks) x)) whether
    ∙ ap (λ (y : HartState). begins s goes end y (run_by (later next) n (left - ticks) y)) (sym made.state)
    ∙ ap (λ (f : ℕ → HartState → HartState). begins s goes end new (run_by f n (left - ticks) new)) (sym same)

-- for any end, the state before the instruction is the first of the run
begins_with : (s : HartState) (goes : Bool) (end : StepEnd) (next : HartState) (others : Run) → (rest : List HartState) × ((begins s goes end next others).found ≡ s ∷ rest)
begins_with s true end next others = (others.found, refl)
begins_with s false end next others = ([], refl)

pub run_begins : (next : ℕ → HartState → HartState) (k left n m : ℕ) (s : HartState) → k ≡ suc n → left ≡ suc m → (rest : List HartState) × ((run_by next k left s).found ≡ s ∷ rest)
run_begins next k left n m s fuel some =
    let x : HartState = taken (next 0 s) in
    let begun = begins_with s (is_none (stop_of (step 256 s).end)) (step 256 s).end x (run_by (later next) n (suc m - (step 256 s).ticks) x) in
    (begun.0, ap (λ (f : ℕ). (run_by next f left s).found) fuel ∙ ap (λ (l : ℕ). (run_by next (suc n) l s).found) some ∙ ap (λ (r : Run). r.found) (first next n m s) ∙ begun.1)

-- ---- the states before the instructions so far

-- the part of a run before the loop's present state, the rest of the run, and the fact that the first part is recorded
pub record SoFar {R : Type 0} (Recorded : R → List HartState → R → Type 0) (all rest : Run) (seen : List HartState) (old new : R) : Type 0 where
  pub found : seen ++ rest.found ≡ all.found
  pub state : rest.state ≡ all.state
  pub end : rest.end ≡ all.end
  pub recorded : Recorded old seen new

pub nothing_yet : {R : Type 0} (Recorded : R → List HartState → R → Type 0) (next : ℕ → HartState → HartState) (k n : ℕ) (s : HartState) (old : R) → k ≡ n → Recorded old [] old
    → SoFar Recorded (run_by next n n s) (run_by next k n s) [] old old
nothing_yet Recorded next k n s old same none =
    let e : run_by next k n s ≡ run_by next n n s = ap (λ (f : ℕ). run_by next f n s) same in
    record {
      found = ap (λ (r : Run). r.found) e;
      state = ap (λ (r : Run). r.state) e;
      end = ap (λ (r : Run). r.end) e;
      recorded = none;
    }

-- one more instruction
pub one_more : {R : Type 0} (Recorded : R → List HartState → R → Type 0) → ((a b c : R) (xs ys : List HartState) → Recorded a xs b → Recorded b ys c → Recorded a (xs ++ ys) c)
    → (all now rest : Run) (seen : List HartState) (s : HartState) (old mid new : R) → now ≡ record { found = s ∷ rest.found; state = rest.state; end = rest.end }
    → Recorded mid (s ∷ []) new → SoFar Recorded all now seen old mid → SoFar Recorded all rest (seen ++ s ∷ []) old new
one_more Recorded recorded_more all now rest seen s old mid new is more so_far =
    record {
      found = append_assoc seen (s ∷ []) rest.found ∙ ap (λ (r : Run). seen ++ r.found) (sym is) ∙ so_far.found;
      state = ap (λ (r : Run). r.state) (sym is) ∙ so_far.state;
      end = ap (λ (r : Run). r.end) (sym is) ∙ so_far.end;
      recorded = recorded_more old mid new seen (s ∷ []) so_far.recorded more;
    }

-- the end of a run, without a rest
module _ {R : Type 0} (Recorded : R → List HartState → R → Type 0) (all rest : Run) (seen : List HartState) (old new : R) (so_far : SoFar Recorded all rest seen old new) (none : rest.found ≡ []) where
  all_seen : seen ≡ all.found
  all_seen = sym (append-nil seen) ∙ ap (λ (l : List HartState). seen ++ l) (sym none) ∙ so_far.found

  pub all_recorded : Recorded old all.found new
  all_recorded = subst (λ (l : List HartState). Recorded old l new) all_seen so_far.recorded

  pub all_put_out : flat_map output_of seen ≡ flat_map output_of all.found
  all_put_out = ap (λ (l : List HartState). flat_map output_of l) all_seen

-- the output with one more instruction
pub more_put_out : (seen : List HartState) (s : HartState) → flat_map output_of seen ++ output_of s ≡ flat_map output_of (seen ++ s ∷ [])
more_put_out seen s =
    ap (λ (l : List ℕ). flat_map output_of seen ++ l) (sym (append-nil (output_of s))) ∙ sym (flat_map-append output_of seen (s ∷ []))

-- a sink that took the output of the instructions so far and a first part of the next one's output took a first part of the run's
-- output
pub first_put_out : {D : Type 0} (Took : D → List ℕ → D → Type 0) → ((a b c : D) (xs ys : List ℕ) → Took a xs b → Took b ys c → Took a (xs ++ ys) c)
    → (seen rest all : List HartState) (s : HartState) (a b c : D) → seen ++ s ∷ rest ≡ all → Took a (flat_map output_of seen) b → TakesFirst Took b (output_of s) c
    → TakesFirst Took a (flat_map output_of all) c
first_put_out Took took_more seen rest all s a b c is before part =
    let xs : List ℕ = flat_map output_of seen in
    let zs : List ℕ = flat_map output_of rest in
    record {
      first = xs ++ part.first;
      rest = part.rest ++ zs;
      are_first = append_assoc xs part.first (part.rest ++ zs)
          ∙ ap (λ (l : List ℕ). xs ++ l) (sym (append_assoc part.first part.rest zs) ∙ ap (λ (l : List ℕ). l ++ zs) part.are_first)
          ∙ sym (flat_map-append output_of seen (s ∷ rest))
          ∙ ap (λ (l : List HartState). flat_map output_of l) is;
      took = took_more a b c xs part.first before part.took;
    }

-- no byte of the output
pub none_put_out : {D : Type 0} (Took : D → List ℕ → D → Type 0) (a : D) (bytes : List ℕ) → Took a [] a → TakesFirst Took a bytes a
none_put_out Took a bytes none =
    record {
      first = [];
      rest = bytes;
      are_first = refl;
      took = none;
    }

-- the first n bytes of the output
pub part_put_out : {D : Type 0} (Took : D → List ℕ → D → Type 0) (a b : D) (n : ℕ) (bytes : List ℕ) → Took a (take n bytes) b → TakesFirst Took a bytes b
part_put_out Took a b n bytes is =
    record {
      first = take n bytes;
      rest = drop n bytes;
      are_first = take-append-drop n bytes;
      took = is;
    }

-- the same bytes, as an equal list
pub same_put_out : {D : Type 0} (Took : D → List ℕ → D → Type 0) (a b : D) (xs ys : List ℕ) → xs ≡ ys → TakesFirst Took a xs b → TakesFirst Took a ys b
same_put_out Took a b xs ys is part = subst (λ (l : List ℕ). TakesFirst Took a l b) is part

-- an executed instruction after which choices were made, and whose output was taken
pub advanced : (s mid next left new : HartState) (end : StepEnd) (ticks : ℕ) → step 256 s ≡ ends_after ticks end mid → left ≡ next → new ≡ taken left → Advances next s new end ticks
advanced s mid next left new end ticks made chosen is =
    record {
      state = is ∙ ap taken chosen;
      end_is = ap (λ (o : Stepped). o.end) made;
      ticks_are = ap (λ (o : Stepped). o.ticks) made;
    }

-- a fault of a later instruction is a fault of the run
pub failed_since : {T R : Type 0} (r : Result T RecordFault) (old mid new : ℕ) (stopped : RecordFault) (Failed : R → RecordFault → Type 0) (recorder : R) → mid ≡ old
    → Rose mid new ⊎ Failed recorder stopped → IsErrAnd r (λ fault. fault ≡ stopped) → IfErr r (λ fault. Rose old new ⊎ Failed recorder fault)
failed_since (Ok x) old mid new stopped Failed recorder same cause is = tt
failed_since (Err fault) old mid new stopped Failed recorder same cause is =
    elim cause [
      | inl rose ↦ inl (subst (λ (n : ℕ). Rose n new) same rose)
      | inr failed ↦ inr (subst (Failed recorder) (sym is) failed)
    ]
