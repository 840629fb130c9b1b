-- The state after an instruction with the choices of a seed.
use Rattle.std.proofs.Common.{ℕ, suc, ◌+◌, ◌%◌, ◌^◌, ◌≡◌, ◌∙◌, ◌&&◌, ◌==◌, List, Bool, true, false, Option, Some, None, if◌then◌else◌, refl, sym, ap, subst, arith}
use Rattle.std.specs.Option.{option_and_then, option_map_or}
use Rattle.std.proofs.lemmas.Bool.Decides.{nat_tests}
use Rattle.std.proofs.Math.Path.{fun_ext}
use Rattle.rv_model.specs.declared.instructions.instruction.Instr.TheVariants as instr
use Rattle.rv_model.specs.declared.instructions.vector.VectorInstr.{VectorInstr}
use Rattle.rv_model.specs.declared.instructions.vector.VectorInstr.TheVariants.{SetIvli, SetVl, SetVli}
use Rattle.rv_model.specs.declared.memory.Access.TheVariants.{Fetch}
use Rattle.rv_model.specs.declared.scalar.Scalar.{Scalar}
use Rattle.rv_model.specs.declared.step.step_end.Cause.TheVariants.{FetchAccess}
use Rattle.rv_model.specs.declared.step.step_end.StepEnd.{StepEnd}
use Rattle.rv_model.specs.declared.step.step_end.StepEnd.TheVariants.{Ran}
use Rattle.rv_model.specs.declared.vector.request.RequestedLength.{RequestedLength}
use Rattle.rv_model.specs.declared.vector.types.VType.{VType}
use Rattle.rv_model.specs.instructions.Table.{scan, table}
use Rattle.rv_model.specs.memory.Memory.{can_access}
use Rattle.rv_model.specs.scalar.Registers.{with_register}
use Rattle.rv_model.specs.step.Hart.{HartState, Stepped, ends_after, faults}
use Rattle.rv_model.specs.step.Step.{executed, step, word_at}
use Rattle.rv_model.specs.vector.Groups.{Configuration, vlmax}
use Rattle.open_choices.specs.declared.open_group.OpenGroup.{OpenGroup}
use Rattle.open_choices.specs.declared.seeds.Seed.{Seed}
use Rattle.open_choices.specs.Fills.{Fill, fill_at, fill_of, if_ran, is_filled, overlaid, with_ones}
use Rattle.open_choices.specs.Groups.{fill_of_group, is_ready}
use Rattle.open_choices.specs.OpenStep.{asked_by, instr_at, with_choices}
use Rattle.open_choices.specs.Seeds.{chosen_length, chosen_trim, first_only_at, is_taken, left_at, left_by, seeded}
use Rattle.open_choices.proofs.OpenSteps.{same_number}
use Rattle.open_choices.proofs.ReadyGroups.{ready}
use Rattle.recording.specs.declared.open_chooser.Open.{Open}
use Rattle.recording.specs.declared.open_chooser.Open.TheVariants.{Elements, FirstOnly, Length, Nothing}
use Rattle.recording.specs.OpenRuns.{IsOpenAt, IsShort, asked_of_open, fill_of_open, first_of_open, has_run, seeded_from}

-- a vset instruction fills nothing
none_then : (o : Option VType) → ◌≡◌ {A = Option Fill} (option_and_then {T = VType} {U = Fill} (λ t. None) o) None
none_then None = refl
none_then (Some t) = refl

pub no_fill : (i : VectorInstr) (s : HartState) (asked : ℕ × RequestedLength) → asked_by (Some (instr.Vector i)) s ≡ Some asked → fill_of (Some (instr.Vector i)) s ≡ None
no_fill (SetVli rd rs1 vtype) s asked h = none_then s.vector.conf.vtype
no_fill (SetIvli rd avl vtype) s asked h = none_then s.vector.conf.vtype
no_fill (SetVl rd rs1 rs2) s asked h = none_then s.vector.conf.vtype
no_fill _ s asked h = search (arith, nat_tests)

-- an instruction that ran was fetched
allowed_by : (b : Bool) (one : Stepped) (s : HartState) → (if b then one else faults FetchAccess s.scalar.pc s).end ≡ Ran → b ≡ true
allowed_by true one s h = refl
allowed_by false one s h = search (arith, nat_tests)

fetched_by : (s : HartState) → (step 256 s).end ≡ Ran → can_access Fetch s.memory s.scalar.pc 4 ≡ true
unfolding step
fetched_by s ran =
    allowed_by (can_access Fetch s.memory s.scalar.pc 4) (executed 256 (scan table (word_at s.memory s.scalar.pc)) (word_at s.memory s.scalar.pc) s) s ran

ran_is : (end : StepEnd) → has_run end ≡ true → end ≡ Ran
ran_is Ran h = refl
ran_is _ h = search (arith, nat_tests)

nothing : (end : StepEnd) (f : Option Fill) → has_run end ≡ false → if_ran end f ≡ None
nothing Ran f h = search (arith, nat_tests)
nothing _ f h = refl

same_left : (end : StepEnd) (c : Seed) (n : ℕ) (s : HartState) (new : Configuration) → has_run end ≡ false → left_at end c n s new ≡ new.vl
same_left Ran c n s new h = search (arith, nat_tests)
same_left _ c n s new h = refl

module _ (found mid : HartState) (end : StepEnd) (ticks : ℕ) (made : step 256 found ≡ ends_after ticks end mid) (c : Seed) (n : ℕ) where
  -- the registers with the choices in a fill, and the state with these registers, another length and other scalar registers
  abbrev pub filled : Option Fill → List ℕ → List ℕ
  filled f file = option_map_or (λ f. with_ones f (λ i. is_filled f i && is_taken c n (Some f) i) file) f file

  abbrev pub left : List ℕ → ℕ → Scalar → HartState
  left file vl scalar = record mid { scalar = scalar; vector = record mid.vector { file = file; conf = record mid.vector.conf { vl = vl } } }

  abbrev pub scalar_by : Option (ℕ × RequestedLength) → ℕ → Scalar
  scalar_by asked vl = if vl == mid.vector.conf.vl then mid.scalar else option_map_or (λ asked. with_register asked.0 vl mid.scalar) asked mid.scalar

  overlaid_is : (f : Option Fill) → fill_at found ≡ f → overlaid found (is_taken c n (fill_at found)) ≡ filled f mid.vector.file
  overlaid_is f is =
      ap (λ (o : Option Fill). option_map_or (λ f. with_ones f (λ i. is_filled f i && is_taken c n o i) (step 256 found).state.vector.file) o (step 256 found).state.vector.file) is
      ∙ ap (λ (one : Stepped). option_map_or (λ g. with_ones g (λ i. is_filled g i && is_taken c n f i) one.state.vector.file) f one.state.vector.file) made
      ∙ same f
    where
      same : (f : Option Fill) → option_map_or (λ g. with_ones g (λ i. is_filled g i && is_taken c n f i) mid.vector.file) f mid.vector.file ≡ filled f mid.vector.file
      same None = refl
      same (Some g) = refl

  seeded_is : (f : Option Fill) (vl : ℕ) → fill_at found ≡ f → left_at end c n found mid.vector.conf ≡ vl
      → seeded c n found ≡ left (filled f mid.vector.file) vl (scalar_by (asked_by (instr_at found) found) vl)
  seeded_is f vl fill_is left_is =
      ap (λ file. with_choices found file (left_at (step 256 found).end c n found (step 256 found).state.vector.conf)) (overlaid_is f fill_is)
      ∙ ap (λ (one : Stepped).
      record one.state {
        vector = record one.state.vector { file = filled f mid.vector.file; conf = record one.state.vector.conf { vl = left_at one.end c n found one.state.vector.conf } };
        scalar =
            if left_at one.end c n found one.state.vector.conf == one.state.vector.conf.vl then one.state.scalar
            else option_map_or (λ asked. with_register asked.0 (left_at one.end c n found one.state.vector.conf) one.state.scalar) (asked_by (instr_at found) found) one.state.scalar;
      }) made
      ∙ ap (λ v. left (filled f mid.vector.file) v (scalar_by (asked_by (instr_at found) found) v)) left_is

  pub stopped : has_run end ≡ false → mid ≡ seeded c n found
  stopped no_run =
      sym
      (seeded_is None mid.vector.conf.vl (ap (λ (one : Stepped). if_ran one.end (fill_of (instr_at found) found)) made ∙ nothing end (fill_of (instr_at found) found) no_run)
      (same_left end c n found mid.vector.conf no_run)
      ∙ kept)
    where
      kept : left mid.vector.file mid.vector.conf.vl (scalar_by (asked_by (instr_at found) found) mid.vector.conf.vl) ≡ mid
      kept = rw (same_number mid.vector.conf.vl) refl

  module _ (ran : has_run end ≡ true) (o : Open) (at : IsOpenAt found o) where
    run_is : (step 256 found).end ≡ Ran
    run_is = ap (λ (one : Stepped). one.end) made ∙ ran_is end ran

    fill_is : fill_at found ≡ fill_of_open o
    fill_is = ap (λ e. if_ran e (fill_of (instr_at found) found)) run_is ∙ sym (at.fill (fetched_by found run_is))

    left_is : left_at end c n found mid.vector.conf ≡ left_by c n (asked_of_open o) (first_of_open o) mid.vector.conf
    left_is =
        ap (λ e. left_at e c n found mid.vector.conf) (ran_is end ran) ∙ ap (λ a. left_by c n a (first_only_at (instr_at found) found) mid.vector.conf) (sym (at.asked (fetched_by found run_is)))
        ∙ ap (λ f. left_by c n (asked_of_open o) f mid.vector.conf) (sym (at.first (fetched_by found run_is)))

    -- the state that an instruction that ran leaves
    pub ran_leaves : left (filled (fill_of_open o) mid.vector.file) (left_by c n (asked_of_open o) (first_of_open o) mid.vector.conf)
        (scalar_by (asked_of_open o) (left_by c n (asked_of_open o) (first_of_open o) mid.vector.conf)) ≡ seeded c n found
    ran_leaves =
        sym
        (seeded_is (fill_of_open o) (left_by c n (asked_of_open o) (first_of_open o) mid.vector.conf) fill_is left_is
        ∙ ap (λ a. left (filled (fill_of_open o) mid.vector.file) (left_by c n (asked_of_open o) (first_of_open o) mid.vector.conf)
        (scalar_by a (left_by c n (asked_of_open o) (first_of_open o) mid.vector.conf))) (sym (at.asked (fetched_by found run_is))))

    pub group_ready : (g : OpenGroup) → o ≡ Elements g → is_ready g ≡ true
    group_ready g is = ready found g (fill_is ∙ ap fill_of_open is) (subst IsShort is at.short)

  module _ (ran : has_run end ≡ true) where
    same_scalar : (vl : ℕ) → scalar_by None vl ≡ mid.scalar
    same_scalar vl = either (vl == mid.vector.conf.vl) mid.scalar
      where
        either : (b : Bool) (x : Scalar) → (if b then x else x) ≡ x
        either true x = refl
        either false x = refl

    -- nothing is open
    pub nothing_leaves : IsOpenAt found Nothing → mid ≡ seeded c n found
    nothing_leaves at = sym (ap (λ scalar. left mid.vector.file mid.vector.conf.vl scalar) (same_scalar mid.vector.conf.vl)) ∙ ran_leaves ran Nothing at

    -- elements are open
    pub elements_leave : (g : OpenGroup) (file : List ℕ) → IsOpenAt found (Elements g)
        → (is_ready g ≡ true → file ≡ with_ones (fill_of_group g) (λ i. is_filled (fill_of_group g) i && is_taken c n (Some (fill_of_group g)) i) mid.vector.file)
        → record mid { vector = record mid.vector { file = file } } ≡ seeded c n found
    elements_leave g file at made_file =
        ap (λ file. record mid { vector = record mid.vector { file = file } }) (made_file (group_ready ran (Elements g) at g refl))
        ∙ sym (ap (λ scalar. left (filled (Some (fill_of_group g)) mid.vector.file) mid.vector.conf.vl scalar) (same_scalar mid.vector.conf.vl)) ∙ ran_leaves ran (Elements g) at

    -- the length of a vset instruction is open
    pub length_leaves : (rd : ℕ) (length : RequestedLength) (conf : Configuration) (scalar : Scalar) → IsOpenAt found (Length rd length)
        → conf ≡ record mid.vector.conf { vl = chosen_length c n length (option_map_or vlmax mid.vector.conf.vtype 0) mid.vector.conf.vl }
        → scalar ≡ (if conf.vl == mid.vector.conf.vl then mid.scalar else with_register rd conf.vl mid.scalar)
        → record mid { scalar = scalar; vector = record mid.vector { conf = conf } } ≡ seeded c n found
    length_leaves rd length conf scalar at conf_is scalar_is =
        ap (λ x. record mid { scalar = x; vector = record mid.vector { conf = conf } }) scalar_is
        ∙ ap (λ (v : Configuration). record mid { scalar = if v.vl == mid.vector.conf.vl then mid.scalar else with_register rd v.vl mid.scalar; vector = record mid.vector { conf = v } }) conf_is
        ∙ ran_leaves ran (Length rd length) at

    -- the length of a fault-only-first load is open
    pub trim_leaves : (vstart : ℕ) (conf : Configuration) → IsOpenAt found (FirstOnly vstart)
        → conf ≡ record mid.vector.conf { vl = chosen_trim c n vstart mid.vector.conf.vl }
        → record mid { vector = record mid.vector { conf = conf } } ≡ seeded c n found
    trim_leaves vstart conf at conf_is =
        ap (λ (v : Configuration). record mid { vector = record mid.vector { conf = v } }) conf_is
        ∙ sym (ap (λ scalar. left mid.vector.file (chosen_trim c n vstart mid.vector.conf.vl) scalar) (same_scalar (chosen_trim c n vstart mid.vector.conf.vl))) ∙ ran_leaves ran (FirstOnly vstart) at

-- ---- the next instructions

-- after one more instruction
pub next_seeded : (seed seed' : Seed) (done done' : ℕ) → seed ≡ seed' → done ≡ done'
    → ◌≡◌ {A = ℕ → HartState → HartState} (λ k s. seeded_from seed ((done + 1) % 2 ^ 64) k s) (λ k s. seeded_from seed' done' (suc k) s)
next_seeded seed seed' done done' same once =
    fun_ext (λ (k : ℕ). fun_ext (λ (s : HartState).
    ap (λ n. seeded seed n s) (number k) ∙ ap (λ c. seeded c ((done + 1 + suc k) % 2 ^ 64) s) same ∙ ap (λ d. seeded seed' ((d + 1 + suc k) % 2 ^ 64) s) once))
  where
    number : (k : ℕ) → ((done + 1) % 2 ^ 64 + 1 + k) % 2 ^ 64 ≡ (done + 1 + suc k) % 2 ^ 64
    number k = omega arith

pub first_seeded : (seed seed' : Seed) (done done' : ℕ) (s : HartState) → seed ≡ seed' → done ≡ done' → seeded seed ((done + 1) % 2 ^ 64) s ≡ seeded_from seed' done' 0 s
first_seeded seed seed' done done' s same once =
    ap (λ c. seeded c ((done + 1) % 2 ^ 64) s) same ∙ ap (λ d. seeded seed' ((d + 1) % 2 ^ 64) s) once ∙ ap (λ n. seeded seed' (n % 2 ^ 64) s) none
  where
    none : done' + 1 ≡ done' + 1 + 0
    none = omega arith
