-- Each legal vector load and store that stops and is executed again.
use Rattle.std.proofs.Common.{◌≡◌, ◌≢◌, ℕ, ◌+◌, ◌-◌, ◌%◌, ◌^◌, ◌<◌, ◌≤◌, inl, inr, Bool, true, false, List, Option, Some, refl, sym, ◌∙◌, ap, subst, arith}
use Rattle.std.specs.Option.{option_map}
use Rattle.std.specs.Prelude.{IsSomeAnd}
use Rattle.std.proofs.lemmas.Bool.{cases_lt}
use Rattle.rv_model.specs.declared.instructions.instruction.Instr.{Instr}
use Rattle.rv_model.specs.declared.instructions.instruction.Instr.TheVariants as instr
use Rattle.rv_model.specs.declared.instructions.access.AccessInstr.{AccessInstr}
use Rattle.rv_model.specs.declared.instructions.access.AccessInstr.TheVariants.{MaskAccess, Indexed, Strided, UnitStride, WholeLoad, WholeStore}
use Rattle.rv_model.specs.declared.instructions.operations.Direction.{Direction}
use Rattle.rv_model.specs.declared.instructions.operations.Direction.TheVariants as direction
use Rattle.rv_model.specs.declared.instructions.operations.Order.{Order}
use Rattle.rv_model.specs.declared.instructions.operations.UnitOp.{UnitOp}
use Rattle.rv_model.specs.declared.instructions.operations.UnitOp.TheVariants as unit
use Rattle.rv_model.specs.declared.instructions.operations.Eew.{Eew}
use Rattle.rv_model.specs.declared.scalar.Scalar.{Scalar}
use Rattle.rv_model.specs.declared.step.memory_end.MemEnd.TheVariants.{Done}
use Rattle.rv_model.specs.declared.vector.state.VState.{VState}
use Rattle.rv_model.specs.declared.vector.types.VType.{VType}
use Rattle.rv_model.specs.accesses.AccessRuns.{AccessRun, access_run, directed_run, load_run, run_or_nothing}
use Rattle.rv_model.specs.accesses.Restarts.{Extends, IsByteOf, IsStopped, overlay}
use Rattle.rv_model.specs.accesses.VectorAccess.{VectorAccess, access_of, indexed_access, mask_length, strided_access, unit_access, unmasked_access, whole_length}
use Rattle.rv_model.specs.vector.Groups.{access_type, register_count, GroupType, group_type, IsConfiguration, element_width, sew_width, vlmax, width_bytes, register_of}
use Rattle.rv_model.specs.elements.Arithmetic.{group_element}
use Rattle.rv_model.proofs.vector_lemmas.Lengths.{IsLength}
use Rattle.rv_model.specs.legality.Legality.{IsLegal}
use Rattle.rv_model.specs.memory.Memory.{Memory}
use Rattle.rv_model.specs.scalar.Registers.{read_register}
use Rattle.rv_model.proofs.access_lemmas.Kept.{Beside, byte_kept, element_kept, element_place, length_kept, let_kept, mask_kept, plan_same}
use Rattle.rv_model.proofs.access_lemmas.Runs.{access_again, is_stopped, run_facts}
use Rattle.rv_model.proofs.access_lemmas.RunsResume.{IsResumed, Resumes, ResumesFrom, Run, load_resumes, load_transfers, store_resumes}
use Rattle.rv_model.proofs.legality_lemmas.Accesses.{elements_fit}
use Rattle.rv_model.proofs.Choices.{of_option}
use Rattle.rv_model.proofs.legality_lemmas.Overlaps.{indexed_above, later_indices_stay, strided_above, unit_above}

-- a mask is the register v0
abbrev v0_of : List ℕ → List ℕ
v0_of file = register_of file 0

-- ---- loads with addresses that don't depend on the vector registers

module _ (limit later : ℕ) (fill : Bool) (x : Scalar) (v : VState) (m more : Memory) where
  -- masked loads, whose destination isn't the mask
  masked_load : (make : VState → VectorAccess) → ((file : List ℕ) (start : ℕ) → make (record v { file = file; vstart = start }) ≡ access_again (make v) (v0_of file) start (make v).address)
      → (make v).body.start ≡ v.vstart → (make v).body.mask ≡ v0_of v.file → ((make v).body.unmasked ≡ false → 1 ≤ (make v).register)
      → Resumes (λ limit v m. load_run limit fill (make v) v m) limit later v m more
  masked_load make again begins masked above =
      let stop : ℕ = (load_transfers limit fill (make v) v.file m).stop in
      let left : List ℕ = (load_transfers limit fill (make v) v.file m).left in
      load_resumes make v0_of (λ file. (make v).address) limit later fill v m more (record { begins = begins; again = again })
      (λ k low high. plan_same (make v) (access_again (make v) (v0_of left) stop (make v).address) fill k
      (let_kept (make v).body.unmasked (v0_of left) (make v).body.mask k (λ e. mask_kept m (make v) fill v.file stop (above e) ∙ sym masked)) refl refl refl)

  -- ---- loads with addresses from a register group

  indexed_load : (order : Order) (w : Eew) (nf vd rs1 vs2 : ℕ) (vm : Bool) (t : VType) (vstart : ℕ)
      → IsLegal (instr.Access (Indexed direction.Load order w nf vd rs1 vs2 vm)) (Some t) vstart → v.conf.vl ≤ vlmax t
      → Resumes (λ limit v m. load_run limit fill (indexed_access direction.Load (group_type t) (access_type t w) nf vd rs1 vs2 vm v x) v m) limit later v m more
  indexed_load order w nf vd rs1 vs2 vm t vstart legal few =
      load_resumes (λ v. indexed_access direction.Load (group_type t) indices nf vd rs1 vs2 vm v x) v0_of addresses limit later fill v m more
      (record { begins = refl; again = λ file start. refl })
      (λ k low high. plan_same a (access_again a (v0_of left) stop (addresses left)) fill k
      (let_kept vm (v0_of left) (v0_of v.file) k (λ e. mask_kept m a fill v.file stop (indexed_above vm order w nf vd rs1 vs2 t vstart legal e)))
      (ap (λ (n : ℕ). (read_register x rs1 + n) % 2 ^ 64) (offset_stays k low high)) refl refl)
    where
      indices : GroupType
      indices = access_type t w

      a : VectorAccess
      a = indexed_access direction.Load (group_type t) indices nf vd rs1 vs2 vm v x

      stop : ℕ
      stop = (load_transfers limit fill a v.file m).stop

      left : List ℕ
      left = (load_transfers limit fill a v.file m).left

      addresses : List ℕ → ℕ → ℕ
      addresses file i = (read_register x rs1 + group_element indices file vs2 i) % 2 ^ 64

      beside : (k b : ℕ) → stop ≤ k → k < v.conf.vl → IsByteOf vs2 (width_bytes indices.width) k b
          → (field i : ℕ) → field < nf + 1 → i < stop → Beside b (element_place a field i) a.size
      beside k b low high is field i f l = elim (cases_lt b (element_place a field i)) [
        | inl below ↦ inl below
        | inr above ↦ elim (cases_lt b (element_place a field i + a.size)) [
          | inl within ↦
              absurd (later_indices_stay order w nf vd rs1 vs2 vm t vstart legal field i k b (omega (arith, f)) (omega (arith, low, l)) (omega (arith, high, few)) (above, within) is)
          | inr past ↦ inr past
        ]
      ]

      offset_stays : (k : ℕ) → stop ≤ k → k < v.conf.vl → group_element indices left vs2 k ≡ group_element indices v.file vs2 k
      offset_stays k low high =
          element_kept indices vs2 k v.conf.vl left v.file (length_kept m a fill v.file stop) high (elements_fit (element_width w) t v.conf.vl few)
          (λ b from to. byte_kept m a fill v.file stop b (beside k b low high (from, to)))

-- ---- loads and stores that need a vector type

abbrev typed_run : ℕ → Bool → (VType → VState → VectorAccess) → VState → Memory → AccessRun
typed_run limit fill make v m = run_or_nothing limit fill (option_map (λ t. make t v) v.conf.vtype) v m

abbrev made_run : ℕ → Bool → VectorAccess → VState → Memory → AccessRun
made_run limit fill a v m = directed_run a.direction limit fill a v m

typed_resumes : (make : VType → VState → VectorAccess) (limit later : ℕ) (fill : Bool) (v : VState) (m more : Memory)
    → ((t : VType) → v.conf.vtype ≡ Some t → Resumes (λ limit v m. made_run limit fill (make t v) v m) limit later v m more)
    → Resumes (λ limit v m. typed_run limit fill make v m) limit later v m more
typed_resumes make limit later fill v m more each =
    let typed : Run = λ limit v m. typed_run limit fill make v m in
    of_option v.conf.vtype (λ o. ResumesFrom typed later v m more (run_or_nothing limit fill (option_map (λ t. make t v) o) v m))
    (λ e ended. absurd (ended refl))
    (λ t e ended grown.
    let run : Run = λ limit v m. made_run limit fill (make t v) v m in
    let is : (n : ℕ) (w : VState) (k : Memory) → w.conf ≡ v.conf → typed n w k ≡ run n w k =
    λ n w k c. ap (λ (o : Option VType). run_or_nothing n fill (option_map (λ t. make t w) o) w k) (ap (λ c. c.vtype) c ∙ e) in
    let r : IsResumed run later v m more (run limit v m) = each t e ended grown in
    record {
      conf = r.conf;
      same = is later (run limit v m).vector more r.conf ∙ r.same ∙ sym (is ((run limit v m).vector.vstart - v.vstart + later) v (overlay m more) refl);
    })

-- ---- each instruction

pub legal_under : (i : Instr) (v : VState) (t : VType) → v.conf.vtype ≡ Some t → IsLegal i v.conf.vtype v.vstart → IsLegal i (Some t) v.vstart
legal_under i v t e legal = subst (λ (o : Option VType). IsLegal i o v.vstart) e legal

pub length_under : (v : VState) (t : VType) → v.conf.vtype ≡ Some t → IsConfiguration v.conf → v.conf.vl ≤ vlmax t
length_under v t e is = (subst (λ (o : Option VType). IsLength o v.conf.vl) e is).1

module _ (limit later : ℕ) (fill : Bool) (v : VState) (x : Scalar) (m more : Memory) where
  unit_resumes : (op : UnitOp) (w : Eew) (nf vd rs1 : ℕ) (vm : Bool) (t : VType) (vstart : ℕ) → IsLegal (instr.Access (UnitStride op w nf vd rs1 vm)) (Some t) vstart
      → Resumes (λ limit v m. made_run limit fill (unit_access op (access_type t w) nf vd rs1 vm v x) v m) limit later v m more
  unit_resumes unit.Load w nf vd rs1 vm t vstart legal =
      masked_load limit later fill x v m more (λ v. unit_access unit.Load (access_type t w) nf vd rs1 vm v x) (λ file start. refl) refl refl
      (unit_above false vm w nf vd rs1 t vstart legal)
  unit_resumes unit.FaultOnlyFirst w nf vd rs1 vm t vstart legal =
      masked_load limit later fill x v m more (λ v. unit_access unit.FaultOnlyFirst (access_type t w) nf vd rs1 vm v x) (λ file start. refl) refl refl
      (unit_above true vm w nf vd rs1 t vstart legal)
  unit_resumes unit.Store w nf vd rs1 vm t vstart legal = search store_resumes

  strided_resumes : (d : Direction) (w : Eew) (nf vd rs1 rs2 : ℕ) (vm : Bool) (t : VType) (vstart : ℕ) → IsLegal (instr.Access (Strided d w nf vd rs1 rs2 vm)) (Some t) vstart
      → Resumes (λ limit v m. made_run limit fill (strided_access d (access_type t w) nf vd rs1 rs2 vm v x) v m) limit later v m more
  strided_resumes direction.Load w nf vd rs1 rs2 vm t vstart legal =
      masked_load limit later fill x v m more (λ v. strided_access direction.Load (access_type t w) nf vd rs1 rs2 vm v x) (λ file start. refl) refl refl
      (strided_above vm w nf vd rs1 rs2 t vstart legal)
  strided_resumes direction.Store w nf vd rs1 rs2 vm t vstart legal = search store_resumes

  indexed_resumes : (d : Direction) (order : Order) (w : Eew) (nf vd rs1 vs2 : ℕ) (vm : Bool) (t : VType) (vstart : ℕ)
      → IsLegal (instr.Access (Indexed d order w nf vd rs1 vs2 vm)) (Some t) vstart → v.conf.vl ≤ vlmax t
      → Resumes (λ limit v m. made_run limit fill (indexed_access d (group_type t) (access_type t w) nf vd rs1 vs2 vm v x) v m) limit later v m more
  indexed_resumes direction.Load order w nf vd rs1 vs2 vm t vstart legal few = search indexed_load
  indexed_resumes direction.Store order w nf vd rs1 vs2 vm t vstart legal few = search store_resumes

  mask_resumes : (d : Direction) (vd rs1 : ℕ)
      → Resumes (λ limit v m. made_run limit fill (unmasked_access d (mask_length v.conf.vl) 1 1 vd rs1 v x) v m) limit later v m more
  mask_resumes direction.Load vd rs1 =
      masked_load limit later fill x v m more (λ v. unmasked_access direction.Load (mask_length v.conf.vl) 1 1 vd rs1 v x) (λ file start. refl) refl refl
      (λ no. absurd (cc))
  mask_resumes direction.Store vd rs1 = search store_resumes

  resumes : (i : AccessInstr) → IsLegal (instr.Access i) v.conf.vtype v.vstart → IsConfiguration v.conf
      → Resumes (λ limit v m. access_run limit fill i v x m) limit later v m more
  unfolding access_run
  resumes (UnitStride op w nf vd rs1 vm) legal is =
      typed_resumes (λ t v. unit_access op (access_type t w) nf vd rs1 vm v x) limit later fill v m more
      (λ t e. unit_resumes op w nf vd rs1 vm t v.vstart (legal_under (instr.Access (UnitStride op w nf vd rs1 vm)) v t e legal))
  resumes (Strided d w nf vd rs1 rs2 vm) legal is =
      typed_resumes (λ t v. strided_access d (access_type t w) nf vd rs1 rs2 vm v x) limit later fill v m more
      (λ t e. strided_resumes d w nf vd rs1 rs2 vm t v.vstart (legal_under (instr.Access (Strided d w nf vd rs1 rs2 vm)) v t e legal))
  resumes (Indexed d order w nf vd rs1 vs2 vm) legal is =
      typed_resumes (λ t v. indexed_access d (group_type t) (access_type t w) nf vd rs1 vs2 vm v x) limit later fill v m more
      (λ t e. indexed_resumes d order w nf vd rs1 vs2 vm t v.vstart (legal_under (instr.Access (Indexed d order w nf vd rs1 vs2 vm)) v t e legal) (length_under v t e is))
  resumes (WholeLoad count w vd rs1) legal is =
      masked_load limit later fill x v m more
      (λ v. unmasked_access direction.Load (whole_length count w) (width_bytes (sew_width (element_width w))) (register_count count) vd rs1 v x)
      (λ file start. refl) refl refl (λ no. absurd (cc))
  resumes (WholeStore count vd rs1) legal is = search store_resumes
  resumes (MaskAccess d vd rs1) legal is = search (mask_resumes, typed_resumes)

pub access_resumes : (i : AccessInstr) (limit later : ℕ) (fill : Bool) (v : VState) (x : Scalar) (m more : Memory)
    → IsLegal (instr.Access i) v.conf.vtype v.vstart → IsConfiguration v.conf
    → (access_run limit fill i v x m).end ≢ Done → Extends (access_run limit fill i v x m).memory more
    → access_run later fill i (access_run limit fill i v x m).vector x more
    ≡ access_run ((access_run limit fill i v x m).vector.vstart - v.vstart + later) fill i v x (overlay m more)
access_resumes i limit later fill v x m more legal is ended grown = (resumes limit later fill v x m more i legal is ended grown).same

pub stops_within : (i : AccessInstr) (limit : ℕ) (fill : Bool) (v : VState) (x : Scalar) (m : Memory) → (access_run limit fill i v x m).end ≢ Done
    → IsSomeAnd (access_of i v x) (λ a. IsStopped a v (access_run limit fill i v x m).vector)
unfolding access_run
stops_within i limit fill v x m =
    of_option (access_of i v x)
    (λ o. (run_or_nothing limit fill o v m).end ≢ Done → IsSomeAnd o (λ a. IsStopped a v (run_or_nothing limit fill o v m).vector))
    (λ e ended. absurd (ended refl)) (λ a e. is_stopped limit a v m _ (run_facts limit fill i v x m a e))
