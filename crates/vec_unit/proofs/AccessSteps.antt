-- The step of a legal load or store, from its memory accesses and the elements that it fills.
use Rattle.std.specs.Option.{option_and_then, option_map, option_map_or}
use Rattle.std.specs.Prelude.{IfSome, Option, Some, None}
use Rattle.std.proofs.Common.{ℕ, ◌+◌, ◌*◌, ◌≡◌, ◌≤◌, ◌&&◌, Bool, true, false, if◌then◌else◌, List, not, refl, sym, ap, ap₂, subst, ◌∙◌, arith}
use Rattle.std.proofs.lemmas.Grind.{common_steps}
use Rattle.rv_model.specs.declared.instructions.instruction.Instr.TheVariants as instr
use Rattle.rv_model.specs.declared.instructions.access.AccessInstr.{AccessInstr}
use Rattle.rv_model.specs.declared.instructions.access.AccessInstr.TheVariants.{UnitStride, Strided, Indexed, WholeLoad, WholeStore, MaskAccess}
use Rattle.rv_model.specs.declared.instructions.operations.Direction.{Direction}
use Rattle.rv_model.specs.declared.instructions.operations.Direction.TheVariants.{Store}
use Rattle.rv_model.specs.declared.step.memory_end.MemEnd.{MemEnd}
use Rattle.rv_model.specs.declared.step.memory_end.MemEnd.TheVariants as memory_end
use Rattle.rv_model.specs.declared.step.vector_end.VEnd.{VEnd}
use Rattle.rv_model.specs.declared.vector.policy.Policy.{Policy}
use Rattle.rv_model.specs.declared.vector.policy.Policy.TheVariants.{Keep}
use Rattle.rv_model.specs.declared.vector.sizes.TheConstants.{VLENB}
use Rattle.rv_model.specs.declared.vector.state.VState.{VState}
use Rattle.rv_model.specs.declared.vector.types.VType.{VType}
use Rattle.rv_model.specs.accesses.AccessRuns.{AccessRun, Memory, access_run, directed_run, runs_to}
use Rattle.rv_model.specs.accesses.VectorAccess.{VectorAccess, access_of, indexed_access, mask_length, strided_access, unit_access, unit_direction, unmasked_access}
use Rattle.rv_model.specs.elements.Arithmetic.{body_of, fills_masked_off, fills_tail}
use Rattle.rv_model.specs.lending.Accesses.{is_typed_access}
use Rattle.rv_model.specs.lending.GroupBounds.{SegmentsInside, emul}
use Rattle.rv_model.specs.legality.Legality.{is_legal, operands}
use Rattle.rv_model.specs.step.Hart.{HartState}
use Rattle.rv_model.specs.step.MemoryStep.{access_end, after_access, filled_type, load_fills_masked_off, reads_memory, tail_type, with_tails}
use Rattle.rv_model.specs.step.Step.{access_step, accessed, performed, vector_ends}
use Rattle.rv_model.specs.vector.Groups.{GroupType, IsConfiguration, group_type, lmul_eighths, sew_bits, sew_width, vlmax, access_type, register_count}
use Rattle.rv_model.proofs.Choices.{of_either, of_option}
use Rattle.rv_model.proofs.vector_lemmas.Lengths.{IsLength}
use Rattle.rv_model.proofs.access_lemmas.Runs.{run_is}
use Rattle.rv_model.proofs.legality_lemmas.Accesses.{indexed_inside, strided_inside, unit_inside}
use Rattle.rv_model.proofs.legality_lemmas.Bounds.{emul-sew}
use Rattle.vec_unit.specs.MemoryInstructions.{direction_of, filled_by, filled_under, groups_of, is_unmasked, nothing, tail_fields, with_filled}
use Rattle.vec_unit.specs.declared.memory_instructions.Filled.{Filled}
use Rattle.vec_unit.specs.declared.tails.Fields.{Fields}

-- ---- facts from legality

-- a legal access that needs a vector type has one
typed : (i : AccessInstr) (o : Option VType) (vstart : ℕ) → is_typed_access (instr.Access i) ≡ true
    → is_legal (instr.Access i) o vstart ≡ true → (t : VType) × (o ≡ Some t)
unfolding is_legal operands
typed i (Some t) vstart needs legal = (t, refl)
typed (UnitStride op width nf vd rs1 vm) None vstart needs legal = absurd (cc)
typed _ None vstart needs legal = absurd (cc)

-- groups of elements of width SEW are those of the vector type
sew_groups : (t : VType) → groups_of (record { vd = 0; nf = 0; sew = t.sew; emul = emul (sew_bits t.sew) t }) ≡ group_type t
sew_groups t = ap (λ e. record { width = sew_width t.sew; emul = e }) (emul-sew t.sew (lmul_eighths t.lmul))

-- filled tails are inside the register file
abbrev IsInside : ℕ → Fields → Type 0
IsInside vl f = SegmentsInside (groups_of f) f.vd f.nf vl

fields_inside : (i : AccessInstr) (t : VType) (vstart vl : ℕ) → is_legal (instr.Access i) (Some t) vstart ≡ true → vl ≤ vlmax t
    → IfSome (tail_fields i t) (IsInside vl)
fields_inside (UnitStride op width nf vd rs1 vm) t vstart vl legal h = unit_inside op width nf vd rs1 vm t vstart vl legal h
fields_inside (Strided direction width nf vd rs1 rs2 vm) t vstart vl legal h = strided_inside direction width nf vd rs1 rs2 vm t vstart vl legal h
fields_inside (Indexed direction order width nf vd rs1 vs2 vm) t vstart vl legal h =
    subst (λ g. SegmentsInside g vd nf vl) (sym (sew_groups t)) (indexed_inside direction order width nf vd rs1 vs2 vm t vstart vl legal h).fields
fields_inside _ t vstart vl legal h = tt

pub tails_inside : (i : AccessInstr) (policy : Policy) (v : VState) → IsConfiguration v.conf
    → is_legal (instr.Access i) v.conf.vtype v.vstart ≡ true → IfSome (filled_by i policy v).tails (IsInside v.conf.vl)
tails_inside i policy v =
    of_option v.conf.vtype
    (λ o. IsLength o v.conf.vl → is_legal (instr.Access i) o v.vstart ≡ true → IfSome (option_map_or (filled_under i policy v) o nothing).tails (IsInside v.conf.vl))
    (λ e length legal. tt)
    (λ t e length legal. of_either (λ (o : Option Fields). IfSome o (IsInside v.conf.vl)) (fills_tail policy t (body_of (is_unmasked i) v) && reads_memory (direction_of i))
    (tail_fields i t) None (fields_inside i t v.vstart v.conf.vl legal length.1) tt)

-- ---- filled elements

-- no elements, under the policy `Keep`
pub keeps : (i : AccessInstr) (v : VState) → filled_by i Keep v ≡ nothing
keeps i v = of_option v.conf.vtype (λ o. option_map_or (filled_under i Keep v) o nothing ≡ nothing) (λ e. refl) (λ t e. refl)

-- no elements, if the access is unmasked and has no tail that is filled
pub fills_no_elements : (i : AccessInstr) (policy : Policy) (v : VState) → is_unmasked i ≡ true → ((t : VType) → tail_fields i t ≡ None)
    → filled_by i policy v ≡ nothing
fills_no_elements i policy v unmasked tails =
    of_option v.conf.vtype (λ o. option_map_or (filled_under i policy v) o nothing ≡ nothing) (λ e. refl) (λ t e.
    ap₂ (λ b o. record { masked_off = b; tails = o }) (masked _ _ (is_unmasked i) unmasked) (of_either (λ (o : Option Fields). o ≡ None) _ _ _ (tails t) refl))
  where
    masked : (b c d : Bool) → d ≡ true → (b && (c && not d)) ≡ false
    masked b c d h = grind (arith, common_steps, h)

-- an instruction's access fills the elements that `filled_by` returns for the instruction
record Fills (i : AccessInstr) (s : HartState) (a : VectorAccess) : Type 0 where
  access : access_of i s.vector s.scalar ≡ Some a
  direction : a.direction ≡ direction_of i
  masked_off : load_fills_masked_off a s ≡ (filled_by i s.policy s.vector).masked_off
  tails : (end : MemEnd) (file : List ℕ)
      → with_tails (filled_type i a s) a end file ≡ with_filled (filled_by i s.policy s.vector).tails s.vector.conf.vl end file

-- the same for each field of the record, if the tails are equal under each vector type
of_access : (i : AccessInstr) (s : HartState) (a : VectorAccess) → access_of i s.vector s.scalar ≡ Some a → a.direction ≡ direction_of i
    → a.body.unmasked ≡ is_unmasked i
    → ((t : VType) (end : MemEnd) (file : List ℕ)
    → with_tails (if reads_memory a.direction && fills_tail s.policy t a.body then tail_type i t else None) a end file
    ≡ with_filled (filled_under i s.policy s.vector t).tails s.vector.conf.vl end file)
    → Fills i s a
of_access i s a access direction unmasked tails = record {
  access = access;
  direction = direction;
  masked_off =
      of_option s.vector.conf.vtype (λ o. option_map_or (λ t. fills_masked_off s.policy t a.body) o false ≡ (option_map_or (filled_under i s.policy s.vector) o nothing).masked_off)
      (λ e. refl) (λ t e. ap (λ b. fills_masked_off s.policy t (record a.body { unmasked = b })) unmasked);
  tails = λ end file.
      of_option s.vector.conf.vtype
      (λ o. with_tails (option_and_then (λ t. if reads_memory a.direction && fills_tail s.policy t a.body then tail_type i t else None) o) a end file
      ≡ with_filled (option_map_or (filled_under i s.policy s.vector) o nothing).tails s.vector.conf.vl end file) (λ e. refl) (λ t e. tails t end file);
}

-- tails of fields, if they are filled
fields : (reads fills : Bool) (a : VectorAccess) (f : Fields) (g : GroupType) (vl : ℕ) (end : MemEnd) (file : List ℕ)
    → groups_of f ≡ g → a.register ≡ f.vd → a.fields ≡ f.nf + 1 → a.body.end ≡ vl
    → with_tails (if reads && fills then Some g else None) a end file ≡ with_filled (if fills && reads then Some f else None) vl end file
fields true true a f g vl memory_end.Done file same register count length = rw (same, register, count, length) refl
fields false true a f g vl end file same register count length = refl
fields _ _ a f g vl end file same register count length = refl

-- no tails, whether or not tails are filled
none : (b c : Bool) (a : VectorAccess) (vl : ℕ) (end : MemEnd) (file : List ℕ)
    → with_tails (if b then None else None) a end file ≡ with_filled (if c then None else None) vl end file
none true true a vl end file = refl
none _ true a vl end file = refl
none _ _ a vl end file = refl

-- the same for an instruction that needs a vector type, which determines its access
of_typed : (i : AccessInstr) (s : HartState) (make : VType → VectorAccess) → is_typed_access (instr.Access i) ≡ true → is_legal (instr.Access i) s.vector.conf.vtype s.vector.vstart ≡ true
    → access_of i s.vector s.scalar ≡ option_map make s.vector.conf.vtype → ((u : VType) → (make u).direction ≡ direction_of i) → ((u : VType) → (make u).body.unmasked ≡ is_unmasked i)
    → ((u t : VType) (end : MemEnd) (file : List ℕ)
    → with_tails (if reads_memory (make u).direction && fills_tail s.policy t (make u).body then tail_type i t else None) (make u) end file
    ≡ with_filled (filled_under i s.policy s.vector t).tails s.vector.conf.vl end file)
    → (a : VectorAccess) × Fills i s a
of_typed i s make needs legal access direction unmasked tails =
    let (u, is) = typed i s.vector.conf.vtype s.vector.vstart needs legal in
    (make u, of_access i s (make u) (access ∙ ap (option_map make) is) (direction u) (unmasked u) (tails u))

-- each legal load or store satisfies `Fills`
fills : (i : AccessInstr) (s : HartState) → is_legal (instr.Access i) s.vector.conf.vtype s.vector.vstart ≡ true
    → (a : VectorAccess) × Fills i s a
fills (UnitStride op width nf vd rs1 vm) s legal =
    of_typed (UnitStride op width nf vd rs1 vm) s (λ t. unit_access op (access_type t width) nf vd rs1 vm s.vector s.scalar) refl legal refl (λ u. refl) (λ u. refl)
    (λ u t end file. fields (reads_memory (unit_direction op)) _ _ _ _ _ end file refl refl refl refl)
fills (Strided direction width nf vd rs1 rs2 vm) s legal =
    of_typed (Strided direction width nf vd rs1 rs2 vm) s (λ t. strided_access direction (access_type t width) nf vd rs1 rs2 vm s.vector s.scalar) refl legal refl (λ u. refl) (λ u. refl)
    (λ u t end file. fields (reads_memory direction) _ _ _ _ _ end file refl refl refl refl)
fills (Indexed direction order width nf vd rs1 vs2 vm) s legal =
    of_typed (Indexed direction order width nf vd rs1 vs2 vm) s (λ t. indexed_access direction (group_type t) (access_type t width) nf vd rs1 vs2 vm s.vector s.scalar)
    refl legal refl (λ u. refl) (λ u. refl) (λ u t end file. fields (reads_memory direction) _ _ _ _ _ end file (sew_groups t) refl refl refl)
fills (WholeLoad count width vd rs1) s legal = (_, of_access (WholeLoad count width vd rs1) s _ refl refl refl (λ t end file. none _ _ _ _ end file))
fills (WholeStore count vd rs1) s legal =
    let a = unmasked_access Store (register_count count * VLENB) 1 (register_count count) vd rs1 s.vector s.scalar in
    (a, of_access (WholeStore count vd rs1) s a refl refl refl (λ t end file. none false _ a _ end file))
fills (MaskAccess direction vd rs1) s legal =
    of_typed (MaskAccess direction vd rs1) s (λ t. unmasked_access direction (mask_length s.vector.conf.vl) 1 1 vd rs1 s.vector s.scalar) refl legal refl (λ u. refl) (λ u. refl)
    (λ u t end file. none _ _ _ _ end file)

-- ---- the step

module _ (limit : ℕ) (i : AccessInstr) (s : HartState) (filled : Filled) (end : MemEnd) (reached : ℕ) (v : VState) (m : Memory) (file : List ℕ) where
  -- from the elements that it fills, its memory accesses, and the registers after its tails are filled
  pub access_performed : (d : Direction) (result : VEnd) → is_legal (instr.Access i) s.vector.conf.vtype s.vector.vstart ≡ true
      → filled_by i s.policy s.vector ≡ filled
      → access_run limit filled.masked_off i s.vector s.scalar s.memory ≡ runs_to end reached v m
      → file ≡ with_filled filled.tails s.vector.conf.vl end v.file → d ≡ direction_of i → result ≡ access_end d end
      → performed limit (instr.Access i) s ≡ vector_ends result (record s { vector = record v { file = file }; memory = m })
  unfolding performed
  access_performed d result legal is h filling direction ending =
      let (a, f) = fills i s legal in
      let run : accessed limit a s ≡ runs_to end reached v m =
      ap (λ b. directed_run a.direction limit b a s.vector s.memory) (f.masked_off ∙ ap (λ (x : Filled). x.masked_off) is)
      ∙ sym (run_is limit filled.masked_off i s.vector s.scalar s.memory a f.access) ∙ h in
      let tails : with_tails (filled_type i a s) a end v.file ≡ file =
      f.tails end v.file ∙ ap (λ (x : Filled). with_filled x.tails s.vector.conf.vl end v.file) is ∙ sym filling in
      let ends : access_end a.direction end ≡ result = ap (λ x. access_end x end) (f.direction ∙ sym direction) ∙ sym ending in
      ap (λ (o : Option VectorAccess). access_step limit i o s) f.access
      ∙ ap (λ (r : AccessRun). vector_ends (access_end a.direction r.end) (after_access (filled_type i a s) a r s)) run
      ∙ ap (λ (e : VEnd). vector_ends e (after_access (filled_type i a s) a (runs_to end reached v m) s)) ends
      ∙ ap (λ (x : List ℕ). vector_ends result (record s { vector = record v { file = x }; memory = m })) tails
