-- Legal vector instructions don't end as illegal ones.
use Rattle.std.proofs.Common.{◌≡◌, ℕ, Bool, true, false, Option, Some, None, arith}
use Rattle.std.specs.Prelude.{option_map}
use Rattle.std.proofs.lemmas.Bool.{false≢true}
use Rattle.std.proofs.lemmas.Bool.Decides.{nat_tests}
use Rattle.rv_model.specs.accesses.VectorAccess.{Direction, VectorAccess, access_of}
use Rattle.rv_model.specs.declared.instructions.access.AccessInstr.{AccessInstr}
use Rattle.rv_model.specs.declared.instructions.instruction.Instr.{Instr}
use Rattle.rv_model.specs.declared.instructions.instruction.Instr.TheVariants as instr
use Rattle.rv_model.specs.declared.instructions.operations.VectorOp.{VectorOp}
use Rattle.rv_model.specs.declared.instructions.source.Source.{Source}
use Rattle.rv_model.specs.declared.instructions.vector.VectorInstr.{VectorInstr}
use Rattle.rv_model.specs.declared.instructions.vector.VectorInstr.TheVariants.{SetVli, SetIvli, SetVl}
use Rattle.rv_model.specs.declared.step.memory_end.MemEnd.{MemEnd}
use Rattle.rv_model.specs.declared.vector.types.VType.{VType}
use Rattle.rv_model.specs.elements.Elements.{Body}
use Rattle.rv_model.specs.legality.Legality.{is_legal, operands}
use Rattle.rv_model.specs.step.Effects.{LegalInstructionsExecute}
use Rattle.rv_model.specs.step.Hart.{HartState}
use Rattle.rv_model.specs.step.MemoryStep.{access_end}
use Rattle.rv_model.specs.step.Step.{access_step, accessed, arith_over, is_legal_end, operation_step, performed, typed, typed_step, vector_executed}
use Rattle.rv_model.specs.vector.Groups.{GroupType}

-- without a vector type, an instruction that needs one isn't legal
not_legal : (i : Instr) (vstart : ℕ) → operands i None ≡ None → is_legal i None vstart ≡ true → ⊥
unfolding is_legal
not_legal i vstart none legal = search (arith, nat_tests, false≢true)

-- ---- operations

arith_ends : (t : VType) (g w : GroupType) (op : VectorOp) (source : Source) (vd vs2 : ℕ) (vm : Bool) (body : Body) (s : HartState)
    → is_legal_end (arith_over t g w op source vd vs2 vm body s).end ≡ true
arith_ends t g w op source vd vs2 vm body s = search (arith, nat_tests)

-- all but the vset instructions need a vector type
abbrev needs_type : VectorInstr → Bool
needs_type (SetVli rd rs1 vtype) = false
needs_type (SetIvli rd avl vtype) = false
needs_type (SetVl rd rs1 rs2) = false
needs_type _ = true

no_operands : (i : VectorInstr) → needs_type i ≡ true → operands (instr.Vector i) None ≡ None
unfolding operands
no_operands i e = search (arith, nat_tests, false≢true)

typed_ends : (i : VectorInstr) (t : VType) (s : HartState) → needs_type i ≡ true → is_legal_end (typed_step i t s).end ≡ true
typed_ends i t s e = search (arith, arith_ends, false≢true)

by_type : (i : VectorInstr) (c : Option VType) (vstart : ℕ) (s : HartState) → is_legal (instr.Vector i) c vstart ≡ true → needs_type i ≡ true
    → is_legal_end (typed c (typed_step i) s).end ≡ true
by_type i c vstart s legal e = search (arith, nat_tests, no_operands, not_legal, typed_ends)

operation_ends : (i : VectorInstr) (s : HartState) → is_legal (instr.Vector i) s.vector.conf.vtype s.vector.vstart ≡ true → is_legal_end (operation_step i s).end ≡ true
unfolding operation_step
operation_ends i s legal = search (arith, nat_tests, by_type)

-- ---- loads and stores

end_is : (d : Direction) (e : MemEnd) → is_legal_end (access_end d e) ≡ true
end_is d e = search (arith, nat_tests)

some_ends : (limit : ℕ) (i : AccessInstr) (a : VectorAccess) (s : HartState) → is_legal_end (access_step limit i (Some a) s).end ≡ true
some_ends limit i a s = end_is a.direction (accessed limit a s).end

access_by : (limit : ℕ) (i : AccessInstr) (s : HartState) (access : VType → VectorAccess) (c : Option VType) → operands (instr.Access i) None ≡ None
    → is_legal (instr.Access i) c s.vector.vstart ≡ true → is_legal_end (access_step limit i (option_map access c) s).end ≡ true
access_by limit i s access c none legal = search (arith, nat_tests, not_legal, some_ends)

access_ends : (limit : ℕ) (i : AccessInstr) (s : HartState) → is_legal (instr.Access i) s.vector.conf.vtype s.vector.vstart ≡ true
    → is_legal_end (access_step limit i (access_of i s.vector s.scalar) s).end ≡ true
unfolding operands
access_ends limit i s legal = search (arith, nat_tests, access_by, some_ends)

-- ---- instructions

pub legal_instructions_execute : LegalInstructionsExecute
unfolding vector_executed performed
legal_instructions_execute limit h s vector legal = search (arith, nat_tests, access_ends, false≢true, operation_ends)
