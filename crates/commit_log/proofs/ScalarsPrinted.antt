-- A line gives the scalar registers: a step writes only the register that its instruction names.
use Rattle.std.proofs.Common.{◌≡◌, ◌∙◌, ap, sym, subst, refl, ℕ, zero, suc, ◌==◌, Bool, cond, List, [], ◌∷◌, Option}
use Rattle.std.specs.Prelude.{slice_index, slice_set}
use Rattle.rv_model.specs.declared.instructions.instruction.Instr.{Instr}
use Rattle.rv_model.specs.declared.scalar.Scalar.{Scalar}
use Rattle.rv_model.specs.scalar.Registers.{read_register, with_register}
use Rattle.rv_model.specs.step.Step.{step}
use Rattle.rv_model.specs.step.Targets.{Wrote, scalar_target, target_of}
use Rattle.rv_model.proofs.Choices.{of_bool}
use Rattle.rv_model.proofs.step_lemmas.Targets.{writes_target}
use Rattle.commit_log.specs.Lines.{printed_scalar}
use Rattle.commit_log.specs.Printed.{ScalarsArePrinted, with_scalars}

-- an element is set to its own value
set_again : (xs : List ℕ) (i v : ℕ) → slice_set xs i (slice_index (slice_set xs i v) i) ≡ slice_set xs i v
set_again [] i v = refl
set_again (x ∷ xs) zero v = refl
set_again (x ∷ xs) (suc i) v = ap (λ (ys : List ℕ). x ∷ ys) (set_again xs i v)

-- a register gets a value, whatever the new program counter is
given : (rd v pc : ℕ) (x : Scalar) → with_scalars (printed_scalar rd (record (with_register rd v x) { pc = pc })) x ≡ record (with_register rd v x) { pc = x.pc }
given rd v pc x =
    let put : Bool → Scalar = λ b. cond b x (record x { x = slice_set x.x rd v }) in
    of_bool (rd == 0) (λ b. with_scalars (cond b [] ((rd, read_register (put b) rd) ∷ [])) x ≡ record (put b) { pc = x.pc }) (λ e. refl) (λ e.
    ap (λ (b : Bool). cond b x (record x { x = slice_set x.x rd (slice_index (slice_set x.x rd v) rd) })) e
    ∙ ap (λ (ys : List ℕ). record x { x = ys }) (set_again x.x rd v))

pub scalars_are_printed : ScalarsArePrinted
scalars_are_printed s i is counted =
    let t : ℕ = scalar_target i in
    let w : Wrote t s.scalar (step 256 s).state.scalar =
    subst (λ (o : Option Instr). Wrote (target_of o) s.scalar (step 256 s).state.scalar) is (writes_target 256 s) in
    subst (λ (x : Scalar). with_scalars (printed_scalar t x) s.scalar ≡ record x { pc = s.scalar.pc }) (sym w.is) (given t w.value w.pc s.scalar)
