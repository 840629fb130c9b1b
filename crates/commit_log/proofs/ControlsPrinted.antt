-- A line gives the control registers: it names those whose value changed, and the others are unchanged.
use Rattle.std.proofs.Common.{◌≡◌, ◌∙◌, ap, refl, sym, ℕ, ◌==◌, ◌≤◌, Bool, true, false, List, [], ◌∷◌, ◌++◌, Option, Some, None, arith}
use Rattle.std.specs.Prelude.{IfSome, MatchOption}
use Rattle.std.proofs.lemmas.Bool.Decides.{nat_tests}
use Rattle.rv_model.specs.declared.vector.control_register.ControlRegister.{ControlRegister}
use Rattle.rv_model.specs.declared.vector.control_register.ControlRegister.TheVariants.{Vstart, Vxsat, Vxrm, Vl, Vtype}
use Rattle.rv_model.specs.declared.vector.state.RoundingMode.{RoundingMode}
use Rattle.rv_model.specs.declared.vector.state.RoundingMode.TheVariants.{NearestUp}
use Rattle.rv_model.specs.declared.vector.state.VState.{VState}
use Rattle.rv_model.specs.declared.vector.types.VType.{VType}
use Rattle.rv_model.specs.instructions.FixedBits.{flag_bit}
use Rattle.rv_model.specs.step.Step.{step}
use Rattle.rv_model.specs.vector.Control.{control_value}
use Rattle.rv_model.specs.vector.Groups.{IsConfiguration, IsSupported, vlmax}
use Rattle.rv_model.specs.vector.RoundingModes.{rounding_mode, rounding_number}
use Rattle.rv_model.specs.vector.TypeRules.{vector_type, vtype_number}
use Rattle.rv_model.proofs.Choices.{of_test}
use Rattle.rv_model.proofs.step_lemmas.Configurations.{step_keeps_configuration}
use Rattle.vtype_rules.proofs.NumberLaws.{number_again}
use Rattle.commit_log.specs.Lines.{printed_control, printed_controls}
use Rattle.commit_log.specs.Printed.{ControlsArePrinted, with_controls, with_read_control}

-- ---- values from their numbers

flag_again : (b : Bool) → (flag_bit b == 1) ≡ b
flag_again true = refl
flag_again false = refl

rounding_again : (mode : RoundingMode) → rounding_mode (rounding_number mode) ≡ mode
rounding_again NearestUp = refl
rounding_again _ = refl

type_again : (o : Option VType) → IfSome o IsSupported → vector_type (vtype_number o) ≡ o
type_again None h = refl
type_again (Some t) h = number_again (Some t) (vtype_number (Some t)) refl h

-- a vector type whose vector length is valid is supported
supported : (o : Option VType) (n : ℕ) → MatchOption o (n ≡ 0) (λ t. IsSupported t × (n ≤ vlmax t)) → IfSome o IsSupported
supported None n h = tt
supported (Some t) n h = h.0

equal : (a b : ℕ) → (a == b) ≡ true → a ≡ b
equal a b e = grind (arith, nat_tests)

-- ---- sequences of control registers

-- a control register is named if its value changed; otherwise it is unchanged
printed_then : (old new : VState) (r : ControlRegister) (xs : List (ControlRegister × ℕ)) (v : VState)
    → (control_value r old ≡ control_value r new → with_read_control r (control_value r new) v ≡ v)
    → with_controls (printed_control old new r ++ xs) v ≡ with_controls xs (with_read_control r (control_value r new) v)
printed_then old new r xs v stays =
    of_test (λ (printed : List (ControlRegister × ℕ)). with_controls (printed ++ xs) v ≡ with_controls xs (with_read_control r (control_value r new) v)) (control_value r old == control_value r new)
    [] ((r, control_value r new) ∷ []) (λ e. ap (with_controls xs) (sym (stays (equal (control_value r old) (control_value r new) e)))) (λ e. refl)

controls_printed : (old new : VState) → IfSome old.conf.vtype IsSupported → IfSome new.conf.vtype IsSupported
    → with_controls (printed_controls old new) old ≡ record new { file = old.file }
controls_printed old new before after =
    let printed : ControlRegister → List (ControlRegister × ℕ) = λ r. printed_control old new r in
    let from_length : List (ControlRegister × ℕ) = printed Vl ++ (printed Vtype ++ []) in
    let from_rounding : List (ControlRegister × ℕ) = printed Vxrm ++ from_length in
    let v1 : VState = record old { vstart = new.vstart } in
    let v2 : VState = record v1 { vxsat = flag_bit new.vxsat == 1 } in
    let v3 : VState = record v2 { vxrm = rounding_mode (rounding_number new.vxrm) } in
    let v4 : VState = record v3 { conf = record old.conf { vl = new.conf.vl } } in
    printed_then old new Vstart (printed Vxsat ++ from_rounding) old (λ e. ap (λ (n : ℕ). record old { vstart = n }) (sym e))
    ∙ printed_then old new Vxsat from_rounding v1 (λ e. ap (λ (n : ℕ). record v1 { vxsat = n == 1 }) (sym e) ∙ ap (λ (b : Bool). record v1 { vxsat = b }) (flag_again old.vxsat))
    ∙ printed_then old new Vxrm from_length v2
    (λ e. ap (λ (n : ℕ). record v2 { vxrm = rounding_mode n }) (sym e) ∙ ap (λ (mode : RoundingMode). record v2 { vxrm = mode }) (rounding_again old.vxrm))
    ∙ printed_then old new Vl (printed Vtype ++ []) v3 (λ e. ap (λ (n : ℕ). record v3 { conf = record old.conf { vl = n } }) (sym e))
    ∙ printed_then old new Vtype [] v4
    (λ e. ap (λ (n : ℕ). record v4 { conf = record { vl = new.conf.vl; vtype = vector_type n } }) (sym e)
    ∙ ap (λ (t : Option VType). record v4 { conf = record { vl = new.conf.vl; vtype = t } }) (type_again old.conf.vtype before))
    ∙ rw (flag_again, rounding_again, type_again new.conf.vtype after) refl

pub controls_are_printed : ControlsArePrinted
controls_are_printed s i configured =
    let after : IsConfiguration (step 256 s).state.vector.conf = step_keeps_configuration 256 s configured in
    controls_printed s.vector (step 256 s).state.vector (supported s.vector.conf.vtype s.vector.conf.vl configured)
    (supported (step 256 s).state.vector.conf.vtype (step 256 s).state.vector.conf.vl after)
