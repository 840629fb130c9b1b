use Rattle.std.proofs.Common.{refl}
use Rattle.test_definitions.specs.scalar.ControlRegisters.{csrrc, csrrci, csrrs, csrrsi, csrrw, csrrwi}
use Rattle.test_definitions.proofs.Steps.{agrees, execution}
use Rattle.test_definitions.proofs.scalar.control_registers.control_registers_agree.Goals as goal

pub returns : goal.returns
unfolding execution
returns c =
    record {
      csrrc = agrees csrrc refl (λ m. refl);
      csrrci = agrees csrrci refl (λ m. refl);
      csrrs = agrees csrrs refl (λ m. refl);
      csrrsi = agrees csrrsi refl (λ m. refl);
      csrrw = agrees csrrw refl (λ m. refl);
      csrrwi = agrees csrrwi refl (λ m. refl);
    }
