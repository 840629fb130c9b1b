use Rattle.std.proofs.Common.{refl}
use Rattle.test_definitions.specs.vector.VectorTypes.{vsetivli, vsetivli_2, vsetvl, vsetvl_2, vsetvl_3, vsetvl_4, vsetvl_5, vsetvl_6, vsetvli, vsetvli_2, vsetvli_3, vsetvli_4, vsetvli_5, vsetvli_6}
use Rattle.test_definitions.proofs.Steps.{agrees, execution}
use Rattle.test_definitions.proofs.vector.vector_types.vector_types_agree.Goals as goal

pub returns : goal.returns
unfolding execution
returns c =
    record {
      vsetivli = agrees vsetivli refl (λ m. refl);
      vsetivli_2 = agrees vsetivli_2 refl (λ m. refl);
      vsetvl = agrees vsetvl refl (λ m. refl);
      vsetvl_2 = agrees vsetvl_2 refl (λ m. refl);
      vsetvl_3 = agrees vsetvl_3 refl (λ m. refl);
      vsetvl_4 = agrees vsetvl_4 refl (λ m. refl);
      vsetvl_5 = agrees vsetvl_5 refl (λ m. refl);
      vsetvl_6 = agrees vsetvl_6 refl (λ m. refl);
      vsetvli = agrees vsetvli refl (λ m. refl);
      vsetvli_2 = agrees vsetvli_2 refl (λ m. refl);
      vsetvli_3 = agrees vsetvli_3 refl (λ m. refl);
      vsetvli_4 = agrees vsetvli_4 refl (λ m. refl);
      vsetvli_5 = agrees vsetvli_5 refl (λ m. refl);
      vsetvli_6 = agrees vsetvli_6 refl (λ m. refl);
    }
