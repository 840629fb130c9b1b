use Rattle.std.proofs.Common.{refl}
use Rattle.test_definitions.specs.vector.Reductions.{vredand_vs, vredmax_vs, vredmaxu_vs, vredmin_vs, vredminu_vs, vredor_vs, vredsum_vs, vredxor_vs, vwredsum_vs, vwredsumu_vs}
use Rattle.test_definitions.proofs.Steps.{agrees, execution}
use Rattle.test_definitions.proofs.vector.reductions.reductions_agree.Goals as goal

pub returns : goal.returns
unfolding execution
returns c =
    record {
      vredand_vs = agrees vredand_vs refl (λ m. refl);
      vredmax_vs = agrees vredmax_vs refl (λ m. refl);
      vredmaxu_vs = agrees vredmaxu_vs refl (λ m. refl);
      vredmin_vs = agrees vredmin_vs refl (λ m. refl);
      vredminu_vs = agrees vredminu_vs refl (λ m. refl);
      vredor_vs = agrees vredor_vs refl (λ m. refl);
      vredsum_vs = agrees vredsum_vs refl (λ m. refl);
      vredxor_vs = agrees vredxor_vs refl (λ m. refl);
      vwredsum_vs = agrees vwredsum_vs refl (λ m. refl);
      vwredsumu_vs = agrees vwredsumu_vs refl (λ m. refl);
    }
