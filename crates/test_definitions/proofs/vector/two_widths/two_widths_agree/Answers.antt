use Rattle.std.proofs.Common.{refl}
use Rattle.test_definitions.specs.vector.TwoWidths.{vsext_vf2, vsext_vf4, vsext_vf8, vzext_vf2, vzext_vf4, vzext_vf8, vnsra_wv, vnsrl_wx, vwadd_vx, vwadd_wv, vwaddu_vx, vwaddu_wx, vwmacc_vv, vwmaccsu_vx, vwmaccu_vx, vwmaccus_vx, vwmul_vx, vwmulsu_vx, vwmulu_vv, vwsub_vx, vwsub_wv, vwsubu_vv, vwsubu_wx}
use Rattle.test_definitions.proofs.Steps.{agrees, execution}
use Rattle.test_definitions.proofs.vector.two_widths.two_widths_agree.Goals as goal

pub returns : goal.returns
unfolding execution
returns c =
    record {
      vsext_vf2 = agrees vsext_vf2 refl (λ m. refl);
      vsext_vf4 = agrees vsext_vf4 refl (λ m. refl);
      vsext_vf8 = agrees vsext_vf8 refl (λ m. refl);
      vzext_vf2 = agrees vzext_vf2 refl (λ m. refl);
      vzext_vf4 = agrees vzext_vf4 refl (λ m. refl);
      vzext_vf8 = agrees vzext_vf8 refl (λ m. refl);
      vnsra_wv = agrees vnsra_wv refl (λ m. refl);
      vnsrl_wx = agrees vnsrl_wx refl (λ m. refl);
      vwadd_vx = agrees vwadd_vx refl (λ m. refl);
      vwadd_wv = agrees vwadd_wv refl (λ m. refl);
      vwaddu_vx = agrees vwaddu_vx refl (λ m. refl);
      vwaddu_wx = agrees vwaddu_wx refl (λ m. refl);
      vwmacc_vv = agrees vwmacc_vv refl (λ m. refl);
      vwmaccsu_vx = agrees vwmaccsu_vx refl (λ m. refl);
      vwmaccu_vx = agrees vwmaccu_vx refl (λ m. refl);
      vwmaccus_vx = agrees vwmaccus_vx refl (λ m. refl);
      vwmul_vx = agrees vwmul_vx refl (λ m. refl);
      vwmulsu_vx = agrees vwmulsu_vx refl (λ m. refl);
      vwmulu_vv = agrees vwmulu_vv refl (λ m. refl);
      vwsub_vx = agrees vwsub_vx refl (λ m. refl);
      vwsub_wv = agrees vwsub_wv refl (λ m. refl);
      vwsubu_vv = agrees vwsubu_vv refl (λ m. refl);
      vwsubu_wx = agrees vwsubu_wx refl (λ m. refl);
    }
