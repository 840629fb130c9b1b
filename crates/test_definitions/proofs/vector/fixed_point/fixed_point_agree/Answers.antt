use Rattle.std.proofs.Common.{refl}
use Rattle.test_definitions.specs.vector.FixedPoint.{vaadd_vv, vaaddu_vx, vasub_vv, vasubu_vv, vnclip_wx, vnclip_wi, vnclipu_wv, vnclipu_wv_2, vsadd_vi, vsadd_vv, vsaddu_vx, vsaddu_vi, vsmul_vv, vssra_vx, vssrl_vi, vssub_vx, vssub_vx_2, vssubu_vx, vssubu_vv}
use Rattle.test_definitions.proofs.Steps.{agrees, execution}
use Rattle.test_definitions.proofs.vector.fixed_point.fixed_point_agree.Goals as goal

pub returns : goal.returns
unfolding execution
returns c =
    record {
      vaadd_vv = agrees vaadd_vv refl (λ m. refl);
      vaaddu_vx = agrees vaaddu_vx refl (λ m. refl);
      vasub_vv = agrees vasub_vv refl (λ m. refl);
      vasubu_vv = agrees vasubu_vv refl (λ m. refl);
      vnclip_wx = agrees vnclip_wx refl (λ m. refl);
      vnclip_wi = agrees vnclip_wi refl (λ m. refl);
      vnclipu_wv = agrees vnclipu_wv refl (λ m. refl);
      vnclipu_wv_2 = agrees vnclipu_wv_2 refl (λ m. refl);
      vsadd_vi = agrees vsadd_vi refl (λ m. refl);
      vsadd_vv = agrees vsadd_vv refl (λ m. refl);
      vsaddu_vx = agrees vsaddu_vx refl (λ m. refl);
      vsaddu_vi = agrees vsaddu_vi refl (λ m. refl);
      vsmul_vv = agrees vsmul_vv refl (λ m. refl);
      vssra_vx = agrees vssra_vx refl (λ m. refl);
      vssrl_vi = agrees vssrl_vi refl (λ m. refl);
      vssub_vx = agrees vssub_vx refl (λ m. refl);
      vssub_vx_2 = agrees vssub_vx_2 refl (λ m. refl);
      vssubu_vx = agrees vssubu_vx refl (λ m. refl);
      vssubu_vv = agrees vssubu_vv refl (λ m. refl);
    }
