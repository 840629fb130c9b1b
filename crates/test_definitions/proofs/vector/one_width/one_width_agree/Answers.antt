use Rattle.std.proofs.Common.{refl}
use Rattle.test_definitions.specs.vector.OneWidth.{vadc_vxm, vadd_vx, vand_vv, vdiv_vv, vdivu_vx, vmacc_vx, vmadd_vv, vmax_vx, vmaxu_vv, vmerge_vim, vmin_vv, vminu_vx, vmul_vv, vmulh_vx, vmulhsu_vx, vmulhu_vv, vmv_v_v, vnmsac_vv, vnmsub_vv, vor_vx, vrem_vv, vremu_vv, vrsub_vx, vsbc_vvm, vsll_vv, vsra_vx, vsrl_vi, vsub_vv, vxor_vx}
use Rattle.test_definitions.proofs.Steps.{agrees, execution}
use Rattle.test_definitions.proofs.vector.one_width.one_width_agree.Goals as goal

pub returns : goal.returns
unfolding execution
returns c =
    record {
      vadc_vxm = agrees vadc_vxm refl (λ m. refl);
      vadd_vx = agrees vadd_vx refl (λ m. refl);
      vand_vv = agrees vand_vv refl (λ m. refl);
      vdiv_vv = agrees vdiv_vv refl (λ m. refl);
      vdivu_vx = agrees vdivu_vx refl (λ m. refl);
      vmacc_vx = agrees vmacc_vx refl (λ m. refl);
      vmadd_vv = agrees vmadd_vv refl (λ m. refl);
      vmax_vx = agrees vmax_vx refl (λ m. refl);
      vmaxu_vv = agrees vmaxu_vv refl (λ m. refl);
      vmerge_vim = agrees vmerge_vim refl (λ m. refl);
      vmin_vv = agrees vmin_vv refl (λ m. refl);
      vminu_vx = agrees vminu_vx refl (λ m. refl);
      vmul_vv = agrees vmul_vv refl (λ m. refl);
      vmulh_vx = agrees vmulh_vx refl (λ m. refl);
      vmulhsu_vx = agrees vmulhsu_vx refl (λ m. refl);
      vmulhu_vv = agrees vmulhu_vv refl (λ m. refl);
      vmv_v_v = agrees vmv_v_v refl (λ m. refl);
      vnmsac_vv = agrees vnmsac_vv refl (λ m. refl);
      vnmsub_vv = agrees vnmsub_vv refl (λ m. refl);
      vor_vx = agrees vor_vx refl (λ m. refl);
      vrem_vv = agrees vrem_vv refl (λ m. refl);
      vremu_vv = agrees vremu_vv refl (λ m. refl);
      vrsub_vx = agrees vrsub_vx refl (λ m. refl);
      vsbc_vvm = agrees vsbc_vvm refl (λ m. refl);
      vsll_vv = agrees vsll_vv refl (λ m. refl);
      vsra_vx = agrees vsra_vx refl (λ m. refl);
      vsrl_vi = agrees vsrl_vi refl (λ m. refl);
      vsub_vv = agrees vsub_vv refl (λ m. refl);
      vxor_vx = agrees vxor_vx refl (λ m. refl);
    }
