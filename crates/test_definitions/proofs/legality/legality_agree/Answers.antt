use Rattle.std.proofs.Common.{refl}
use Rattle.test_definitions.specs.Legality.{vrgatherei16_vv_illegal, vluxseg2ei64_v_illegal, vssseg8e16_v_illegal, vlseg3e32_v_illegal, vwsub_vv_illegal, vsoxseg2ei8_v_illegal, vmslt_vv_illegal, vloxei8_v_illegal, vsse64_v_illegal, vsext_vf2_illegal, vlseg2e64_v_illegal, vssseg6e8_v_illegal, vloxseg4ei8_v_illegal, vmulhu_vx_illegal, vlseg7e8_v_illegal, vssseg7e64_v_illegal, vwsub_wx_illegal, vlseg3e32ff_v_illegal, vzext_vf8_illegal, vmsbc_vv_illegal, vloxei16_v_illegal, csrrc_illegal, csrrsi_illegal, vsse64_v_illegal_2, vwadd_vv_illegal, vlse32_v_illegal, vmulhu_vx_illegal_2, vsseg5e16_v_illegal, vnmsub_vv_illegal, vlseg6e16_v_illegal, vmsbf_m_illegal, vl2re32_v_illegal, vnclip_wi_illegal, vwmacc_vx_illegal}
use Rattle.test_definitions.proofs.Steps.{agrees, execution}
use Rattle.test_definitions.proofs.legality.legality_agree.Goals as goal

pub returns : goal.returns
unfolding execution
returns c =
    record {
      vrgatherei16_vv_illegal = agrees vrgatherei16_vv_illegal refl (λ m. refl);
      vluxseg2ei64_v_illegal = agrees vluxseg2ei64_v_illegal refl (λ m. refl);
      vssseg8e16_v_illegal = agrees vssseg8e16_v_illegal refl (λ m. refl);
      vlseg3e32_v_illegal = agrees vlseg3e32_v_illegal refl (λ m. refl);
      vwsub_vv_illegal = agrees vwsub_vv_illegal refl (λ m. refl);
      vsoxseg2ei8_v_illegal = agrees vsoxseg2ei8_v_illegal refl (λ m. refl);
      vmslt_vv_illegal = agrees vmslt_vv_illegal refl (λ m. refl);
      vloxei8_v_illegal = agrees vloxei8_v_illegal refl (λ m. refl);
      vsse64_v_illegal = agrees vsse64_v_illegal refl (λ m. refl);
      vsext_vf2_illegal = agrees vsext_vf2_illegal refl (λ m. refl);
      vlseg2e64_v_illegal = agrees vlseg2e64_v_illegal refl (λ m. refl);
      vssseg6e8_v_illegal = agrees vssseg6e8_v_illegal refl (λ m. refl);
      vloxseg4ei8_v_illegal = agrees vloxseg4ei8_v_illegal refl (λ m. refl);
      vmulhu_vx_illegal = agrees vmulhu_vx_illegal refl (λ m. refl);
      vlseg7e8_v_illegal = agrees vlseg7e8_v_illegal refl (λ m. refl);
      vssseg7e64_v_illegal = agrees vssseg7e64_v_illegal refl (λ m. refl);
      vwsub_wx_illegal = agrees vwsub_wx_illegal refl (λ m. refl);
      vlseg3e32ff_v_illegal = agrees vlseg3e32ff_v_illegal refl (λ m. refl);
      vzext_vf8_illegal = agrees vzext_vf8_illegal refl (λ m. refl);
      vmsbc_vv_illegal = agrees vmsbc_vv_illegal refl (λ m. refl);
      vloxei16_v_illegal = agrees vloxei16_v_illegal refl (λ m. refl);
      csrrc_illegal = agrees csrrc_illegal refl (λ m. refl);
      csrrsi_illegal = agrees csrrsi_illegal refl (λ m. refl);
      vsse64_v_illegal_2 = agrees vsse64_v_illegal_2 refl (λ m. refl);
      vwadd_vv_illegal = agrees vwadd_vv_illegal refl (λ m. refl);
      vlse32_v_illegal = agrees vlse32_v_illegal refl (λ m. refl);
      vmulhu_vx_illegal_2 = agrees vmulhu_vx_illegal_2 refl (λ m. refl);
      vsseg5e16_v_illegal = agrees vsseg5e16_v_illegal refl (λ m. refl);
      vnmsub_vv_illegal = agrees vnmsub_vv_illegal refl (λ m. refl);
      vlseg6e16_v_illegal = agrees vlseg6e16_v_illegal refl (λ m. refl);
      vmsbf_m_illegal = agrees vmsbf_m_illegal refl (λ m. refl);
      vl2re32_v_illegal = agrees vl2re32_v_illegal refl (λ m. refl);
      vnclip_wi_illegal = agrees vnclip_wi_illegal refl (λ m. refl);
      vwmacc_vx_illegal = agrees vwmacc_vx_illegal refl (λ m. refl);
    }
