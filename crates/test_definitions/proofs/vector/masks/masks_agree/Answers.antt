use Rattle.std.proofs.Common.{refl}
use Rattle.test_definitions.specs.vector.Masks.{vcpop_m, vfirst_m, vid_v, viota_m, vmadc_vx, vmadc_vxm, vmand_mm, vmandn_mm, vmnand_mm, vmnor_mm, vmor_mm, vmorn_mm, vmsbc_vv, vmsbc_vvm, vmsbf_m, vmseq_vv, vmsgt_vx, vmsgtu_vi, vmsif_m, vmsle_vx, vmsleu_vi, vmslt_vv, vmsltu_vx, vmsne_vi, vmsof_m, vmxnor_mm, vmxor_mm}
use Rattle.test_definitions.proofs.Steps.{agrees, execution}
use Rattle.test_definitions.proofs.vector.masks.masks_agree.Goals as goal

pub returns : goal.returns
unfolding execution
returns c =
    record {
      vcpop_m = agrees vcpop_m refl (λ m. refl);
      vfirst_m = agrees vfirst_m refl (λ m. refl);
      vid_v = agrees vid_v refl (λ m. refl);
      viota_m = agrees viota_m refl (λ m. refl);
      vmadc_vx = agrees vmadc_vx refl (λ m. refl);
      vmadc_vxm = agrees vmadc_vxm refl (λ m. refl);
      vmand_mm = agrees vmand_mm refl (λ m. refl);
      vmandn_mm = agrees vmandn_mm refl (λ m. refl);
      vmnand_mm = agrees vmnand_mm refl (λ m. refl);
      vmnor_mm = agrees vmnor_mm refl (λ m. refl);
      vmor_mm = agrees vmor_mm refl (λ m. refl);
      vmorn_mm = agrees vmorn_mm refl (λ m. refl);
      vmsbc_vv = agrees vmsbc_vv refl (λ m. refl);
      vmsbc_vvm = agrees vmsbc_vvm refl (λ m. refl);
      vmsbf_m = agrees vmsbf_m refl (λ m. refl);
      vmseq_vv = agrees vmseq_vv refl (λ m. refl);
      vmsgt_vx = agrees vmsgt_vx refl (λ m. refl);
      vmsgtu_vi = agrees vmsgtu_vi refl (λ m. refl);
      vmsif_m = agrees vmsif_m refl (λ m. refl);
      vmsle_vx = agrees vmsle_vx refl (λ m. refl);
      vmsleu_vi = agrees vmsleu_vi refl (λ m. refl);
      vmslt_vv = agrees vmslt_vv refl (λ m. refl);
      vmsltu_vx = agrees vmsltu_vx refl (λ m. refl);
      vmsne_vi = agrees vmsne_vi refl (λ m. refl);
      vmsof_m = agrees vmsof_m refl (λ m. refl);
      vmxnor_mm = agrees vmxnor_mm refl (λ m. refl);
      vmxor_mm = agrees vmxor_mm refl (λ m. refl);
    }
