use Rattle.std.proofs.Common.{refl}
use Rattle.test_definitions.specs.vector.Permutations.{vmv_s_x, vmv_x_s, vmv1r_v, vmv2r_v, vmv4r_v, vmv8r_v, vcompress_vm, vrgather_vx, vrgatherei16_vv, vslide1down_vx, vslide1up_vx, vslidedown_vi, vslideup_vx}
use Rattle.test_definitions.proofs.Steps.{agrees, execution}
use Rattle.test_definitions.proofs.vector.permutations.permutations_agree.Goals as goal

pub returns : goal.returns
unfolding execution
returns c =
    record {
      vmv_s_x = agrees vmv_s_x refl (λ m. refl);
      vmv_x_s = agrees vmv_x_s refl (λ m. refl);
      vmv1r_v = agrees vmv1r_v refl (λ m. refl);
      vmv2r_v = agrees vmv2r_v refl (λ m. refl);
      vmv4r_v = agrees vmv4r_v refl (λ m. refl);
      vmv8r_v = agrees vmv8r_v refl (λ m. refl);
      vcompress_vm = agrees vcompress_vm refl (λ m. refl);
      vrgather_vx = agrees vrgather_vx refl (λ m. refl);
      vrgatherei16_vv = agrees vrgatherei16_vv refl (λ m. refl);
      vslide1down_vx = agrees vslide1down_vx refl (λ m. refl);
      vslide1up_vx = agrees vslide1up_vx refl (λ m. refl);
      vslidedown_vi = agrees vslidedown_vi refl (λ m. refl);
      vslideup_vx = agrees vslideup_vx refl (λ m. refl);
    }
