use Rattle.std.proofs.Common.{refl}
use Rattle.test_definitions.specs.memory.Faults.{lb_fault, lbu_fault, ld_fault, lh_fault, lhu_fault, lw_fault, lwu_fault, vle16_v_fault, vle8_v_fault, vle16ff_v_fault, vlm_v_fault, vlm_v_fault_2, vloxei16_v_fault, vloxei8_v_fault, vl4re8_v_fault, vl2re8_v_fault, vlse8_v_fault, vlse8_v_fault_2, vluxei32_v_fault, vluxei64_v_fault, sb_fault, sd_fault, sh_fault, sw_fault, vse16_v_fault, vse16_v_fault_2, vsm_v_fault, vsm_v_fault_2, vsoxei16_v_fault, vsoxei32_v_fault, vs1r_v_fault, vs8r_v_fault, vsse16_v_fault, vsse32_v_fault, vsuxei16_v_fault, vsuxei32_v_fault}
use Rattle.test_definitions.proofs.Accesses.{execution_defined, load_agrees, store_agrees}
use Rattle.test_definitions.proofs.memory.faults.faults_agree.Goals as goal

pub returns : goal.returns
unfolding execution_defined
returns c =
    record {
      lb_fault = load_agrees lb_fault refl refl (λ m. refl) (λ m. refl);
      lbu_fault = load_agrees lbu_fault refl refl (λ m. refl) (λ m. refl);
      ld_fault = load_agrees ld_fault refl refl (λ m. refl) (λ m. refl);
      lh_fault = load_agrees lh_fault refl refl (λ m. refl) (λ m. refl);
      lhu_fault = load_agrees lhu_fault refl refl (λ m. refl) (λ m. refl);
      lw_fault = load_agrees lw_fault refl refl (λ m. refl) (λ m. refl);
      lwu_fault = load_agrees lwu_fault refl refl (λ m. refl) (λ m. refl);
      vle16_v_fault = load_agrees vle16_v_fault refl refl (λ m. refl) (λ m. refl);
      vle8_v_fault = load_agrees vle8_v_fault refl refl (λ m. refl) (λ m. refl);
      vle16ff_v_fault = load_agrees vle16ff_v_fault refl refl (λ m. refl) (λ m. refl);
      vlm_v_fault = load_agrees vlm_v_fault refl refl (λ m. refl) (λ m. refl);
      vlm_v_fault_2 = load_agrees vlm_v_fault_2 refl refl (λ m. refl) (λ m. refl);
      vloxei16_v_fault = load_agrees vloxei16_v_fault refl refl (λ m. refl) (λ m. refl);
      vloxei8_v_fault = load_agrees vloxei8_v_fault refl refl (λ m. refl) (λ m. refl);
      vl4re8_v_fault = load_agrees vl4re8_v_fault refl refl (λ m. refl) (λ m. refl);
      vl2re8_v_fault = load_agrees vl2re8_v_fault refl refl (λ m. refl) (λ m. refl);
      vlse8_v_fault = load_agrees vlse8_v_fault refl refl (λ m. refl) (λ m. refl);
      vlse8_v_fault_2 = load_agrees vlse8_v_fault_2 refl refl (λ m. refl) (λ m. refl);
      vluxei32_v_fault = load_agrees vluxei32_v_fault refl refl (λ m. refl) (λ m. refl);
      vluxei64_v_fault = load_agrees vluxei64_v_fault refl refl (λ m. refl) (λ m. refl);
      sb_fault = store_agrees sb_fault refl refl (λ m. refl) (λ m. refl) (λ m. refl) (λ m. refl);
      sd_fault = store_agrees sd_fault refl refl (λ m. refl) (λ m. refl) (λ m. refl) (λ m. refl);
      sh_fault = store_agrees sh_fault refl refl (λ m. refl) (λ m. refl) (λ m. refl) (λ m. refl);
      sw_fault = store_agrees sw_fault refl refl (λ m. refl) (λ m. refl) (λ m. refl) (λ m. refl);
      vse16_v_fault = store_agrees vse16_v_fault refl refl (λ m. refl) (λ m. refl) (λ m. refl) (λ m. refl);
      vse16_v_fault_2 = store_agrees vse16_v_fault_2 refl refl (λ m. refl) (λ m. refl) (λ m. refl) (λ m. refl);
      vsm_v_fault = store_agrees vsm_v_fault refl refl (λ m. refl) (λ m. refl) (λ m. refl) (λ m. refl);
      vsm_v_fault_2 = store_agrees vsm_v_fault_2 refl refl (λ m. refl) (λ m. refl) (λ m. refl) (λ m. refl);
      vsoxei16_v_fault = store_agrees vsoxei16_v_fault refl refl (λ m. refl) (λ m. refl) (λ m. refl) (λ m. refl);
      vsoxei32_v_fault = store_agrees vsoxei32_v_fault refl refl (λ m. refl) (λ m. refl) (λ m. refl) (λ m. refl);
      vs1r_v_fault = store_agrees vs1r_v_fault refl refl (λ m. refl) (λ m. refl) (λ m. refl) (λ m. refl);
      vs8r_v_fault = store_agrees vs8r_v_fault refl refl (λ m. refl) (λ m. refl) (λ m. refl) (λ m. refl);
      vsse16_v_fault = store_agrees vsse16_v_fault refl refl (λ m. refl) (λ m. refl) (λ m. refl) (λ m. refl);
      vsse32_v_fault = store_agrees vsse32_v_fault refl refl (λ m. refl) (λ m. refl) (λ m. refl) (λ m. refl);
      vsuxei16_v_fault = store_agrees vsuxei16_v_fault refl refl (λ m. refl) (λ m. refl) (λ m. refl) (λ m. refl);
      vsuxei32_v_fault = store_agrees vsuxei32_v_fault refl refl (λ m. refl) (λ m. refl) (λ m. refl) (λ m. refl);
    }
