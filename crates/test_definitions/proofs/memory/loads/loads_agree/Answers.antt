use Rattle.std.proofs.Common.{refl}
use Rattle.test_definitions.specs.memory.Loads.{vl1re8_v, vl2re8_v, vl4re64_v, vl8re64_v, vle16_v, vle16ff_v, vle32_v, vle32ff_v, vle32ff_v_2, vle64_v, vle64ff_v, vle64ff_v_2, vle8_v, vle8ff_v, vle8ff_v_2, vlm_v, vloxei16_v, vloxei32_v, vloxei64_v, vloxei8_v, vloxseg2ei64_v, vlse16_v, vlseg2e32_v, vlseg3e32ff_v, vlseg5e32ff_v, vlsseg3e16_v, vluxei16_v, vluxei32_v, vluxei64_v, vluxei8_v, vluxseg2ei64_v}
use Rattle.test_definitions.proofs.Accesses.{execution_defined, load_agrees}
use Rattle.test_definitions.proofs.memory.loads.loads_agree.Goals as goal

pub returns : goal.returns
unfolding execution_defined
returns c =
    record {
      vl1re8_v = load_agrees vl1re8_v refl refl (λ m. refl) (λ m. refl);
      vl2re8_v = load_agrees vl2re8_v refl refl (λ m. refl) (λ m. refl);
      vl4re64_v = load_agrees vl4re64_v refl refl (λ m. refl) (λ m. refl);
      vl8re64_v = load_agrees vl8re64_v refl refl (λ m. refl) (λ m. refl);
      vle16_v = load_agrees vle16_v refl refl (λ m. refl) (λ m. refl);
      vle16ff_v = load_agrees vle16ff_v refl refl (λ m. refl) (λ m. refl);
      vle32_v = load_agrees vle32_v refl refl (λ m. refl) (λ m. refl);
      vle32ff_v = load_agrees vle32ff_v refl refl (λ m. refl) (λ m. refl);
      vle32ff_v_2 = load_agrees vle32ff_v_2 refl refl (λ m. refl) (λ m. refl);
      vle64_v = load_agrees vle64_v refl refl (λ m. refl) (λ m. refl);
      vle64ff_v = load_agrees vle64ff_v refl refl (λ m. refl) (λ m. refl);
      vle64ff_v_2 = load_agrees vle64ff_v_2 refl refl (λ m. refl) (λ m. refl);
      vle8_v = load_agrees vle8_v refl refl (λ m. refl) (λ m. refl);
      vle8ff_v = load_agrees vle8ff_v refl refl (λ m. refl) (λ m. refl);
      vle8ff_v_2 = load_agrees vle8ff_v_2 refl refl (λ m. refl) (λ m. refl);
      vlm_v = load_agrees vlm_v refl refl (λ m. refl) (λ m. refl);
      vloxei16_v = load_agrees vloxei16_v refl refl (λ m. refl) (λ m. refl);
      vloxei32_v = load_agrees vloxei32_v refl refl (λ m. refl) (λ m. refl);
      vloxei64_v = load_agrees vloxei64_v refl refl (λ m. refl) (λ m. refl);
      vloxei8_v = load_agrees vloxei8_v refl refl (λ m. refl) (λ m. refl);
      vloxseg2ei64_v = load_agrees vloxseg2ei64_v refl refl (λ m. refl) (λ m. refl);
      vlse16_v = load_agrees vlse16_v refl refl (λ m. refl) (λ m. refl);
      vlseg2e32_v = load_agrees vlseg2e32_v refl refl (λ m. refl) (λ m. refl);
      vlseg3e32ff_v = load_agrees vlseg3e32ff_v refl refl (λ m. refl) (λ m. refl);
      vlseg5e32ff_v = load_agrees vlseg5e32ff_v refl refl (λ m. refl) (λ m. refl);
      vlsseg3e16_v = load_agrees vlsseg3e16_v refl refl (λ m. refl) (λ m. refl);
      vluxei16_v = load_agrees vluxei16_v refl refl (λ m. refl) (λ m. refl);
      vluxei32_v = load_agrees vluxei32_v refl refl (λ m. refl) (λ m. refl);
      vluxei64_v = load_agrees vluxei64_v refl refl (λ m. refl) (λ m. refl);
      vluxei8_v = load_agrees vluxei8_v refl refl (λ m. refl) (λ m. refl);
      vluxseg2ei64_v = load_agrees vluxseg2ei64_v refl refl (λ m. refl) (λ m. refl);
    }
