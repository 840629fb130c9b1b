use Rattle.std.proofs.Common.{refl}
use Rattle.test_definitions.specs.memory.Stores.{vs1r_v, vs2r_v, vs4r_v, vs8r_v, vse16_v, vse32_v, vse64_v, vse8_v, vsm_v, vsoxei16_v, vsoxei32_v, vsoxei64_v, vsoxei8_v, vsoxseg7ei64_v, vsse16_v, vsseg3e32_v, vssseg3e8_v, vsuxei16_v, vsuxei32_v, vsuxei64_v, vsuxei8_v, vsuxseg2ei16_v}
use Rattle.test_definitions.proofs.Accesses.{execution_defined, store_agrees}
use Rattle.test_definitions.proofs.memory.stores.stores_agree.Goals as goal

pub returns : goal.returns
unfolding execution_defined
returns c =
    record {
      vs1r_v = store_agrees vs1r_v refl refl (λ m. refl) (λ m. refl) (λ m. refl) (λ m. refl);
      vs2r_v = store_agrees vs2r_v refl refl (λ m. refl) (λ m. refl) (λ m. refl) (λ m. refl);
      vs4r_v = store_agrees vs4r_v refl refl (λ m. refl) (λ m. refl) (λ m. refl) (λ m. refl);
      vs8r_v = store_agrees vs8r_v refl refl (λ m. refl) (λ m. refl) (λ m. refl) (λ m. refl);
      vse16_v = store_agrees vse16_v refl refl (λ m. refl) (λ m. refl) (λ m. refl) (λ m. refl);
      vse32_v = store_agrees vse32_v refl refl (λ m. refl) (λ m. refl) (λ m. refl) (λ m. refl);
      vse64_v = store_agrees vse64_v refl refl (λ m. refl) (λ m. refl) (λ m. refl) (λ m. refl);
      vse8_v = store_agrees vse8_v refl refl (λ m. refl) (λ m. refl) (λ m. refl) (λ m. refl);
      vsm_v = store_agrees vsm_v refl refl (λ m. refl) (λ m. refl) (λ m. refl) (λ m. refl);
      vsoxei16_v = store_agrees vsoxei16_v refl refl (λ m. refl) (λ m. refl) (λ m. refl) (λ m. refl);
      vsoxei32_v = store_agrees vsoxei32_v refl refl (λ m. refl) (λ m. refl) (λ m. refl) (λ m. refl);
      vsoxei64_v = store_agrees vsoxei64_v refl refl (λ m. refl) (λ m. refl) (λ m. refl) (λ m. refl);
      vsoxei8_v = store_agrees vsoxei8_v refl refl (λ m. refl) (λ m. refl) (λ m. refl) (λ m. refl);
      vsoxseg7ei64_v = store_agrees vsoxseg7ei64_v refl refl (λ m. refl) (λ m. refl) (λ m. refl) (λ m. refl);
      vsse16_v = store_agrees vsse16_v refl refl (λ m. refl) (λ m. refl) (λ m. refl) (λ m. refl);
      vsseg3e32_v = store_agrees vsseg3e32_v refl refl (λ m. refl) (λ m. refl) (λ m. refl) (λ m. refl);
      vssseg3e8_v = store_agrees vssseg3e8_v refl refl (λ m. refl) (λ m. refl) (λ m. refl) (λ m. refl);
      vsuxei16_v = store_agrees vsuxei16_v refl refl (λ m. refl) (λ m. refl) (λ m. refl) (λ m. refl);
      vsuxei32_v = store_agrees vsuxei32_v refl refl (λ m. refl) (λ m. refl) (λ m. refl) (λ m. refl);
      vsuxei64_v = store_agrees vsuxei64_v refl refl (λ m. refl) (λ m. refl) (λ m. refl) (λ m. refl);
      vsuxei8_v = store_agrees vsuxei8_v refl refl (λ m. refl) (λ m. refl) (λ m. refl) (λ m. refl);
      vsuxseg2ei16_v = store_agrees vsuxseg2ei16_v refl refl (λ m. refl) (λ m. refl) (λ m. refl) (λ m. refl);
    }
