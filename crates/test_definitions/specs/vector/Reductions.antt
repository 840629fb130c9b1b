-- Reductions. tools/golden/golden_theorems writes this file from lab/tests/data/golden_vectors.
use Rattle.std.specs.Prelude.{[], ◌∷◌, true, false}
use Rattle.rv_model.specs.declared.vector.policy.Policy.TheVariants.{Ones}
use Rattle.rv_model.specs.declared.vector.state.RoundingMode.TheVariants.{NearestEven, Down, Odd}
use Rattle.rv_model.specs.declared.vector.types.Lmul.TheVariants.{M1, M2, M4, Mf8, Mf4, Mf2}
use Rattle.rv_model.specs.declared.vector.types.Sew.TheVariants.{E8, E16, E32, E64}
use Rattle.test_definitions.specs.States.{Case, State, start, typed, Retired}

-- vredand.vs v6, v9, v20, v0.t
abbrev pub vredand_vs : Case
vredand_vs =
    let s : State = record start {
      vl = 4;
      vtype = typed E16 Mf4 false false;
      vxrm = Odd;
      v = (0, 0xffffffffffffffffffffffffffffffffffffffffffffffffffffffffffdeffef) ∷
          (6, 0x7ffffffe0001000280005555555500007fff40000002400000014000ffff4000) ∷
          (9, 0xfffe00015555fffffffeaaaa00028000800140000001aaaa0001aaaa4000ffff) ∷
          (20, 0xaaaa80010002aaaa4000800155557ffffffe00028001fffeffff7ffffffffffe) ∷
          [];
    } in
    record {
      word = 0x049a2357;
      before = s;
      end = Retired;
      after = record s {
        pc = 0x10000804;
        v = (6, 0x7ffffffe0001000280005555555500007fff40000002400000014000ffff0000) ∷
            s.v;
      };
    }

-- vredmax.vs v27, v2, v24
abbrev pub vredmax_vs : Case
vredmax_vs =
    let s : State = record start {
      policy = Ones;
      vl = 7;
      vtype = typed E64 M2 false true;
      vxrm = NearestEven;
      v = (2, 0xb8f233490a06ad79aaaaaaaaaaaaaaaaaaaaaaaaaaaaaaaa4000000000000000) ∷
          (3, 0xff280dff2914e7d0000000000000001dedf5ca16d37d6eefffffffffffffffe) ∷
          (24, 0xbbbee43ef67c54b40000000000000000b3ff8e406dc8254daaaaaaaaaaaaaaaa) ∷
          (27, 0x80000000000000010000000000000002d215f8efcc16cd8e0000000000000000) ∷
          [];
    } in
    record {
      word = 0x1e2c2dd7;
      before = s;
      end = Retired;
      after = record s {
        pc = 0x10000804;
        v = (27, 0x80000000000000010000000000000002d215f8efcc16cd8e4000000000000000) ∷
            s.v;
      };
    }

-- vredmaxu.vs v25, v1, v19
abbrev pub vredmaxu_vs : Case
vredmaxu_vs =
    let s : State = record start {
      vl = 3;
      vtype = typed E8 Mf8 true false;
      v = (1, 0xaa0102017f7f7f40aa5581554055ff80554001fe0200feff000155018140027f) ∷
          (19, 0xffff7faa00fffe017f5501ff02ffff02fe810000aa02550200550081ff807ffe) ∷
          (25, 0x8040aafe02fe01ff40808100017f558002024081aa7f55020100fefffe00fe80) ∷
          [];
    } in
    record {
      word = 0x1a19acd7;
      before = s;
      end = Retired;
      after = record s {
        pc = 0x10000804;
        v = (25, 0x8040aafe02fe01ff40808100017f558002024081aa7f55020100fefffe00fefe) ∷
            s.v;
      };
    }

-- vredmin.vs v1, v0, v1
abbrev pub vredmin_vs : Case
vredmin_vs =
    let s : State = record start {
      vl = 32;
      vtype = typed E32 M4 false false;
      vxrm = Down;
      v = (0, 0x3f0f3e7a0b072a3900000001800000007fffffff66b575b24000000000000001) ∷
          (1, 0x8000000055555555dfdbd8670b7b24b440000000c5af7dd95555555500000001) ∷
          (2, 0x7fffffff9bfbf15526c360c731d5f0b000000001bdc038325555555580000001) ∷
          (3, 0xffffffff407f7b4f151abe70fffffffe3ffcb89fffffffff7923c08db189a670) ∷
          [];
    } in
    record {
      word = 0x1600a0d7;
      before = s;
      end = Retired;
      after = record s {
        pc = 0x10000804;
        v = (1, 0x8000000055555555dfdbd8670b7b24b440000000c5af7dd95555555580000000) ∷
            s.v;
      };
    }

-- vredminu.vs v22, v10, v11
abbrev pub vredminu_vs : Case
vredminu_vs =
    let s : State = record start {
      policy = Ones;
      vl = 16;
      vtype = typed E32 M2 false true;
      v = (10, 0xa7eee0acf16b8090058218fa7ffffffffc54c7ad00000000fffffffe5f014d8e) ∷
          (11, 0x10acb94263672c045ffffffff9dd83b9c853b6393800000014e5bfd52) ∷
          (22, 0xfffffffe2865337bb0b2e440548380bb4628cf9d3f9f96918000000080000000) ∷
          [];
    } in
    record {
      word = 0x12a5ab57;
      before = s;
      end = Retired;
      after = record s {
        pc = 0x10000804;
        v = (22, 0xfffffffe2865337bb0b2e440548380bb4628cf9d3f9f96918000000000000000) ∷
            s.v;
      };
    }

-- vredor.vs v4, v6, v14
abbrev pub vredor_vs : Case
vredor_vs =
    let s : State = record start {
      vl = 7;
      vtype = typed E64 M2 true true;
      vxrm = Down;
      v = (4, 0xe103a3686a3fb7f35555555555555555ff7fae78088f707aaaaaaaaaaaaaaaaa) ∷
          (6, 0x77692464f9c2966d4000000000000000e69c88d7c586d1e30587c8d594bfe9c3) ∷
          (7, 0xde84a16f6f655a0b8550ab4372acb1a080000000000000010000000000000001) ∷
          (14, 0xad466c26c0de9df2fffffffffffffffefec2b311dbaf9550cb654880e9aee45a) ∷
          [];
    } in
    record {
      word = 0x0a672257;
      before = s;
      end = Retired;
      after = record s {
        pc = 0x10000804;
        v = (4, 0xe103a3686a3fb7f35555555555555555ff7fae78088f707affffeff7ffffffff) ∷
            s.v;
      };
    }

-- vredsum.vs v1, v26, v22, v0.t
abbrev pub vredsum_vs : Case
vredsum_vs =
    let s : State = record start {
      vl = 5;
      vtype = typed E64 M2 true true;
      vxrm = NearestEven;
      v = (0, 0x141d6dea87e490f11ca4435f83fa803f7ed23cacfb68461211273e9739cc7e67) ∷
          (1, 0x2ffffffffffffffff40000000000000004000000000000000) ∷
          (22, 0xfffffffffffffffe800000000000000140000000000000004000000000000000) ∷
          (26, 0x255555555555555550000000000000001) ∷
          (27, 0xaaaaaaaaaaaaaaaa800000000000000100000000000000020000000000000002) ∷
          [];
    } in
    record {
      word = 0x01ab20d7;
      before = s;
      end = Retired;
      after = record s {
        pc = 0x10000804;
        v = (1, 0x2ffffffffffffffff40000000000000009555555555555558) ∷ s.v;
      };
    }

-- vredxor.vs v7, v6, v26
abbrev pub vredxor_vs : Case
vredxor_vs =
    let s : State = record start {
      policy = Ones;
      vl = 30;
      vtype = typed E8 M2 false true;
      vxrm = Down;
      v = (6, 0x1026ab1007f08ffff0281471eaa55fef5ea55aa66ff7f31401202ff55d30255) ∷
          (7, 0x77ffff8113ffff02ffaa7fbf027fc098029b80fe021aaaf680d07500015b0229) ∷
          (26, 0x2b716a69ff20024001258102aa207ffe81cac47fb40240ee1b812d80c40102af) ∷
          [];
    } in
    record {
      word = 0x0e6d23d7;
      before = s;
      end = Retired;
      after = record s {
        pc = 0x10000804;
        v = (7, 0x77ffff8113ffff02ffaa7fbf027fc098029b80fe021aaaf680d07500015b0291) ∷
            s.v;
      };
    }

-- vwredsum.vs v10, v10, v20, v0.t
abbrev pub vwredsum_vs : Case
vwredsum_vs =
    let s : State = record start {
      vl = 12;
      vtype = typed E8 Mf2 true true;
      vxrm = Odd;
      v = (0, 0xd28c99eac085f93fe9d2a10bb97d34e146bd7a914122aced4be5e6d0f3be3053) ∷
          (10, 0x7faad4aafe0dc2fa817f804d298e10aa73ba804102fefe1f2c39fd01ff5c8040) ∷
          (20, 0x27fff00003caf9eb84000b6d899a180014000631100025ce778567f62baa9) ∷
          [];
    } in
    record {
      word = 0xc4aa0557;
      before = s;
      end = Retired;
      after = record s {
        pc = 0x10000804;
        v = (10, 0x7faad4aafe0dc2fa817f804d298e10aa73ba804102fefe1f2c39fd01ff5cbaa3) ∷
            s.v;
      };
    }

-- vwredsumu.vs v20, v16, v26
abbrev pub vwredsumu_vs : Case
vwredsumu_vs =
    let s : State = record start {
      vl = 6;
      vtype = typed E32 M1 false false;
      v = (16, 0xffffffff0000000100000001ffffffff00000005000000000000000200000005) ∷
          (20, 0xffffffffffffffff000000000000000200000000000000000000000000000005) ∷
          (26, 0x30000000000000003ffffffffffffffff) ∷
          [];
    } in
    record {
      word = 0xc30d0a57;
      before = s;
      end = Retired;
      after = record s {
        pc = 0x10000804;
        v = (20, 0xffffffffffffffff00000000000000020000000000000000000000010000000b) ∷
            s.v;
      };
    }
