-- Illegal instructions, for each rule of legality and major opcode. tools/golden/golden_theorems writes this file from lab/tests/data/golden_vectors.
use Rattle.std.specs.Prelude.{[], ◌∷◌, true, false}
use Rattle.rv_model.specs.declared.vector.policy.Policy.TheVariants.{Ones}
use Rattle.rv_model.specs.declared.vector.state.RoundingMode.TheVariants.{NearestEven, Down, Odd}
use Rattle.rv_model.specs.declared.vector.types.Lmul.TheVariants.{M1, M2, M4, M8, Mf8, Mf4, Mf2}
use Rattle.rv_model.specs.declared.vector.types.Sew.TheVariants.{E8, E16, E32, E64}
use Rattle.test_definitions.specs.States.{Case, State, start, typed, Illegal}

-- vrgatherei16.vv v28, v28, v29, v0.t
-- The destination of vrgatherei16 may not overlap its source: v28 is in both.
abbrev pub vrgatherei16_vv_illegal : Case
vrgatherei16_vv_illegal =
    let s : State = record start {
      vl = 3;
      vtype = typed E8 Mf8 false false;
      v = (0, 0xffffffffffffffffffffffffffffffffffffffffffffffffffffffffffffffff) ∷
          (28, 0x5020705010501000202020107ff01010307ff07ffffff0301ff0502070003) ∷
          (29, 0x28f480003000500060008000700000007cc64000500060007000800020001) ∷
          [];
    } in
    record {
      word = 0x39ce8e57;
      before = s;
      end = Illegal;
      after = s;
    }

-- vluxseg2ei64.v v9, (x18), v10
-- The destination of an indexed segment load may not overlap its index: v10 is in both.
abbrev pub vluxseg2ei64_v_illegal : Case
vluxseg2ei64_v_illegal =
    let s : State = record start {
      vl = 7;
      vtype = typed E16 Mf2 true false;
      vxrm = Down;
      vxsat = true;
      x = (18, 0x2101b) ∷ [];
      v = (9, 0xffff77bc1e4555554000c6b66a448ae0800180000000797380011c11dfd58001) ∷
          (10, 0x10000000000000000c00000000000000080000000000000004) ∷
          (11, 0x20000000000000001c00000000000000180000000000000014) ∷
          [];
    } in
    record {
      word = 0x26a97487;
      before = s;
      end = Illegal;
      after = s;
    }

-- vssseg8e16.v v28, (x5), x10, v0.t
-- 8 fields of 4 registers each are 32, and 8 is the most.
abbrev pub vssseg8e16_v_illegal : Case
vssseg8e16_v_illegal =
    let s : State = record start {
      vl = 19;
      vtype = typed E32 M8 false false;
      vxrm = Down;
      vxsat = true;
      x = (5, 0x21578) ∷ (10, 0xffffffffffffffef) ∷ [];
      v = (0, 0xffffffffffffffffffffffffffffffffffffffffffffffffffffffffffffffff) ∷
          (28, 0xb06265f5976c4d26565fe82ae9baff5440a764dbc9e9484a23baac7dabc90c72) ∷
          (29, 0xbd025f0e4fec95993587e5ccc1531fecbc7007c1aae27850675787915f22ea08) ∷
          (30, 0x53cc9dc04698148df41e4d00a0bc23e6183ede7860a89ff3d7a4d9e0f455c4db) ∷
          (31, 0xe5998fd45f9b06b998d0b8c52577913c6a9f22b47eafc8df33b7f0c3dde43850) ∷
          [];
    } in
    record {
      word = 0xe8a2de27;
      before = s;
      end = Illegal;
      after = s;
    }

-- vlseg3e32.v v28, (x7), v0.t
-- 3 fields of 4 registers each are 12, and 8 is the most.
abbrev pub vlseg3e32_v_illegal : Case
vlseg3e32_v_illegal =
    let s : State = record start {
      vl = 11;
      vtype = typed E8 M1 true true;
      vstart = 4;
      vxrm = Down;
      x = (7, 0x21fae) ∷ [];
      v = (0, 0xfffffffffffffffffffffffffffffffffffffffffffffffffffffffffffff6bf) ∷
          (28, 0x2d2576fe9287254f610b6add470755826a25fe7181ea90f16e2b7fbfe2b75a26) ∷
          (29, 0x78a383671bc066ffc3c83fc953e0c9441635aa9689a48badcaaa5fd3f8d03723) ∷
          (30, 0xdc083e8c48391a8febe71e8237fbf9cfb8aa443d51330f099f5cd49fd0872744) ∷
          (31, 0x584f4803a149aca7aa255f7dcf3e5daf8b8e5c38b1fca15d12c97f0cde7f4813) ∷
          [];
    } in
    record {
      word = 0x4003ee07;
      before = s;
      end = Illegal;
      after = s;
    }

-- vwsub.vv v8, v8, v7, v0.t
-- The destination v8 (32 bits) has wider elements than the source v8 (16 bits), which has EMUL 1/2: they may not overlap.
abbrev pub vwsub_vv_illegal : Case
vwsub_vv_illegal =
    let s : State = record start {
      policy = Ones;
      vl = 6;
      vtype = typed E16 Mf2 true true;
      vxrm = Down;
      vxsat = true;
      v = (0, 0x468f2afa4038b8a4a31ffd807889db2d702807bf3719411a66582c8662053e72) ∷
          (7, 0x1a7d9a5293d257ebc9c9373b8a5c3b187248cf0402f994cb70f524a80acdb846) ∷
          (8, 0x3568c370d68822c8500317b476bb0ef3390e293757bb8549d049814bcf5272a5) ∷
          [];
    } in
    record {
      word = 0xcc83a457;
      before = s;
      end = Illegal;
      after = s;
    }

-- vsoxseg2ei8.v v13, (x7), v27, v0.t
-- The vector type has LMUL 2, so register groups begin at even registers: v13 is odd.
abbrev pub vsoxseg2ei8_v_illegal : Case
vsoxseg2ei8_v_illegal =
    let s : State = record start {
      vl = 8;
      vtype = typed E64 M2 true true;
      vxrm = NearestEven;
      x = (7, 0x21838) ∷ [];
      v = (0, 0x80000000000000000000000000000000000000000000000000000000084) ∷
          (13, 0x244e8e68987bbe67751ef606bf0db95240000000000000001) ∷
          (14, 0x156120742b26ecb7360efc812e55291700000000000000010000000000000000) ∷
          (15, 0x39ff3caf593a27c8117422cf9e162478b6eed0a63e952ebafffffffffffffffe) ∷
          (16, 0x2bd02409a032cfbd1aaaaaaaaaaaaaaaa0f4d61bc5c247ff1) ∷
          (27, 0x7481cb53e6d779216b3d53f4cb3a532855aacee04828052493e3b73c7995e56f) ∷
          [];
    } in
    record {
      word = 0x2db386a7;
      before = s;
      end = Illegal;
      after = s;
    }

-- vmslt.vv v18, v5, v19, v0.t
-- The vector type has LMUL 2, so register groups begin at even registers: v5 and v19 are odd.
abbrev pub vmslt_vv_illegal : Case
vmslt_vv_illegal =
    let s : State = record start {
      vl = 8;
      vtype = typed E64 M2 true false;
      vxrm = Odd;
      v = (0, 0xe3d3a7537b007d9d5679e6d761b854847745088443074f43206cff5252051bfe) ∷
          (5, 0xe617a0844dbbc3deffffffffffffffff1e8427b28357d3f3283489bc8c05d534) ∷
          (6, 0xd7ef69cdc6125b25fffffffffffffffe0000000000000001aaaaaaaaaaaaaaaa) ∷
          (18, 0xffffffffffffffffffffffffffffffffffffffffffffffffffffffffffffffff) ∷
          (19, 0xe42212cbe3f1430a6cccbbf0f9ca82d55555555555555551e44ae0617da622c) ∷
          (20, 0x95562fbdaa5322c2fab2b9ca101c7cc1021950533f11a9ff7fd54d00bf61278e) ∷
          [];
    } in
    record {
      word = 0x6c598957;
      before = s;
      end = Illegal;
      after = s;
    }

-- vloxei8.v v6, (x19), v9
-- The vector type has LMUL 4, so register groups begin at registers divisible by 4: v6 is not.
abbrev pub vloxei8_v_illegal : Case
vloxei8_v_illegal =
    let s : State = record start {
      vl = 29;
      vtype = typed E32 M4 false false;
      vxrm = Down;
      vxsat = true;
      x = (19, 0x20dc6) ∷ [];
      v = (6, 0x26cd1df0884896fc5cdc4670e4c2e591da293868579b31677f3da3caabb4130d) ∷
          (7, 0x61b77c8ccc0baa98dcdf3483625b054eff374cc254555100fe7c57d05b4d397f) ∷
          (8, 0x644d4187f56f531fed1a9db53debe052e707ae235fd700fa450593d659617ce7) ∷
          (9, 0x34fb9a5aa1ca5ba5344b3b7db746535ebfd6eb75e1b1d81f8f1f49c529a14cef) ∷
          [];
    } in
    record {
      word = 0x0e998307;
      before = s;
      end = Illegal;
      after = s;
    }

-- vsse64.v v22, (x11), x0, v0.t
-- The data has EMUL 4 (EEW 64 / SEW 32 x LMUL 2), so register groups begin at registers divisible by 4: v22 is not.
abbrev pub vsse64_v_illegal : Case
vsse64_v_illegal =
    let s : State = record start {
      vl = 16;
      vtype = typed E32 M2 false true;
      vxrm = Odd;
      x = (11, 0x1ffff) ∷ [];
      v = (0, 0xffffffffffffffffffffffffffffffffffffffffffffffffffffffffffffffde) ∷
          (22, 0x6d0d80ed69128de54fdfdca61d9e5376105bfd7bc475268b48c436992fbea791) ∷
          (23, 0xbc62de6f7c24c05a3482c2b7f845df7afc8952281f1b8c84c3e131b5df1818ff) ∷
          (24, 0xeaa92832a84c87d708b0342169cb4bc42d036cd70318e307fa0330ae7bf10b9a) ∷
          (25, 0x6026056adf840206e400c492af8fedd45e9e01a21df1922587a14d471cf51232) ∷
          [];
    } in
    record {
      word = 0x0805fb27;
      before = s;
      end = Illegal;
      after = s;
    }

-- vsext.vf2 v8, v23, v0.t
-- The source has EMUL 4 (EEW 16 / SEW 32 x LMUL 8), so register groups begin at registers divisible by 4: v23 is not.
abbrev pub vsext_vf2_illegal : Case
vsext_vf2_illegal =
    let s : State = record start {
      vl = 64;
      vtype = typed E32 M8 true true;
      vxrm = NearestEven;
      v = (0, 0xffffffffffffffffffffffffffffffffffffffffffffffffffffffffffffffff) ∷
          (8, 0x36f69cd87fffffff5555555555555555dc71909800000001555555559529fde0) ∷
          (9, 0x80000000d3a0270006e84198f4be9858ac430a5afffffffe65e7497e6ac521f8) ∷
          (10, 0x10000000180000001000000028ef553b580000000bd3cf189b1932b22) ∷
          (11, 0xa89d9fbfcc0ccd724000000009219a770000000280000000eceefcff40000000) ∷
          (12, 0x4000000000d79a5feb8dcddbfd749a590000000042a5222956bb116b27e51361) ∷
          (13, 0x6c72d6aca18bc84f9f905a7bd5801c8e7b2740141bf64193b239d5062e7542d6) ∷
          (14, 0x956181dffffffff2560d34588a82cc2555555557fffffff8000000080000000) ∷
          (15, 0x146adcb3a7fffffff86bf5199400000006f5acce7ffffffffb2776857) ∷
          (23, 0x602d699b8000a5f1555533aff7f4470a7e35587fd81e3b160000000280005555) ∷
          (24, 0x8000680f9eeeffff0001ffff40009ee7fffe00020001cfa6ac9baaaa7b9af8cc) ∷
          (25, 0x400055552789716bc7ecfffec16cdb194000b1dd6d8a00000002ffffffff4000) ∷
          (26, 0x4000ffffd7110000ffff00014000c122e1945555af4c00010001af980002a507) ∷
          [];
    } in
    record {
      word = 0x4973a457;
      before = s;
      end = Illegal;
      after = s;
    }

-- vlseg2e64.v v9, (x1)
-- The destination has EMUL 2 (EEW 64 / SEW 8 x LMUL 1/4), so register groups begin at even registers: v9 is odd.
abbrev pub vlseg2e64_v_illegal : Case
vlseg2e64_v_illegal =
    let s : State = record start {
      policy = Ones;
      vl = 3;
      vtype = typed E8 Mf4 false false;
      vxrm = Odd;
      x = (1, 0x20534) ∷ [];
      v = (9, 0xe4a42c746a2d2f737ade8a7c8d2b4dfdaf1e8b04461724f98026b7bf5c61eabf) ∷
          (10, 0x5cd0a1cf47b56a492bb82e89ca6dd42791443102189b57c259991a384eae0149) ∷
          (11, 0x772c0c995e7691a3190f08efb6e0718ee52805abf2126b9758c4c47813f6868a) ∷
          (12, 0xdb802c09a05beebc3c80652d4c790b0282e944b375b79d77236c12b90aae2441) ∷
          [];
    } in
    record {
      word = 0x2200f487;
      before = s;
      end = Illegal;
      after = s;
    }

-- vssseg6e8.v v31, (x29), x0, v0.t
-- The data takes 6 registers from v31 on, and v31 is the last.
abbrev pub vssseg6e8_v_illegal : Case
vssseg6e8_v_illegal =
    let s : State = record start {
      vl = 8;
      vtype = typed E32 M1 true true;
      vxrm = NearestEven;
      x = (29, 0x21ab5) ∷ [];
      v = (0, 0xffffffffffffffffffffffffffffffffffffffffffffffffffffffffffffffff) ∷
          (31, 0xe96237ca0156c28ccbc78737d3a0740c9b877088c25c2bdcd9fa23e6ab613d76) ∷
          [];
    } in
    record {
      word = 0xa80e8fa7;
      before = s;
      end = Illegal;
      after = s;
    }

-- vloxseg4ei8.v v31, (x23), v0, v0.t
-- The destination takes 4 registers from v31 on, and v31 is the last.
abbrev pub vloxseg4ei8_v_illegal : Case
vloxseg4ei8_v_illegal =
    let s : State = record start {
      vl = 4;
      vtype = typed E64 M1 true false;
      vxrm = Down;
      x = (23, 0x215b7) ∷ [];
      v = (0, 0xffffffffffffffffffffffffffffffffffffffffbffffffdffffffff77ffffdf) ∷
          (31, 0x2aaaaaaaaaaaaaaaac4ac435274cc00757fe0e78a81d3bbb0) ∷
          [];
    } in
    record {
      word = 0x6c0b8f87;
      before = s;
      end = Illegal;
      after = s;
    }

-- vmulhu.vx v0, v2, x21, v0.t
-- It reads a mask from v0, so v0 can't be its destination.
abbrev pub vmulhu_vx_illegal : Case
vmulhu_vx_illegal =
    let s : State = record start {
      vl = 6;
      vtype = typed E16 M2 false false;
      x = (21, 0xffffffffffffffff) ∷ [];
      v = (0, 0xa6f9e548074244c9754f4e55780625db3a87be194c98290edce3c6e42b9505aa) ∷
          (1, 0x9655af23264ebaaf62ad4aad0f40170a3ae9a88cdda2451e98c7e2939e53b9c9) ∷
          (2, 0xcdd99aaed192ebc72cf60f584776b66daa4e6ffbbe0c1d1ed8b848cc72fdbd5c) ∷
          (3, 0x76ded4546b68d9c8d7152c49cf617f92c31ee3fe8444653e48bedc54b13147ea) ∷
          [];
    } in
    record {
      word = 0x902ae057;
      before = s;
      end = Illegal;
      after = s;
    }

-- vlseg7e8.v v0, (x31), v0.t
-- It reads a mask from v0, so v0 can't be its destination.
abbrev pub vlseg7e8_v_illegal : Case
vlseg7e8_v_illegal =
    let s : State = record start {
      vl = 16;
      vtype = typed E32 M2 false false;
      vxrm = NearestEven;
      vxsat = true;
      x = (31, 0x2013b) ∷ [];
      v = (0, 0xfffffffffffffffffffffffffffffffffffffffffffffffffffffffffffff7fc) ∷
          (1, 0x8e836b09a93b8327fe01cc8c66a5108fb523808cd91a33951348d52cd8c9d5fd) ∷
          (2, 0xde5822c8446162c6c0a7a0b6b33f988f3d2edeb1d6c594658ffbb706051b8e66) ∷
          (3, 0xa794adc6e69284db50e39b8213c9b636f1b499ea7d2143d870868a9b932a706e) ∷
          (4, 0x9b4f80f66c9794fa33cf0bb4bf41522bd0314f54c382163e99960d7632550c77) ∷
          (5, 0x8740740c3532ea1665e02084256abb48a261977a7ab78ba4cff7dc6686d212d2) ∷
          (6, 0xa3d116513f382a9f5d8106c20eacf747d45be9df63e69bc799e094b11cd52553) ∷
          [];
    } in
    record {
      word = 0xc00f8007;
      before = s;
      end = Illegal;
      after = s;
    }

-- vssseg7e64.v v30, (x9), x11
-- The data would have EMUL 16 (EEW 64 / SEW 16 x LMUL 4), and EMUL is 1/8 to 8.
abbrev pub vssseg7e64_v_illegal : Case
vssseg7e64_v_illegal =
    let s : State = record start {
      vl = 58;
      vtype = typed E16 M4 false true;
      vxrm = Odd;
      x = (9, 0x23c65) ∷ (11, 0x38) ∷ [];
      v = (30, 0x8ffd4f4a5ae955aba107d35d4e725eeeb99a70bb4abf41072b7dbdd033437970) ∷
          (31, 0x821c70cf473ca7834261353afe0adc307e0ed7e3714e2afc8e6559dd4df7b6e6) ∷
          [];
    } in
    record {
      word = 0xcab4ff27;
      before = s;
      end = Illegal;
      after = s;
    }

-- vwsub.wx v9, v0, x0, v0.t
-- The destination would have EMUL 16 (EEW 32 / SEW 16 x LMUL 8), and EMUL is 1/8 to 8.
-- The source would have EMUL 16 (EEW 32 / SEW 16 x LMUL 8), and EMUL is 1/8 to 8.
abbrev pub vwsub_wx_illegal : Case
vwsub_wx_illegal =
    let s : State = record start {
      vl = 128;
      vtype = typed E16 M8 false true;
      vxrm = Odd;
      v = (0, 0xbdaeff0093989bf23b5688c85eac0e89ee73f4614f593107839f75f7429c9d4e) ∷
          (1, 0x84d49efd26b74f484d72675a8ef73bd4e5d9425111ca0208df8383a253d68cc7) ∷
          (2, 0xfeb7321ddd21becbf61401d0155f0a0b9ae635eafd78a33e60fbdfd69097e0aa) ∷
          (3, 0xc76117eb1a5532d0d4c2025426399b8a89c37fb7230742bc6a5bfa3b871d2ff5) ∷
          (4, 0xcca907ced88f354f2f29b31101c42dc7e6fae6f8d3ef695b334ba5a1009cdaf6) ∷
          (5, 0xcffa4f2046fbb2ad6dbf41e5c4422d81120b56f6194c62f778db1fe601f0fa87) ∷
          (6, 0x6656a9511480528a5d2b1d8f1644baa5d0b5ea6de5ae85d659ae3ab9276e2061) ∷
          (7, 0xbc0440d0f0a7a55cd67d9dcad0ed107c9f00999674945aefe391009217da5dc0) ∷
          (8, 0x7a2c748a3156b19d5fabd51b38bdc5201f152f5f391a0cd92d7973e30dcf07a2) ∷
          (9, 0xf0db726ed572d2bb6de582ea9b8040edc70c65d270cc195fb451b4507c558198) ∷
          (10, 0xf2424bb20a67b50ab3bb4b8421568dddc4d69139563b7e00fc2547cbddd93cca) ∷
          (11, 0x8197ce54e3f3bbcee42aaef7bcfe6f225a944a353fa408a7dc2b034b1dbbc4b4) ∷
          (12, 0xfcd4b66f27c8ababe69f8ccd40382062a1bcc8e4a1491372e3b81d20fe7f9209) ∷
          (13, 0x59da6b147b75bb796f7b869af481aa32ed2a9660be3de60d88120ea4f997c17d) ∷
          (14, 0x8f0ea38c73e8e010b751777ba51465a3cb0bd3b54c0b241aa42dc3620878d3fa) ∷
          (15, 0xfa74e0bb0b59f671709355290b25552608644618faeb3f1305355cdafa4abe28) ∷
          (16, 0x72915b74917d001fd101616f679952835911063d3bd36b6fc269fe13bcedccc1) ∷
          (17, 0x9731ecbe86410de16b8ce3f2df9307bb7e49938dd2464851785fbab6808a9005) ∷
          (18, 0xaa4308ce37858ea720d627138e441443f670afd710aa0b418416469cf2eed168) ∷
          (19, 0x1715fa29ca8ed1e677cb2572c82d5367529ca32c1fec7dc08a09e51940dd224) ∷
          (20, 0x5a62a5166797742035bca0d17190744193f5eff0ddb82c77bf50cf26027d640e) ∷
          (21, 0x7307a5e5c7d22f42f8fb0b9f2d6295b4321139f6b433206fdd42193d44e4c33) ∷
          (22, 0x5ee69f2fe247c9abbc28dfc4d219a8c0ed16f3673842a7f23da009af8d617d9f) ∷
          (23, 0x28b7373bb849225797fedeb2100bc7381fddbb304cfa376109c1814183abb584) ∷
          (24, 0xb0bfbe41bbb1816eed11f74a6ddb9bd67fcc8f8eb8decc2b6451ece6aadb2c21) ∷
          [];
    } in
    record {
      word = 0xdc0064d7;
      before = s;
      end = Illegal;
      after = s;
    }

-- vlseg3e32ff.v v28, (x17)
-- The destination would have EMUL 32 (EEW 32 / SEW 8 x LMUL 8), and EMUL is 1/8 to 8.
abbrev pub vlseg3e32ff_v_illegal : Case
vlseg3e32ff_v_illegal =
    let s : State = record start {
      vl = 9;
      vtype = typed E8 M8 true true;
      vxrm = Odd;
      x = (17, 0x20d82) ∷ [];
      v = (28, 0xb27152a50339b7ad01fc93bff97029a8de95d36971e0ed029bb8f0144fe23c25) ∷
          (29, 0x51ef78ea9cd54f708d2c51ed7824a80505adbe020dc69463375970258a6e0676) ∷
          (30, 0x2c123b6c31f71dd00957ed4aeea876abd9756839c971c424ed9e5d490128cba1) ∷
          (31, 0xa77cca9898da35af463035af05485b4df6244aaecfb3e27ce5fa76f7a33d6f83) ∷
          [];
    } in
    record {
      word = 0x4308ee07;
      before = s;
      end = Illegal;
      after = s;
    }

-- vzext.vf8 v9, v9, v0.t
-- The source would have elements of 1 bit (SEW 8 / 8), and 8 is the least.
abbrev pub vzext_vf8_illegal : Case
vzext_vf8_illegal =
    let s : State = record start {
      vl = 31;
      vtype = typed E8 M1 false true;
      vxrm = Down;
      v = (0, 0x4) ∷
          (9, 0x81ae8090d4972601feba0a027fd07b550255404055eeaafe00ce7daade1a0099) ∷
          [];
    } in
    record {
      word = 0x489124d7;
      before = s;
      end = Illegal;
      after = s;
    }

-- vmsbc.vv v13, v16, v8
-- The destination v13 (1 bit) has narrower elements than the source v8 to v15 (8 bits): they may overlap only where both begin with the same register.
abbrev pub vmsbc_vv_illegal : Case
vmsbc_vv_illegal =
    let s : State = record start {
      vl = 179;
      vtype = typed E8 M8 true true;
      v = (8, 0x8e3752f924135172b0506ba8df471dbac1f7ee8126d784323db76521b87e9287) ∷
          (9, 0x2320ca3e37909e41a84bd6cbd56634e6d9ddd81b6ff1bc71e12764f928e2de98) ∷
          (10, 0x4421d356fa9ae8865e858f35cd8e2e2144e0e11ac83af4fcfcc7c46f7ac22fcc) ∷
          (11, 0x33e9b64b7d9a5dcb582a6c76bb3e8a62b1d6e76c91c3f108be363f043b585354) ∷
          (12, 0x4abd5b4b1c588a679234cd9289a1d99fee7e42cac4b4d410c9017a06f34a619b) ∷
          (13, 0x0) ∷
          (14, 0x8d35a4ed85951a2be7d827406545e6ff2b35e0268b30d663d9d7fee04631e423) ∷
          (15, 0xd6836a96fa93cafead2257aeb25b503f7de4154652e8511044c05f007acc263) ∷
          (16, 0xae1a678e99af7a704eaea35c03a9c8429ae75edddec7cba1914ced22dc386fc5) ∷
          (17, 0xd6f9b89481efa64bb2e80b948d434c60f1593ee4141b41737cefc338852566a9) ∷
          (18, 0x4aa103ffdfb14da289ddc2880f3a0b1de306ad5bc651fa62d0cd2883f5ccea1a) ∷
          (19, 0xf48c781e81c0e93370ace54ea9ee455f6afdb7edc009176f639a6199cbe6a9d1) ∷
          (20, 0xaf62495681c7ec7a929606b9efd3ce5c90663205c88087416f6c4b78ed68a66c) ∷
          (21, 0x198f397fd902be0445060c63f0124ca15ee10a462056f5d9dcb700b28737d291) ∷
          (22, 0x275ed9b44351a99817ffd5d69430928ccb3a6896c07abf4acff80854e1fbe107) ∷
          (23, 0xd4b444eee70556cb206fd0e7e704677412c1869808124ee7aa0db355534ad30c) ∷
          [];
    } in
    record {
      word = 0x4f0406d7;
      before = s;
      end = Illegal;
      after = s;
    }

-- vloxei16.v v2, (x30), v0, v0.t
-- The destination v2 to v3 (8 bits) has narrower elements than the index v0 to v3 (16 bits): they may overlap only where both begin with the same register.
abbrev pub vloxei16_v_illegal : Case
vloxei16_v_illegal =
    let s : State = record start {
      vl = 6;
      vtype = typed E8 M2 false false;
      vxrm = Down;
      x = (30, 0x20000) ∷ [];
      v = (0, 0x200000000000020000000000000000000000000000000000010001000) ∷
          (1, 0x5442d590fd225ec2f8e1e8c18b81e6c0c59079c0e732fca208b05a4284a2f65) ∷
          (2, 0x206c141628b41a850f6110e01d0b0170150325a3173e0d300115039d055f0c13) ∷
          (3, 0x2e000ccf123010bd16cb360f2ad31df906771d4c0f0500221adf21fb01fc2ed3) ∷
          [];
    } in
    record {
      word = 0x0c0f5107;
      before = s;
      end = Illegal;
      after = s;
    }

-- csrrc x3, 3107, x13
-- There is no control register 0xc23: there are vstart, vxsat, vxrm, vcsr, vl, vtype and vlenb alone.
abbrev pub csrrc_illegal : Case
csrrc_illegal =
    let s : State = record start {
      vxrm = Down;
      x = (3, 0xaaaaaaaaaaaaaaaa) ∷ (13, 0x1c577147) ∷ [];
    } in
    record {
      word = 0xc236b1f3;
      before = s;
      end = Illegal;
      after = s;
    }

-- csrrsi x0, vlenb, 31
-- It writes vlenb, which can only be read.
abbrev pub csrrsi_illegal : Case
csrrsi_illegal =
    let s : State = record start {
      vl = 16;
      vtype = typed E16 M1 false false;
      vxrm = Odd;
    } in
    record {
      word = 0xc22fe073;
      before = s;
      end = Illegal;
      after = s;
    }

-- vsse64.v v29, (x22), x0
-- The data has EMUL 4 (EEW 64 / SEW 8 x LMUL 1/2), so register groups begin at registers divisible by 4: v29 is not.
-- The data takes 4 registers from v29 on, and v31 is the last.
abbrev pub vsse64_v_illegal_2 : Case
vsse64_v_illegal_2 =
    let s : State = record start {
      vl = 7;
      vtype = typed E8 Mf2 false true;
      vxrm = Odd;
      x = (22, 0x21ef1) ∷ [];
      v = (29, 0x3751a2c16b67aa73898a07216cb539b755b02443395c87543d9d6035c53ef874) ∷
          (30, 0x25b5de80068d0f62f736baf1ed6357125bbfe8321cb8e98a444b3b99f52fea23) ∷
          (31, 0xe2fcea43dd85969da34b1f4729f5fb657118ec601476514626beacc38fdc874) ∷
          [];
    } in
    record {
      word = 0x0a0b7ea7;
      before = s;
      end = Illegal;
      after = s;
    }

-- vwadd.vv v28, v28, v28, v0.t
-- The destination has EMUL 8 (EEW 32 / SEW 16 x LMUL 4), so register groups begin at registers divisible by 8: v28 is not.
-- The destination takes 8 registers from v28 on, and v31 is the last.
-- The destination v28 to v35 (32 bits) has wider elements than the source v28 to v31 (16 bits): they may overlap only where both end with the same register.
abbrev pub vwadd_vv_illegal : Case
vwadd_vv_illegal =
    let s : State = record start {
      vl = 64;
      vtype = typed E16 M4 false false;
      vxrm = Down;
      v = (0, 0xffffffffffffffffffffffffffffffffffffffffffffffffffffffffffffffff) ∷
          (28, 0x37f4aaaa40007fffe29100025698b90280007fff383ed23f00005555650fc742) ∷
          (29, 0x4000fffeaaaa8001a5ad93230002208fa1642e185cec244a769d4e6b900dde8b) ∷
          (30, 0x80010000522debb08d74ffff05748d4d00004000800102806cfee45a29bb6621) ∷
          (31, 0x99f080007fff4bfca91c0f4bfffe108cfa8100027fff48ca0002400000015555) ∷
          [];
    } in
    record {
      word = 0xc5ce2e57;
      before = s;
      end = Illegal;
      after = s;
    }

-- vlse32.v v28, (x6), x13
-- The destination has EMUL 8 (EEW 32 / SEW 8 x LMUL 2), so register groups begin at registers divisible by 8: v28 is not.
-- The destination takes 8 registers from v28 on, and v31 is the last.
abbrev pub vlse32_v_illegal : Case
vlse32_v_illegal =
    let s : State = record start {
      vl = 57;
      vtype = typed E8 M2 false false;
      vxrm = Down;
      vxsat = true;
      x = (6, 0x207aa) ∷ (13, 0x18) ∷ [];
      v = (28, 0x9db3c4580d0273b938dfc2bb92ac30e2434fc275324ddaacfe7c29c1717a8c3d) ∷
          (29, 0xd43ce4caaa743417a4ad7b15e158d8282f3147b6f65544adf0ce3fb5af9040a0) ∷
          (30, 0x89afaa6aa61ace54214c31f1d171729eb2345790e0ac791af29820d767d5d8c4) ∷
          (31, 0x6ae6cba19feb2b84d2a870f34436739b2264d85e88fd7eb4a01dd3e3516a776d) ∷
          [];
    } in
    record {
      word = 0x0ad36e07;
      before = s;
      end = Illegal;
      after = s;
    }

-- vmulhu.vx v21, v22, x6
-- Zve64x has no vmulhu at SEW 64.
abbrev pub vmulhu_vx_illegal_2 : Case
vmulhu_vx_illegal_2 =
    let s : State = record start {
      vl = 4;
      vtype = typed E64 M1 true true;
      vxrm = NearestEven;
      vxsat = true;
      x = (6, 0x5555555555555555) ∷ [];
      v = (21, 0x23ca8e0ae32dc6c2f9355919e6643be646103e74d32bc50412f24e69d01794ed) ∷
          (22, 0x74e2d16584bab766d3e3a496112bcc5e2e5194dfb1786c23f18625677ef8ba) ∷
          [];
    } in
    record {
      word = 0x93636ad7;
      before = s;
      end = Illegal;
      after = s;
    }

-- vsseg5e16.v v23, (x12)
-- The vector type is vill: no vset instruction has set one that is supported.
abbrev pub vsseg5e16_v_illegal : Case
vsseg5e16_v_illegal =
    let s : State = record start {
      vxsat = true;
      x = (12, 0x20063) ∷ [];
      v = (23, 0x87bfa77e46412398de51ee6afd9cc8f10552cc17a8a066e4fcdd450b358be70) ∷
          (24, 0xe3c7212550247a5f4dc1366bafa33a5e40f251284b527d60473863bfc7e83962) ∷
          (25, 0xc2ec4fef31d81765e3b069a6b52ff5dada420435d51d8a32dce57b4f1f15ad1c) ∷
          (26, 0x1db234880ece456b68c23c1620307b382f6718d77e01368951af6e34e0dc81e1) ∷
          (27, 0xc6f16c6db5529c5868527c44e06d0434ef6772bbbf751bd3181450c0caa0c27f) ∷
          [];
    } in
    record {
      word = 0x82065ba7;
      before = s;
      end = Illegal;
      after = s;
    }

-- vnmsub.vv v9, v12, v8, v0.t
-- The vector type is vill: no vset instruction has set one that is supported.
abbrev pub vnmsub_vv_illegal : Case
vnmsub_vv_illegal =
    let s : State = record start {
      policy = Ones;
      vstart = 25;
      vxrm = Down;
      vxsat = true;
      v = (0, 0xffffffffffffffffffffffffffffffffffffffffffffffffffffffffffffffff) ∷
          (8, 0x4000000000000000fffffffffffffffffffffffffffffffeffffffffffffffff) ∷
          (9, 0x20000000000000002ffffffffffffffffffffffffffffffff) ∷
          (12, 0xaaaaaaaaaaaaaaaa0000000000000001ffffffffffffffff) ∷
          [];
    } in
    record {
      word = 0xac8624d7;
      before = s;
      end = Illegal;
      after = s;
    }

-- vlseg6e16.v v30, (x4)
-- The vector type is vill: no vset instruction has set one that is supported.
abbrev pub vlseg6e16_v_illegal : Case
vlseg6e16_v_illegal =
    let s : State = record start {
      x = (4, 0x21c1a) ∷ [];
      v = (30, 0xdfdae521fa46ccacf42cecec3174a825be8ae98e7e98e0cf289caea246897f06) ∷
          (31, 0x1064f308610b16f935fbfc443a7228770026bd7862b1310207775d9f3b890a73) ∷
          [];
    } in
    record {
      word = 0xa2025f07;
      before = s;
      end = Illegal;
      after = s;
    }

-- vmsbf.m v1, v2, v0.t
-- vstart is 3, and vmsbf has to begin with element 0.
abbrev pub vmsbf_m_illegal : Case
vmsbf_m_illegal =
    let s : State = record start {
      vl = 16;
      vtype = typed E32 M2 false false;
      vstart = 3;
      vxrm = Odd;
      v = (0, 0xce1affa1e0c40afbe374b1c4d7ebfe4103da965d0516e7987a56ccf1b26a3716) ∷
          (1, 0x2eb4e7b4659f1b00accbd7a09effae11b8586eb87f1b4a0e0bfddf06f69951fa) ∷
          (2, 0x79bbb09031058746f835ee2466cbd3f6530bc99868d244edc2ccb436536454f2) ∷
          [];
    } in
    record {
      word = 0x5020a0d7;
      before = s;
      end = Illegal;
      after = s;
    }

-- vl2re32.v v29, (x10)
-- It names 2 whole registers, so register groups begin at even registers: v29 is odd.
abbrev pub vl2re32_v_illegal : Case
vl2re32_v_illegal =
    let s : State = record start {
      policy = Ones;
      vstart = 13;
      vxrm = Odd;
      x = (10, 0x21105) ∷ [];
      v = (29, 0x9afc2f550568eb0014eca0fdd4e71d6660574a151f16c9a1d4b49f999404c704) ∷
          (30, 0x19cacca838d6dde1f1fbc9bdd807eaa4cc70c9ad79f0f5e0cf0cb3b18a692b9e) ∷
          [];
    } in
    record {
      word = 0x22856e87;
      before = s;
      end = Illegal;
      after = s;
    }

-- vnclip.wi v16, v0, 2
-- The source would have elements of 128 bits (2 x SEW 64), and ELEN is 64.
abbrev pub vnclip_wi_illegal : Case
vnclip_wi_illegal =
    let s : State = record start {
      policy = Ones;
      vl = 8;
      vtype = typed E64 M2 false false;
      vxrm = Odd;
      v = (0, 0xaaaa02aa818102fe01fe00550140800040558040aafe02aa40aafe017f7f8080) ∷
          (1, 0x55fefeff00810281ff7faaaa7faa407f557f02807fff0102aa4040fefe0001fe) ∷
          (2, 0x4040fe407f818002fefefe4000ff81807f40fe7f7fff0155558080ffaa017f40) ∷
          (3, 0xfe40fe02800102550200028080817f028140ff7ffe0140014081407f5502fe81) ∷
          (16, 0x40000000000000005555555555555555fffffffffffffffe8000000000000000) ∷
          (17, 0x55555555555555550000000000000001aaaaaaaaaaaaaaaaaaaaaaaaaaaaaaaa) ∷
          [];
    } in
    record {
      word = 0xbe013857;
      before = s;
      end = Illegal;
      after = s;
    }

-- vwmacc.vx v16, x18, v16
-- The destination v16 to v19 (64 bits) has wider elements than the source v16 to v17 (32 bits): they may overlap only where both end with the same register.
abbrev pub vwmacc_vx_illegal : Case
vwmacc_vx_illegal =
    let s : State = record start {
      vl = 16;
      vtype = typed E32 M2 false false;
      vstart = 12;
      vxrm = Odd;
      x = (18, 0x1) ∷ [];
      v = (16, 0x5555555555555555da2bfbb97b218cbbaaaaaaaaaaaaaaaa04649a3b31eebef1) ∷
          (17, 0x7fffffffffffffffffffffffffffffff44f9261be2df36967fffffffffffffff) ∷
          (18, 0x345a39ddb529bf7455555555555555550000000000000000d78134109962d85c) ∷
          (19, 0xaaaaaaaaaaaaaaaa4a3a564f2696a499c948d4b9559220964000000000000000) ∷
          [];
    } in
    record {
      word = 0xf7096857;
      before = s;
      end = Illegal;
      after = s;
    }
