-- Vector integer arithmetic with operands of two widths. tools/golden/golden_theorems writes this file from lab/tests/data/golden_vectors.
use Rattle.std.specs.Prelude.{[], ◌∷◌, true, false}
use Rattle.rv_model.specs.declared.vector.policy.Policy.TheVariants.{Ones}
use Rattle.rv_model.specs.declared.vector.state.RoundingMode.TheVariants.{NearestEven, Down, Odd}
use Rattle.rv_model.specs.declared.vector.types.Lmul.TheVariants.{M1, M2, Mf4, Mf2}
use Rattle.rv_model.specs.declared.vector.types.Sew.TheVariants.{E8, E16, E32, E64}
use Rattle.test_definitions.specs.States.{Case, State, start, typed, Retired}

-- vsext.vf2 v5, v21, v0.t
abbrev pub vsext_vf2 : Case
vsext_vf2 =
    let s : State = record start {
      vl = 4;
      vtype = typed E16 M1 true true;
      vxrm = Down;
      v = (0, 0xcd100bbf7dc27e95491c899aa8d31db29634867e5561e49b3540b985fddea03f) ∷
          (5, 0xaaaa40007fffaaaa5555ffff80000002fffefffe00005555fffe400080017fff) ∷
          (21, 0x80020101ff00aa0101fe4081ff8080aa007f02aa01ff4080550201807f4081ff) ∷
          [];
    } in
    record {
      word = 0x4953a2d7;
      before = s;
      end = Retired;
      after = record s {
        pc = 0x10000804;
        v = (5, 0xaaaa40007fffaaaa5555ffff80000002fffefffe00005555007f0040ff81ffff) ∷
            s.v;
      };
    }

-- vsext.vf4 v2, v19
abbrev pub vsext_vf4 : Case
vsext_vf4 =
    let s : State = record start {
      policy = Ones;
      vl = 3;
      vtype = typed E32 Mf2 false false;
      vxrm = NearestEven;
      v = (2, 0x17fffffff80000000aaaaaaaaaaaaaaaafffffffffffffffffffffffe) ∷
          (19, 0x558002ff01ffaa4000808181fe550040fe01fe0255fffe0055fefe7fff01) ∷
          [];
    } in
    record {
      word = 0x4b32a157;
      before = s;
      end = Retired;
      after = record s {
        pc = 0x10000804;
        v = (2, 0x17fffffff80000000aaaaaaaaaaaaaaaa0000007fffffffff00000001) ∷
            s.v;
      };
    }

-- vsext.vf8 v22, v16, v0.t
abbrev pub vsext_vf8 : Case
vsext_vf8 =
    let s : State = record start {
      vl = 8;
      vtype = typed E64 M2 true true;
      vxrm = NearestEven;
      v = (0, 0x279e34059285bf7e0f5230bbef7c288f09c80809cf1f3db106ad3ddd2d9a6085) ∷
          (16, 0x808155008100aaaa01007fffff80018100fe81aa01ffaafeaa7faaaaff7f0000) ∷
          (22, 0xffffffffffffffff5555555555555555fffffffffffffffefffffffffffffffe) ∷
          (23, 0x20000000000000002ffffffffffffffff5555555555555555) ∷
          [];
    } in
    record {
      word = 0x4901ab57;
      before = s;
      end = Retired;
      after = record s {
        pc = 0x10000804;
        v = (22, 0xffffffffffffffff000000000000007ffffffffffffffffe0000000000000000) ∷
            (23, 0xffffffffffffffaa0000000000000002ffffffffffffffff5555555555555555) ∷
            s.v;
      };
    }

-- vzext.vf2 v31, v22
abbrev pub vzext_vf2 : Case
vzext_vf2 =
    let s : State = record start {
      vl = 4;
      vtype = typed E16 Mf4 false false;
      vstart = 1;
      v = (22, 0x55010181fe55ffaa55aaaa7faaaafefe407faa8002ff55fefe01028002aa7f40) ∷
          (31, 0xfffe0001000200010000ffffaaaa8001800100017fff4000555540007fff7fff) ∷
          [];
    } in
    record {
      word = 0x4b632fd7;
      before = s;
      end = Retired;
      after = record s {
        pc = 0x10000804;
        vstart = 0;
        v = (31, 0xfffe0001000200010000ffffaaaa8001800100017fff4000000200aa007f7fff) ∷
            s.v;
      };
    }

-- vzext.vf4 v18, v15, v0.t
abbrev pub vzext_vf4 : Case
vzext_vf4 =
    let s : State = record start {
      policy = Ones;
      vl = 8;
      vtype = typed E64 M2 true true;
      vxrm = Down;
      v = (0, 0xffffffffffffffffffffffffffffffffffffffffffffffffffffffffffffffff) ∷
          (15, 0x30002000300050002000700000007000700070000ffff0005000700000000) ∷
          (18, 0x5ffffffffffffffff00000000000000010000000000000000) ∷
          (19, 0x700000000000000010000000000000001) ∷
          [];
    } in
    record {
      word = 0x48f22957;
      before = s;
      end = Retired;
      after = record s {
        pc = 0x10000804;
        v = (18, 0x5000000000000000700000000000000000000000000000000) ∷
            (19, 0x700000000000000070000000000000000000000000000ffff) ∷
            s.v;
      };
    }

-- vzext.vf8 v27, v23
abbrev pub vzext_vf8 : Case
vzext_vf8 =
    let s : State = record start {
      vl = 3;
      vtype = typed E64 M1 true true;
      vxrm = Down;
      v = (23, 0x1010205070100ffff0005ff00ff0100030707ff050307070300010103030201) ∷
          (27, 0x5000000000000000300000000000000020000000000000000) ∷
          [];
    } in
    record {
      word = 0x4b712dd7;
      before = s;
      end = Retired;
      after = record s {
        pc = 0x10000804;
        v = (27, 0x5000000000000000300000000000000020000000000000001) ∷ s.v;
      };
    }

-- vnsra.wv v28, v20, v13, v0.t
abbrev pub vnsra_wv : Case
vnsra_wv =
    let s : State = record start {
      vl = 31;
      vtype = typed E8 M1 false false;
      v = (0, 0xffffffffffffffffffffffffffffffffffffffffffffffffffffffffffffffff) ∷
          (13, 0xfe7f0201fe7f8040ff7f020102ff8000004080017f81aa7ffefefeff55810101) ∷
          (20, 0x40008001ffff80000000000100000001aaaaffff000000027fff000180005555) ∷
          (21, 0xaaaaffff7fff4000fffe800080007fff000000000001aaaa8001aaaa40008000) ∷
          (28, 0xfefe55018101ff5540fefe8002feff01aa8101550002ff8001ff55aaff5501) ∷
          [];
    } in
    record {
      word = 0xb5468e57;
      before = s;
      end = Retired;
      after = record s {
        pc = 0x10000804;
        v = (28, 0xffff00ffff00ff0000005500ff00000001ff0000000000feff0000ff0000aa) ∷
            s.v;
      };
    }

-- vnsrl.wx v5, v12, x27
abbrev pub vnsrl_wx : Case
vnsrl_wx =
    let s : State = record start {
      policy = Ones;
      vl = 13;
      vtype = typed E16 M1 false true;
      vxrm = Odd;
      x = (27, 0x2) ∷ [];
      v = (5, 0x4715000000027fff65970000fffe71e97fff8d91813a977be338433f80010000) ∷
          (12, 0x800000001d97f54f548f607efffffffec85cec507fffffffaaaaaaaafbfd7173) ∷
          (13, 0x18000000097f536981db1d7150000000165bed5ae63958041498ec59c) ∷
          [];
    } in
    record {
      word = 0xb2cdc2d7;
      before = s;
      end = Retired;
      after = record s {
        pc = 0x10000804;
        v = (5, 0x47150000000275c50000b56b6010b1670000fd53d81fffff3b14ffffaaaa5c5c) ∷
            s.v;
      };
    }

-- vwadd.vx v28, v13, x0, v0.t
abbrev pub vwadd_vx : Case
vwadd_vx =
    let s : State = record start {
      vl = 32;
      vtype = typed E8 M1 false true;
      v = (0, 0x5ee31319a92d4f0958f0fdf702181cfccf34a2184a79d938e52f4099983f71c5) ∷
          (13, 0xff0300020000010507ffff0007000002010203010707010207030102070007ff) ∷
          (28, 0x7ffff0000000500010005ffff0000000000000001ffff0005000300050007) ∷
          (29, 0x300050003000700050007ffff000200000007000300030001000100050000) ∷
          [];
    } in
    record {
      word = 0xc4d06e57;
      before = s;
      end = Retired;
      after = record s {
        pc = 0x10000804;
        v = (28, 0x700020003000100010005ffff0002000700030001ffff000500000005ffff) ∷
            (29, 0xffff00050003000200000007ffff000200000007ffff00000007000000000002) ∷
            s.v;
      };
    }

-- vwadd.wv v6, v26, v7
abbrev pub vwadd_wv : Case
vwadd_wv =
    let s : State = record start {
      vl = 3;
      vtype = typed E16 Mf2 true true;
      vxrm = Down;
      v = (6, 0x2000000010000000700000002000000010000000300000002) ∷
          (7, 0x2000700070000000200070003000700020000ffff00030001000500030005) ∷
          (26, 0x700000003000000050000000000000002000000010000000700000003) ∷
          [];
    } in
    record {
      word = 0xd7a3a357;
      before = s;
      end = Retired;
      after = record s {
        pc = 0x10000804;
        v = (6, 0x2000000010000000700000002000000060000000a00000008) ∷ s.v;
      };
    }

-- vwaddu.vx v28, v25, x30
abbrev pub vwaddu_vx : Case
vwaddu_vx =
    let s : State = record start {
      policy = Ones;
      vl = 29;
      vtype = typed E8 M1 false true;
      vxrm = NearestEven;
      x = (30, 0x8000000000000000) ∷ [];
      v = (25, 0x1ff8155814080ff80fe404040807f8181010055007f40fe01ff0255ff80407f) ∷
          (28, 0x800080007fff40007ffffffeaaaa000080015555fffe7fff800155550002) ∷
          (29, 0xffffffff00027fff0002fffe000280007fff5555aaaafffe80018001fffe5555) ∷
          [];
    } in
    record {
      word = 0xc39f6e57;
      before = s;
      end = Retired;
      after = record s {
        pc = 0x10000804;
        v = (28, 0x810001000000550000007f004000fe000100ff0002005500ff00800040007f) ∷
            (29, 0xffffffff0002005500810040008000ff008000fe0040004000400080007f0081) ∷
            s.v;
      };
    }

-- vwaddu.wx v6, v12, x26
abbrev pub vwaddu_wx : Case
vwaddu_wx =
    let s : State = record start {
      vl = 4;
      vtype = typed E16 M1 false false;
      vxrm = NearestEven;
      x = (26, 0x8000000000000000) ∷ [];
      v = (6, 0x8000000100000000aaaaaaaa40000000400000002464bca0c74683eaffffffff) ∷
          (7, 0x40000000759951b640000000ffffffffaaaaaaaa18a00018f3a517d180000001) ∷
          (12, 0x8000000100000001800000004f53c5500d7c44d58000000080000000fffffffe) ∷
          (13, 0x55e13493fffffffe6314f28f42f70925ccdfdfe200000002960d3735fffffffe) ∷
          [];
    } in
    record {
      word = 0xd2cd6357;
      before = s;
      end = Retired;
      after = record s {
        pc = 0x10000804;
        v = (6, 0x8000000100000000aaaaaaaa400000000d7c44d58000000080000000fffffffe) ∷
            s.v;
      };
    }

-- vwmacc.vv v14, v20, v4, v0.t
abbrev pub vwmacc_vv : Case
vwmacc_vv =
    let s : State = record start {
      vl = 8;
      vtype = typed E8 Mf4 false false;
      vxrm = NearestEven;
      v = (0, 0xf3a2a103867cbdd3e8c0f8598691433621837eaf3f2bbfd3b8b0a664afe39eaf) ∷
          (4, 0x817f78f2672b1394aa00af7f8040cf0aec55bf80188480555555405b7f7f5501) ∷
          (14, 0x10eb50000000200025555bacd35adaaaa285f092edf050000800080009827) ∷
          (20, 0x817fbc4f9780f90088b755024313401f896b7f558fcdaad7fafeab1cb302) ∷
          [];
    } in
    record {
      word = 0xf44a2757;
      before = s;
      end = Retired;
      after = record s {
        pc = 0x10000804;
        v = (14, 0x10eb50000000200025555bacd35ad8e1c285f07aedf05d5d58de4666f9829) ∷
            s.v;
      };
    }

-- vwmaccsu.vx v2, x12, v31
abbrev pub vwmaccsu_vx : Case
vwmaccsu_vx =
    let s : State = record start {
      vl = 4;
      vtype = typed E16 M1 false false;
      vstart = 1;
      vxrm = NearestEven;
      x = (12, 0xfffffffffffffffe) ∷ [];
      v = (2, 0x798ae85c9d5700df379840502983d1f9863401e4876d25ec5ede3df0201ff158) ∷
          (3, 0x8edf8582d25478f63c4662451584cbae510d7c3b4098eb6d738d005793903297) ∷
          (31, 0x176662b02eca1d8d27f32fffe28b0561e13eb930e46be894c928c62a9bf61239) ∷
          [];
    } in
    record {
      word = 0xfff66157;
      before = s;
      end = Retired;
      after = record s {
        pc = 0x10000804;
        vstart = 0;
        v = (2, 0x798ae85c9d5700df379840502983d1f986326f94876b99985edd0604201ff158) ∷
            s.v;
      };
    }

-- vwmaccu.vx v24, x20, v9
abbrev pub vwmaccu_vx : Case
vwmaccu_vx =
    let s : State = record start {
      vl = 32;
      vtype = typed E8 M1 true true;
      x = (20, 0x6) ∷ [];
      v = (9, 0x55004a557fff970281550240ad8023aa026e55feff40c1c902be42aa7f406b02) ∷
          (24, 0x9848001cefc8d4c070b29a3a7a4fbeb151b9fd97fff0000aaaa99180ed0ffff) ∷
          (25, 0x83aefffe7e704bf893f1fffffffeafc0644300018000728e5555000100028fb4) ∷
          [];
    } in
    record {
      word = 0xf29a6c57;
      before = s;
      end = Retired;
      after = record s {
        pc = 0x10000804;
        v = (24, 0x9908295d0fa93400d052b23ac2a00a11527a44d818b03fcada49a981152000b) ∷
            (25, 0x85acfffe802c4df696eb05f90388afcc674901ff800c740e5963030100d493b0) ∷
            s.v;
      };
    }

-- vwmaccus.vx v20, x19, v28
abbrev pub vwmaccus_vx : Case
vwmaccus_vx =
    let s : State = record start {
      vl = 8;
      vtype = typed E8 Mf4 false false;
      vxrm = Odd;
      x = (19, 0xfffffffffffffffe) ∷ [];
      v = (20, 0x9129b03915568001000079bc555538b0856a0000d51a9ac05555fffe00022022) ∷
          (28, 0xf140ff47bf81f181aa9bf9aa7f8102ffd6d0557b2b0280006b810116ed40a3aa) ∷
          [];
    } in
    record {
      word = 0xfbc9ea57;
      before = s;
      end = Retired;
      after = record s {
        pc = 0x10000804;
        v = (20, 0x9129b03915568001000079bc555538b0ef9481fed618b094427b3f7ea3bccace) ∷
            s.v;
      };
    }

-- vwmul.vx v26, v25, x20, v0.t
abbrev pub vwmul_vx : Case
vwmul_vx =
    let s : State = record start {
      policy = Ones;
      vl = 15;
      vtype = typed E8 Mf2 true false;
      vxrm = Odd;
      vxsat = true;
      x = (20, 0x8000000000000001) ∷ [];
      v = (0, 0xa0c2320ecf47a639c4faaa2ec3fb5f033e1f6d264d303b8f4905051d1e5d3605) ∷
          (25, 0x9120c3aa7f547f004080ffbafea912555584ff02652be6dc3b81f69001ccadaa) ∷
          (26, 0x33b2ac0b7f1867bf5dc17ffff8beaf55fffe40006784804780017fffa1407fff) ∷
          [];
    } in
    record {
      word = 0xed9a6d57;
      before = s;
      end = Retired;
      after = record s {
        pc = 0x10000804;
        v = (26, 0xffffac0bffff00025dc1002bffe6af55fffe4000678480478001ffcca140ffaa) ∷
            s.v;
      };
    }

-- vwmulsu.vx v5, v16, x29
abbrev pub vwmulsu_vx : Case
vwmulsu_vx =
    let s : State = record start {
      vl = 6;
      vtype = typed E8 Mf4 true false;
      vxrm = Odd;
      x = (29, 0x40) ∷ [];
      v = (5, 0x7fffffff800100020002400000010000000055550002ffffaaaa40005555fffe) ∷
          (16, 0xffff558080ff7f8102ff5540400202aa00fe55ff0100fe7ffefeffff81400180) ∷
          [];
    } in
    record {
      word = 0xeb0ee2d7;
      before = s;
      end = Retired;
      after = record s {
        pc = 0x10000804;
        v = (5, 0x7fffffff80010002000240000001000000005555ffc0ffc0e04010000040e000) ∷
            s.v;
      };
    }

-- vwmulu.vv v2, v7, v31, v0.t
abbrev pub vwmulu_vv : Case
vwmulu_vv =
    let s : State = record start {
      vl = 4;
      vtype = typed E8 Mf4 false false;
      vxrm = NearestEven;
      v = (0, 0xffffffffffffffffffffffffffffffffffffffffffffffffffffffffffffffff) ∷
          (2, 0x200000007000300000000000700050007ffff000100000005000500030005) ∷
          (7, 0x10305000505000003000107070005ff0507ff07ff01ffff02030705050005ff) ∷
          (31, 0x5030705ffff0303ff0101000203010300ff00050200020303ff050502020501) ∷
          [];
    } in
    record {
      word = 0xe07fa157;
      before = s;
      end = Retired;
      after = record s {
        pc = 0x10000804;
        v = (2, 0x200000007000300000000000700050007ffff00010000000a0000001900ff) ∷
            s.v;
      };
    }

-- vwsub.vx v12, v7, x5
abbrev pub vwsub_vx : Case
vwsub_vx =
    let s : State = record start {
      policy = Ones;
      vl = 6;
      vtype = typed E16 M1 true false;
      x = (5, 0x5) ∷ [];
      v = (7, 0x906d80007fff555515fb8000ffff4000555580008001a796923518ec079bc279) ∷
          (12, 0x516ab295aaaaaaaa5d5eaaccfffffffe400000007fffffffaaaaaaaa55555555) ∷
          (13, 0xedbf7c2aaaaaaaa98817620026a3160ffffffff2385943300000000a0e18e11) ∷
          [];
    } in
    record {
      word = 0xce72e657;
      before = s;
      end = Retired;
      after = record s {
        pc = 0x10000804;
        v = (12, 0xffffffffffffffffffff7ffcffffa791ffff9230000018e700000796ffffc274) ∷
            (13, 0xffffffffffffffffffffffffffffffffffffffffffffffffffffffffffffffff) ∷
            s.v;
      };
    }

-- vwsub.wv v1, v14, v28, v0.t
abbrev pub vwsub_wv : Case
vwsub_wv =
    let s : State = record start {
      vl = 5;
      vtype = typed E8 Mf4 false false;
      v = (0, 0xfffffffffffffffffffffffffffffffffffffffffffffffffefffffffeffffaf) ∷
          (1, 0xa26d4ee38508c979fd8b83c03449bac0b83434f73fe9126790bd3018864b890d) ∷
          (14, 0xedd296e3fbe314745cc1a0b8d8c7067e9b60df55d348b289c46fbe67227cdef7) ∷
          (28, 0x86b0e96f8767ece52f5c3f8d1785f26589092d53ed9373459d824c1f4562772c) ∷
          [];
    } in
    record {
      word = 0xdcee20d7;
      before = s;
      end = Retired;
      after = record s {
        pc = 0x10000804;
        v = (1, 0xa26d4ee38508c979fd8b83c03449bac0b83434f73fe91267c42abe052205decb) ∷
            s.v;
      };
    }

-- vwsubu.vv v20, v19, v19
abbrev pub vwsubu_vv : Case
vwsubu_vv =
    let s : State = record start {
      vl = 4;
      vtype = typed E16 Mf4 false false;
      vxrm = NearestEven;
      vxsat = true;
      v = (19, 0xa7273aa28080007fff556cfffe000155553a04ec1a5b96d3380001e53eaaaa) ∷
          (20, 0xfffffffe555555550000000280000000aaaaaaaa8000000180000001452d5704) ∷
          [];
    } in
    record {
      word = 0xcb39aa57;
      before = s;
      end = Retired;
      after = record s {
        pc = 0x10000804;
        v = (20, 0xfffffffe55555555000000028000000000000000000000000000000000000000) ∷
            s.v;
      };
    }

-- vwsubu.wx v30, v31, x25, v0.t
abbrev pub vwsubu_wx : Case
vwsubu_wx =
    let s : State = record start {
      policy = Ones;
      vl = 6;
      vtype = typed E8 Mf4 false true;
      vxrm = Odd;
      x = (25, 0x4000000000000000) ∷ [];
      v = (0, 0x122afa8edb7f61980fc23398cfcb234b68777a19df0ac65ea777150a88f4a599) ∷
          (30, 0xc3be9c60c1c332364f6b9af249717e2b17310978e3ffd8b659294ece5cabedde) ∷
          (31, 0x35c0a93797ac8cebb7fe2d28b0c7be858c209cf1d195129458e64e8c4b9eff23) ∷
          [];
    } in
    record {
      word = 0xd9fcef57;
      before = s;
      end = Retired;
      after = record s {
        pc = 0x10000804;
        v = (30, 0xc3be9c60c1c332364f6b9af249717e2b17310978ffff129458e6ffffffffff23) ∷
            s.v;
      };
    }
