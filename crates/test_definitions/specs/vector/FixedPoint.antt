-- Fixed-point arithmetic. tools/golden/golden_theorems writes this file from lab/tests/data/golden_vectors.
use Rattle.std.specs.Prelude.{[], ◌∷◌, true, false}
use Rattle.rv_model.specs.declared.vector.policy.Policy.TheVariants.{Ones}
use Rattle.rv_model.specs.declared.vector.state.RoundingMode.TheVariants.{NearestEven, Down, Odd}
use Rattle.rv_model.specs.declared.vector.types.Lmul.TheVariants.{M1, M2, Mf8, Mf4, Mf2}
use Rattle.rv_model.specs.declared.vector.types.Sew.TheVariants.{E8, E16, E32, E64}
use Rattle.test_definitions.specs.States.{Case, State, start, typed, Retired}

-- vaadd.vv v24, v4, v12, v0.t
abbrev pub vaadd_vv : Case
vaadd_vv =
    let s : State = record start {
      vl = 8;
      vtype = typed E8 Mf2 true true;
      vxrm = NearestEven;
      vxsat = true;
      v = (0, 0xfffffffffffffffffffffffffffffffffffffffffffffffffffffffffffdffff) ∷
          (4, 0x10007010300030205ff070703030102ff03070300030703070305ff05) ∷
          (12, 0xff05020007010000010300030201050705070705000207000207000702030705) ∷
          (24, 0x2ff0502020203070200ff01ff07000501070103010507000307050500020707) ∷
          [];
    } in
    record {
      word = 0x24462c57;
      before = s;
      end = Retired;
      after = record s {
        pc = 0x10000804;
        v = (24, 0x2ff0502020203070200ff01ff07000501070103010507000207020702040305) ∷
            s.v;
      };
    }

-- vaaddu.vx v28, v8, x11
abbrev pub vaaddu_vx : Case
vaaddu_vx =
    let s : State = record start {
      policy = Ones;
      vl = 4;
      vtype = typed E32 Mf2 true true;
      vxrm = Down;
      x = (11, 0xc4dc36720e3e0103) ∷ [];
      v = (8, 0x400000008000000100000000ffffffff0000000280000000fffffffe40000000) ∷
          (28, 0xffffffff00000002555555557fffffff55555555000000028000000100000001) ∷
          [];
    } in
    record {
      word = 0x2285ee57;
      before = s;
      end = Retired;
      after = record s {
        pc = 0x10000804;
        v = (28, 0xffffffffffffffffffffffffffffffff071f0082471f0081871f0080271f0081) ∷
            s.v;
      };
    }

-- vasub.vv v26, v23, v11, v0.t
abbrev pub vasub_vv : Case
vasub_vv =
    let s : State = record start {
      vl = 6;
      vtype = typed E8 Mf4 true true;
      vxrm = Down;
      v = (0, 0xffffffffffffffffffffffffffffffffffffffffffffffffffffffffffffffff) ∷
          (11, 0xcbcd9c4b8be95513d929b7d6d3fe4406626241d656a10870b719464aa966d544) ∷
          (23, 0xedfe176a09debdf3a113a4ad17e5fc7078cdf6ded2b4a96ad62c100b781da81) ∷
          (26, 0x5b989647b021d9c78f54319b8d97fe1331df49f674235201644b9fd42971d51d) ∷
          [];
    } in
    record {
      word = 0x2d75ad57;
      before = s;
      end = Retired;
      after = record s {
        pc = 0x10000804;
        v = (26, 0x5b989647b021d9c78f54319b8d97fe1331df49f674235201644bbddb078d029e) ∷
            s.v;
      };
    }

-- vasubu.vv v29, v29, v29
abbrev pub vasubu_vv : Case
vasubu_vv =
    let s : State = record start {
      vl = 3;
      vtype = typed E8 Mf8 false true;
      vxrm = Odd;
      vxsat = true;
      v = (29, 0x8013022901aa55957f00aaff6c000c237ffead0740cc41736133fec192d34040) ∷
          [];
    } in
    record {
      word = 0x2bdeaed7;
      before = s;
      end = Retired;
      after = record s {
        pc = 0x10000804;
        v = (29, 0x8013022901aa55957f00aaff6c000c237ffead0740cc41736133fec192000000) ∷
            s.v;
      };
    }

-- vnclip.wx v20, v15, x11, v0.t
abbrev pub vnclip_wx : Case
vnclip_wx =
    let s : State = record start {
      vl = 16;
      vtype = typed E8 Mf2 false true;
      x = (11, 0xa6af289c670a109b) ∷ [];
      v = (0, 0x8e8dbd3ebf65325e1d18b8f88932743899ac9437e312b206b7e2a230fdc3a2fd) ∷
          (15, 0xffffffff5d6c26e1492b02630000d04e037d55557fff741b7035000040008000) ∷
          (20, 0xc7e902b6ffcffe5102b6e501913236aa0987738100b1d0aa8400ff7f37aafb01) ∷
          [];
    } in
    record {
      word = 0xbcf5ca57;
      before = s;
      end = Retired;
      after = record s {
        pc = 0x10000804;
        v = (20, 0xc7e902b6ffcffe5102b6e501913236aa00870c8100b100aa000b100f0e00fbf0) ∷
            s.v;
      };
    }

-- vnclip.wi v17, v2, 0
abbrev pub vnclip_wi : Case
vnclip_wi =
    let s : State = record start {
      vl = 4;
      vtype = typed E16 M1 false false;
      vxrm = Odd;
      v = (2, 0x42a4cfecc740423100000001835c3bd1fffffffe0000000219227afc55555555) ∷
          (3, 0x5bd4b7be000000006a734eb1000000008000000135f6a55e0000000200000000) ∷
          (17, 0xffffaaaa4000800000015ebe13ce3d090002e0440000ea96da78000004cafffe) ∷
          [];
    } in
    record {
      word = 0xbe2038d7;
      before = s;
      end = Retired;
      after = record s {
        pc = 0x10000804;
        vxsat = true;
        v = (17, 0xffffaaaa4000800000015ebe13ce3d090002e0440000ea96fffe00027fff7fff) ∷
            s.v;
      };
    }

-- vnclipu.wv v1, v23, v6, v0.t
abbrev pub vnclipu_wv : Case
vnclipu_wv =
    let s : State = record start {
      vl = 3;
      vtype = typed E8 Mf2 false false;
      vxrm = Odd;
      vxsat = true;
      v = (0, 0xffffffffffffffffffffffffffffffffffffffffffffffffffffffffffffffff) ∷
          (1, 0x81ff0202c2aa8076390aff625caa0453000181816eaafe405cfe8980b080a380) ∷
          (6, 0x32406381870080ffaaf15501ff2e40961ad500814ebeff4036029c5596a1fe40) ∷
          (23, 0xfffefffeb5a5d478ca0518167a63ffffb23b9eb416b1c126fe012bc255558000) ∷
          [];
    } in
    record {
      word = 0xb97300d7;
      before = s;
      end = Retired;
      after = record s {
        pc = 0x10000804;
        v = (1, 0x81ff0202c2aa8076390aff625caa0453000181816eaafe405cfe8980b0ff01ff) ∷
            s.v;
      };
    }

-- vnclipu.wv v9, v10, v8
abbrev pub vnclipu_wv_2 : Case
vnclipu_wv_2 =
    let s : State = record start {
      policy = Ones;
      vl = 23;
      vtype = typed E8 M1 false false;
      v = (8, 0xaa024055010180fe808100fe810102ff81ff805581814002fe4081ffaa0202) ∷
          (9, 0x40aa02fe4001ff01557f40aa40aaff02ff024040ff0101fe01feff808055807f) ∷
          (10, 0xfffefffe5555aaaa555580004000800100028001fffe8001000000000002ffff) ∷
          (11, 0x555500014000fffe8000aaaa000200000002800000010002555580017ffffffe) ∷
          [];
    } in
    record {
      word = 0xbaa404d7;
      before = s;
      end = Retired;
      after = record s {
        pc = 0x10000804;
        vxsat = true;
        v = (9, 0x40aa02fe4001ff0155ff010201ffffff02ff01ffffffffff0102ffff000001ff) ∷
            s.v;
      };
    }

-- vsadd.vi v29, v11, 1, v0.t
abbrev pub vsadd_vi : Case
vsadd_vi =
    let s : State = record start {
      vl = 8;
      vtype = typed E32 M1 true false;
      vxrm = NearestEven;
      v = (0, 0xc267bf47f20f9dd35801aed6d7d2b2fd50175d67f15b5a8b70bc89c744cb9d61) ∷
          (11, 0x2000000018000000000000002fffffffe800000000000000100000001) ∷
          (29, 0xffffffff8000000100000000aaaaaaaaffffffff400000008000000180000001) ∷
          [];
    } in
    record {
      word = 0x84b0bed7;
      before = s;
      end = Retired;
      after = record s {
        pc = 0x10000804;
        v = (29, 0xffffffff0000000280000001aaaaaaaaffffffff400000008000000100000002) ∷
            s.v;
      };
    }

-- vsadd.vv v27, v29, v27
abbrev pub vsadd_vv : Case
vsadd_vv =
    let s : State = record start {
      vl = 4;
      vtype = typed E8 Mf8 true false;
      vxrm = Down;
      v = (27, 0xfe8b3c81e04ed2f3907f008155015355766840aa4601707fcbd8ec6955357f31) ∷
          (29, 0x99fe55a987fe0255a981cffe9baae07faaaa018144ed7f00d1025501f1367f7b) ∷
          [];
    } in
    record {
      word = 0x87dd8dd7;
      before = s;
      end = Retired;
      after = record s {
        pc = 0x10000804;
        vxsat = true;
        v = (27, 0xfe8b3c81e04ed2f3907f008155015355766840aa4601707fcbd8ec69466b7f7f) ∷
            s.v;
      };
    }

-- vsaddu.vx v18, v21, x7
abbrev pub vsaddu_vx : Case
vsaddu_vx =
    let s : State = record start {
      policy = Ones;
      vl = 7;
      vtype = typed E16 M1 true false;
      vxrm = Odd;
      x = (7, 0x1) ∷ [];
      v = (18, 0x2fffe00000002000055557fff40004000ffff80018001fffe4000aaaa8001) ∷
          (21, 0xaaaa55555555ffff80004000800100007fff00027fff0001aaaa800180015555) ∷
          [];
    } in
    record {
      word = 0x8353c957;
      before = s;
      end = Retired;
      after = record s {
        pc = 0x10000804;
        v = (18, 0xffffffffffffffffffffffffffffffffffff000380000002aaab800280025556) ∷
            s.v;
      };
    }

-- vsaddu.vi v22, v5, -16
abbrev pub vsaddu_vi : Case
vsaddu_vi =
    let s : State = record start {
      vl = 16;
      vtype = typed E8 Mf2 false false;
      vxrm = Odd;
      v = (5, 0x81b489fe4e55aa7f11f6091baa8000dd908000ff7f87008053aa0201fe010140) ∷
          (22, 0xf02b6a1c62f8865501e7aa5c8040fe01908102e7809540ff948004684001aacd) ∷
          [];
    } in
    record {
      word = 0x82583b57;
      before = s;
      end = Retired;
      after = record s {
        pc = 0x10000804;
        vxsat = true;
        v = (22, 0xf02b6a1c62f8865501e7aa5c8040fe01fffff0fffffff0fffffff2f1fff1f1ff) ∷
            s.v;
      };
    }

-- vsmul.vv v6, v5, v2, v0.t
abbrev pub vsmul_vv : Case
vsmul_vv =
    let s : State = record start {
      vl = 8;
      vtype = typed E16 Mf2 true true;
      v = (0, 0xbb207f6ea87337e509990e3de0f2bde1eee3d2352d3d20e7846194dd8d25f99f) ∷
          (2, 0x700050001ffff0005ffffffff00010005ffff000200000001000500020000) ∷
          (5, 0x50007000200050005ffff000200030007ffff0007ffff0001ffffffff0001) ∷
          (6, 0xffff0007ffff0007000700020003000100000005000500010000000200070005) ∷
          [];
    } in
    record {
      word = 0x9c510357;
      before = s;
      end = Retired;
      after = record s {
        pc = 0x10000804;
        v = (6, 0xffff0007ffff0007000700020003000100000005000500000000000000000000) ∷
            s.v;
      };
    }

-- vssra.vx v20, v18, x21
abbrev pub vssra_vx : Case
vssra_vx =
    let s : State = record start {
      policy = Ones;
      vl = 15;
      vtype = typed E32 M2 false false;
      vstart = 11;
      x = (21, 0xfffffffffffffffe) ∷ [];
      v = (18, 0x16d63ce0d0bbf63dc5f6f31bc2f064e6209f72750acb3b02f6a9a795eac18c57) ∷
          (19, 0x687eb924910913bd9dffcb0b9728fefe08d63d15f9f866ca1a3b28fa0f445c79) ∷
          (20, 0x9b181bfa437c2e168a8cec4c6ebc56e696bb2c636dc8d6d35a19293d6bf7d6aa) ∷
          (21, 0x19149e9f079ea41a1f515b9d27fd76f1c308160b0ee062fcd1a5d3dd2a53a73b) ∷
          [];
    } in
    record {
      word = 0xaf2aca57;
      before = s;
      end = Retired;
      after = record s {
        pc = 0x10000804;
        vstart = 0;
        v = (21, 0x19149e9ffffffffefffffffefffffffe000000000ee062fcd1a5d3dd2a53a73b) ∷
            s.v;
      };
    }

-- vssrl.vi v29, v12, 0, v0.t
abbrev pub vssrl_vi : Case
vssrl_vi =
    let s : State = record start {
      vl = 8;
      vtype = typed E32 M1 false false;
      v = (0, 0xffffffffffffffffffffffffffffffffffffffffffffffffffffffffffffffff) ∷
          (12, 0xe516a7ac86682b4aa1fb705803ffd2f33d175dbfddcec8cdc8a97411a9a2bf2a) ∷
          (29, 0x5d5c8635ae8632b2be10db125af0db414b169730fbb8869ba0605b8ad36a4a0b) ∷
          [];
    } in
    record {
      word = 0xa8c03ed7;
      before = s;
      end = Retired;
      after = record s {
        pc = 0x10000804;
        v = (29, 0xe516a7ac86682b4aa1fb705803ffd2f33d175dbfddcec8cdc8a97411a9a2bf2a) ∷
            s.v;
      };
    }

-- vssub.vx v20, v8, x13
abbrev pub vssub_vx : Case
vssub_vx =
    let s : State = record start {
      vl = 8;
      vtype = typed E16 Mf2 false true;
      vxrm = Odd;
      vxsat = true;
      x = (13, 0x7fffffffffffffff) ∷ [];
      v = (8, 0x80008000ffff0000ffffffff800180017ffffffffffe8000ffff800040008001) ∷
          (20, 0x80018001ffff00017fff555580007fff0001000200025555fffe0002aaaafffe) ∷
          [];
    } in
    record {
      word = 0x8e86ca57;
      before = s;
      end = Retired;
      after = record s {
        pc = 0x10000804;
        v = (20, 0x80018001ffff00017fff555580007fff7fff0000ffff80010000800140018002) ∷
            s.v;
      };
    }

-- vssub.vx v2, v2, x9
abbrev pub vssub_vx_2 : Case
vssub_vx_2 =
    let s : State = record start {
      vl = 7;
      vtype = typed E64 M2 true true;
      vxrm = NearestEven;
      x = (9, 0x2) ∷ [];
      v = (2, 0x2d656a60a9d198087480a21a0ab12c5e5e7e511dfa2527ffaaaaaaaaaaaaaaaa) ∷
          (3, 0x6abaa58a8c42fa3e74d0309cc82d3393b012bebd714958e98000000000000001) ∷
          [];
    } in
    record {
      word = 0x8e24c157;
      before = s;
      end = Retired;
      after = record s {
        pc = 0x10000804;
        vxsat = true;
        v = (2, 0x2d656a60a9d198067480a21a0ab12c5c5e7e511dfa2527fdaaaaaaaaaaaaaaa8) ∷
            (3, 0x6abaa58a8c42fa3e74d0309cc82d3391b012bebd714958e78000000000000000) ∷
            s.v;
      };
    }

-- vssubu.vx v0, v1, x6
abbrev pub vssubu_vx : Case
vssubu_vx =
    let s : State = record start {
      vl = 21;
      vtype = typed E8 M1 false false;
      vxsat = true;
      x = (6, 0x8000000000000000) ∷ [];
      v = (0, 0x5581cb80014055aafe34c51d81810d5500445d553b27786a3cc9557fa1000234) ∷
          (1, 0xfefca8bd4001a4a2e641aad98f8140d440ff01a554aa75965b0e80a17f023701) ∷
          [];
    } in
    record {
      word = 0x8a134057;
      before = s;
      end = Retired;
      after = record s {
        pc = 0x10000804;
        v = (0, 0x5581cb80014055aafe34c5d98f8140d440ff01a554aa75965b0e80a17f023701) ∷
            s.v;
      };
    }

-- vssubu.vv v24, v29, v7, v0.t
abbrev pub vssubu_vv : Case
vssubu_vv =
    let s : State = record start {
      vl = 6;
      vtype = typed E32 M1 false false;
      v = (0, 0x4dad7f468a55d37cd5600b2d0232f5595b39f7466489e57ad7779c479ba7eff5) ∷
          (7, 0xaaaaaaaafffffffffffffffe55555555ffffffff5555555500000001) ∷
          (24, 0x7fffffff55555555aaaaaaaa7fffffff40000000800000017fffffffffffffff) ∷
          (29, 0xaaaaaaaa4000000080000000aaaaaaaa80000001fffffffe7fffffff55555555) ∷
          [];
    } in
    record {
      word = 0x89d38c57;
      before = s;
      end = Retired;
      after = record s {
        pc = 0x10000804;
        vxsat = true;
        v = (24, 0x7fffffff55555555000000000000000040000000000000007fffffff55555554) ∷
            s.v;
      };
    }
