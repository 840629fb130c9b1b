-- Vector integer arithmetic with operands of one width. tools/golden/golden_theorems writes this file from lab/tests/data/golden_vectors.
use Rattle.std.specs.Prelude.{[], ◌∷◌, true, false}
use Rattle.rv_model.specs.declared.vector.policy.Policy.TheVariants.{Ones}
use Rattle.rv_model.specs.declared.vector.state.RoundingMode.TheVariants.{NearestEven, Down, Odd}
use Rattle.rv_model.specs.declared.vector.types.Lmul.TheVariants.{M1, M2, Mf4, Mf2}
use Rattle.rv_model.specs.declared.vector.types.Sew.TheVariants.{E8, E16, E32, E64}
use Rattle.test_definitions.specs.States.{Case, State, start, typed, Retired}

-- vadc.vxm v7, v13, x30, v0
abbrev pub vadc_vxm : Case
vadc_vxm =
    let s : State = record start {
      vl = 11;
      vtype = typed E16 M1 false true;
      vxrm = NearestEven;
      x = (30, 0xaaaaaaaaaaaaaaaa) ∷ [];
      v = (0, 0x83223cf0df0e45be34f584624b0341f9d45da326a59db4b110f557374521bea8) ∷
          (7, 0xffff00028c78c943345f8000eed55555800133ccfffe00024d2c0000a7f3049a) ∷
          (13, 0x800019ce57c118ee000176ec43d755558d717fffb29b88398000a451a6624000) ∷
          [];
    } in
    record {
      word = 0x40df43d7;
      before = s;
      end = Retired;
      after = record s {
        pc = 0x10000804;
        v = (7, 0xffff00028c78c943345f2197ee82ffff381c2aa95d4632e32aab4efb510ceaaa) ∷
            s.v;
      };
    }

-- vadd.vx v24, v22, x22
abbrev pub vadd_vx : Case
vadd_vx =
    let s : State = record start {
      policy = Ones;
      vl = 7;
      vtype = typed E32 M1 false true;
      vxrm = Odd;
      vxsat = true;
      x = (22, 0x4000000000000000) ∷ [];
      v = (22, 0x50000000500000003ffffffff00000000000000070000000300000001) ∷
          (24, 0x700000001ffffffff00000005000000050000000700000002ffffffff) ∷
          [];
    } in
    record {
      word = 0x036b4c57;
      before = s;
      end = Retired;
      after = record s {
        pc = 0x10000804;
        v = (24, 0x70000000500000003ffffffff00000000000000070000000300000001) ∷
            s.v;
      };
    }

-- vand.vv v14, v16, v16, v0.t
abbrev pub vand_vv : Case
vand_vv =
    let s : State = record start {
      vl = 10;
      vtype = typed E16 M1 false false;
      vxrm = NearestEven;
      v = (0, 0x64f5e218aa37ddd5f07dcb9159731e6ac5ac867fef089b0d0ed0b3447c41e0fe) ∷
          (14, 0x4000000280010000400055558000555580008000aaaaaaaa5555000055550000) ∷
          (16, 0xfffeaaaaaaaa555555557fffffff0000fffffffffffe0001aaaa800180000001) ∷
          [];
    } in
    record {
      word = 0x25080757;
      before = s;
      end = Retired;
      after = record s {
        pc = 0x10000804;
        v = (14, 0x40000002800100004000555580005555fffffffffffe0001aaaa800180000000) ∷
            s.v;
      };
    }

-- vdiv.vv v0, v1, v0
abbrev pub vdiv_vv : Case
vdiv_vv =
    let s : State = record start {
      vl = 16;
      vtype = typed E16 M1 true false;
      vstart = 12;
      v = (0, 0x7fff000100010000000180018001fffffffefffeaaaa00010002000080010002) ∷
          (1, 0xaaaaffff40008001fffffffe80017fff55554000fffeaaaa7fff00004000ffff) ∷
          [];
    } in
    record {
      word = 0x86102057;
      before = s;
      end = Retired;
      after = record s {
        pc = 0x10000804;
        vstart = 0;
        v = (0, 0xffff4000ffff000180018001fffffffefffeaaaa00010002000080010002) ∷
            s.v;
      };
    }

-- vdivu.vx v2, v28, x23
abbrev pub vdivu_vx : Case
vdivu_vx =
    let s : State = record start {
      policy = Ones;
      vl = 26;
      vtype = typed E8 M2 true true;
      x = (23, 0x8000000000000001) ∷ [];
      v = (2, 0x4d8855ff8c52996dff0240c78b0ea7d90180120255ff00aafefeaa5d55807c02) ∷
          (3, 0x7f2be6eb80b5161bffb3a8aa4319e1ef7ffe88ff008bdc7ffa01a4a481d05293) ∷
          (28, 0xaa7fe11b81400840ff7b1495923f32fe81401101e71854982600e6810240734d) ∷
          (29, 0x807f6701dd4062838b24aa409a80745595405502d102fffff5a421d385cb95ff) ∷
          [];
    } in
    record {
      word = 0x83cbe157;
      before = s;
      end = Retired;
      after = record s {
        pc = 0x10000804;
        v = (2, 0xffffffffffff0840ff7b1495923f32fe81401101e71854982600e6810240734d) ∷
            (3, 0xffffffffffffffffffffffffffffffffffffffffffffffffffffffffffffffff) ∷
            s.v;
      };
    }

-- vmacc.vx v14, x17, v19
abbrev pub vmacc_vx : Case
vmacc_vx =
    let s : State = record start {
      vl = 31;
      vtype = typed E8 M1 false false;
      vxrm = Odd;
      x = (17, 0x2) ∷ [];
      v = (14, 0xff01ffff7ffeaa40817f557f017ffe00020255feff7fff004001408100550140) ∷
          (19, 0xaaff558080550280aa010080aa7f557fff8102aaff7f010255fe55aa55fffe40) ∷
          [];
    } in
    record {
      word = 0xb738e757;
      before = s;
      end = Retired;
      after = record s {
        pc = 0x10000804;
        v = (14, 0xffffa9ff7fa8ae40d581557f557da8fe00045952fd7d0104eafdead5aa53fdc0) ∷
            s.v;
      };
    }

-- vmadd.vv v23, v6, v25, v0.t
abbrev pub vmadd_vv : Case
vmadd_vv =
    let s : State = record start {
      vl = 8;
      vtype = typed E16 Mf2 false false;
      vxrm = Odd;
      v = (0, 0xfffffffffffffffffffffffffffffffffffffffffffffffffffffffffbffff7f) ∷
          (6, 0x400000000001000100024000aaaaffff0000555500000000ffff80004000aaaa) ∷
          (23, 0xffff40004000555500018000000280017fff80014000fffeffffffff55557fff) ∷
          (25, 0x7ffffffeaaaa8001555500010001fffe8001ffff0001fffe0001fffe40007fff) ∷
          [];
    } in
    record {
      word = 0xa5932bd7;
      before = s;
      end = Retired;
      after = record s {
        pc = 0x10000804;
        v = (23, 0xffff40004000555500018000000280017fffd5540001fffe00027ffe8000d555) ∷
            s.v;
      };
    }

-- vmax.vx v18, v28, x16
abbrev pub vmax_vx : Case
vmax_vx =
    let s : State = record start {
      policy = Ones;
      vl = 7;
      vtype = typed E32 M2 true false;
      vxrm = Odd;
      vxsat = true;
      x = (16, 0x5555555555555555) ∷ [];
      v = (18, 0xaaaaaaaaaaaaaaaaffffffff00000002fffffffe000000010000000100000001) ∷
          (19, 0x100000000aaaaaaaa8000000080000000555555555555555500000002) ∷
          (28, 0x7fffffff55555555000000028000000100000001aaaaaaaa7fffffff55555555) ∷
          (29, 0x180000001800000010000000040000000800000017fffffff00000001) ∷
          [];
    } in
    record {
      word = 0x1fc84957;
      before = s;
      end = Retired;
      after = record s {
        pc = 0x10000804;
        v = (18, 0xffffffff55555555555555555555555555555555555555557fffffff55555555) ∷
            (19, 0xffffffffffffffffffffffffffffffffffffffffffffffffffffffffffffffff) ∷
            s.v;
      };
    }

-- vmaxu.vv v21, v21, v24, v0.t
abbrev pub vmaxu_vv : Case
vmaxu_vv =
    let s : State = record start {
      vl = 13;
      vtype = typed E8 Mf2 true true;
      vxrm = Down;
      v = (0, 0xa5f4eb011811f5c6780b2e3e49990d46cd3341e64c79d4f22a42c114a27cffad) ∷
          (21, 0x1dba1a1dc19927cea56539e94379271724aba050b954f6a5a9d65418da3a560f) ∷
          (24, 0x5bd4cc1aac7c3b5880c0bde2fb79070a24e32b933a4cca3dada08b2a31b1bbe9) ∷
          [];
    } in
    record {
      word = 0x195c0ad7;
      before = s;
      end = Retired;
      after = record s {
        pc = 0x10000804;
        v = (21, 0x1dba1a1dc19927cea56539e94379271724aba093b954f6a5add68b18dab156e9) ∷
            s.v;
      };
    }

-- vmerge.vim v10, v10, 10, v0
abbrev pub vmerge_vim : Case
vmerge_vim =
    let s : State = record start {
      vl = 7;
      vtype = typed E8 M1 false true;
      vxsat = true;
      v = (0, 0xfffffffffffffffffffffffffffffffffffffffffffffffffffffffbffffdfbf) ∷
          (10, 0x439bc21a5dcbb66dc80ebccded90bdb593840fee49022f050794f1296a5fea81) ∷
          [];
    } in
    record {
      word = 0x5ca53557;
      before = s;
      end = Retired;
      after = record s {
        pc = 0x10000804;
        v = (10, 0x439bc21a5dcbb66dc80ebccded90bdb593840fee49022f0507940a0a0a0a0a0a) ∷
            s.v;
      };
    }

-- vmin.vv v13, v31, v4, v0.t
abbrev pub vmin_vv : Case
vmin_vv =
    let s : State = record start {
      policy = Ones;
      vl = 11;
      vtype = typed E8 Mf2 false true;
      vxrm = Down;
      v = (0, 0xffffffffffffffffffffffffffffffffffffffffffffffffffffffffffffffff) ∷
          (4, 0xff0701020202050502000203ff0207000303000303ff050200070302ff050007) ∷
          (13, 0x7ff010300010705ff0702010005020303010505ff02ff05ff01050205020201) ∷
          (31, 0x500010207070305ff010001050303ff07010000020002020105ff0505030702) ∷
          [];
    } in
    record {
      word = 0x15f206d7;
      before = s;
      end = Retired;
      after = record s {
        pc = 0x10000804;
        v = (13, 0x7ff010300010705ff0702010005020303010505ffff02020005ff02ff030002) ∷
            s.v;
      };
    }

-- vminu.vx v14, v20, x10
abbrev pub vminu_vx : Case
vminu_vx =
    let s : State = record start {
      vl = 16;
      vtype = typed E8 M2 true true;
      vxrm = Down;
      x = (10, 0xff) ∷ [];
      v = (14, 0x7ff6a787507ffe7ffafefe80b0b22440c4aafb795c00be7f65faaa800dfe43d3) ∷
          (15, 0xffa496cd55849b80049a9755ff5502024097810e2b8d80aafea841815e81f858) ∷
          (20, 0x9e7c40bc407f3940020181d60e46908dc9290140feffd381557fee5a8280017f) ∷
          (21, 0x9381c1756c5b005501047d6605341a4020dba1aa6d0081005501ff375e017fa2) ∷
          [];
    } in
    record {
      word = 0x13454757;
      before = s;
      end = Retired;
      after = record s {
        pc = 0x10000804;
        v = (14, 0x7ff6a787507ffe7ffafefe80b0b22440c9290140feffd381557fee5a8280017f) ∷
            s.v;
      };
    }

-- vmul.vv v24, v25, v29, v0.t
abbrev pub vmul_vv : Case
vmul_vv =
    let s : State = record start {
      vl = 8;
      vtype = typed E32 M1 true false;
      vxrm = Odd;
      vxsat = true;
      v = (0, 0x4004245b43dd2b0f25c2494f39bbade9ee4e871de5687e6f0d8a5c11f8fdb346) ∷
          (24, 0x5ba0c061232e7b6edeb18f37ed50d9250f4e52727b0648c8cb2f9c7e956c9bcb) ∷
          (25, 0xd06b377f13a40a0a7b5c8c89b85bb11ace587666b256e02b85a1b677064f1120) ∷
          (29, 0xfaae7a2e240ab66ad20ba01cd7165d18f64e9c78cb668ed80ceab6c82ca2f7d0) ∷
          [];
    } in
    record {
      word = 0x959eac57;
      before = s;
      end = Retired;
      after = record s {
        pc = 0x10000804;
        v = (24, 0x5ba0c0618d734424deb18f37ed50d9250f4e527213c6fe48bad526f8956c9bcb) ∷
            s.v;
      };
    }

-- vmulh.vx v16, v27, x24
abbrev pub vmulh_vx : Case
vmulh_vx =
    let s : State = record start {
      policy = Ones;
      vl = 8;
      vtype = typed E16 Mf2 true false;
      vxrm = Down;
      vxsat = true;
      x = (24, 0x8000000000000001) ∷ [];
      v = (16, 0x100070001000100000002ffffffff00030007000700000007000000050007) ∷
          (27, 0x2000000020005000100020005000200010003000300030000000000020001) ∷
          [];
    } in
    record {
      word = 0x9fbc6857;
      before = s;
      end = Retired;
      after = record s {
        pc = 0x10000804;
        v = (16, 0xffffffffffffffffffffffffffffffff00000000000000000000000000000000) ∷
            s.v;
      };
    }

-- vmulhsu.vx v17, v2, x0, v0.t
abbrev pub vmulhsu_vx : Case
vmulhsu_vx =
    let s : State = record start {
      vl = 4;
      vtype = typed E32 Mf2 false false;
      v = (0, 0x16fb54085f3b3fc181c76f757548310ff42da1a55ba9dac17213de14c274acdd) ∷
          (2, 0xee8d73700f970c8c63b783e98d0d026abac8423f6235920689cac6350a47d3a8) ∷
          (17, 0x5018070676696acbd0ef7bd21c3d8d357d55e587359c2e7e63b3c662882fab8b) ∷
          [];
    } in
    record {
      word = 0x982068d7;
      before = s;
      end = Retired;
      after = record s {
        pc = 0x10000804;
        v = (17, 0x5018070676696acbd0ef7bd21c3d8d35000000000000000063b3c66200000000) ∷
            s.v;
      };
    }

-- vmulhu.vv v2, v1, v7
abbrev pub vmulhu_vv : Case
vmulhu_vv =
    let s : State = record start {
      vl = 31;
      vtype = typed E8 M1 true true;
      vxrm = Odd;
      v = (1, 0xaecc3d841c213922ca763cb1d0ba2f5fbafaa12c1786913fe9894599b8e24767) ∷
          (2, 0xc17cb4f873a6740728900de1b6483ade19e6c3d2c1f44bc4e0e42f508ac694d) ∷
          (7, 0xe13c594e864744231d652fdbd744b57f3f4e69efa9f423600dbec3bfd9fb22fe) ∷
          [];
    } in
    record {
      word = 0x9213a157;
      before = s;
      end = Retired;
      after = record s {
        pc = 0x10000804;
        v = (2, 0xc2f15280e090f04162e0b97ae31212f2d4c42290f7f13170b6534729bdd0966) ∷
            s.v;
      };
    }

-- vmv.v.v v3, v7
abbrev pub vmv_v_v : Case
vmv_v_v =
    let s : State = record start {
      policy = Ones;
      vl = 7;
      vtype = typed E16 Mf2 true true;
      v = (3, 0x30002000000050002ffff0003ffffffff0005000100030001000500030002) ∷
          (7, 0x7000500030005000500020005ffff00030000ffff0002ffff000100020002) ∷
          [];
    } in
    record {
      word = 0x5e0381d7;
      before = s;
      end = Retired;
      after = record s {
        pc = 0x10000804;
        v = (3, 0xffffffffffffffffffffffffffffffffffff0000ffff0002ffff000100020002) ∷
            s.v;
      };
    }

-- vnmsac.vv v30, v30, v31
abbrev pub vnmsac_vv : Case
vnmsac_vv =
    let s : State = record start {
      vl = 7;
      vtype = typed E8 Mf4 false true;
      vxrm = Down;
      v = (30, 0x76fdcf4afc361c09a7a4a7d1fd04b4f42245aaf4a09f8527a9269bfc1d3e3527) ∷
          (31, 0x6ea8f420aa6bf26c65ec2ae0ca5707f3dbc2c45ed303fdaa0c41addec1af44f3) ∷
          [];
    } in
    record {
      word = 0xbfff2f57;
      before = s;
      end = Retired;
      after = record s {
        pc = 0x10000804;
        v = (30, 0x76fdcf4afc361c09a7a4a7d1fd04b4f42245aaf4a09f8527a980dc7440dc2122) ∷
            s.v;
      };
    }

-- vnmsub.vv v9, v24, v17, v0.t
abbrev pub vnmsub_vv : Case
vnmsub_vv =
    let s : State = record start {
      vl = 12;
      vtype = typed E8 Mf2 false true;
      vxrm = Down;
      v = (0, 0x77aa6edb1cc11ef0181099aad05060205be0c6b1ead9b1b74c5b2339563ff1b1) ∷
          (9, 0x7050705020105ff0503050305020003020705ff010001050000000703010507) ∷
          (17, 0x70501070507030200030700030501ff02070303ff07ff0703000001ff070001) ∷
          (24, 0x10203030507020200070500050007ff010307020305ff0301030107010301) ∷
          [];
    } in
    record {
      word = 0xad1c24d7;
      before = s;
      end = Retired;
      after = record s {
        pc = 0x10000804;
        v = (9, 0x7050705020105ff0503050305020003020705ff0100010c030000fa030105fa) ∷
            s.v;
      };
    }

-- vor.vx v12, v28, x30
abbrev pub vor_vx : Case
vor_vx =
    let s : State = record start {
      policy = Ones;
      vl = 3;
      vtype = typed E64 M2 false false;
      x = (30, 0x1) ∷ [];
      v = (12, 0x5000000000000000100000000000000050000000000000000) ∷
          (13, 0x3ffffffffffffffffffffffffffffffff0000000000000000) ∷
          (28, 0x2000000000000000100000000000000010000000000000001) ∷
          (29, 0x10000000000000007ffffffffffffffff0000000000000000) ∷
          [];
    } in
    record {
      word = 0x2bcf4657;
      before = s;
      end = Retired;
      after = record s {
        pc = 0x10000804;
        v = (12, 0x5000000000000000100000000000000010000000000000001) ∷ s.v;
      };
    }

-- vrem.vv v14, v14, v22, v0.t
abbrev pub vrem_vv : Case
vrem_vv =
    let s : State = record start {
      vl = 7;
      vtype = typed E64 M2 false true;
      vxrm = Odd;
      v = (0, 0xc0a46a335dc872a3f03837eb5d9e965f5e60ec27fa87f6cb7ffcb70f33999439) ∷
          (14, 0x5000000000000000300000000000000070000000000000003) ∷
          (15, 0x300000000000000070000000000000000ffffffffffffffff) ∷
          (22, 0x3000000000000000700000000000000070000000000000002) ∷
          (23, 0xffffffffffffffff000000000000000100000000000000000000000000000002) ∷
          [];
    } in
    record {
      word = 0x8ceb2757;
      before = s;
      end = Retired;
      after = record s {
        pc = 0x10000804;
        v = (14, 0x2000000000000000300000000000000070000000000000001) ∷ s.v;
      };
    }

-- vremu.vv v26, v2, v14
abbrev pub vremu_vv : Case
vremu_vv =
    let s : State = record start {
      vl = 4;
      vtype = typed E16 Mf2 true true;
      vxrm = Odd;
      v = (2, 0xffff0005ffff0000ffff0001000200010003000300020003ffff0007ffff0001) ∷
          (14, 0x10003ffff000700050000000200070000000200000003000100020005ffff) ∷
          (26, 0x70007000000050003000300010005000200020002ffffffff000000070007) ∷
          [];
    } in
    record {
      word = 0x8a272d57;
      before = s;
      end = Retired;
      after = record s {
        pc = 0x10000804;
        v = (26, 0x70007000000050003000300010005000200020002ffff0000000100000001) ∷
            s.v;
      };
    }

-- vrsub.vx v14, v11, x28, v0.t
abbrev pub vrsub_vx : Case
vrsub_vx =
    let s : State = record start {
      policy = Ones;
      vl = 15;
      vtype = typed E8 Mf2 false true;
      vxrm = Odd;
      x = (28, 0x2) ∷ [];
      v = (0, 0xffffffffffffffffffffffffffffffffffffffffffffffffffffffffffffffff) ∷
          (11, 0x3385c98c579df851ee8e4fba853c4b5a2b1a18fbf4e54704100607563a7f499e) ∷
          (14, 0x6dabc1711747d48d33a873dd2073b5cfc47fd70cb64708ed0ef4dd0cb3389046) ∷
          [];
    } in
    record {
      word = 0x0cbe4757;
      before = s;
      end = Retired;
      after = record s {
        pc = 0x10000804;
        v = (14, 0x6dabc1711747d48d33a873dd2073b5cfc4e8ea070e1dbbfef2fcfbacc883b964) ∷
            s.v;
      };
    }

-- vsbc.vvm v28, v14, v27, v0
abbrev pub vsbc_vvm : Case
vsbc_vvm =
    let s : State = record start {
      vl = 8;
      vtype = typed E32 M1 true true;
      vstart = 3;
      vxsat = true;
      v = (0, 0x3a1de6a46c2d64f675161c9b315c8f03083e7bfe667350d3a30d41b2fc3573b4) ∷
          (14, 0x23d09e20a000000020b2de311720a6c53480462804000000000000000) ∷
          (27, 0xeb8fd90183df1258000000040000000aaaaaaaa20b2bf304f078c525483fc40) ∷
          (28, 0x2ec6778effffffff80000001000000020000000040000000fffffffeff7b4598) ∷
          [];
    } in
    record {
      word = 0x48ed8e57;
      before = s;
      end = Retired;
      after = record s {
        pc = 0x10000804;
        vstart = 0;
        v = (28, 0xf147027124cbf0e580000001cb2de310c75fc1a940000000fffffffeff7b4598) ∷
            s.v;
      };
    }

-- vsll.vv v7, v19, v25, v0.t
abbrev pub vsll_vv : Case
vsll_vv =
    let s : State = record start {
      vl = 8;
      vtype = typed E8 Mf4 false false;
      vxsat = true;
      v = (0, 0xfe17cdb0d797ef23e0201e1470a6229f3c8b65617b1923a864937f0d1f482113) ∷
          (7, 0x7f02405555010255aa7f7f7fff00aa557faafe40feffff40020200aa40fe80aa) ∷
          (19, 0xff807f55ff81aa00804081807f5581405580550080aa55550180555500fe0181) ∷
          (25, 0x55ff0140818101818102fe8181fe8081feaa817f40804080807f7f40ff0101ff) ∷
          [];
    } in
    record {
      word = 0x953c83d7;
      before = s;
      end = Retired;
      after = record s {
        pc = 0x10000804;
        v = (7, 0x7f02405555010255aa7f7f7fff00aa557faafe40feffff400202005540fe0280) ∷
            s.v;
      };
    }

-- vsra.vx v28, v5, x20
abbrev pub vsra_vx : Case
vsra_vx =
    let s : State = record start {
      policy = Ones;
      vl = 7;
      vtype = typed E8 M1 false false;
      vxrm = NearestEven;
      x = (20, 0x2) ∷ [];
      v = (5, 0x20fe7f0bed2d7fff02a07f77637c40ff52800159ff020002012980b00ea2fb76) ∷
          (28, 0x12930df7cff01400032657ffe9401fef48d13e10002213b800b5501af294081) ∷
          [];
    } in
    record {
      word = 0xa65a4e57;
      before = s;
      end = Retired;
      after = record s {
        pc = 0x10000804;
        v = (28, 0x12930df7cff01400032657ffe9401fef48d13e10002213b800ae0ec03e8fe1d) ∷
            s.v;
      };
    }

-- vsrl.vi v27, v22, 0, v0.t
abbrev pub vsrl_vi : Case
vsrl_vi =
    let s : State = record start {
      vl = 15;
      vtype = typed E16 M1 true false;
      vxrm = NearestEven;
      vxsat = true;
      v = (0, 0xffffffffffffffffffffffffffffffffffffffffffffffffffffffffffffffff) ∷
          (22, 0x40006582800178f41b17aaaa8000000190738001308d0eb90bdc5555e593fffe) ∷
          (27, 0x8430fffe15a780010000633b800016abbc9e0001ffff40009a507295ffff04b4) ∷
          [];
    } in
    record {
      word = 0xa1603dd7;
      before = s;
      end = Retired;
      after = record s {
        pc = 0x10000804;
        v = (27, 0x84306582800178f41b17aaaa8000000190738001308d0eb90bdc5555e593fffe) ∷
            s.v;
      };
    }

-- vsub.vv v12, v11, v25
abbrev pub vsub_vv : Case
vsub_vv =
    let s : State = record start {
      vl = 5;
      vtype = typed E32 M1 false true;
      vxrm = Down;
      vxsat = true;
      v = (11, 0xfffffffe00000000aaaaaaaaaaaaaaaafffffffe00000000400000007fffffff) ∷
          (12, 0x4000000055555555ffffffff8000000000000000aaaaaaaafffffffe00000002) ∷
          (25, 0x8000000100000002ffffffff55555555ffffffff800000000000000180000001) ∷
          [];
    } in
    record {
      word = 0x0abc8657;
      before = s;
      end = Retired;
      after = record s {
        pc = 0x10000804;
        v = (12, 0x4000000055555555ffffffff55555555ffffffff800000003ffffffffffffffe) ∷
            s.v;
      };
    }

-- vxor.vx v26, v14, x31, v0.t
abbrev pub vxor_vx : Case
vxor_vx =
    let s : State = record start {
      vl = 64;
      vtype = typed E8 M2 false true;
      vstart = 44;
      vxrm = Down;
      vxsat = true;
      x = (31, 0x8000000000000001) ∷ [];
      v = (0, 0x648735b6bea29245074f442788fe7ad0efb39bf7858e7fbf5a01e097698bf4c7) ∷
          (14, 0x240ff02fe400202ff4055010255ffaa0180804002ff55017f01007f02aafe) ∷
          (15, 0x8081fe00818080aa0002fe81020100407f81fe020202810180aaaa5540ff00aa) ∷
          (26, 0xfe81fe5580fe8102fe7f80fe40807fff02ff555500fe02fffe025502fe55aa55) ∷
          (27, 0x4000aaaa0081027f0180010202aaaa810002fe020181aa40ff024000ff010080) ∷
          [];
    } in
    record {
      word = 0x2cefcd57;
      before = s;
      end = Retired;
      after = record s {
        pc = 0x10000804;
        vstart = 0;
        v = (27, 0x4080aa018081817f0180010202aaaa417e80ff020181aa40ff024000ff010080) ∷
            s.v;
      };
    }
