-- Operations on masks, comparisons and carries. tools/golden/golden_theorems writes this file from lab/tests/data/golden_vectors.
use Rattle.std.specs.Prelude.{[], ◌∷◌, true, false}
use Rattle.rv_model.specs.declared.vector.state.RoundingMode.TheVariants.{NearestEven, Down, Odd}
use Rattle.rv_model.specs.declared.vector.types.Lmul.TheVariants.{M1, M2, M4, M8, Mf8, Mf4, Mf2}
use Rattle.rv_model.specs.declared.vector.types.Sew.TheVariants.{E8, E16, E32, E64}
use Rattle.test_definitions.specs.States.{Case, State, start, typed, Retired}

-- vcpop.m x13, v2, v0.t
abbrev pub vcpop_m : Case
vcpop_m =
    let s : State = record start {
      vl = 32;
      vtype = typed E8 M1 false false;
      x = (13, 0xfa853afb1645cb78) ∷ [];
      v = (0, 0x10000000080041) ∷
          (2, 0x5b60f4a656ca0771cdb3a2fa7d1610d9f4053dbd36bbcc09428d312a403e3f63) ∷
          [];
    } in
    record {
      word = 0x402826d7;
      before = s;
      end = Retired;
      after = record s {
        pc = 0x10000804;
        x = (13, 0x3) ∷ s.x;
      };
    }

-- vfirst.m x17, v28
abbrev pub vfirst_m : Case
vfirst_m =
    let s : State = record start {
      vl = 75;
      vtype = typed E8 M4 true false;
      vxrm = Down;
      x = (17, 0xf76f14bb7b6f9f6e) ∷ [];
      v = (28, 0x73fa63835387fcea6bf4fa4d00b927a9d114b5c211b449c429d3068ead2c1154) ∷
          [];
    } in
    record {
      word = 0x43c8a8d7;
      before = s;
      end = Retired;
      after = record s {
        pc = 0x10000804;
        x = (17, 0x2) ∷ s.x;
      };
    }

-- vid.v v16, v0.t
abbrev pub vid_v : Case
vid_v =
    let s : State = record start {
      vl = 122;
      vtype = typed E8 M4 false false;
      vxrm = Down;
      v = (0, 0x8000000c) ∷
          (16, 0x8181fe55007f01818181fe818181808180000180ff55ff408101800055010180) ∷
          (17, 0xaa01007f7f555581ff0202fe7faa405580008000018000aa7f00017f40008102) ∷
          (18, 0x7f55818000ff01feaa8002aa7f7f00fe81fe0101aaaa5540fe01aa55aa557ffe) ∷
          (19, 0x7faa01fffe7f017f018180807f028155ff558180550181aaff5581ff01ff40) ∷
          [];
    } in
    record {
      word = 0x5008a857;
      before = s;
      end = Retired;
      after = record s {
        pc = 0x10000804;
        v = (16, 0x1f81fe55007f01818181fe818181808180000180ff55ff408101800003020180) ∷
            s.v;
      };
    }

-- viota.m v14, v3
abbrev pub viota_m : Case
viota_m =
    let s : State = record start {
      vl = 32;
      vtype = typed E16 M2 false true;
      vxrm = Odd;
      vxsat = true;
      v = (3, 0x0) ∷
          (14, 0x28001240dfffe6e06a38a00015555000080000000aaaa6d0c55557fffaaaa) ∷
          (15, 0x24efb555580011b3a7917114dfffe69fa800046fcb1808000000100008001) ∷
          [];
    } in
    record {
      word = 0x52382757;
      before = s;
      end = Retired;
      after = record s {
        pc = 0x10000804;
        v = (14, 0x0) ∷ (15, 0x0) ∷ s.v;
      };
    }

-- vmadc.vx v19, v28, x3
abbrev pub vmadc_vx : Case
vmadc_vx =
    let s : State = record start {
      vl = 15;
      vtype = typed E8 Mf2 false false;
      vxrm = NearestEven;
      x = (3, 0x2) ∷ [];
      v = (19, 0x47306bcc5f4ea11013c252ecfa0afc73ddf03ac82caf5d8fa7edcf6a244803ab) ∷
          (28, 0xffff0302ff0201ff0705030500050101ff050001030305ff02ffff0705070707) ∷
          [];
    } in
    record {
      word = 0x47c1c9d7;
      before = s;
      end = Retired;
      after = record s {
        pc = 0x10000804;
        v = (19, 0x47306bcc5f4ea11013c252ecfa0afc73ddf03ac82caf5d8fa7edcf6a24480160) ∷
            s.v;
      };
    }

-- vmadc.vxm v4, v4, x0, v0
abbrev pub vmadc_vxm : Case
vmadc_vxm =
    let s : State = record start {
      vl = 13;
      vtype = typed E32 M4 true false;
      vxrm = Down;
      vxsat = true;
      v = (0, 0x12fdd960984048e839c9f0d684139f1cf62d5c03078de1e9fb6a21c54e55941a) ∷
          (4, 0xf213f3ba81f681333b0ec42f1953547063452d48b97db19f0ba257a9d93596ba) ∷
          (5, 0xfffffffe00000001800000018e607e24e7aa000840000000fffffffe00000000) ∷
          (6, 0x529561f47fffffff00000001c03c3bf155555555fffffffe8000000111192314) ∷
          (7, 0x113b9361e94c5c4dc195ccb5711a3da255555555fffffffe9f92345bbf29207d) ∷
          [];
    } in
    record {
      word = 0x44404257;
      before = s;
      end = Retired;
      after = record s {
        pc = 0x10000804;
        v = (4, 0xf213f3ba81f681333b0ec42f1953547063452d48b97db19f0ba257a9d9358000) ∷
            s.v;
      };
    }

-- vmand.mm v13, v13, v12
abbrev pub vmand_mm : Case
vmand_mm =
    let s : State = record start {
      vl = 31;
      vtype = typed E16 M2 false false;
      vxsat = true;
      v = (12, 0x400000000000000000000000000000000000000000080000c0) ∷
          (13, 0xb91d8c79804eea32cabb5969a988771e4767f0a24d6300fa86197c4b308ea7e2) ∷
          [];
    } in
    record {
      word = 0x66d626d7;
      before = s;
      end = Retired;
      after = record s {
        pc = 0x10000804;
        v = (13, 0xb91d8c79804eea32cabb5969a988771e4767f0a24d6300fa86197c4b000000c0) ∷
            s.v;
      };
    }

-- vmandn.mm v3, v4, v22
abbrev pub vmandn_mm : Case
vmandn_mm =
    let s : State = record start {
      vl = 16;
      vtype = typed E16 M1 true true;
      v = (3, 0xa7e216d19aaa891df5ff3160edc8b4105e8b0a41374be04e3b20c17b1b7395ae) ∷
          (4, 0xffffffffffffffffffffffffffffffffffffffffffffffffffffffffffffffff) ∷
          (22, 0x0) ∷
          [];
    } in
    record {
      word = 0x624b21d7;
      before = s;
      end = Retired;
      after = record s {
        pc = 0x10000804;
        v = (3, 0xa7e216d19aaa891df5ff3160edc8b4105e8b0a41374be04e3b20c17b1b73ffff) ∷
            s.v;
      };
    }

-- vmnand.mm v1, v11, v18
abbrev pub vmnand_mm : Case
vmnand_mm =
    let s : State = record start {
      vl = 4;
      vtype = typed E8 Mf2 false false;
      vxrm = Odd;
      v = (1, 0x0) ∷
          (11, 0xffffffffffffffffffffffffffffffffffffffffffffffffffffffffffffffff) ∷
          (18, 0x591d89f3648b582ae9ba2e65aec0027e3dc3d0231f488652e7a988014b6baefb) ∷
          [];
    } in
    record {
      word = 0x76b920d7;
      before = s;
      end = Retired;
      after = record s {
        pc = 0x10000804;
        v = (1, 0x4) ∷ s.v;
      };
    }

-- vmnor.mm v27, v15, v19
abbrev pub vmnor_mm : Case
vmnor_mm =
    let s : State = record start {
      vl = 17;
      vtype = typed E32 M4 true true;
      vxrm = Odd;
      v = (15, 0xffffffffffffffffffffffffffffffffffffffffffffffffffffffffffffffff) ∷
          (19, 0x40000080000044) ∷
          (27, 0x21) ∷
          [];
    } in
    record {
      word = 0x7af9add7;
      before = s;
      end = Retired;
      after = record s {
        pc = 0x10000804;
        v = (27, 0x0) ∷ s.v;
      };
    }

-- vmor.mm v18, v17, v28
abbrev pub vmor_mm : Case
vmor_mm =
    let s : State = record start {
      vl = 64;
      vtype = typed E8 M2 false false;
      vxrm = Odd;
      vxsat = true;
      v = (17, 0x637c237fb22a822173911ed4994d236be95b087c4a61873a9edba9039aec09b8) ∷
          (18, 0xe6018995909a7f151d94c6c2afdc95aacda26b7ae02da1fc5f0fa0663e338b7f) ∷
          (28, 0xffffffffffffffffffffffffffffffffffffffffffffffffffffffffdfbfffef) ∷
          [];
    } in
    record {
      word = 0x6b1e2957;
      before = s;
      end = Retired;
      after = record s {
        pc = 0x10000804;
        v = (18, 0xe6018995909a7f151d94c6c2afdc95aacda26b7ae02da1fcffffffffdfffffff) ∷
            s.v;
      };
    }

-- vmorn.mm v23, v29, v10
abbrev pub vmorn_mm : Case
vmorn_mm =
    let s : State = record start {
      vl = 10;
      vtype = typed E64 M8 true true;
      vxrm = Odd;
      v = (10, 0xfdb1add56c8657887843d88388b80228afea897b97d9edbb9b44620768f0ed04) ∷
          (23, 0x0) ∷
          (29, 0xa30cbb215c63a6f798cd1f9663d9ae50caa17b4b3835697f6796e45e1b81ff6b) ∷
          [];
    } in
    record {
      word = 0x73d52bd7;
      before = s;
      end = Retired;
      after = record s {
        pc = 0x10000804;
        v = (23, 0x3fb) ∷ s.v;
      };
    }

-- vmsbc.vv v1, v26, v4
abbrev pub vmsbc_vv : Case
vmsbc_vv =
    let s : State = record start {
      vl = 4;
      vtype = typed E32 M2 false false;
      vxrm = Odd;
      v = (1, 0xffffffffffffffffffffffffffffffffffffffffffffffffffffffffffffffff) ∷
          (4, 0x70000000200000002ffffffff000000000000000000000002) ∷
          (5, 0x50000000700000000ffffffff00000005000000000000000100000000) ∷
          (26, 0xffffffff00000003ffffffff0000000200000003000000070000000700000000) ∷
          (27, 0x1ffffffff0000000200000002ffffffff000000020000000200000000) ∷
          [];
    } in
    record {
      word = 0x4fa200d7;
      before = s;
      end = Retired;
      after = record s {
        pc = 0x10000804;
        v = (1, 0xfffffffffffffffffffffffffffffffffffffffffffffffffffffffffffffff9) ∷
            s.v;
      };
    }

-- vmsbc.vvm v12, v3, v11, v0
abbrev pub vmsbc_vvm : Case
vmsbc_vvm =
    let s : State = record start {
      vl = 8;
      vtype = typed E16 Mf2 false false;
      vxrm = Odd;
      v = (0, 0xab1f5caf4c27d0ae4e19ac60667a6f6b3b1994eeab4f10601e04d5dae428e96f) ∷
          (3, 0x1f294000ceed4000746a8000191fae4fb6c29fe62fb47fff5555ffff3c2f357d) ∷
          (11, 0xa67809304a0ffff55550002747ea920aaaa7fff18ad00014000f52df7728000) ∷
          (12, 0xa0df5388b5d577996322b72cbd2b209890261312597b81687937bc341df90534) ∷
          [];
    } in
    record {
      word = 0x4c358657;
      before = s;
      end = Retired;
      after = record s {
        pc = 0x10000804;
        v = (12, 0xa0df5388b5d577996322b72cbd2b209890261312597b81687937bc341df90503) ∷
            s.v;
      };
    }

-- vmsbf.m v16, v4, v0.t
abbrev pub vmsbf_m : Case
vmsbf_m =
    let s : State = record start {
      vl = 26;
      vtype = typed E16 M2 false false;
      vxsat = true;
      v = (0, 0xffffffffffffffffffffffffffffffffffffffffffffffffffffffffffffffff) ∷
          (4, 0xfffffffff7ffffffffffffffffffffffffffffffffffffffffffffffefff5ffd) ∷
          (16, 0xb5286e0e7d0e3cc69d1820dd717e9f4ceae52757f479a8e2a3176aa13342b448) ∷
          [];
    } in
    record {
      word = 0x5040a857;
      before = s;
      end = Retired;
      after = record s {
        pc = 0x10000804;
        v = (16, 0xb5286e0e7d0e3cc69d1820dd717e9f4ceae52757f479a8e2a3176aa130000000) ∷
            s.v;
      };
    }

-- vmseq.vv v22, v7, v9, v0.t
abbrev pub vmseq_vv : Case
vmseq_vv =
    let s : State = record start {
      vl = 12;
      vtype = typed E16 M1 false false;
      v = (0, 0xffffffffffffffffffffffffffffffffffffffffffffffffffffffffffffffff) ∷
          (7, 0xffff296ffffebb1f031310600001d081000063be270bea925ba9c25e8001015e) ∷
          (9, 0xd61180007fffe3918000add88d55aaaa169100000e5a36f3538780004faa68bd) ∷
          (22, 0xfffffffffffffffffffffffffffffffffffffffffffffffffffffffffffbefde) ∷
          [];
    } in
    record {
      word = 0x60748b57;
      before = s;
      end = Retired;
      after = record s {
        pc = 0x10000804;
        v = (22, 0xfffffffffffffffffffffffffffffffffffffffffffffffffffffffffffbe000) ∷
            s.v;
      };
    }

-- vmsgt.vx v0, v8, x16, v0.t
abbrev pub vmsgt_vx : Case
vmsgt_vx =
    let s : State = record start {
      vl = 15;
      vtype = typed E32 M2 false false;
      vxrm = NearestEven;
      x = (16, 0xfe) ∷ [];
      v = (0, 0x1786c0e773eab5ca54d3f13f1a888397335d86704aa8890c9276132f60a687cd) ∷
          (8, 0xffffffff54be0e02800000015f31e54e7fffffff00000001ef1f69c6) ∷
          (9, 0x6e5ac93d7fffffff80000000ffdac18f55555555ffffffff1d9ffa7069cb8a57) ∷
          [];
    } in
    record {
      word = 0x7c884057;
      before = s;
      end = Retired;
      after = record s {
        pc = 0x10000804;
        v = (0, 0x1786c0e773eab5ca54d3f13f1a888397335d86704aa8890c9276132f60a6830c) ∷
            s.v;
      };
    }

-- vmsgtu.vi v19, v6, 15
abbrev pub vmsgtu_vi : Case
vmsgtu_vi =
    let s : State = record start {
      vl = 3;
      vtype = typed E8 Mf8 true true;
      vxrm = Odd;
      v = (6, 0x9504b000fe46017940aafe02405938505e555501a58130aa55feee0101013b80) ∷
          (19, 0xffffffffffffffffffffffffffffffffffffffffffffffffffffffffffffffff) ∷
          [];
    } in
    record {
      word = 0x7a67b9d7;
      before = s;
      end = Retired;
      after = record s {
        pc = 0x10000804;
        v = (19, 0xfffffffffffffffffffffffffffffffffffffffffffffffffffffffffffffffb) ∷
            s.v;
      };
    }

-- vmsif.m v2, v27, v0.t
abbrev pub vmsif_m : Case
vmsif_m =
    let s : State = record start {
      vl = 3;
      vtype = typed E32 M4 false false;
      vxrm = NearestEven;
      v = (0, 0xffffffffffffffffffffffffffffffffffffffffffffffffffffffffffffffff) ∷
          (2, 0xffffffffffffffffffffffffffffffffffffffffffffffffffffefffffffffef) ∷
          (27, 0x2000000000000000000000000000000000a1) ∷
          [];
    } in
    record {
      word = 0x51b1a157;
      before = s;
      end = Retired;
      after = record s {
        pc = 0x10000804;
        v = (2, 0xffffffffffffffffffffffffffffffffffffffffffffffffffffefffffffffe9) ∷
            s.v;
      };
    }

-- vmsle.vx v5, v20, x0
abbrev pub vmsle_vx : Case
vmsle_vx =
    let s : State = record start {
      vl = 4;
      vtype = typed E32 Mf2 false true;
      vxrm = NearestEven;
      v = (5, 0xffffffffffffffffffffffefffffffffffffffffffffffffffffffffffffffff) ∷
          (20, 0x555555554000000080000001fffffffffffffffffffffffe40000000ffffffff) ∷
          [];
    } in
    record {
      word = 0x774042d7;
      before = s;
      end = Retired;
      after = record s {
        pc = 0x10000804;
        v = (5, 0xffffffffffffffffffffffeffffffffffffffffffffffffffffffffffffffffd) ∷
            s.v;
      };
    }

-- vmsleu.vi v4, v11, -3, v0.t
abbrev pub vmsleu_vi : Case
vmsleu_vi =
    let s : State = record start {
      vl = 3;
      vtype = typed E64 M1 false false;
      v = (0, 0xffffffffffffffffffffffffffffffffffffffffffffffffffffffffffffffff) ∷
          (4, 0xf385f6c08a8aa31b6e30e75e4d18738f319a4f34daed81022caddb428c7cd719) ∷
          (11, 0x24000000000000000ffffffffffffffff4000000000000000) ∷
          [];
    } in
    record {
      word = 0x70beb257;
      before = s;
      end = Retired;
      after = record s {
        pc = 0x10000804;
        v = (4, 0xf385f6c08a8aa31b6e30e75e4d18738f319a4f34daed81022caddb428c7cd71d) ∷
            s.v;
      };
    }

-- vmslt.vv v23, v28, v27
abbrev pub vmslt_vv : Case
vmslt_vv =
    let s : State = record start {
      vl = 3;
      vtype = typed E8 Mf8 true false;
      vxrm = Odd;
      v = (23, 0xffffffffffffffffffffffffffffffffffffffffffffffffffffffffffffffff) ∷
          (27, 0xff0201ff0500070701ff0005050500020707070102030007ff0507ff02030505) ∷
          (28, 0x503ffff02ff0305020100070703ff01ff07ff05070201050102000205050300) ∷
          [];
    } in
    record {
      word = 0x6fcd8bd7;
      before = s;
      end = Retired;
      after = record s {
        pc = 0x10000804;
        v = (23, 0xfffffffffffffffffffffffffffffffffffffffffffffffffffffffffffffffb) ∷
            s.v;
      };
    }

-- vmsltu.vx v23, v11, x9, v0.t
abbrev pub vmsltu_vx : Case
vmsltu_vx =
    let s : State = record start {
      vl = 32;
      vtype = typed E8 M1 false true;
      vxrm = Odd;
      x = (9, 0x8000000000000000) ∷ [];
      v = (0, 0xffffffffffffffffffffffffffffffffffffffffffffffffffffffffffffffff) ∷
          (11, 0x10205050703ff07ff07030002010005050100050502000107ff03020507ff00) ∷
          (23, 0x42bd7c43442042bfc09afd93f2a53b67737222a42624075d1599afbb7045b08e) ∷
          [];
    } in
    record {
      word = 0x68b4cbd7;
      before = s;
      end = Retired;
      after = record s {
        pc = 0x10000804;
        v = (23, 0x42bd7c43442042bfc09afd93f2a53b67737222a42624075d1599afbb00000000) ∷
            s.v;
      };
    }

-- vmsne.vi v19, v12, 15
abbrev pub vmsne_vi : Case
vmsne_vi =
    let s : State = record start {
      vl = 7;
      vtype = typed E8 M4 false false;
      vxrm = Down;
      v = (12, 0x55aafe55aaff0102aa7f55ff400281fe805580aa81ffff55ff02aa0181000080) ∷
          (13, 0xaa4001fe02407f558155aaaa81fe00557f01aaaa7faa55817f7f007f00408181) ∷
          (14, 0xff01fe00550080018180fe5501550280fefefe020280aaaa0140817f81aa0001) ∷
          (15, 0x817f81ffaa0240aa01020255aa8180aaffff000002017faa025540aa01ffff00) ∷
          (19, 0x8ac2d08813e524f824e6fce40f1e21d5c801869f2b40a1f83036050bcfa82d4f) ∷
          [];
    } in
    record {
      word = 0x66c7b9d7;
      before = s;
      end = Retired;
      after = record s {
        pc = 0x10000804;
        v = (19, 0x8ac2d08813e524f824e6fce40f1e21d5c801869f2b40a1f83036050bcfa82d7f) ∷
            s.v;
      };
    }

-- vmsof.m v20, v21, v0.t
abbrev pub vmsof_m : Case
vmsof_m =
    let s : State = record start {
      vl = 15;
      vtype = typed E64 M4 true true;
      vxrm = Down;
      vxsat = true;
      v = (0, 0x32662f539fb59e3265c7b0f9ac434d47c8b141269e401735b4fcf1c48631fc50) ∷
          (20, 0xfffffffffffffffffffffffffffffeffffffffffffffffffffdfffffffefdfdf) ∷
          (21, 0xffffffffffffffffffffffffffffffffffffffffffffffffffffffffffffffff) ∷
          [];
    } in
    record {
      word = 0x51512a57;
      before = s;
      end = Retired;
      after = record s {
        pc = 0x10000804;
        v = (20, 0xfffffffffffffffffffffffffffffeffffffffffffffffffffdfffffffef839f) ∷
            s.v;
      };
    }

-- vmxnor.mm v0, v8, v24
abbrev pub vmxnor_mm : Case
vmxnor_mm =
    let s : State = record start {
      vl = 8;
      vtype = typed E8 Mf4 true true;
      vxrm = NearestEven;
      vxsat = true;
      v = (0, 0xffffffffffffffffffffffffffffffffffffffffffffffffffffffffffffffff) ∷
          (8, 0xfffffffffffffffffffffffffffffffffffffffbfffffffffffffffffffefbef) ∷
          (24, 0x20000000000000000040) ∷
          [];
    } in
    record {
      word = 0x7e8c2057;
      before = s;
      end = Retired;
      after = record s {
        pc = 0x10000804;
        v = (0, 0xffffffffffffffffffffffffffffffffffffffffffffffffffffffffffffff50) ∷
            s.v;
      };
    }

-- vmxor.mm v13, v23, v28
abbrev pub vmxor_mm : Case
vmxor_mm =
    let s : State = record start {
      vl = 64;
      vtype = typed E16 M4 true false;
      vxrm = Down;
      v = (13, 0xffffffffffffffffffffffffffffffffffffffffffffffffffffffffffffffff) ∷
          (23, 0xffbffffffffffffffffffffffffffffffffffffffbfffffffffffffffffdfedf) ∷
          (28, 0xffffffffffffffffffffffffffffffffffffffffffffffffffffffffffffffff) ∷
          [];
    } in
    record {
      word = 0x6f7e26d7;
      before = s;
      end = Retired;
      after = record s {
        pc = 0x10000804;
        v = (13, 0xffffffffffffffffffffffffffffffffffffffffffffffff0000000000020120) ∷
            s.v;
      };
    }
