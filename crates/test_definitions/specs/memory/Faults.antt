-- Loads and stores that fault. tools/golden/golden_theorems writes this file from lab/tests/data/golden_vectors.
use Rattle.std.specs.Prelude.{[], ◌∷◌, ◌++◌, true, false}
use Rattle.rv_model.specs.declared.vector.policy.Policy.TheVariants.{Ones}
use Rattle.rv_model.specs.declared.vector.state.RoundingMode.TheVariants.{NearestEven, Down, Odd}
use Rattle.rv_model.specs.declared.vector.types.Lmul.TheVariants.{M1, M2, M4, M8, Mf8, Mf4, Mf2}
use Rattle.rv_model.specs.declared.vector.types.Sew.TheVariants.{E8, E16, E32, E64}
use Rattle.test_definitions.specs.States.{Case, State, start, typed, LoadFault, StoreFault}
use Rattle.test_definitions.specs.Memories.{Stored, run}

-- lb x0, 1(x17)
abbrev pub lb_fault : Case
lb_fault =
    let s : State = record start {
      vl = 7;
      vtype = typed E64 M8 true true;
      vxrm = Odd;
      x = (17, 0x21fff) ∷ [];
    } in
    record {
      word = 0x00188003;
      before = s;
      end = LoadFault 0x22000;
      after = s;
    }

-- lbu x14, 1(x6)
abbrev pub lbu_fault : Case
lbu_fault =
    let s : State = record start {
      vxrm = Odd;
      x = (6, 0x21fff) ∷ (14, 0x0) ∷ [];
    } in
    record {
      word = 0x00134703;
      before = s;
      end = LoadFault 0x22000;
      after = s;
    }

-- ld x5, 1(x2)
abbrev pub ld_fault : Case
ld_fault =
    let s : State = record start {
      vl = 28;
      vtype = typed E16 M4 false false;
      vxrm = NearestEven;
      vxsat = true;
      x = (2, 0x22ffd) ∷ (5, 0xbcbcec48cd77d5b3) ∷ [];
    } in
    record {
      word = 0x00113283;
      before = s;
      end = LoadFault 0x22ffe;
      after = s;
    }

-- lh x16, 0(x10)
abbrev pub lh_fault : Case
lh_fault =
    let s : State = record start {
      vl = 63;
      vtype = typed E8 M2 true true;
      vstart = 138;
      vxrm = Down;
      vxsat = true;
      x = (10, 0x25000) ∷ (16, 0xfffffffffffffffe) ∷ [];
    } in
    record {
      word = 0x00051803;
      before = s;
      end = LoadFault 0x25000;
      after = s;
    }

-- lhu x16, 1(x24)
abbrev pub lhu_fault : Case
lhu_fault =
    let s : State = record start {
      vxrm = NearestEven;
      x = (16, 0x55555555) ∷ (24, 0x21fff) ∷ [];
    } in
    record {
      word = 0x001c5803;
      before = s;
      end = LoadFault 0x22000;
      after = s;
    }

-- lw x4, 0(x6)
abbrev pub lw_fault : Case
lw_fault =
    let s : State = record start {
      vxrm = NearestEven;
      x = (4, 0xaaaaaaaaaaaaaaaa) ∷ (6, 0x1fffd) ∷ [];
    } in
    record {
      word = 0x00032203;
      before = s;
      end = LoadFault 0x1fffd;
      after = s;
    }

-- lwu x12, 82(x13)
abbrev pub lwu_fault : Case
lwu_fault =
    let s : State = record start { x = (12, 0x8000000000000001) ∷ (13, 0x22faa) ∷ [] } in
    record {
      word = 0x0526e603;
      before = s;
      end = LoadFault 0x22ffc;
      after = s;
    }

-- vle16.v v4, (x26)
abbrev pub vle16_v_fault : Case
vle16_v_fault =
    let s : State = record start {
      vl = 34;
      vtype = typed E8 M2 false false;
      vxrm = Down;
      x = (26, 0x22fea) ∷ [];
      v = (4, 0xf1d5d4fbff0bd5765a19122b8e8365de7d99014e660fe6f7ac13debbd79c2ba5) ∷
          (5, 0xb8f086c4856feccc0b9a0f45258a8f01d193f114425301cf2eaa15b9b329efaa) ∷
          (6, 0x951b0a8200bf07b78dd93e7279fd2e148cf375b27521ba2f664da813d61fab1e) ∷
          (7, 0xd102ed0807db79fcb0f9ddc76f88cbd1be3789d92b0599f9d7a8d0bc047f07ce) ∷
          [];
    } in
    record {
      word = 0x020d5207;
      before = s;
      end = LoadFault 0x22fea;
      after = s;
    }

-- vle8.v v20, (x13), v0.t
abbrev pub vle8_v_fault : Case
vle8_v_fault =
    let s : State = record start {
      vl = 31;
      vtype = typed E8 M1 true true;
      x = (13, 0x24ff0) ∷ [];
      v = (0, 0xb7ae1a0306f94b565f3766cbd3e16bdfa716ba0c4c4babd330126f12e18da770) ∷
          (20, 0x73b4829b80d979445fcb152ae81aeb88403f24e1fb885f83339542d93a0553b1) ∷
          [];
    } in
    record {
      word = 0x00068a07;
      before = s;
      end = LoadFault 0x25000;
      after = record s {
        vstart = 16;
        v = (20, 0x73b4829b80d979445fcb152ae81aeb88823f38e1fbc9a47f333510eb3a0553b1) ∷
            s.v;
      };
    }

-- vle16ff.v v16, (x1)
abbrev pub vle16ff_v_fault : Case
vle16ff_v_fault =
    let s : State = record start {
      vl = 38;
      vtype = typed E8 M2 false false;
      x = (1, 0x22fe4) ∷ [];
      v = (16, 0xe68b58dad883c6364b236510a0da1506a1351c1188dd2bd40521bb4ca25df517) ∷
          (17, 0xae1ef1aaed0903dbe853a90d7735e85fa6319887c19f77c8f4ea81ac09e7a5ac) ∷
          (18, 0x315e5be864a55e36c67b5fc360c1b670c67940180320148cfc0133c66225b28d) ∷
          (19, 0x8019644d74ce995cb65248ad076731c5b545d3c9617977e6da9aaddfa596b2f8) ∷
          [];
    } in
    record {
      word = 0x0300d807;
      before = s;
      end = LoadFault 0x22fe4;
      after = s;
    }

-- vlm.v v20, (x28)
abbrev pub vlm_v_fault : Case
vlm_v_fault =
    let s : State = record start {
      vl = 3;
      vtype = typed E32 Mf2 true true;
      vxrm = Down;
      x = (28, 0x22000) ∷ [];
      v = (20, 0xa44dcb8bf593fa6526fb4107cae39b97a38b4294d93d1931bd36fff698586644) ∷
          [];
    } in
    record {
      word = 0x02be0a07;
      before = s;
      end = LoadFault 0x22000;
      after = s;
    }

-- vlm.v v22, (x3)
abbrev pub vlm_v_fault_2 : Case
vlm_v_fault_2 =
    let s : State = record start {
      vl = 47;
      vtype = typed E32 M8 false false;
      vxrm = Down;
      x = (3, 0x21ffc) ∷ [];
      v = (22, 0x100000000000000000000000000000000000000000000000000000000) ∷
          [];
    } in
    record {
      word = 0x02b18b07;
      before = s;
      end = LoadFault 0x22000;
      after = record s {
        vstart = 4;
        v = (22, 0x100000000000000000000000000000000000000000000000012edc8a3) ∷
            s.v;
      };
    }

-- vloxei16.v v21, (x19), v1
abbrev pub vloxei16_v_fault : Case
vloxei16_v_fault =
    let s : State = record start {
      vl = 3;
      vtype = typed E32 Mf2 true true;
      vxrm = NearestEven;
      vxsat = true;
      x = (19, 0x22f88) ∷ [];
      v = (1, 0x40003c003800340030002c002800240020001c001800140010000c00080004) ∷
          (21, 0xecd437e8fffffffeb9542596ffffffff74d31e900000000055555555042eb140) ∷
          [];
    } in
    record {
      word = 0x0e19da87;
      before = s;
      end = LoadFault 0x22f8c;
      after = s;
    }

-- vloxei8.v v30, (x1), v0
abbrev pub vloxei8_v_fault : Case
vloxei8_v_fault =
    let s : State = record start {
      vl = 16;
      vtype = typed E32 M2 true true;
      x = (1, 0x21f1c) ∷ [];
      v = (0, 0x7494adb22709803141a3309d4a1e4f8478421ddc1d10f3f1f3c50a3e40e49d0) ∷
          (30, 0xbf6882bb584dfb0b55555555ce6c71c73d17e5d828b0e77a18d881e140000000) ∷
          (31, 0x200000000fcf971702dc8ecacfffffffe80000000fffffffe7fffffff) ∷
          [];
    } in
    record {
      word = 0x0e008f07;
      before = s;
      end = LoadFault 0x22000;
      after = record s {
        vstart = 3;
        v = (30, 0xbf6882bb584dfb0b55555555ce6c71c73d17e5d876512c0713eec9a4c29d7853) ∷
            s.v;
      };
    }

-- vl4re8.v v28, (x15)
abbrev pub vl4re8_v_fault : Case
vl4re8_v_fault =
    let s : State = record start {
      vl = 15;
      vtype = typed E64 M4 false false;
      vxsat = true;
      x = (15, 0x1ffdb) ∷ [];
      v = (28, 0x6f7f9501cc2fdc347100acf5fe00b48c9acce755611e0c461964e2bd3e7088c4) ∷
          (29, 0x2093d2bb5c83ce596ed10e9ac0c92d147ec06bbc84de66d1dc28cb7025ea68ba) ∷
          (30, 0x59072fedeaa40d9f3dc6eb76149163c379997369b8cc775552927516ae3c09e9) ∷
          (31, 0x860a48d93a7829e2b78b9fd64f16d7120c153837a2617ee6ee86ecd01dbfe022) ∷
          [];
    } in
    record {
      word = 0x62878e07;
      before = s;
      end = LoadFault 0x1ffdb;
      after = s;
    }

-- vl2re8.v v4, (x22)
abbrev pub vl2re8_v_fault : Case
vl2re8_v_fault =
    let s : State = record start {
      vl = 85;
      vtype = typed E8 M8 true true;
      vstart = 10;
      vxrm = Down;
      x = (22, 0x21ff2) ∷ [];
      v = (4, 0xc8ce34ad89ef6f0fd2a9893cd7c192d94a9882ef73283f592f2779dcfd610704) ∷
          (5, 0x74056a5febecec0d74865415eff7fb1e054b08057a4a5b18b674aff5cfe7e82b) ∷
          [];
    } in
    record {
      word = 0x228b0207;
      before = s;
      end = LoadFault 0x22000;
      after = record s {
        vstart = 14;
        v = (4, 0xc8ce34ad89ef6f0fd2a9893cd7c192d94a9812edc8a33f592f2779dcfd610704) ∷
            s.v;
      };
    }

-- vlse8.v v28, (x18), x25, v0.t
abbrev pub vlse8_v_fault : Case
vlse8_v_fault =
    let s : State = record start {
      policy = Ones;
      vl = 59;
      vtype = typed E16 M8 true true;
      x = (18, 0xa711) ∷ (25, 0x1000) ∷ [];
      v = (0, 0xfeffffffffffeffffffffffffffffffffffffffbfffffffffffffffffff7feff) ∷
          (28, 0x917877a557db66df57917a6f18fe6ed9d2635be959e316e2c7c7d09c58893f55) ∷
          (29, 0x7960bebf3b18f6edb5da87dc3ef3576bcc51b69777d2b02373c9ef5e0ec74c4f) ∷
          (30, 0x640d5e1aba0ff06c7bd8df0d804a9b161858f370921305a4e91590aa6d5b4a6b) ∷
          (31, 0x207023975c28f29212f97dd6e5e3563b7edfc174d9cf046257d7b9c78aa4d142) ∷
          [];
    } in
    record {
      word = 0x09990e07;
      before = s;
      end = LoadFault 0xa711;
      after = s;
    }

-- vlse8.v v5, (x24), x15
abbrev pub vlse8_v_fault_2 : Case
vlse8_v_fault_2 =
    let s : State = record start {
      vl = 6;
      vtype = typed E32 M1 true true;
      vxrm = NearestEven;
      x = (15, 0x1000) ∷ (24, 0x20000) ∷ [];
      v = (5, 0xc47531fbd06bf83174ff54fcd55ae493c1b5c059fc941cde6d7dfd9f603f85ff) ∷
          [];
    } in
    record {
      word = 0x0afc0287;
      before = s;
      end = LoadFault 0x22000;
      after = record s {
        vstart = 2;
        v = (5, 0xc47531fbd06bf83174ff54fcd55ae493c1b5c059fc941cde6d7dfd9f603fd707) ∷
            s.v;
      };
    }

-- vluxei32.v v7, (x15), v11
abbrev pub vluxei32_v_fault : Case
vluxei32_v_fault =
    let s : State = record start {
      vl = 3;
      vtype = typed E8 Mf8 false false;
      vxrm = Down;
      x = (15, 0x1fae8) ∷ [];
      v = (7, 0x4681550d87e14080fe2cff55feaa92bb01803a813b7f00807f88deaa7d7794fe) ∷
          (11, 0x1d6a0000233c00001039000029090000052100000a0500002f2100000301) ∷
          [];
    } in
    record {
      word = 0x06b7e387;
      before = s;
      end = LoadFault 0x1fde9;
      after = s;
    }

-- vluxei64.v v14, (x31), v12
abbrev pub vluxei64_v_fault : Case
vluxei64_v_fault =
    let s : State = record start {
      vl = 3;
      vtype = typed E16 Mf2 true true;
      x = (31, 0x20400) ∷ [];
      v = (12, 0x59c0000000000001f1400000000000003820000000000001047) ∷
          (13, 0x6ff0000000000001a270000000000001c130000000000002961) ∷
          (14, 0x42192e3ee810770a1e938ebcf67af615ec726f50283286409aa812764b4a8065) ∷
          [];
    } in
    record {
      word = 0x06cff707;
      before = s;
      end = LoadFault 0x22314;
      after = record s {
        vstart = 2;
        v = (14, 0x42192e3ee810770a1e938ebcf67af615ec726f50283286409aa812764d284924) ∷
            s.v;
      };
    }

-- sb x3, 2047(x25)
abbrev pub sb_fault : Stored
sb_fault =
    let s : State = record start {
      vxrm = Down;
      x = (3, 0x2) ∷ (25, 0x1f800) ∷ [];
    } in
    record {
      case = record {
        word = 0x7e3c8fa3;
        before = s;
        end = StoreFault 0x1ffff;
        after = s;
      };
      bytes = [];
      ranges = (0x20000, 16) ∷ [];
    }

-- sd x0, -1363(x10)
abbrev pub sd_fault : Stored
sd_fault =
    let s : State = record start {
      vxrm = Odd;
      x = (10, 0x23f42) ∷ [];
    } in
    record {
      case = record {
        word = 0xaa0536a3;
        before = s;
        end = StoreFault 0x239ef;
        after = s;
      };
      bytes = [];
      ranges = (0x239df, 33) ∷ [];
    }

-- sh x14, -1855(x30)
abbrev pub sh_fault : Stored
sh_fault =
    let s : State = record start {
      vl = 4;
      vtype = typed E16 Mf4 false false;
      vxrm = Odd;
      x = (14, 0x29) ∷ (30, 0x2473d) ∷ [];
    } in
    record {
      case = record {
        word = 0x8cef10a3;
        before = s;
        end = StoreFault 0x23ffe;
        after = s;
      };
      bytes = [];
      ranges = (0x23fee, 33) ∷ [];
    }

-- sw x13, 16(x29)
abbrev pub sw_fault : Stored
sw_fault =
    let s : State = record start {
      vtype = typed E8 M2 false false;
      vstart = 47;
      vxrm = Down;
      vxsat = true;
      x = (13, 0x68c269bb70297f3e) ∷ (29, 0x2376a) ∷ [];
    } in
    record {
      case = record {
        word = 0x00dea823;
        before = s;
        end = StoreFault 0x2377a;
        after = s;
      };
      bytes = [];
      ranges = (0x2376a, 33) ∷ [];
    }

-- vse16.v v6, (x19), v0.t
abbrev pub vse16_v_fault : Stored
vse16_v_fault =
    let s : State = record start {
      vl = 3;
      vtype = typed E8 Mf8 false false;
      vxrm = NearestEven;
      x = (19, 0x22ffe) ∷ [];
      v = (0, 0xffffffffffffffffffffffffffffffffffffffffffffffffffffffffffffffff) ∷
          (6, 0x4b4bd8d0cf5dac7b7da879be61a11f5b695bab96498089a026081474b63f17fe) ∷
          [];
    } in
    record {
      case = record {
        word = 0x0009d327;
        before = s;
        end = StoreFault 0x22ffe;
        after = s;
      };
      bytes = [];
      ranges = (0x23000, 15) ∷ [];
    }

-- vse16.v v30, (x18)
abbrev pub vse16_v_fault_2 : Stored
vse16_v_fault_2 =
    let s : State = record start {
      vl = 29;
      vtype = typed E16 M2 true false;
      vxrm = Down;
      x = (18, 0x21fda) ∷ [];
      v = (30, 0x6ffb8233686ca92a0a807852751252c508aa9271eb3cbfd6e85af81eccb5febf) ∷
          (31, 0x6f18e4b750e7dc318830207a85e99725485c762f67e5ec40d3313fe9b3008e89) ∷
          [];
    } in
    record {
      case = record {
        word = 0x02095f27;
        before = s;
        end = StoreFault 0x22000;
        after = record s { vstart = 19 };
      };
      bytes = run 0x21fda 32 0x6ffb8233686ca92a0a807852751252c508aa9271eb3cbfd6e85af81eccb5febf ++
          run 0x21ffa 6 0x3fe9b3008e89;
      ranges = (0x21fca, 54) ∷ [];
    }

-- vsm.v v5, (x15)
abbrev pub vsm_v_fault : Stored
vsm_v_fault =
    let s : State = record start {
      vl = 31;
      vtype = typed E64 M8 true false;
      vxrm = Down;
      x = (15, 0x1fffd) ∷ [];
      v = (5, 0xbdf0f609d1ddb3a28b5a1aa3fc495ad20fd50ee4d7239a8a63c68a21b293f34e) ∷
          [];
    } in
    record {
      case = record {
        word = 0x02b782a7;
        before = s;
        end = StoreFault 0x1fffd;
        after = s;
      };
      bytes = [];
      ranges = (0x20000, 14) ∷ [];
    }

-- vsm.v v5, (x11)
abbrev pub vsm_v_fault_2 : Stored
vsm_v_fault_2 =
    let s : State = record start {
      vl = 10;
      vtype = typed E16 M1 false false;
      x = (11, 0x24fff) ∷ [];
      v = (5, 0x9c9792e14de838a527889a3cfa98021e7dcdda89cddd58a338ad2f7b6c1ca684) ∷
          [];
    } in
    record {
      case = record {
        word = 0x02b582a7;
        before = s;
        end = StoreFault 0x25000;
        after = record s { vstart = 1 };
      };
      bytes = run 0x24fff 1 0x84;
      ranges = (0x24fef, 17) ∷ [];
    }

-- vsoxei16.v v24, (x22), v5, v0.t
abbrev pub vsoxei16_v_fault : Stored
vsoxei16_v_fault =
    let s : State = record start {
      vl = 15;
      vtype = typed E64 M4 false false;
      vxrm = Odd;
      x = (22, 0x21ff1) ∷ [];
      v = (0, 0xffffffffffffffffffffffffffffffffffffffffffffffffffffffffffffffff) ∷
          (5, 0x848033b053212191c1b07ba0daf0f7f07d008920c1f164810241d470eee0a5f) ∷
          (24, 0x5e5a1d90456fcd088430dc0cacf64d56f894bf27a9ce7b6c18ae180036789862) ∷
          (25, 0xbb946261dc94bae7a7ed5eccc55f4b77c3b91a0859d28ff050093382e63e6ced) ∷
          (26, 0x8aa4b5073447662199baeab3be550746c378672ef9c2b80d9abb63959c69fccb) ∷
          (27, 0x908346dd0060fca1592a1892e5abf775830257dac45243418b654d13ddd2c70e) ∷
          [];
    } in
    record {
      case = record {
        word = 0x0c5b5c27;
        before = s;
        end = StoreFault 0x22a50;
        after = s;
      };
      bytes = [];
      ranges = [];
    }

-- vsoxei32.v v31, (x13), v2
abbrev pub vsoxei32_v_fault : Stored
vsoxei32_v_fault =
    let s : State = record start {
      vl = 8;
      vtype = typed E16 Mf2 false true;
      x = (13, 0x1f7e5) ∷ [];
      v = (2, 0x1a950000143a000026ae00001e4a00002f1600002b9500001bc100001b6c) ∷
          (31, 0xecbea843275c83fc113a27775db077898b26dc46968fa15b8e8d6a8f314af279) ∷
          [];
    } in
    record {
      case = record {
        word = 0x0e26efa7;
        before = s;
        end = StoreFault 0x2237a;
        after = record s { vstart = 2 };
      };
      bytes = run 0x21351 2 0xf279 ++ run 0x213a6 2 0x314a;
      ranges = (0x21341, 34) ∷ (0x21396, 34) ∷ [];
    }

-- vs1r.v v2, (x30)
abbrev pub vs1r_v_fault : Stored
vs1r_v_fault =
    let s : State = record start {
      vl = 16;
      vtype = typed E64 M4 true false;
      vxrm = Down;
      x = (30, 0x23ff7) ∷ [];
      v = (2, 0xc4573a12f0634da15d3f63b7a370af1b17cbd4b8b8cc647f10a294c55a0f18f5) ∷
          [];
    } in
    record {
      case = record {
        word = 0x028f0127;
        before = s;
        end = StoreFault 0x23ff7;
        after = s;
      };
      bytes = [];
      ranges = (0x23fe7, 33) ∷ [];
    }

-- vs8r.v v24, (x3)
abbrev pub vs8r_v_fault : Stored
vs8r_v_fault =
    let s : State = record start {
      vstart = 129;
      vxsat = true;
      x = (3, 0x21f3b) ∷ [];
      v = (24, 0x8a4bda34dae40c78cbc5a9efdc76885bc32efffb74dcc3127a8c4225091e64d2) ∷
          (25, 0xbe3a2e3c26eec0adbd71db9bf7d063fc6dc86489c049dcd10c05eb5823b0adcc) ∷
          (26, 0x74ca3072452fa5af8cffc9e582a13c7da254fd4cb22fe2053cbcead9df152ee1) ∷
          (27, 0x66970cd1cc3ab7fd0ce4f98ddd7661c6e4bdc02500560a09c4ac43bc1bbe3f66) ∷
          (28, 0x6c604f21352914c25669f1058226faa90dba714ab2d7b6e05cd8efd5cdd3fc7) ∷
          (29, 0x338754f1e7f8937a85aacc0f6b5a44e1d408bd146ff360bd4fc588879035e023) ∷
          (30, 0xad49145af98d93facfba44eb8f6d0a3099d4173f4e730e53d7572016d100c689) ∷
          (31, 0x6df8cf3ed96afbc6d7416c8607a3be91d786567856b3cfb78c8e5a0a5b7682ba) ∷
          [];
    } in
    record {
      case = record {
        word = 0xe2818c27;
        before = s;
        end = StoreFault 0x22000;
        after = record s { vstart = 197 };
      };
      bytes = run 0x21fbc 32 0x2306c604f21352914c25669f1058226faa90dba714ab2d7b6e05cd8efd5cdd3f ++
          run 0x21fdc 32 0x89338754f1e7f8937a85aacc0f6b5a44e1d408bd146ff360bd4fc588879035e0 ++
          run 0x21ffc 4 0x16d100c6;
      ranges = (0x21fac, 84) ∷ [];
    }

-- vsse16.v v19, (x6), x0, v0.t
abbrev pub vsse16_v_fault : Stored
vsse16_v_fault =
    let s : State = record start {
      vl = 4;
      vtype = typed E64 M1 false false;
      vxrm = Down;
      x = (6, 0x23fff) ∷ [];
      v = (0, 0xfffffffffffffffffffffffffffffffffffffffffffffdffffffffffffefffff) ∷
          (19, 0xabbd620af3b4063d266789ac3df782804832fae029a1e3f734e82153a4f3e57d) ∷
          [];
    } in
    record {
      case = record {
        word = 0x080359a7;
        before = s;
        end = StoreFault 0x23fff;
        after = s;
      };
      bytes = [];
      ranges = (0x23fef, 33) ∷ [];
    }

-- vsse32.v v21, (x19), x15
abbrev pub vsse32_v_fault : Stored
vsse32_v_fault =
    let s : State = record start {
      vl = 4;
      vtype = typed E16 Mf4 true true;
      vstart = 1;
      vxrm = NearestEven;
      x = (15, 0x4) ∷ (19, 0x21ff4) ∷ [];
      v = (21, 0x965532de0281a9cb6dee8474eaed21e8aedcf485a660ba4dfa7b8d8ce92c1c23) ∷
          [];
    } in
    record {
      case = record {
        word = 0x0af9eaa7;
        before = s;
        end = StoreFault 0x22000;
        after = record s { vstart = 3 };
      };
      bytes = run 0x21ff8 8 0xa660ba4dfa7b8d8c;
      ranges = (0x21fe8, 24) ∷ [];
    }

-- vsuxei16.v v15, (x9), v13, v0.t
abbrev pub vsuxei16_v_fault : Stored
vsuxei16_v_fault =
    let s : State = record start {
      vl = 8;
      vtype = typed E16 M1 false false;
      x = (9, 0x1eb83) ∷ [];
      v = (0, 0xffffffffffffffffffffffffffffffffffffffffffffffffffffffffffffffff) ∷
          (13, 0x2001a5001c001a00180016001400120010000e000c000a0008000600040002) ∷
          (15, 0xf637fff8001aaaa4000800100027fff5555d582acd30001fb5700005e945555) ∷
          [];
    } in
    record {
      case = record {
        word = 0x04d4d7a7;
        before = s;
        end = StoreFault 0x1eb85;
        after = s;
      };
      bytes = [];
      ranges = [];
    }

-- vsuxei32.v v8, (x25), v14, v0.t
abbrev pub vsuxei32_v_fault : Stored
vsuxei32_v_fault =
    let s : State = record start {
      vl = 16;
      vtype = typed E32 M2 true false;
      vxsat = true;
      x = (25, 0x21ff9) ∷ [];
      v = (0, 0x1a23e999ea05c55a54ba202963b6e6f63ad892bb6fd9bdd64f9a1916876959e6) ∷
          (8, 0x8bc03f43bce3353f506821c49b56256d541915d1cc23d863b832f9af8c4ab714) ∷
          (9, 0x9d397c7765cf68e6bf0dfbf8e2174c4c8b5abdb1b2f60aafc63bb52a544588bc) ∷
          (14, 0x6b5000013d8000008f300000eee000015af000003cd000018890000080f) ∷
          (15, 0x3aa00000ff6000006d500001c4200000e980000110a0000126c000039b3) ∷
          [];
    } in
    record {
      case = record {
        word = 0x04ece427;
        before = s;
        end = StoreFault 0x23882;
        after = record s { vstart = 1 };
      };
      bytes = [];
      ranges = (0x23872, 33) ∷ [];
    }
