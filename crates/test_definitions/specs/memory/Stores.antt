-- Vector stores. tools/golden/golden_theorems writes this file from lab/tests/data/golden_vectors.
use Rattle.std.specs.Prelude.{[], ◌∷◌, ◌++◌, true, false}
use Rattle.rv_model.specs.declared.vector.state.RoundingMode.TheVariants.{NearestEven, Down, Odd}
use Rattle.rv_model.specs.declared.vector.types.Lmul.TheVariants.{M1, M2, M4, Mf8, Mf4, Mf2}
use Rattle.rv_model.specs.declared.vector.types.Sew.TheVariants.{E8, E16, E32, E64}
use Rattle.test_definitions.specs.States.{State, start, typed, Retired}
use Rattle.test_definitions.specs.Memories.{Stored, run}

-- vs1r.v v29, (x30)
abbrev pub vs1r_v : Stored
vs1r_v =
    let s : State = record start {
      vtype = typed E16 Mf4 true true;
      vxsat = true;
      x = (30, 0x20d2b) ∷ [];
      v = (29, 0x3a280fe10e370433f710d6424c541344b7f3176ee3a4ed64768377e47549df84) ∷
          [];
    } in
    record {
      case = record {
        word = 0x028f0ea7;
        before = s;
        end = Retired;
        after = record s { pc = 0x10000804 };
      };
      bytes = run 0x20d2b 32 0x3a280fe10e370433f710d6424c541344b7f3176ee3a4ed64768377e47549df84;
      ranges = (0x20d1b, 64) ∷ [];
    }

-- vs2r.v v10, (x4)
abbrev pub vs2r_v : Stored
vs2r_v =
    let s : State = record start {
      vl = 7;
      vtype = typed E16 M2 false false;
      x = (4, 0x210b1) ∷ [];
      v = (10, 0xe62e1a39150a59980131a46e46e2af6a4570afb489c6189cfa223cd51f76a381) ∷
          (11, 0x1f1f606913840fa7505cca55870a378f826bba91725a06e6b50e1582082d5fd6) ∷
          [];
    } in
    record {
      case = record {
        word = 0x22820527;
        before = s;
        end = Retired;
        after = record s { pc = 0x10000804 };
      };
      bytes = run 0x210b1 23 0x31a46e46e2af6a4570afb489c6189cfa223cd51f76a381 ++
          run 0x210c9 32 0x505cca55870a378f826bba91725a06e6b50e1582082d5fd6e62e1a39150a5998 ++
          run 0x210e9 8 0x1f1f606913840fa7;
      ranges = (0x210a1, 96) ∷ [];
    }

-- vs4r.v v24, (x30)
abbrev pub vs4r_v : Stored
vs4r_v =
    let s : State = record start {
      vl = 27;
      vtype = typed E8 M4 true true;
      vxrm = Down;
      x = (30, 0x21d81) ∷ [];
      v = (24, 0xd1f6fd4ce9f742f7a27b8662ae924d5479740b46d06ff48d923b21ae01afe736) ∷
          (25, 0x5b5799d34f5ff982acffd4a8d69fc4afecd057859c614d74065d3ac47adc1d12) ∷
          (26, 0xd4873d34a3037c510f99e5039b51b84a5f28b012a5d175fa39c313e950c8d89b) ∷
          (27, 0x7306b2d13fa660b8d19a10cbda17da7309b08d91ceb1a04f911467a15b823b8f) ∷
          [];
    } in
    record {
      case = record {
        word = 0x628f0c27;
        before = s;
        end = Retired;
        after = record s { pc = 0x10000804 };
      };
      bytes = run 0x21d81 32 0xd1f6fd4ce9f742f7a27b8662ae924d5479740b46d06ff48d923b21ae01afe736 ++
          run 0x21da1 32 0x5b5799d34f5ff982acffd4a8d69fc4afecd057859c614d74065d3ac47adc1d12 ++
          run 0x21dc1 32 0xd4873d34a3037c510f99e5039b51b84a5f28b012a5d175fa39c313e950c8d89b ++
          run 0x21de1 32 0x7306b2d13fa660b8d19a10cbda17da7309b08d91ceb1a04f911467a15b823b8f;
      ranges = (0x21d71, 160) ∷ [];
    }

-- vs8r.v v16, (x29)
abbrev pub vs8r_v : Stored
vs8r_v =
    let s : State = record start {
      vl = 7;
      vtype = typed E64 M2 false true;
      vxrm = NearestEven;
      x = (29, 0x21ae4) ∷ [];
      v = (16, 0xf8173cd0c82951b4a321f1e0cd23b516c97f1abf3f74a9634a4028e196ce588f) ∷
          (17, 0x3f4537df4dcc15ac2b510da94ae66ea8deb3441fb85afc3f1636e9cddddeb534) ∷
          (18, 0xe24d117b94e98a122ac000ce395749fc437612ff5bf13a344c4401b574f4666b) ∷
          (19, 0x75330a963df2268331640ec6dbd77ca71a89b55d5d2a4fed38f19e09782321f2) ∷
          (20, 0x5220fe04e180f9e01d040a56434c1ec3301129210e5b321bedc75491bc2ad281) ∷
          (21, 0x8243246b9d84dd98d16e525ac7f6c26c58c1beb2bea95c54aed557109c9d51ba) ∷
          (22, 0xa316f0b11ad4a06f094a9ed5d3f7b3a8a8eba9ac99216cc85c48b1f0983ecbc5) ∷
          (23, 0xc98fb7aede911e6e7b66786e84428cf88ef0f160f0e238046a42493ef158575d) ∷
          [];
    } in
    record {
      case = record {
        word = 0xe28e8827;
        before = s;
        end = Retired;
        after = record s { pc = 0x10000804 };
      };
      bytes = run 0x21ae4 32 0xf8173cd0c82951b4a321f1e0cd23b516c97f1abf3f74a9634a4028e196ce588f ++
          run 0x21b04 32 0x3f4537df4dcc15ac2b510da94ae66ea8deb3441fb85afc3f1636e9cddddeb534 ++
          run 0x21b24 32 0xe24d117b94e98a122ac000ce395749fc437612ff5bf13a344c4401b574f4666b ++
          run 0x21b44 32 0x75330a963df2268331640ec6dbd77ca71a89b55d5d2a4fed38f19e09782321f2 ++
          run 0x21b64 32 0x5220fe04e180f9e01d040a56434c1ec3301129210e5b321bedc75491bc2ad281 ++
          run 0x21b84 32 0x8243246b9d84dd98d16e525ac7f6c26c58c1beb2bea95c54aed557109c9d51ba ++
          run 0x21ba4 32 0xa316f0b11ad4a06f094a9ed5d3f7b3a8a8eba9ac99216cc85c48b1f0983ecbc5 ++
          run 0x21bc4 32 0xc98fb7aede911e6e7b66786e84428cf88ef0f160f0e238046a42493ef158575d;
      ranges = (0x21ad4, 288) ∷ [];
    }

-- vse16.v v11, (x13), v0.t
abbrev pub vse16_v : Stored
vse16_v =
    let s : State = record start {
      vl = 7;
      vtype = typed E16 M1 true true;
      vxrm = NearestEven;
      x = (13, 0x204c0) ∷ [];
      v = (0, 0xffffffffffffffffffffffffffffffffffffffffffffffffffffffffffffffff) ∷
          (11, 0x503f157dba7155baa98ec5f7ca11e394774c1515e4b549d32c1173fd0b392554) ∷
          [];
    } in
    record {
      case = record {
        word = 0x0006d5a7;
        before = s;
        end = Retired;
        after = record s { pc = 0x10000804 };
      };
      bytes = run 0x204c0 14 0x1515e4b549d32c1173fd0b392554;
      ranges = (0x204b0, 46) ∷ [];
    }

-- vse32.v v26, (x18)
abbrev pub vse32_v : Stored
vse32_v =
    let s : State = record start {
      vl = 7;
      vtype = typed E8 Mf4 true false;
      vxrm = Down;
      x = (18, 0x20f0d) ∷ [];
      v = (26, 0xe19ebf7f72e7028b91cf5e788fa95acf29df10732f18360702450c252458cb98) ∷
          [];
    } in
    record {
      case = record {
        word = 0x02096d27;
        before = s;
        end = Retired;
        after = record s { pc = 0x10000804 };
      };
      bytes = run 0x20f0d 28 0x72e7028b91cf5e788fa95acf29df10732f18360702450c252458cb98;
      ranges = (0x20efd, 60) ∷ [];
    }

-- vse64.v v13, (x30), v0.t
abbrev pub vse64_v : Stored
vse64_v =
    let s : State = record start {
      vl = 4;
      vtype = typed E64 M1 true false;
      vxsat = true;
      x = (30, 0x21f9b) ∷ [];
      v = (0, 0xffffffffffffffffffffffffffffffffffffffffffffffffffffffffffffffff) ∷
          (13, 0xd586677d89ed14be841fb0d04cfb16f7078e5bc2fa11a9f04233eef0736afb6) ∷
          [];
    } in
    record {
      case = record {
        word = 0x000f76a7;
        before = s;
        end = Retired;
        after = record s { pc = 0x10000804 };
      };
      bytes = run 0x21f9b 32 0xd586677d89ed14be841fb0d04cfb16f7078e5bc2fa11a9f04233eef0736afb6;
      ranges = (0x21f8b, 64) ∷ [];
    }

-- vse8.v v6, (x24)
abbrev pub vse8_v : Stored
vse8_v =
    let s : State = record start {
      vl = 31;
      vtype = typed E32 M4 false false;
      vxrm = NearestEven;
      x = (24, 0x21598) ∷ [];
      v = (6, 0xa37c9e06520eaa4346d0481d906ce4cc485e12d6e09f421db7635565feb81bf2) ∷
          [];
    } in
    record {
      case = record {
        word = 0x020c0327;
        before = s;
        end = Retired;
        after = record s { pc = 0x10000804 };
      };
      bytes = run 0x21598 31 0x7c9e06520eaa4346d0481d906ce4cc485e12d6e09f421db7635565feb81bf2;
      ranges = (0x21588, 63) ∷ [];
    }

-- vsm.v v3, (x24)
abbrev pub vsm_v : Stored
vsm_v =
    let s : State = record start {
      vl = 32;
      vtype = typed E32 M4 false true;
      vstart = 1;
      vxrm = NearestEven;
      x = (24, 0x20b41) ∷ [];
      v = (3, 0x498b477797f0287d3e48a6b5c4531817ea88f7a9bdbb1055a10ea598eb99897b) ∷
          [];
    } in
    record {
      case = record {
        word = 0x02bc01a7;
        before = s;
        end = Retired;
        after = record s {
          pc = 0x10000804;
          vstart = 0;
        };
      };
      bytes = run 0x20b42 3 0xeb9989;
      ranges = (0x20b32, 35) ∷ [];
    }

-- vsoxei16.v v16, (x2), v0
abbrev pub vsoxei16_v : Stored
vsoxei16_v =
    let s : State = record start {
      vl = 3;
      vtype = typed E8 Mf8 false false;
      vxrm = Odd;
      x = (2, 0x24fac) ∷ [];
      v = (0, 0x10000f000e000d000c000b000a000900080007000600050004000300020001) ∷
          (16, 0x5706657c6a7771d4d546347e4f60115ddacff454c63bd66226017bc09a2d1f3b) ∷
          [];
    } in
    record {
      case = record {
        word = 0x0e015827;
        before = s;
        end = Retired;
        after = record s { pc = 0x10000804 };
      };
      bytes = run 0x24fad 3 0x2d1f3b;
      ranges = (0x24f9d, 35) ∷ [];
    }

-- vsoxei32.v v5, (x25), v17
abbrev pub vsoxei32_v : Stored
vsoxei32_v =
    let s : State = record start {
      vl = 4;
      vtype = typed E64 M1 false true;
      vxrm = Down;
      x = (25, 0x20846) ∷ [];
      v = (5, 0x2ea6cefd156a824f6e95435b086056b4f0000000000000000) ∷
          (17, 0x20f000006da000004c20000078b000003be000005330000079800000399) ∷
          [];
    } in
    record {
      case = record {
        word = 0x0f1ce2a7;
        before = s;
        end = Retired;
        after = record s { pc = 0x10000804 };
      };
      bytes = run 0x20bdf 8 0x0 ++
          run 0x20c04 8 0x2 ++
          run 0x20d79 8 0xea6cefd156a824f6 ++
          run 0x20fde 8 0xe95435b086056b4f;
      ranges = (0x20bcf, 77) ∷ (0x20d69, 40) ∷ (0x20fce, 40) ∷ [];
    }

-- vsoxei64.v v27, (x14), v15
abbrev pub vsoxei64_v : Stored
vsoxei64_v =
    let s : State = record start {
      vl = 3;
      vtype = typed E8 Mf8 false true;
      vxrm = Odd;
      x = (14, 0x20597) ∷ [];
      v = (15, 0xca700000000000013e3fffffffffffffc1700000000000004ab) ∷
          (27, 0x66687e83a5aff30ab8cc0e72dd48c9cf26f448cccbd285bbe05e2991cd0ec0d3) ∷
          [];
    } in
    record {
      case = record {
        word = 0x0ef77da7;
        before = s;
        end = Retired;
        after = record s { pc = 0x10000804 };
      };
      bytes = run 0x201ae 1 0xc0 ++ run 0x20a42 1 0xd3 ++ run 0x2197a 1 0xe;
      ranges = (0x2019e, 33) ∷ (0x20a32, 33) ∷ (0x2196a, 33) ∷ [];
    }

-- vsoxei8.v v28, (x12), v4, v0.t
abbrev pub vsoxei8_v : Stored
vsoxei8_v =
    let s : State = record start {
      vl = 64;
      vtype = typed E8 M2 false false;
      x = (12, 0x20374) ∷ [];
      v = (0, 0x74620fbdf07afc281f107443da87ed531acf8bacbb98b6d80c0e5be4f15a3dd4) ∷
          (4, 0x62e8c87254f36feb4a56d87d0995865f0c4140e660ef32efe881968d07237de) ∷
          (5, 0xddb096ec01c80e4ad2e2e780a711584cb991010da856285ed8e5357a4460021a) ∷
          (28, 0xc022c103fdd33310d366c1f92c8c1d8adfa03c9e9ca01b78c6804b560a84886f) ∷
          (29, 0xc1e9eaed1ba38ad6be2d975666d6d5d4c495883adb0d50a649bc48614f9dbac5) ∷
          [];
    } in
    record {
      case = record {
        word = 0x0c460e27;
        before = s;
        end = Retired;
        after = record s { pc = 0x10000804 };
      };
      bytes = run 0x20375 1 0x1b ++
          run 0x2037a 1 0xc0 ++
          run 0x20381 2 0x9e3a ++
          run 0x20385 1 0xd6 ++
          run 0x20388 1 0x3c ++
          run 0x2039c 1 0x50 ++
          run 0x203a2 1 0x22 ++
          run 0x203a9 1 0x48 ++
          run 0x203cc 1 0xd5 ++
          run 0x203d2 1 0xa6 ++
          run 0x203d4 1 0x9d ++
          run 0x203da 1 0x9c ++
          run 0x203dc 1 0x56 ++
          run 0x203e6 1 0x84 ++
          run 0x203fb 2 0x8003 ++
          run 0x20400 1 0xc1 ++
          run 0x20405 1 0x95 ++
          run 0x20419 1 0x66 ++
          run 0x2041b 2 0xdb66 ++
          run 0x2043c 1 0xa3 ++
          run 0x20444 1 0x2c ++
          run 0x2044c 1 0x49 ++
          run 0x20459 1 0xbc ++
          run 0x20472 1 0x10;
      ranges = (0x20365, 85) ∷ (0x203bc, 199) ∷ [];
    }

-- vsoxseg7ei64.v v9, (x2), v4
abbrev pub vsoxseg7ei64_v : Stored
vsoxseg7ei64_v =
    let s : State = record start {
      vl = 16;
      vtype = typed E8 Mf2 true false;
      vstart = 1;
      vxrm = NearestEven;
      vxsat = true;
      x = (2, 0x2009b) ∷ [];
      v = (4, 0x131a0000000000001449000000000000074700000000000008c3) ∷
          (5, 0x1cd70000000000000598000000000000088d00000000000007a7) ∷
          (6, 0xdce00000000000000a300000000000019860000000000001426) ∷
          (7, 0x1d4000000000000180a0000000000001c0b000000000000186e) ∷
          (9, 0x40ff7f0101fe80aa22fe00f93fb77fff40a0fc67b6e1b29f409f010002f5af81) ∷
          (10, 0xbc4254cbaa55aa70aa8051c7aa00817faa408102aad2d240622309aab71f0153) ∷
          (11, 0x7ffc1c02cf400264ffeefe0193fe8100012e19401659e560ffb865018b00fc6e) ∷
          (12, 0xf28efe5509800847fe02025f52231c4c5e6d0904fefffe4a00fa01ffff78a0) ∷
          (13, 0x1e28e700ff7fe8ff3bfe3d810e4064fe558001ee804e8102a99681cf4cd05cc3) ∷
          (14, 0x140200a3b71bb5812ffa8c5233b47f29ffc3aa4f149f070155480281aafaeb00) ∷
          (15, 0x1ffe8aa6802018180007faab00040fe01e4d337e5d8f02bd97f9740fe802191) ∷
          [];
    } in
    record {
      case = record {
        word = 0xce4174a7;
        before = s;
        end = Retired;
        after = record s {
          pc = 0x10000804;
          vstart = 0;
        };
      };
      bytes = run 0x2013e 7 0xd89f4efe59d2e1 ++
          run 0x2026f 7 0x1ff554c01aa40 ++
          run 0x20633 7 0x7f489600b8239f ++
          run 0x207e2 7 0x21eb5c78fc01af ++
          run 0x20842 7 0x4081cf0101aa00 ++
          run 0x20928 7 0x970281fa650901 ++
          run 0x20e69 7 0xe514800416aab6 ++
          run 0x213b5 7 0xfeaa4cff8bb702 ++
          run 0x214c1 7 0x2b0102fe60409f ++
          run 0x214e4 7 0x80fad0ff001ff5 ++
          run 0x218a5 7 0xe4c3805e2e40a0 ++
          run 0x21909 7 0x374fee09400267 ++
          run 0x21a21 7 0xf00781ffe5d2b2 ++
          run 0x21ca6 7 0xd3aa016d1981fc ++
          run 0x21d72 7 0xd955a94aff6240;
      ranges = (0x2012e, 39) ∷
          (0x2025f, 39) ∷
          (0x20623, 39) ∷
          (0x207d2, 39) ∷
          (0x20832, 39) ∷
          (0x20918, 39) ∷
          (0x20e59, 39) ∷
          (0x213a5, 39) ∷
          (0x214b1, 74) ∷
          (0x21895, 39) ∷
          (0x218f9, 39) ∷
          (0x21a11, 39) ∷
          (0x21c96, 39) ∷
          (0x21d62, 39) ∷
          [];
    }

-- vsse16.v v15, (x15), x23, v0.t
abbrev pub vsse16_v : Stored
vsse16_v =
    let s : State = record start {
      vl = 4;
      vtype = typed E16 Mf4 false false;
      vxrm = Odd;
      x = (15, 0x21ff7) ∷ (23, 0xffffffffffffffff) ∷ [];
      v = (0, 0xc2b50dabc39a0155b1495a51cbf005fff0593300c9bd491766c7fb4f976ca16e) ∷
          (15, 0xee14bb369b5644be0996225cf9125f33945416aa5ebe7084074e8e84fdb50cba) ∷
          [];
    } in
    record {
      case = record {
        word = 0x0977d7a7;
        before = s;
        end = Retired;
        after = record s { pc = 0x10000804 };
      };
      bytes = run 0x21ff4 4 0xfd8e074e;
      ranges = (0x21fe4, 28) ∷ [];
    }

-- vsseg3e32.v v14, (x22)
abbrev pub vsseg3e32_v : Stored
vsseg3e32_v =
    let s : State = record start {
      vl = 3;
      vtype = typed E8 Mf8 false true;
      vxsat = true;
      x = (22, 0x21bea) ∷ [];
      v = (14, 0xf3c5b824666e745cc3c41d001ff4af76a8e084f77bd6165652e449be5f52e128) ∷
          (15, 0xeafda4c615fd2f5b22516499b6d342cfb79469a956430a7c05dddc73dbbebb7a) ∷
          (16, 0x66f45427b5c7df738abdf1b383b636f88ebf331b90f7ef7e39f02f596d84f8b1) ∷
          [];
    } in
    record {
      case = record {
        word = 0x420b6727;
        before = s;
        end = Retired;
        after = record s { pc = 0x10000804 };
      };
      bytes = run 0x21bea 32 0x56430a7c7bd6165639f02f5905dddc7352e449be6d84f8b1dbbebb7a5f52e128 ++
          run 0x21c0a 4 0x90f7ef7e;
      ranges = (0x21bda, 68) ∷ [];
    }

-- vssseg3e8.v v24, (x28), x22, v0.t
abbrev pub vssseg3e8_v : Stored
vssseg3e8_v =
    let s : State = record start {
      vl = 3;
      vtype = typed E32 Mf2 false false;
      x = (22, 0xfffffffffffffffd) ∷ (28, 0x21286) ∷ [];
      v = (0, 0x7ffffffffffffffffffffffffffffffffffffffffffffffffffffffffffffff7) ∷
          (24, 0xf5c201b262e06f4b6ac1757c7aa33f2a5bc29e9b0c2e5ddcf44806850f9d10d3) ∷
          (25, 0x35f16dc9cddf518e1e8722e121f5e90ef80fac01ff582e0a0820c3eb5292bfac) ∷
          (26, 0x909f7d90131d19aa831feaa5b4cee83bb7b5278a4199e3f3b5610631a3c7efd8) ∷
          [];
    } in
    record {
      case = record {
        word = 0x496e0c27;
        before = s;
        end = Retired;
        after = record s { pc = 0x10000804 };
      };
      bytes = run 0x21280 9 0xd8acd3efbf10c7929d;
      ranges = (0x21270, 41) ∷ [];
    }

-- vsuxei16.v v17, (x25), v21
abbrev pub vsuxei16_v : Stored
vsuxei16_v =
    let s : State = record start {
      vl = 4;
      vtype = typed E32 Mf2 true true;
      vxrm = Odd;
      x = (25, 0x20a8a) ∷ [];
      v = (17, 0x340ecfd984d99d1b13d05efae0228f2bf1c30c977e6759aa1717deb358f6b8d5) ∷
          (21, 0x40003c0038003464cb002c002800240020001c001800140010000c00080004) ∷
          [];
    } in
    record {
      case = record {
        word = 0x075cd8a7;
        before = s;
        end = Retired;
        after = record s { pc = 0x10000804 };
      };
      bytes = run 0x20a8e 16 0xf1c30c977e6759aa1717deb358f6b8d5;
      ranges = (0x20a7e, 48) ∷ [];
    }

-- vsuxei32.v v30, (x4), v30, v0.t
abbrev pub vsuxei32_v : Stored
vsuxei32_v =
    let s : State = record start {
      vl = 4;
      vtype = typed E32 Mf2 false false;
      vxrm = Down;
      x = (4, 0x21b37) ∷ [];
      v = (0, 0xffffffffffffffffffffffffffffffffffffdfffffffffffffffbffffffeffbb) ∷
          (30, 0x200000001c0000001800000014000000100000000c0000000800000004) ∷
          [];
    } in
    record {
      case = record {
        word = 0x05e26f27;
        before = s;
        end = Retired;
        after = record s { pc = 0x10000804 };
      };
      bytes = run 0x21b3b 8 0x800000004 ++ run 0x21b47 4 0x10;
      ranges = (0x21b2b, 48) ∷ [];
    }

-- vsuxei64.v v18, (x18), v24
abbrev pub vsuxei64_v : Stored
vsuxei64_v =
    let s : State = record start {
      vl = 16;
      vtype = typed E16 M1 true true;
      vxrm = NearestEven;
      x = (18, 0x20d6f) ∷ [];
      v = (18, 0x56112ea601a1c16722b00fa0120d6800b5ef52dc8fc9b3454b806d0ecdb894cb) ∷
          (24, 0xfffffffffffffebffffffffffffffffa0000000000000388000000000000037b) ∷
          (25, 0x91000000000000001afffffffffffffe49fffffffffffffeeb) ∷
          (26, 0xfffffffffffffe8100000000000003be000000000000033900000000000001f0) ∷
          (27, 0x32b000000000000006100000000000000ad00000000000000a2) ∷
          [];
    } in
    record {
      case = record {
        word = 0x07897927;
        before = s;
        end = Retired;
        after = record s { pc = 0x10000804 };
      };
      bytes = run 0x20bb8 2 0x8fc9 ++
          run 0x20bf0 2 0x22b0 ++
          run 0x20c2e 2 0x4b80 ++
          run 0x20c5a 2 0xb345 ++
          run 0x20d69 2 0x6d0e ++
          run 0x20d89 2 0x52dc ++
          run 0x20dd0 2 0x2ea6 ++
          run 0x20e00 2 0xb5ef ++
          run 0x20e11 2 0xc167 ++
          run 0x20e1c 2 0x1a1 ++
          run 0x20f5f 2 0x6800 ++
          run 0x2109a 2 0x5611 ++
          run 0x210a8 2 0x120d ++
          run 0x210ea 2 0x94cb ++
          run 0x210f7 2 0xcdb8 ++
          run 0x2112d 2 0xfa0;
      ranges = (0x20ba8, 34) ∷
          (0x20be0, 34) ∷
          (0x20c1e, 34) ∷
          (0x20c4a, 34) ∷
          (0x20d59, 66) ∷
          (0x20dc0, 34) ∷
          (0x20df0, 62) ∷
          (0x20f4f, 34) ∷
          (0x2108a, 48) ∷
          (0x210da, 47) ∷
          (0x2111d, 34) ∷
          [];
    }

-- vsuxei8.v v4, (x8), v24, v0.t
abbrev pub vsuxei8_v : Stored
vsuxei8_v =
    let s : State = record start {
      vl = 128;
      vtype = typed E8 M4 true true;
      vxrm = Odd;
      vxsat = true;
      x = (8, 0x20cf3) ∷ [];
      v = (0, 0xffffffffffffffffffffffffffffffffffffffffffffffffefffffffffffffff) ∷
          (4, 0x4700845c87ffda8d819ae45520147f67f3c8e485feda7f338025f3a1ff2cfe02) ∷
          (5, 0x1c279fb207f981480aaa4b68000b940537ad25501a8cd2c007f56f840a9f681) ∷
          (6, 0x616f2638fffe40408200aa40e4fe82027fcb80006d6640270b818102557d4c14) ∷
          (7, 0x7ffeaa0cffd80daa55aa7fb802eaaa00a5557cfefeaa024b2b0028425000a555) ∷
          (24, 0x201f1e1d1c1b1a191817161514131211100f0e0d0c0b0a090807060504030201) ∷
          (25, 0x403ffe3d3c3b3a393837363534333231302f2e2d2c2b2ad52827262524232221) ∷
          (26, 0x605f5e5d5c5b95595857565554535251504f4e4d4c4b4a494847464544434241) ∷
          (27, 0x807f7e7d7c7b7a797877767574737271706f6e6d6c6b6a696867666564636261) ∷
          [];
    } in
    record {
      case = record {
        word = 0x05840227;
        before = s;
        end = Retired;
        after = record s { pc = 0x10000804 };
      };
      bytes = run 0x20cf4 32 0x4700845c87ffda8d819ae45520147f67f3c8e485feda7f338025f3a1ff2cfe02 ++
          run 0x20d14 8 0x7f56f840a9f681 ++
          run 0x20d1d 19 0x207f981480aaa4b68000b940537ad25501a8cd ++
          run 0x20d32 27 0x408200aa40e4fe82027fcb80006d6640270b818102557d4c1401c2 ++
          run 0x20d4e 32 0xdaa55aa7fb802eaaa00a5557cfefeaa024b2b0028425000a555616f2638fffe ++
          run 0x20d6e 6 0x7ffeaa0cffd8 ++
          run 0x20d88 1 0x40 ++
          run 0x20dc8 1 0x2c ++
          run 0x20df1 1 0x79;
      ranges = (0x20ce4, 181) ∷ (0x20db8, 33) ∷ (0x20de1, 33) ∷ [];
    }

-- vsuxseg2ei16.v v1, (x19), v1
abbrev pub vsuxseg2ei16_v : Stored
vsuxseg2ei16_v =
    let s : State = record start {
      vl = 7;
      vtype = typed E16 Mf2 true false;
      vxrm = NearestEven;
      x = (19, 0x212d9) ∷ [];
      v = (1, 0x40003c003800340030002c002800240020001c001800140010000c00080004) ∷
          (2, 0x9a940940987b91edd5eb00015bb5eb5abef40002fffe1dfacfdd1c32002805ea) ∷
          [];
    } in
    record {
      case = record {
        word = 0x2619d0a7;
        before = s;
        end = Retired;
        after = record s { pc = 0x10000804 };
      };
      bytes = run 0x212dd 28 0x2001cfffe00181dfa0014cfdd00101c32000c0028000805ea0004;
      ranges = (0x212cd, 60) ∷ [];
    }
