-- Permutations and moves. tools/golden/golden_theorems writes this file from lab/tests/data/golden_vectors.
use Rattle.std.specs.Prelude.{[], ◌∷◌, true, false}
use Rattle.rv_model.specs.declared.vector.policy.Policy.TheVariants.{Ones}
use Rattle.rv_model.specs.declared.vector.state.RoundingMode.TheVariants.{NearestEven, Down, Odd}
use Rattle.rv_model.specs.declared.vector.types.Lmul.TheVariants.{M1, M2, M8, Mf4, Mf2}
use Rattle.rv_model.specs.declared.vector.types.Sew.TheVariants.{E8, E16, E32, E64}
use Rattle.test_definitions.specs.States.{Case, State, start, typed, Retired}

-- vmv.s.x v15, x5
abbrev pub vmv_s_x : Case
vmv_s_x =
    let s : State = record start {
      vl = 127;
      vtype = typed E16 M8 true true;
      vxrm = NearestEven;
      x = (5, 0x6b44) ∷ [];
      v = (15, 0xfffeffffaaaaaaaa8001000000008000ffff800000007fff8000aaaa0000ffff) ∷
          [];
    } in
    record {
      word = 0x4202e7d7;
      before = s;
      end = Retired;
      after = record s {
        pc = 0x10000804;
        v = (15, 0xfffeffffaaaaaaaa8001000000008000ffff800000007fff8000aaaa00006b44) ∷
            s.v;
      };
    }

-- vmv.x.s x14, v29
abbrev pub vmv_x_s : Case
vmv_x_s =
    let s : State = record start {
      vl = 7;
      vtype = typed E32 M1 true false;
      vxrm = Down;
      x = (14, 0xf579414defb7f877) ∷ [];
      v = (29, 0x18af0965ba653013c07e4fc8104c3e42d235a6c023aed338685e01309a008cd) ∷
          [];
    } in
    record {
      word = 0x43d02757;
      before = s;
      end = Retired;
      after = record s {
        pc = 0x10000804;
        x = (14, 0x9a008cd) ∷ s.x;
      };
    }

-- vmv1r.v v19, v13
abbrev pub vmv1r_v : Case
vmv1r_v =
    let s : State = record start {
      vl = 4;
      vtype = typed E32 Mf2 false false;
      v = (13, 0x2800000014000000080000001edb0e6e558046d567fffffffaaaaaaaa) ∷
          (19, 0x28a7a3e4e00596d97fffffff0000000040000000800000007fffffffb0e4daad) ∷
          [];
    } in
    record {
      word = 0x9ed039d7;
      before = s;
      end = Retired;
      after = record s {
        pc = 0x10000804;
        v = (19, 0x2800000014000000080000001edb0e6e558046d567fffffffaaaaaaaa) ∷
            s.v;
      };
    }

-- vmv2r.v v6, v0
abbrev pub vmv2r_v : Case
vmv2r_v =
    let s : State = record start {
      vl = 22;
      vtype = typed E16 M2 false false;
      vstart = 9;
      vxrm = NearestEven;
      v = (0, 0x144ff578495b678f2266776fb4940159ae354df2e75f5e3d9f4bd780c95245dc) ∷
          (1, 0xefb8a80b8824d28a258d5ac36803a3f9314626a2b378dcab9428effc291bedf6) ∷
          (6, 0xf47713dad079b2f2f983cbf687e0f01af5c4355756c1b37738df645e80c5d4e9) ∷
          (7, 0xac4a79c46e86705de923bb6a1fc64f3a2e589a469ef30ceaf26073c667fe3e0f) ∷
          [];
    } in
    record {
      word = 0x9e00b357;
      before = s;
      end = Retired;
      after = record s {
        pc = 0x10000804;
        vstart = 0;
        v = (6, 0x144ff578495b678f2266776fb494f01af5c4355756c1b37738df645e80c5d4e9) ∷
            (7, 0xefb8a80b8824d28a258d5ac36803a3f9314626a2b378dcab9428effc291bedf6) ∷
            s.v;
      };
    }

-- vmv4r.v v20, v8
abbrev pub vmv4r_v : Case
vmv4r_v =
    let s : State = record start {
      policy = Ones;
      vl = 15;
      vtype = typed E32 M2 false false;
      vxrm = Odd;
      v = (8, 0x7000000020000000300000003000000000000000700000001) ∷
          (9, 0x200000005000000000000000700000002000000050000000100000007) ∷
          (10, 0x7000000000000000100000005000000010000000200000005) ∷
          (11, 0x7000000010000000500000000ffffffffffffffff0000000000000002) ∷
          (20, 0x5ffffffff0000000200000003ffffffff000000020000000200000007) ∷
          (21, 0x200000005000000050000000000000003000000070000000300000007) ∷
          (22, 0x700000005ffffffff000000050000000500000005) ∷
          (23, 0x1ffffffff000000070000000200000002000000020000000200000007) ∷
          [];
    } in
    record {
      word = 0x9e81ba57;
      before = s;
      end = Retired;
      after = record s {
        pc = 0x10000804;
        v = (20, 0x7000000020000000300000003000000000000000700000001) ∷
            (21, 0x200000005000000000000000700000002000000050000000100000007) ∷
            (22, 0x7000000000000000100000005000000010000000200000005) ∷
            (23, 0x7000000010000000500000000ffffffffffffffff0000000000000002) ∷
            s.v;
      };
    }

-- vmv8r.v v0, v16
abbrev pub vmv8r_v : Case
vmv8r_v =
    let s : State = record start {
      vl = 255;
      vtype = typed E8 M8 true true;
      v = (0, 0xff55a8fe1d55fe0044fe7c6fb07f4c025523aa01ca0180ee55edffaa9ffe41d6) ∷
          (1, 0xaa55fe01d3808c0037acaad4ad02fed90180aa019781a4feaa40027ffe69aa02) ∷
          (2, 0xa581bf72b0818ad18109800240f87f62aaa151aa014001aac2ffd635ff1efe0b) ∷
          (3, 0x100804940fffac6ffedb61a810dac8050fe8105014a1dab12dbaa2c088705) ∷
          (4, 0x5800029ff55fafe7fc4ffdb7fdde4000bbd0255500155e26beeebfe5902aa7f) ∷
          (5, 0x817f0697559c2201b37f7f7cffb61ea3c20140d909fe8ec04e160198802681a8) ∷
          (6, 0x40fff5834c55f780815aaa556480aa0246408098da7f552da47f00d0a02b0155) ∷
          (7, 0x1815802076ba87102407f49feff52ff82010381015c5542fee63d8185804d38) ∷
          (16, 0x55ff00551900817f19aabcfe01c3fe2525404040aad94081ae0046feec7b0180) ∷
          (17, 0xbb9981fbc20181ddd670aa02869538a72240950fe10221bbfedf7f6555b50501) ∷
          (18, 0x7f40a9ff1e0f6c5580ff814d08f502ff801aaa76fffeda7f188802d444bf5501) ∷
          (19, 0xa80526d5f80949b8500007102bbffff804e027400aa6ec740b0160e79900124) ∷
          (20, 0x5581d155fc5081c73d29b4f9c9e4407b027f7fb5011f810200cf40ff7fce817f) ∷
          (21, 0x86ffffaa817f20d75ffea97f023bf5a9ff0255a55555fe4080fe973aaaaa4055) ∷
          (22, 0x557bff8140ef3b9efe2e4a31ff01925500409f536d7faa77817b29bd84807fcd) ∷
          (23, 0x102aa00458000d6d11a2d028055a602fefe84553a7b02c7a950ef16f380787a) ∷
          [];
    } in
    record {
      word = 0x9f03b057;
      before = s;
      end = Retired;
      after = record s {
        pc = 0x10000804;
        v = (0, 0x55ff00551900817f19aabcfe01c3fe2525404040aad94081ae0046feec7b0180) ∷
            (1, 0xbb9981fbc20181ddd670aa02869538a72240950fe10221bbfedf7f6555b50501) ∷
            (2, 0x7f40a9ff1e0f6c5580ff814d08f502ff801aaa76fffeda7f188802d444bf5501) ∷
            (3, 0xa80526d5f80949b8500007102bbffff804e027400aa6ec740b0160e79900124) ∷
            (4, 0x5581d155fc5081c73d29b4f9c9e4407b027f7fb5011f810200cf40ff7fce817f) ∷
            (5, 0x86ffffaa817f20d75ffea97f023bf5a9ff0255a55555fe4080fe973aaaaa4055) ∷
            (6, 0x557bff8140ef3b9efe2e4a31ff01925500409f536d7faa77817b29bd84807fcd) ∷
            (7, 0x102aa00458000d6d11a2d028055a602fefe84553a7b02c7a950ef16f380787a) ∷
            s.v;
      };
    }

-- vcompress.vm v10, v7, v9
abbrev pub vcompress_vm : Case
vcompress_vm =
    let s : State = record start {
      vl = 5;
      vtype = typed E16 Mf2 true true;
      v = (7, 0x412efa694000d9b6000156e3fffebb61aaaafffe00003bfd5e66dfcc30857fff) ∷
          (9, 0xffffffffffffffffffffff7fffffffffffffffffffffffffffffffffffffffff) ∷
          (10, 0xffff00010000000053bafffe9baf555540006f08a1df80014394fffe87040001) ∷
          [];
    } in
    record {
      word = 0x5e74a557;
      before = s;
      end = Retired;
      after = record s {
        pc = 0x10000804;
        v = (10, 0xffff00010000000053bafffe9baf555540006f08a1df3bfd5e66dfcc30857fff) ∷
            s.v;
      };
    }

-- vrgather.vx v10, v4, x3
abbrev pub vrgather_vx : Case
vrgather_vx =
    let s : State = record start {
      vl = 6;
      vtype = typed E64 M2 true true;
      vxrm = Odd;
      x = (3, 0x100000001) ∷ [];
      v = (4, 0xffffffffffffffff00000000000000015555555555555555) ∷
          (5, 0x4000000000000000d56d0e2d1561728f957686a5e8652e619d4f0f59a099e1d3) ∷
          (10, 0x4827a7e1852b0743d263b5f959b48f42639765e52aec517ab4f65cd5a4474b3d) ∷
          (11, 0x79381c6cc73fa55c000000000000000040000000000000000000000000000000) ∷
          [];
    } in
    record {
      word = 0x3241c557;
      before = s;
      end = Retired;
      after = record s {
        pc = 0x10000804;
        v = (10, 0x0) ∷
            (11, 0x79381c6cc73fa55c000000000000000000000000000000000000000000000000) ∷
            s.v;
      };
    }

-- vrgatherei16.vv v31, v29, v28, v0.t
abbrev pub vrgatherei16_vv : Case
vrgatherei16_vv =
    let s : State = record start {
      vl = 7;
      vtype = typed E8 Mf4 false false;
      vxrm = Odd;
      v = (0, 0xfffffffffffffffffbffffffffffffffffffffffffffffffffffffffffdfdff7) ∷
          (28, 0x3000200040005000700020003ff3800070001000200070005000600050004) ∷
          (29, 0x7f7ffeff5580ff0101fe55014040aa01ff55405555807ffe7ffe020080fe00ff) ∷
          (31, 0x7f0055fefe408140ff407f7f7f407f028001ff80aa400102fe02807f55aa0201) ∷
          [];
    } in
    record {
      word = 0x39de0fd7;
      before = s;
      end = Retired;
      after = record s {
        pc = 0x10000804;
        v = (31, 0x7f0055fefe408140ff407f7f7f407f028001ff80aa400102fe00fe7f55fe0200) ∷
            s.v;
      };
    }

-- vslide1down.vx v30, v16, x14
abbrev pub vslide1down_vx : Case
vslide1down_vx =
    let s : State = record start {
      vl = 17;
      vtype = typed E8 M1 true false;
      vxrm = Down;
      vxsat = true;
      x = (14, 0x1) ∷ [];
      v = (16, 0x408000fe40000080aa81aa818100fe010255015581557f815502000081550240) ∷
          (30, 0x18180800280ffaa7f80405500fe0180aa55fe5580ff5501aa40aa81aa554080) ∷
          [];
    } in
    record {
      word = 0x3f076f57;
      before = s;
      end = Retired;
      after = record s {
        pc = 0x10000804;
        v = (30, 0x18180800280ffaa7f80405500fe0101010255015581557f8155020000815502) ∷
            s.v;
      };
    }

-- vslide1up.vx v21, v20, x30, v0.t
abbrev pub vslide1up_vx : Case
vslide1up_vx =
    let s : State = record start {
      policy = Ones;
      vl = 32;
      vtype = typed E8 M1 true true;
      x = (30, 0xffffffffffffffff) ∷ [];
      v = (0, 0xdb4258f602f3d074a3566566a933be2274cf30542e8d62baa79060c1f216259c) ∷
          (20, 0xe378fe4040bc9bd2b181409900df65aaa3675380fd6caa807fa10a818daa47aa) ∷
          (21, 0xaa01803e0ee417ff815481bbf0550f197f019955d202fe4000effe71fbceaa00) ∷
          [];
    } in
    record {
      word = 0x394f6ad7;
      before = s;
      end = Retired;
      after = record s {
        pc = 0x10000804;
        v = (21, 0x78fe4040ffffd2ffffffff00ff65aaffffff80ffffaaff7fa1ffff8daa47ffff) ∷
            s.v;
      };
    }

-- vslidedown.vi v17, v21, 25
abbrev pub vslidedown_vi : Case
vslidedown_vi =
    let s : State = record start {
      vl = 7;
      vtype = typed E16 Mf2 true false;
      vxrm = NearestEven;
      v = (17, 0x5000000010002000000020005000700020001000700000001000700010005) ∷
          (21, 0xffff000000050002000000050003ffff00020003000300050000000100050002) ∷
          [];
    } in
    record {
      word = 0x3f5cb8d7;
      before = s;
      end = Retired;
      after = record s {
        pc = 0x10000804;
        v = (17, 0x5000000010002000000020005000700020000000000000000000000000000) ∷
            s.v;
      };
    }

-- vslideup.vx v21, v15, x21
abbrev pub vslideup_vx : Case
vslideup_vx =
    let s : State = record start {
      vl = 31;
      vtype = typed E8 M1 true false;
      vxrm = Odd;
      x = (21, 0x2) ∷ [];
      v = (15, 0xff3a559755fe02813955007fa3ff7faa014f86cf40fffe4cfe80b4aa000e00ff) ∷
          (21, 0x55cf558aaa7faa7faa685500401d4040ff3602018001087fc13031fefe73aa80) ∷
          [];
    } in
    record {
      word = 0x3afacad7;
      before = s;
      end = Retired;
      after = record s {
        pc = 0x10000804;
        v = (21, 0x559755fe02813955007fa3ff7faa014f86cf40fffe4cfe80b4aa000e00ffaa80) ∷
            s.v;
      };
    }
