-- Vector loads. tools/golden/golden_theorems writes this file from lab/tests/data/golden_vectors.
use Rattle.std.specs.Prelude.{[], ◌∷◌, true, false}
use Rattle.rv_model.specs.declared.vector.policy.Policy.TheVariants.{Ones}
use Rattle.rv_model.specs.declared.vector.state.RoundingMode.TheVariants.{NearestEven, Down, Odd}
use Rattle.rv_model.specs.declared.vector.types.Lmul.TheVariants.{M1, M2, M4, M8, Mf8, Mf4, Mf2}
use Rattle.rv_model.specs.declared.vector.types.Sew.TheVariants.{E8, E16, E32, E64}
use Rattle.test_definitions.specs.States.{Case, State, start, typed, Retired}

-- vl1re8.v v18, (x24)
abbrev pub vl1re8_v : Case
vl1re8_v =
    let s : State = record start {
      vl = 32;
      vtype = typed E16 M2 false true;
      vxrm = Odd;
      x = (24, 0x20ce7) ∷ [];
      v = (18, 0x953547941b82da80de966b469d5ced097db47c93b1e61ac925061c37167653e6) ∷
          [];
    } in
    record {
      word = 0x028c0907;
      before = s;
      end = Retired;
      after = record s {
        pc = 0x10000804;
        v = (18, 0x7e59340feac5a00be6c19c77522d08e3be99744f2a05e0bb96714c2702ddb893) ∷
            s.v;
      };
    }

-- vl2re8.v v10, (x26)
abbrev pub vl2re8_v : Case
vl2re8_v =
    let s : State = record start {
      policy = Ones;
      vl = 12;
      vtype = typed E8 Mf2 true false;
      vxrm = NearestEven;
      vxsat = true;
      x = (26, 0x20000) ∷ [];
      v = (10, 0xce77a55c0b0573a419b084ae48c1b23d516506c0a6533ec36030c308494e5d7c) ∷
          (11, 0xd2154d0fc80cad46d8026522186368a3aa7a9483f0d55e8e8b68f5265d8813fd) ∷
          [];
    } in
    record {
      word = 0x228d0507;
      before = s;
      end = Retired;
      after = record s {
        pc = 0x10000804;
        v = (10, 0x825d3813eec9a47f5a3510ebc6a17c57320de8c39e79542f0ae5c09b76512c07) ∷
            (11, 0x2d08e3be99744f2a05e0bb96714c2702ddb8936e4924ffdab5906b4621fcd7b2) ∷
            s.v;
      };
    }

-- vl4re64.v v4, (x27)
abbrev pub vl4re64_v : Case
vl4re64_v =
    let s : State = record start {
      vl = 44;
      vtype = typed E16 M4 true false;
      vstart = 15;
      x = (27, 0x20476) ∷ [];
      v = (4, 0x617c3269f9d73054fe2d288f8e88266e7e782706d36d78223354af71a474e6c8) ∷
          (5, 0xd8f782a42ea02ac5c5c34c6529486620bf40d59a6ae32ecd33baee3580021489) ∷
          (6, 0x1d89ee40e372c0e229d061755b3e0e942a9fdd8ec78fd195d5bed8cda487bfb1) ∷
          (7, 0xadefc31f3096849a272fca520db25359beaf5a19be7e953318eb7fd90f7abb82) ∷
          [];
    } in
    record {
      word = 0x628df207;
      before = s;
      end = Retired;
      after = record s {
        pc = 0x10000804;
        vstart = 0;
        v = (7, 0xb18c67421df8d3ae272fca520db25359beaf5a19be7e953318eb7fd90f7abb82) ∷
            s.v;
      };
    }

-- vl8re64.v v16, (x18)
abbrev pub vl8re64_v : Case
vl8re64_v =
    let s : State = record start {
      vl = 115;
      vtype = typed E16 M8 false true;
      vstart = 31;
      vxrm = Down;
      vxsat = true;
      x = (18, 0x205e2) ∷ [];
      v = (16, 0x112305036788fab218b034caf4922b14e477e85d388c079af791899a02e0cd79) ∷
          (17, 0x9e01ed0d5e2680716ac2aa9bf9648f23a8328412868e6f21a74a1174aa49c5ae) ∷
          (18, 0x5bc2091b4e2483088398408125756b55b25163c40451f92e57006baa2f38c4a6) ∷
          (19, 0xecbf7608740b4979cf529d9032d1a16aca55ff85f203be1cfab0ec25889d47c7) ∷
          (20, 0x219706e2afdc2181d1181f2db20d44b833ea6fbfa1a3738d3d053e113c8f093c) ∷
          (21, 0xdc1105e0db2214405b8432e14df47412a738653e05576bb325e35ebf55307715) ∷
          (22, 0x2b3c646829fb86ccbd77d0cee71a5e6d332727ca409344f1df5e5f47af5c46db) ∷
          (23, 0x8fcbcb50c5b447dd558956f289f78d9853a283996adb84d44cdd1bc409439e44) ∷
          [];
    } in
    record {
      word = 0xe2897807;
      before = s;
      end = Retired;
      after = record s {
        pc = 0x10000804;
        vstart = 0;
        v = (23, 0x4722f2cda8835e39558956f289f78d9853a283996adb84d44cdd1bc409439e44) ∷
            s.v;
      };
    }

-- vle16.v v31, (x4), v0.t
abbrev pub vle16_v : Case
vle16_v =
    let s : State = record start {
      policy = Ones;
      vl = 5;
      vtype = typed E8 Mf4 false true;
      vxrm = NearestEven;
      vxsat = true;
      x = (4, 0x20577) ∷ [];
      v = (0, 0xffffffffffffffffffffffffffffffffffffffffffffffffffffffffffffffff) ∷
          (31, 0xfa2c29d4af770e733c035d3621df6682d15aafa6204256c58b7c4fcd52e05c13) ∷
          [];
    } in
    record {
      word = 0x00025f87;
      before = s;
      end = Retired;
      after = record s {
        pc = 0x10000804;
        v = (31, 0xfa2c29d4af770e733c035d3621df6682d15aafa6204264340feac5a07b56310c) ∷
            s.v;
      };
    }

-- vle16ff.v v11, (x25)
abbrev pub vle16ff_v : Case
vle16ff_v =
    let s : State = record start {
      policy = Ones;
      vl = 4;
      vtype = typed E8 Mf8 false false;
      vxrm = NearestEven;
      vxsat = true;
      x = (25, 0x20c5d) ∷ [];
      v = (11, 0x6d49c41f5552b960888cc0c245152e781190f627feaa1a33866c987e84188171) ∷
          [];
    } in
    record {
      word = 0x030cd587;
      before = s;
      end = Retired;
      after = record s {
        pc = 0x10000804;
        v = (11, 0x6d49c41f5552b960888cc0c245152e781190f627feaa1a3378532e09e4b48f6a) ∷
            s.v;
      };
    }

-- vle32.v v8, (x11), v0.t
abbrev pub vle32_v : Case
vle32_v =
    let s : State = record start {
      vl = 15;
      vtype = typed E64 M4 true false;
      vxrm = NearestEven;
      x = (11, 0x21de2) ∷ [];
      v = (0, 0xffffffffffffffffffffffffffffffffffffffffffffffffffffffffffffffff) ∷
          (8, 0xfe12d25685033c483943a581925db3fc972b7ca4d3135d6294264976dfb1d328) ∷
          (9, 0x5c598a8e28e2f287541ab83fba83808f3ccb7ba01599c17582be269d45fb8075) ∷
          [];
    } in
    record {
      word = 0x0005e407;
      before = s;
      end = Retired;
      after = record s {
        pc = 0x10000804;
        v = (8, 0x522d98734e2904dfba95704b2601dcb7926d4823fed9b48f6a4520fbd6b18c67) ∷
            (9, 0x5c598a8e5e3914efcaa5805b3611ecc7a27d58330ee9c49f7a55300be6c19c77) ∷
            s.v;
      };
    }

-- vle32ff.v v23, (x18)
abbrev pub vle32ff_v : Case
vle32ff_v =
    let s : State = record start {
      vl = 5;
      vtype = typed E64 M2 true true;
      vxrm = Odd;
      x = (18, 0x21f89) ∷ [];
      v = (23, 0x350e6eb0419e313c5c53dc98f0996f27a830d0b45b69bf5f3348e861830ce31b) ∷
          [];
    } in
    record {
      word = 0x03096b87;
      before = s;
      end = Retired;
      after = record s {
        pc = 0x10000804;
        v = (23, 0x350e6eb0419e313c5c53dc98a27d58330ee9c49f7a55300be6c19c77522d08e3) ∷
            s.v;
      };
    }

-- vle32ff.v v16, (x7), v0.t
abbrev pub vle32ff_v_2 : Case
vle32ff_v_2 =
    let s : State = record start {
      vl = 25;
      vtype = typed E8 M1 false false;
      vxrm = NearestEven;
      x = (7, 0x21ff4) ∷ [];
      v = (0, 0xffffffffffffffffffffffffffffffffffffffffffffffffffffffffffffffff) ∷
          (16, 0xf69b68a59805ed7bd74be74763217e6abc6ba2d7de8c80d392e5f14868f4410b) ∷
          (17, 0xd33e4f681619fcd50d9d1c70165e07cff73f4a41a324dfd3086acc8e6c61ebb2) ∷
          (18, 0x2d59643c5861505058af0db93db480bd61d0a69620eefa8f11f273fd09e18e71) ∷
          (19, 0xaf35e93403b92b2fae43809501c5dc0a3eb01710bf682309f7b4648cbfae5fbc) ∷
          [];
    } in
    record {
      word = 0x0103e807;
      before = s;
      end = Retired;
      after = record s {
        pc = 0x10000804;
        vl = 3;
        v = (16, 0xf69b68a59805ed7bd74be74763217e6abc6ba2d712edc8a37e59340feac5a07b) ∷
            s.v;
      };
    }

-- vle64.v v4, (x8)
abbrev pub vle64_v : Case
vle64_v =
    let s : State = record start {
      vl = 4;
      vtype = typed E64 M4 true true;
      vxrm = NearestEven;
      x = (8, 0x202b2) ∷ [];
      v = (4, 0xfbb88f93aecd22c39832480814c846c49b7fca35461a6597e64014b3c35cb8b7) ∷
          (5, 0x43f4d195635e9ffa1735f9025c5df21c68d0b20c25ea841ca3de5dd12c41ea63) ∷
          (6, 0x2146e1b8d2a3fe3025797db2dff64f6673a0cd5d85ed9b88f2ac55b22045ee5a) ∷
          (7, 0x6d71e80e96316d240eaf1a738faf4ebee4a7e45899dd0efc4f80f96247bda2a4) ∷
          [];
    } in
    record {
      word = 0x02047207;
      before = s;
      end = Retired;
      after = record s {
        pc = 0x10000804;
        v = (4, 0xf8d3ae89643f1af5d0ab86613c17f2cda883532e09e4bf9a75502b06e1bc9772) ∷
            s.v;
      };
    }

-- vle64ff.v v30, (x2), v0.t
abbrev pub vle64ff_v : Case
vle64ff_v =
    let s : State = record start {
      vl = 8;
      vtype = typed E16 Mf2 true true;
      vxrm = NearestEven;
      x = (2, 0x21c5a) ∷ [];
      v = (0, 0xfd3d2c2cc89acaee9e38526334e1052176c0edd3209b752720757b411f34db62) ∷
          (30, 0xfb632a0f07de58de5f4fb1ee1c3d62cc2032f23afaf01d7385fe3aa75890aee3) ∷
          (31, 0x7de934a20569e7addcc31b81837eb1e5e982bec1403380aff22356b9c50c08e5) ∷
          [];
    } in
    record {
      word = 0x01017f07;
      before = s;
      end = Retired;
      after = record s {
        pc = 0x10000804;
        v = (30, 0xfb632a0f07de58de5f4fb1ee1c3d62cc01dcb7926d4823fe85fe3aa75890aee3) ∷
            (31, 0x7de934a20569e7add4af8a65401bf6d1ac87623d18f3cea9f22356b9c50c08e5) ∷
            s.v;
      };
    }

-- vle64ff.v v16, (x4), v0.t
abbrev pub vle64ff_v_2 : Case
vle64ff_v_2 =
    let s : State = record start {
      vl = 32;
      vtype = typed E64 M8 false false;
      x = (4, 0xffffffffffffffff) ∷ [];
      v = (0, 0x4000000000000000000000000000000000000000000000000000a2) ∷
          (16, 0xbf0ad3a4c7d806a0b097dc8c6bf81343a431a4abea437d1261745e561d711f50) ∷
          (17, 0x5eb8b26611e260307e2d5ca437022d8ca98717f94ed6d7b6e514646b30dd0540) ∷
          (18, 0xdf5fa239717eacf4a77d9009767042bbabe1597fbc5a1c0ba914bb445f9648e8) ∷
          (19, 0x82c40f13e477dbf6d9fb261c7b9337883082ca917f1b59955b321bde3398fc7c) ∷
          (20, 0x178955176eefa29f4c8ae1a2b12bfa4524d3fbd47351662a680cd321123c15e5) ∷
          (21, 0x5901f6a9efd60a4b4e136ff540712d2e83945a54499f8bcbbe7e2f29c59a241f) ∷
          (22, 0xfc25aa9a17744de2a2af09ebaff177066cbd73c38152071f9285313d5345ae3a) ∷
          (23, 0xad1e03c4d489fcf3e793a002e67bc0bff0125dffb7fbe9dd9ca826853428426) ∷
          [];
    } in
    record {
      word = 0x01027807;
      before = s;
      end = Retired;
      after = record s {
        pc = 0x10000804;
        vl = 1;
      };
    }

-- vle8.v v30, (x21), v0.t
abbrev pub vle8_v : Case
vle8_v =
    let s : State = record start {
      vl = 4;
      vtype = typed E64 M4 true true;
      vxrm = NearestEven;
      x = (21, 0x23ffc) ∷ [];
      v = (0, 0xffffffffffffffffffffffffffffffffffffffffffffffffffffffffdf7fffff) ∷
          (30, 0x650c7d305ef0559df972a2ffb41c30685ed3d3717253b4e7415ae96cf225db93) ∷
          [];
    } in
    record {
      word = 0x000a8f07;
      before = s;
      end = Retired;
      after = record s {
        pc = 0x10000804;
        v = (30, 0x650c7d305ef0559df972a2ffb41c30685ed3d3717253b4e7415ae96cb28d6843) ∷
            s.v;
      };
    }

-- vle8ff.v v21, (x24)
abbrev pub vle8ff_v : Case
vle8ff_v =
    let s : State = record start {
      policy = Ones;
      vl = 3;
      vtype = typed E32 Mf2 true true;
      vxrm = Down;
      x = (24, 0x20b05) ∷ [];
      v = (21, 0xac0ddf00519b7a71abfe1a41523daa704424d1b2b56d91c354cd3e0ce6072ba6) ∷
          [];
    } in
    record {
      word = 0x030c0a87;
      before = s;
      end = Retired;
      after = record s {
        pc = 0x10000804;
        v = (21, 0xffffffffffffffffffffffffffffffffffffffffffffffffffffffffff2904df) ∷
            s.v;
      };
    }

-- vle8ff.v v12, (x22), v0.t
abbrev pub vle8ff_v_2 : Case
vle8ff_v_2 =
    let s : State = record start {
      vl = 51;
      vtype = typed E16 M4 true true;
      vxrm = Odd;
      x = (22, 0x21ffb) ∷ [];
      v = (0, 0x4e8e9b28769dc4e9b1f52544923d2e798a5beb4a851418979863a63ff76836fb) ∷
          (12, 0x11da274452670a2d45d9fecf7c5622c97164050a5885e53f57a95509152ae065) ∷
          (13, 0x4d47d15330259e559cd4206e3326b3cf02dcabe9e2822c752fa86c6586a777) ∷
          [];
    } in
    record {
      word = 0x010b0607;
      before = s;
      end = Retired;
      after = record s {
        pc = 0x10000804;
        vl = 5;
        v = (12, 0x11da274452670a2d45d9fecf7c5622c97164050a5885e53f57a95512ed2aa37e) ∷
            s.v;
      };
    }

-- vlm.v v26, (x7)
abbrev pub vlm_v : Case
vlm_v =
    let s : State = record start {
      vl = 4;
      vtype = typed E16 Mf4 false true;
      vxrm = NearestEven;
      vxsat = true;
      x = (7, 0x20a07) ∷ [];
      v = (26, 0x56117ceeb5154d2922baf6ffc7ef18ef0dbd0094d23dc49f2462aa89c6ee8e77) ∷
          [];
    } in
    record {
      word = 0x02b38d07;
      before = s;
      end = Retired;
      after = record s {
        pc = 0x10000804;
        v = (26, 0x56117ceeb5154d2922baf6ffc7ef18ef0dbd0094d23dc49f2462aa89c6ee8e6c) ∷
            s.v;
      };
    }

-- vloxei16.v v26, (x21), v25
abbrev pub vloxei16_v : Case
vloxei16_v =
    let s : State = record start {
      policy = Ones;
      vl = 8;
      vtype = typed E16 Mf2 false true;
      vxrm = Odd;
      vxsat = true;
      x = (21, 0x20ac2) ∷ [];
      v = (25, 0xd1000f00d200140090009a0009000100a300f1004e0004003b00b800110039) ∷
          (26, 0x40008001ffff8001ffffaaaa80010000a15b5c5b42e1800080002491bccaffff) ∷
          [];
    } in
    record {
      word = 0x0f9add07;
      before = s;
      end = Retired;
      after = record s {
        pc = 0x10000804;
        v = (26, 0x40008001ffff8001ffffaaaa8001000005e0613c9b766e496c470ee94f2a22fd) ∷
            s.v;
      };
    }

-- vloxei32.v v11, (x18), v8
abbrev pub vloxei32_v : Case
vloxei32_v =
    let s : State = record start {
      vl = 4;
      vtype = typed E8 Mf8 true false;
      vxrm = Down;
      x = (18, 0x23f70) ∷ [];
      v = (8, 0xc1000000e10000008a00000083000000640000003a000000cb0000003e) ∷
          (11, 0x85ffd7d963f2813aaabd96c6f7bc800140420284ff28a50255405fb16f020181) ∷
          [];
    } in
    record {
      word = 0x0e896587;
      before = s;
      end = Retired;
      after = record s {
        pc = 0x10000804;
        v = (11, 0x85ffd7d963f2813aaabd96c6f7bc800140420284ff28a50255405fb17053d9e7) ∷
            s.v;
      };
    }

-- vloxei64.v v24, (x13), v20
abbrev pub vloxei64_v : Case
vloxei64_v =
    let s : State = record start {
      vl = 16;
      vtype = typed E16 M1 true false;
      vstart = 12;
      x = (13, 0x20ee9) ∷ [];
      v = (20, 0x47000000000000005a000000000000009f00000000000000d0) ∷
          (21, 0xa2000000000000003800000000000000190000000000000058) ∷
          (22, 0x6300000000000000650000000000000027000000000000001b) ∷
          (23, 0xcd000000000000008e000000000000003700000000000000f7) ∷
          (24, 0x539c9cb9ff13b1aa1ae0a7580f7f2362be3e4a22932781ae11f3113e96d95f49) ∷
          [];
    } in
    record {
      word = 0x0f46fc07;
      before = s;
      end = Retired;
      after = record s {
        pc = 0x10000804;
        vstart = 0;
        v = (24, 0xc49f936eeac5ecc71ae0a7580f7f2362be3e4a22932781ae11f3113e96d95f49) ∷
            s.v;
      };
    }

-- vloxei8.v v11, (x30), v23
abbrev pub vloxei8_v : Case
vloxei8_v =
    let s : State = record start {
      policy = Ones;
      vl = 31;
      vtype = typed E8 M1 false false;
      vxsat = true;
      x = (30, 0x2052a) ∷ [];
      v = (11, 0x318414630200feaaf5350056b0ad38aa01550dcdff3afe8095faf0fe070255f2) ∷
          (23, 0x29e2832850698120656d035198c626e0df80404601b04048246cf8e2d1bab22d) ∷
          [];
    } in
    record {
      word = 0x0f7f0587;
      before = s;
      end = Retired;
      after = record s {
        pc = 0x10000804;
        v = (11, 0x3131f0a87b23a6808fb744a004b55ee7c2812b09fa7c2b5314926a314cf9c661) ∷
            s.v;
      };
    }

-- vloxseg2ei64.v v15, (x25), v18
abbrev pub vloxseg2ei64_v : Case
vloxseg2ei64_v =
    let s : State = record start {
      vl = 4;
      vtype = typed E16 Mf4 true true;
      vxrm = Down;
      x = (25, 0x20422) ∷ [];
      v = (15, 0x55559667c9aa8001fffe8000813376ac48648d810002000200006f0bbca7442d) ∷
          (16, 0x2ecf0002eaac2b45ffff8001d509f549954e7fff55e8aaaa800080003c3d8000) ∷
          (18, 0x6ff000000000000009e00000000000003ee0000000000000473) ∷
          [];
    } in
    record {
      word = 0x2f2cf787;
      before = s;
      end = Retired;
      after = record s {
        pc = 0x10000804;
        v = (15, 0x55559667c9aa8001fffe8000813376ac48648d81000200021bf622fd643fc9a4) ∷
            (16, 0x2ecf0002eaac2b45ffff8001d509f549954e7fff55e8aaaa65406c47ae8913ee) ∷
            s.v;
      };
    }

-- vlse16.v v8, (x17), x0
abbrev pub vlse16_v : Case
vlse16_v =
    let s : State = record start {
      vl = 27;
      vtype = typed E32 M8 true true;
      vxrm = NearestEven;
      vxsat = true;
      x = (17, 0x21ffc) ∷ [];
      v = (8, 0x61798ba6a1c6046f7f9b3d9fea64ca2629d1a5ae33951f8e9222725af0d1c179) ∷
          (9, 0x4b8f3efe9340c56c7c55054c18c39d5e5dd6a4e3f25ba0567ed06dd3a7bff7bb) ∷
          (10, 0xc7e96d6862529897bb1937b47739badeb7c79aeda5e01da60ee1596c2c0c6191) ∷
          (11, 0xa6e29044d5c5a2778b8beddf65d12e2ecb793278f7ff437c7e9b8f035ea65323) ∷
          [];
    } in
    record {
      word = 0x0a08d407;
      before = s;
      end = Retired;
      after = record s {
        pc = 0x10000804;
        v = (8, 0xc8a3c8a3c8a3c8a3c8a3c8a3c8a3c8a3c8a3c8a3c8a3c8a3c8a3c8a3c8a3c8a3) ∷
            (9, 0x4b8f3efe9340c56c7c55c8a3c8a3c8a3c8a3c8a3c8a3c8a3c8a3c8a3c8a3c8a3) ∷
            s.v;
      };
    }

-- vlseg2e32.v v19, (x15)
abbrev pub vlseg2e32_v : Case
vlseg2e32_v =
    let s : State = record start {
      policy = Ones;
      vl = 3;
      vtype = typed E8 Mf8 true true;
      vxsat = true;
      x = (15, 0x2058d) ∷ [];
      v = (19, 0x80927989ff2fd8b85b8b29c80bc74970dd2ca71332fe27d5049fbfc62f7313eb) ∷
          (20, 0x406e7d4d3a1a09abfc1051cca6a59eebcf6dbb949fdf3decf7956b89d6577fca) ∷
          [];
    } in
    record {
      word = 0x2207e987;
      before = s;
      end = Retired;
      after = record s {
        pc = 0x10000804;
        v = (19, 0xffffffffffffffffffffffffffffffffffffffff0fdfba95dcb7926db48f6a45) ∷
            (20, 0xffffffffffffffffffffffffffffffffffffffffa37e5934704b26014823fed9) ∷
            s.v;
      };
    }

-- vlseg3e32ff.v v24, (x16)
abbrev pub vlseg3e32ff_v : Case
vlseg3e32ff_v =
    let s : State = record start {
      vl = 8;
      vtype = typed E32 M1 false false;
      vstart = 5;
      vxrm = Down;
      x = (16, 0x217fc) ∷ [];
      v = (24, 0xf898ab0d4982f3e48c438ad6266a2361c810abe7709340b88ed59b05f8bedd0c) ∷
          (25, 0xa211e1ef4d9234493e30de756fb542de291cb69fca54feffa91e377d44c1cd27) ∷
          (26, 0x6875204610292d0cd1628206eefb9ef3f2728df4ad4bdae280755d356ad9ebb0) ∷
          [];
    } in
    record {
      word = 0x43086c07;
      before = s;
      end = Retired;
      after = record s {
        pc = 0x10000804;
        vstart = 0;
        v = (24, 0xd4af8a6518f3cea9512c07e2266a2361c810abe7709340b88ed59b05f8bedd0c) ∷
            (25, 0x68431ef9ac87623de5c09b766fb542de291cb69fca54feffa91e377d44c1cd27) ∷
            (26, 0xfcd7b28d401bf6d1845f3a15eefb9ef3f2728df4ad4bdae280755d356ad9ebb0) ∷
            s.v;
      };
    }

-- vlseg5e32ff.v v8, (x14)
abbrev pub vlseg5e32ff_v : Case
vlseg5e32ff_v =
    let s : State = record start {
      vl = 5;
      vtype = typed E16 Mf2 false true;
      vstart = 1;
      vxrm = Down;
      x = (14, 0x1ffb2) ∷ [];
      v = (8, 0x7cf305e10c898ec4c5cac8f67ee85466182d530cb9c727dde71a52425576f1a) ∷
          (9, 0x2cf69557820f8b1ca70dce7ccde9cdb3ae6c3fd6484cba9a4823aff6db43c6be) ∷
          (10, 0x5e8b3cc77626bcdf235c745a16a71bb414753c71c819343abdf999f91f19b762) ∷
          (11, 0xeec8edfd08906161b963fb8348ce07939e626da4646cec090e754acf5664fe69) ∷
          (12, 0x36224ad2b122c0f517e1e8c8b9c3b9e72fbdda3b9ad7d103331a6a42fafe3211) ∷
          [];
    } in
    record {
      word = 0x83076407;
      before = s;
      end = Retired;
      after = record s {
        pc = 0x10000804;
        vl = 1;
        vstart = 0;
      };
    }

-- vlsseg3e16.v v17, (x27), x24
abbrev pub vlsseg3e16_v : Case
vlsseg3e16_v =
    let s : State = record start {
      policy = Ones;
      vl = 6;
      vtype = typed E32 M1 true true;
      vxrm = Down;
      x = (24, 0xffffffffffffffff) ∷ (27, 0x2369d) ∷ [];
      v = (17, 0x6165d38d683fd17f019be51c1cd0b55cca673ed4e2a5baf78e6d4d2df0430d4e) ∷
          (18, 0x9f698aa5020b93760982ac3e6164c299ba10ac0afcf4cd7f2ac4ffdc1150b178) ∷
          (19, 0x986d88861a36db46198c3a769053339ff51e689beef09cfa93f367ec4d989aa8) ∷
          [];
    } in
    record {
      word = 0x4b8dd887;
      before = s;
      end = Retired;
      after = record s {
        pc = 0x10000804;
        v = (17, 0xffffffffffffffffffffffffffffffffffffffff2e09532e78539d78c29de7c2) ∷
            (18, 0xffffffffffffffffffffffffffffffffffffffff78539d78c29de7c20ce73c0c) ∷
            (19, 0xffffffffffffffffffffffffffffffffffffffffc29de7c20ce73c0c613c8661) ∷
            s.v;
      };
    }

-- vluxei16.v v20, (x20), v25, v0.t
abbrev pub vluxei16_v : Case
vluxei16_v =
    let s : State = record start {
      vl = 6;
      vtype = typed E64 M2 false true;
      vxsat = true;
      x = (20, 0x20000) ∷ [];
      v = (0, 0xf0831b9da6bd46fab525a45049c3ce5fd02689650a14bb3ab6435accfd0d71fa) ∷
          (20, 0xb863cad8cc9de3bc88750adb3621307da2a23d42e9fdd5553a32551ca3ef8608) ∷
          (21, 0xa7621fdd1f21af4738363ca309d2f2c817dc53d4f7982a08cdcc58880c2e6577) ∷
          (25, 0x14f62dd30720048a2cc12c89164b08ac2f5d238804350ac81eb61615066a2fb2) ∷
          [];
    } in
    record {
      word = 0x059a5a07;
      before = s;
      end = Retired;
      after = record s {
        pc = 0x10000804;
        v = (20, 0xb5906b4621fcd7b288750adb3621307debc6a17c57320de83a32551ca3ef8608) ∷
            (21, 0xa7621fdd1f21af4738363ca309d2f2c8b28d68431ef9d4af96714c2702ddb893) ∷
            s.v;
      };
    }

-- vluxei32.v v14, (x5), v1
abbrev pub vluxei32_v : Case
vluxei32_v =
    let s : State = record start {
      vl = 8;
      vtype = typed E8 Mf4 true false;
      vxrm = NearestEven;
      x = (5, 0x21a6e) ∷ [];
      v = (1, 0x800000007000000060000000500000004000000030000000200000001) ∷
          (14, 0x1701aa435601f80a004099730116800e40ff8eb7c9f419017f0001aa8af77f9a) ∷
          [];
    } in
    record {
      word = 0x0612e707;
      before = s;
      end = Retired;
      after = record s {
        pc = 0x10000804;
        v = (14, 0x1701aa435601f80a004099730116800e40ff8eb7c9f4190168431ef9d4af8a65) ∷
            s.v;
      };
    }

-- vluxei64.v v1, (x15), v7, v0.t
abbrev pub vluxei64_v : Case
vluxei64_v =
    let s : State = record start {
      policy = Ones;
      vl = 3;
      vtype = typed E8 Mf8 false false;
      vxrm = Odd;
      x = (15, 0x20193) ∷ [];
      v = (0, 0xffffffffffffffffffffffffffffffffffffffffffffffffffffffffffffffff) ∷
          (1, 0x2381025563800100aa5ad379bd805113f842470001d47055fe4da81701e58007) ∷
          (7, 0x1b260000000000000f9300000000000014be0000000000001258) ∷
          [];
    } in
    record {
      word = 0x0477f087;
      before = s;
      end = Retired;
      after = record s {
        pc = 0x10000804;
        v = (1, 0x2381025563800100aa5ad379bd805113f842470001d47055fe4da817011d1052) ∷
            s.v;
      };
    }

-- vluxei8.v v2, (x24), v7
abbrev pub vluxei8_v : Case
vluxei8_v =
    let s : State = record start {
      vl = 7;
      vtype = typed E16 Mf2 true false;
      x = (24, 0x20408) ∷ [];
      v = (2, 0xffff46e24000aaaa8e28e30eb675958cfffe064fae26a8828000142df8a86d89) ∷
          (7, 0x2f7e7a9b519f0c0f867d2fece62342ffe078982d8924934e33ae46953444312b) ∷
          [];
    } in
    record {
      word = 0x067c0107;
      before = s;
      end = Retired;
      after = record s {
        pc = 0x10000804;
        v = (2, 0xffff46e24000aaaa8e28e30eb675958cfffea5807c57fdd8d7b2320d68438a65) ∷
            s.v;
      };
    }

-- vluxseg2ei64.v v8, (x7), v7
abbrev pub vluxseg2ei64_v : Case
vluxseg2ei64_v =
    let s : State = record start {
      vl = 4;
      vtype = typed E8 Mf8 false false;
      vxsat = true;
      x = (7, 0x220b4) ∷ [];
      v = (7, 0xfffffffffffffc08fffffffffffffc06fffffffffffffc04fffffffffffffc02) ∷
          (8, 0xb600fe3b603255e10855230001027081019240808a51ffbee0021edb40feaa02) ∷
          (9, 0x55aa555502401851004a02fe020000884a801a4002dfb6aaaa4001ad40802d7f) ∷
          [];
    } in
    record {
      word = 0x2673f407;
      before = s;
      end = Retired;
      after = record s {
        pc = 0x10000804;
        v = (8, 0xb600fe3b603255e10855230001027081019240808a51ffbee0021edb16cc8238) ∷
            (9, 0x55aa555502401851004a02fe020000884a801a4002dfb6aaaa4001ad3bf1a75d) ∷
            s.v;
      };
    }
