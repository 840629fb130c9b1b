-- Scalar arithmetic. tools/golden/golden_theorems writes this file from lab/tests/data/golden_vectors.
use Rattle.std.specs.Prelude.{[], ◌∷◌, true, false}
use Rattle.rv_model.specs.declared.vector.state.RoundingMode.TheVariants.{NearestEven, Down, Odd}
use Rattle.rv_model.specs.declared.vector.types.Lmul.TheVariants.{M1, M2, M4, M8, Mf8, Mf4, Mf2}
use Rattle.rv_model.specs.declared.vector.types.Sew.TheVariants.{E8, E16, E32, E64}
use Rattle.test_definitions.specs.States.{Case, State, start, typed, Retired}

-- add x20, x18, x0
abbrev pub add : Case
add =
    let s : State = record start {
      vxrm = NearestEven;
      vxsat = true;
      x = (18, 0x2) ∷ (20, 0xffffffffb94320a3) ∷ [];
    } in
    record {
      word = 0x00090a33;
      before = s;
      end = Retired;
      after = record s {
        pc = 0x10000804;
        x = (20, 0x2) ∷ s.x;
      };
    }

-- addi x8, x29, -2048
abbrev pub addi : Case
addi =
    let s : State = record start {
      vl = 64;
      vtype = typed E16 M4 true false;
      vxrm = Odd;
      vxsat = true;
      x = (8, 0x806cc8d4) ∷ (29, 0xfffffffe) ∷ [];
    } in
    record {
      word = 0x800e8413;
      before = s;
      end = Retired;
      after = record s {
        pc = 0x10000804;
        x = (8, 0xfffff7fe) ∷ s.x;
      };
    }

-- addiw x29, x13, -1396
abbrev pub addiw : Case
addiw =
    let s : State = record start {
      vtype = typed E16 M4 false false;
      vxrm = NearestEven;
      x = (13, 0x8000000000000001) ∷ (29, 0x4000000000000000) ∷ [];
    } in
    record {
      word = 0xa8c68e9b;
      before = s;
      end = Retired;
      after = record s {
        pc = 0x10000804;
        x = (29, 0xfffffffffffffa8d) ∷ s.x;
      };
    }

-- addw x13, x0, x18
abbrev pub addw : Case
addw =
    let s : State = record start {
      vl = 25;
      vtype = typed E32 M4 true true;
      vstart = 223;
      vxrm = NearestEven;
      x = (13, 0xaaaaaaaaaaaaaaaa) ∷ (18, 0x2d) ∷ [];
    } in
    record {
      word = 0x012006bb;
      before = s;
      end = Retired;
      after = record s {
        pc = 0x10000804;
        x = (13, 0x2d) ∷ s.x;
      };
    }

-- and x5, x0, x18
abbrev pub and : Case
and =
    let s : State = record start {
      vl = 32;
      vtype = typed E64 M8 false false;
      vxrm = Odd;
      vxsat = true;
      x = (5, 0x2) ∷ (18, 0xb40c4e9cee7cd97d) ∷ [];
    } in
    record {
      word = 0x012072b3;
      before = s;
      end = Retired;
      after = record s {
        pc = 0x10000804;
        x = (5, 0x0) ∷ s.x;
      };
    }

-- andi x1, x0, 0
abbrev pub andi : Case
andi =
    let s : State = record start {
      vxrm = Down;
      vxsat = true;
      x = (1, 0xfffffffffb252535) ∷ [];
    } in
    record {
      word = 0x00007093;
      before = s;
      end = Retired;
      after = record s {
        pc = 0x10000804;
        x = (1, 0x0) ∷ s.x;
      };
    }

-- div x18, x31, x5
abbrev pub div : Case
div =
    let s : State = record start {
      vl = 4;
      vtype = typed E32 Mf2 true true;
      vxrm = NearestEven;
      vxsat = true;
      x = (5, 0x1f) ∷ (18, 0xd) ∷ (31, 0x9e20298a) ∷ [];
    } in
    record {
      word = 0x025fc933;
      before = s;
      end = Retired;
      after = record s {
        pc = 0x10000804;
        x = (18, 0x519cfca) ∷ s.x;
      };
    }

-- divu x10, x0, x22
abbrev pub divu : Case
divu =
    let s : State = record start {
      vl = 1;
      vtype = typed E16 M1 true false;
      vxsat = true;
      x = (10, 0xfffffffffffffffe) ∷ (22, 0x1fc8e7ed) ∷ [];
    } in
    record {
      word = 0x03605533;
      before = s;
      end = Retired;
      after = record s {
        pc = 0x10000804;
        x = (10, 0x0) ∷ s.x;
      };
    }

-- divuw x29, x20, x0
abbrev pub divuw : Case
divuw =
    let s : State = record start {
      vtype = typed E8 Mf2 true true;
      vstart = 170;
      vxrm = Odd;
      vxsat = true;
      x = (20, 0xfffffffffffffffe) ∷ (29, 0x2) ∷ [];
    } in
    record {
      word = 0x020a5ebb;
      before = s;
      end = Retired;
      after = record s {
        pc = 0x10000804;
        x = (29, 0xffffffffffffffff) ∷ s.x;
      };
    }

-- divw x6, x21, x14
abbrev pub divw : Case
divw =
    let s : State = record start {
      vxrm = Odd;
      x = (6, 0xfffffffff7278bd8) ∷
          (14, 0xffffffff6fd11b14) ∷
          (21, 0xffffffffffffffff) ∷
          [];
    } in
    record {
      word = 0x02eac33b;
      before = s;
      end = Retired;
      after = record s {
        pc = 0x10000804;
        x = (6, 0x0) ∷ s.x;
      };
    }

-- lui x2, 1048575
abbrev pub lui : Case
lui =
    let s : State = record start { x = (2, 0x8000000000000001) ∷ [] } in
    record {
      word = 0xfffff137;
      before = s;
      end = Retired;
      after = record s {
        pc = 0x10000804;
        x = (2, 0xfffffffffffff000) ∷ s.x;
      };
    }

-- mul x15, x2, x18
abbrev pub mul : Case
mul =
    let s : State = record start {
      vl = 11;
      vtype = typed E8 M1 false true;
      vxrm = NearestEven;
      x = (2, 0xef115a9844cce73a) ∷
          (15, 0x5555555555555555) ∷
          (18, 0xaaaaaaaaaaaaaaaa) ∷
          [];
    } in
    record {
      word = 0x032107b3;
      before = s;
      end = Retired;
      after = record s {
        pc = 0x10000804;
        x = (15, 0x609f18efd2221084) ∷ s.x;
      };
    }

-- mulh x7, x7, x14
abbrev pub mulh : Case
mulh =
    let s : State = record start {
      vl = 3;
      vtype = typed E64 M1 true false;
      vxrm = Down;
      x = (7, 0x80000001) ∷ (14, 0x2) ∷ [];
    } in
    record {
      word = 0x02e393b3;
      before = s;
      end = Retired;
      after = record s {
        pc = 0x10000804;
        x = (7, 0x0) ∷ s.x;
      };
    }

-- mulhsu x6, x26, x16
abbrev pub mulhsu : Case
mulhsu =
    let s : State = record start {
      vl = 8;
      vtype = typed E64 M2 false false;
      vstart = 1;
      vxrm = Odd;
      x = (6, 0x7fffffffffffffff) ∷ (16, 0x9d167066) ∷ (26, 0x2) ∷ [];
    } in
    record {
      word = 0x030d2333;
      before = s;
      end = Retired;
      after = record s {
        pc = 0x10000804;
        x = (6, 0x0) ∷ s.x;
      };
    }

-- mulhu x2, x13, x0
abbrev pub mulhu : Case
mulhu =
    let s : State = record start {
      vl = 109;
      vtype = typed E8 M4 false false;
      vxrm = Odd;
      x = (2, 0x8884a29620e9ad06) ∷ (13, 0xaaaaaaaa) ∷ [];
    } in
    record {
      word = 0x0206b133;
      before = s;
      end = Retired;
      after = record s {
        pc = 0x10000804;
        x = (2, 0x0) ∷ s.x;
      };
    }

-- mulw x7, x21, x0
abbrev pub mulw : Case
mulw =
    let s : State = record start {
      vtype = typed E16 M4 true false;
      vxsat = true;
      x = (7, 0xffffffffd863da18) ∷ (21, 0xfffffffffffffffe) ∷ [];
    } in
    record {
      word = 0x020a83bb;
      before = s;
      end = Retired;
      after = record s {
        pc = 0x10000804;
        x = (7, 0x0) ∷ s.x;
      };
    }

-- or x21, x9, x28
abbrev pub or : Case
or =
    let s : State = record start {
      vl = 15;
      vtype = typed E8 Mf2 false false;
      vxrm = Odd;
      x = (9, 0x8000000000000001) ∷
          (21, 0x7fffffffffffffff) ∷
          (28, 0x8000000000000001) ∷
          [];
    } in
    record {
      word = 0x01c4eab3;
      before = s;
      end = Retired;
      after = record s {
        pc = 0x10000804;
        x = (21, 0x8000000000000001) ∷ s.x;
      };
    }

-- ori x3, x9, 0
abbrev pub ori : Case
ori =
    let s : State = record start { x = (3, 0x4b7bba5b105c2037) ∷ (9, 0x4000000000000000) ∷ [] } in
    record {
      word = 0x0004e193;
      before = s;
      end = Retired;
      after = record s {
        pc = 0x10000804;
        x = (3, 0x4000000000000000) ∷ s.x;
      };
    }

-- rem x8, x26, x9
abbrev pub rem : Case
rem =
    let s : State = record start {
      vl = 15;
      vtype = typed E8 M8 true true;
      vstart = 1;
      vxrm = Odd;
      x = (8, 0x8b23e7475b7d397b) ∷ (9, 0xfffffffe) ∷ (26, 0x1) ∷ [];
    } in
    record {
      word = 0x029d6433;
      before = s;
      end = Retired;
      after = record s {
        pc = 0x10000804;
        x = (8, 0x1) ∷ s.x;
      };
    }

-- remu x14, x18, x6
abbrev pub remu : Case
remu =
    let s : State = record start {
      vxsat = true;
      x = (6, 0x1) ∷ (14, 0xeacba67c3c99bba7) ∷ (18, 0x3c) ∷ [];
    } in
    record {
      word = 0x02697733;
      before = s;
      end = Retired;
      after = record s {
        pc = 0x10000804;
        x = (14, 0x0) ∷ s.x;
      };
    }

-- remuw x22, x30, x29
abbrev pub remuw : Case
remuw =
    let s : State = record start {
      vl = 3;
      vtype = typed E32 Mf2 false false;
      vxrm = NearestEven;
      x = (22, 0x4000000000000000) ∷ (29, 0x80000001) ∷ (30, 0x1) ∷ [];
    } in
    record {
      word = 0x03df7b3b;
      before = s;
      end = Retired;
      after = record s {
        pc = 0x10000804;
        x = (22, 0x1) ∷ s.x;
      };
    }

-- remw x26, x0, x31
abbrev pub remw : Case
remw =
    let s : State = record start {
      vl = 1;
      vtype = typed E32 M1 true true;
      vxsat = true;
      x = (26, 0xffffffffabb90501) ∷ (31, 0xffffffff77ea0d8c) ∷ [];
    } in
    record {
      word = 0x03f06d3b;
      before = s;
      end = Retired;
      after = record s {
        pc = 0x10000804;
        x = (26, 0x0) ∷ s.x;
      };
    }

-- sll x19, x31, x7
abbrev pub sll : Case
sll =
    let s : State = record start {
      vxrm = Odd;
      x = (7, 0x2) ∷ (19, 0x17) ∷ (31, 0x4ac4f512e1bce285) ∷ [];
    } in
    record {
      word = 0x007f99b3;
      before = s;
      end = Retired;
      after = record s {
        pc = 0x10000804;
        x = (19, 0x2b13d44b86f38a14) ∷ s.x;
      };
    }

-- slli x20, x22, 0
abbrev pub slli : Case
slli =
    let s : State = record start {
      vl = 128;
      vtype = typed E16 M8 false false;
      vstart = 1;
      vxrm = Odd;
      x = (20, 0xffffffff) ∷ (22, 0xffffffffffcc250d) ∷ [];
    } in
    record {
      word = 0x000b1a13;
      before = s;
      end = Retired;
      after = record s {
        pc = 0x10000804;
        x = (20, 0xffffffffffcc250d) ∷ s.x;
      };
    }

-- slliw x26, x25, 0
abbrev pub slliw : Case
slliw =
    let s : State = record start {
      vxrm = NearestEven;
      vxsat = true;
      x = (25, 0xffffffffe45ffe88) ∷ (26, 0x7fffffff) ∷ [];
    } in
    record {
      word = 0x000c9d1b;
      before = s;
      end = Retired;
      after = record s {
        pc = 0x10000804;
        x = (26, 0xffffffffe45ffe88) ∷ s.x;
      };
    }

-- sllw x10, x2, x27
abbrev pub sllw : Case
sllw =
    let s : State = record start {
      vl = 9;
      vtype = typed E32 M2 false false;
      x = (2, 0x4000000000000000) ∷
          (10, 0x5555555555555555) ∷
          (27, 0xaaaaaaaaaaaaaaaa) ∷
          [];
    } in
    record {
      word = 0x01b1153b;
      before = s;
      end = Retired;
      after = record s {
        pc = 0x10000804;
        x = (10, 0x0) ∷ s.x;
      };
    }

-- slt x7, x26, x7
abbrev pub slt : Case
slt =
    let s : State = record start {
      vxrm = Odd;
      x = (7, 0x53e241cee949cf62) ∷ (26, 0x1) ∷ [];
    } in
    record {
      word = 0x007d23b3;
      before = s;
      end = Retired;
      after = record s {
        pc = 0x10000804;
        x = (7, 0x1) ∷ s.x;
      };
    }

-- slti x3, x0, 0
abbrev pub slti : Case
slti =
    let s : State = record start {
      vl = 15;
      vtype = typed E8 Mf2 true false;
      vxrm = Odd;
      x = (3, 0x15) ∷ [];
    } in
    record {
      word = 0x00002193;
      before = s;
      end = Retired;
      after = record s {
        pc = 0x10000804;
        x = (3, 0x0) ∷ s.x;
      };
    }

-- sltiu x26, x29, -2048
abbrev pub sltiu : Case
sltiu =
    let s : State = record start {
      vl = 1;
      vtype = typed E8 Mf4 false false;
      vstart = 92;
      vxrm = Odd;
      vxsat = true;
      x = (26, 0xffffffffffffffff) ∷ (29, 0x1319e8b7) ∷ [];
    } in
    record {
      word = 0x800ebd13;
      before = s;
      end = Retired;
      after = record s {
        pc = 0x10000804;
        x = (26, 0x1) ∷ s.x;
      };
    }

-- sltu x2, x1, x22
abbrev pub sltu : Case
sltu =
    let s : State = record start {
      vl = 256;
      vtype = typed E8 M8 false false;
      vxrm = Odd;
      x = (1, 0x80000000) ∷ (2, 0x33a7c748) ∷ (22, 0xfffffffffffffffe) ∷ [];
    } in
    record {
      word = 0x0160b133;
      before = s;
      end = Retired;
      after = record s {
        pc = 0x10000804;
        x = (2, 0x1) ∷ s.x;
      };
    }

-- sra x20, x2, x4
abbrev pub sra : Case
sra =
    let s : State = record start {
      vxrm = NearestEven;
      x = (2, 0xd1c74800) ∷ (4, 0xffffffffce9d9d17) ∷ (20, 0x0) ∷ [];
    } in
    record {
      word = 0x40415a33;
      before = s;
      end = Retired;
      after = record s {
        pc = 0x10000804;
        x = (20, 0x1a3) ∷ s.x;
      };
    }

-- srai x24, x0, 11
abbrev pub srai : Case
srai =
    let s : State = record start {
      vl = 9;
      vtype = typed E64 M8 false false;
      vxrm = Odd;
      vxsat = true;
      x = (24, 0x40000000) ∷ [];
    } in
    record {
      word = 0x40b05c13;
      before = s;
      end = Retired;
      after = record s {
        pc = 0x10000804;
        x = (24, 0x0) ∷ s.x;
      };
    }

-- sraiw x2, x13, 13
abbrev pub sraiw : Case
sraiw =
    let s : State = record start { x = (2, 0x5555555555555555) ∷ (13, 0x80000001) ∷ [] } in
    record {
      word = 0x40d6d11b;
      before = s;
      end = Retired;
      after = record s {
        pc = 0x10000804;
        x = (2, 0xfffffffffffc0000) ∷ s.x;
      };
    }

-- sraw x29, x28, x4
abbrev pub sraw : Case
sraw =
    let s : State = record start {
      vl = 16;
      vtype = typed E32 M2 false false;
      vstart = 1;
      vxrm = Odd;
      vxsat = true;
      x = (4, 0x4d05f499) ∷ (28, 0x2bcf7865) ∷ (29, 0x2) ∷ [];
    } in
    record {
      word = 0x404e5ebb;
      before = s;
      end = Retired;
      after = record s {
        pc = 0x10000804;
        x = (29, 0x15) ∷ s.x;
      };
    }

-- srl x9, x30, x11
abbrev pub srl : Case
srl =
    let s : State = record start {
      vxrm = NearestEven;
      x = (9, 0x2) ∷ (11, 0x15) ∷ (30, 0x7fffffffffffffff) ∷ [];
    } in
    record {
      word = 0x00bf54b3;
      before = s;
      end = Retired;
      after = record s {
        pc = 0x10000804;
        x = (9, 0x3ffffffffff) ∷ s.x;
      };
    }

-- srli x27, x3, 0
abbrev pub srli : Case
srli =
    let s : State = record start {
      vl = 3;
      vtype = typed E8 Mf8 true true;
      x = (3, 0xffffffff6ac85107) ∷ (27, 0xffffffff4d55771e) ∷ [];
    } in
    record {
      word = 0x0001dd93;
      before = s;
      end = Retired;
      after = record s {
        pc = 0x10000804;
        x = (27, 0xffffffff6ac85107) ∷ s.x;
      };
    }

-- srliw x18, x18, 26
abbrev pub srliw : Case
srliw =
    let s : State = record start {
      vl = 63;
      vtype = typed E16 M4 true true;
      vxrm = Odd;
      x = (18, 0x12b8346efb92d619) ∷ [];
    } in
    record {
      word = 0x01a9591b;
      before = s;
      end = Retired;
      after = record s {
        pc = 0x10000804;
        x = (18, 0x3e) ∷ s.x;
      };
    }

-- srlw x17, x20, x30
abbrev pub srlw : Case
srlw =
    let s : State = record start {
      vxrm = NearestEven;
      x = (17, 0x34ba0f44) ∷
          (20, 0x20f378b7dff7d959) ∷
          (30, 0x8000000000000000) ∷
          [];
    } in
    record {
      word = 0x01ea58bb;
      before = s;
      end = Retired;
      after = record s {
        pc = 0x10000804;
        x = (17, 0xffffffffdff7d959) ∷ s.x;
      };
    }

-- sub x1, x7, x9
abbrev pub sub : Case
sub =
    let s : State = record start {
      vtype = typed E64 M2 false false;
      vstart = 1;
      vxrm = NearestEven;
      x = (1, 0x170ef282a940d8c1) ∷
          (7, 0x215390f0ff6a3093) ∷
          (9, 0x7fffffffffffffff) ∷
          [];
    } in
    record {
      word = 0x409380b3;
      before = s;
      end = Retired;
      after = record s {
        pc = 0x10000804;
        x = (1, 0xa15390f0ff6a3094) ∷ s.x;
      };
    }

-- subw x6, x14, x8
abbrev pub subw : Case
subw =
    let s : State = record start {
      vxrm = Odd;
      x = (6, 0xfffffffffffffffe) ∷
          (8, 0x64c5db83ef3928f2) ∷
          (14, 0x21ef65de) ∷
          [];
    } in
    record {
      word = 0x4087033b;
      before = s;
      end = Retired;
      after = record s {
        pc = 0x10000804;
        x = (6, 0x32b63cec) ∷ s.x;
      };
    }

-- xor x25, x25, x2
abbrev pub xor : Case
xor =
    let s : State = record start {
      vxrm = Odd;
      vxsat = true;
      x = (2, 0xffffffff9d530cd7) ∷ (25, 0xb9ff7232) ∷ [];
    } in
    record {
      word = 0x002cccb3;
      before = s;
      end = Retired;
      after = record s {
        pc = 0x10000804;
        x = (25, 0xffffffff24ac7ee5) ∷ s.x;
      };
    }

-- xori x20, x14, -2048
abbrev pub xori : Case
xori =
    let s : State = record start {
      vxrm = Odd;
      x = (14, 0xffffffffffffffff) ∷ (20, 0x5555555555555555) ∷ [];
    } in
    record {
      word = 0x80074a13;
      before = s;
      end = Retired;
      after = record s {
        pc = 0x10000804;
        x = (20, 0x7ff) ∷ s.x;
      };
    }
