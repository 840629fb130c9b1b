-- Branches, jumps, `auipc`, `fence` and `ebreak`. tools/golden/golden_theorems writes this file from lab/tests/data/golden_vectors.
use Rattle.std.specs.Prelude.{[], ◌∷◌, true, false}
use Rattle.rv_model.specs.declared.vector.state.RoundingMode.TheVariants.{NearestEven, Down, Odd}
use Rattle.rv_model.specs.declared.vector.types.Lmul.TheVariants.{M1, M2, M4, M8, Mf4}
use Rattle.rv_model.specs.declared.vector.types.Sew.TheVariants.{E8, E16, E32}
use Rattle.test_definitions.specs.States.{Case, State, start, typed, Retired, Misaligned, Breakpoint}

-- ebreak
abbrev pub ebreak : Case
ebreak =
    let s : State = record start { vxrm = Down } in
    record {
      word = 0x00100073;
      before = s;
      end = Breakpoint;
      after = s;
    }

-- auipc x4, 0
abbrev pub auipc : Case
auipc =
    let s : State = record start {
      vl = 1;
      vtype = typed E32 M4 false true;
      vxrm = Odd;
      x = (4, 0xcc692152c3472cb5) ∷ [];
    } in
    record {
      word = 0x00000217;
      before = s;
      end = Retired;
      after = record s {
        pc = 0x10000804;
        x = (4, 0x10000800) ∷ s.x;
      };
    }

-- beq x4, x0, 1236
abbrev pub beq : Case
beq =
    let s : State = record start {
      vxrm = Down;
      x = (4, 0xf) ∷ [];
    } in
    record {
      word = 0x4c020a63;
      before = s;
      end = Retired;
      after = record s { pc = 0x10000804 };
    }

-- bge x4, x9, 4
abbrev pub bge : Case
bge =
    let s : State = record start {
      vl = 8;
      vtype = typed E32 M1 true true;
      vstart = 1;
      vxsat = true;
      x = (4, 0x80000000) ∷ (9, 0x80000000) ∷ [];
    } in
    record {
      word = 0x00925263;
      before = s;
      end = Retired;
      after = record s { pc = 0x10000804 };
    }

-- bgeu x25, x6, 4
abbrev pub bgeu : Case
bgeu =
    let s : State = record start {
      vl = 4;
      vtype = typed E16 Mf4 true true;
      vxrm = Down;
      x = (6, 0x20c22377) ∷ (25, 0x46a5324c18a3e686) ∷ [];
    } in
    record {
      word = 0x006cf263;
      before = s;
      end = Retired;
      after = record s { pc = 0x10000804 };
    }

-- blt x17, x24, -4
abbrev pub blt : Case
blt =
    let s : State = record start {
      vl = 128;
      vtype = typed E8 M4 true true;
      vxrm = Odd;
      x = (17, 0xffffffff01ad9a15) ∷ (24, 0x55555555) ∷ [];
    } in
    record {
      word = 0xff88cee3;
      before = s;
      end = Retired;
      after = record s { pc = 0x100007fc };
    }

-- bltu x3, x16, 4
abbrev pub bltu : Case
bltu =
    let s : State = record start {
      vl = 13;
      vtype = typed E32 M2 true true;
      vxrm = NearestEven;
      vxsat = true;
      x = (3, 0xe0b87a13a8ac8864) ∷ (16, 0x0) ∷ [];
    } in
    record {
      word = 0x0101e263;
      before = s;
      end = Retired;
      after = record s { pc = 0x10000804 };
    }

-- bne x16, x18, 4092
abbrev pub bne : Case
bne =
    let s : State = record start {
      vl = 1;
      vtype = typed E32 M1 true true;
      vxrm = Down;
      vxsat = true;
      x = (16, 0x4000000000000000) ∷ (18, 0xb960fe09c35a24f7) ∷ [];
    } in
    record {
      word = 0x7f281ee3;
      before = s;
      end = Retired;
      after = record s { pc = 0x100017fc };
    }

-- .word 0x0000000f
abbrev pub fence : Case
fence =
    let s : State = record start {
      vl = 105;
      vtype = typed E8 M8 false false;
      vstart = 1;
      vxsat = true;
    } in
    record {
      word = 0x0000000f;
      before = s;
      end = Retired;
      after = record s { pc = 0x10000804 };
    }

-- jal x1, -860
abbrev pub jal : Case
jal =
    let s : State = record start {
      vxsat = true;
      x = (1, 0xffffffff15b149ba) ∷ [];
    } in
    record {
      word = 0xca5ff0ef;
      before = s;
      end = Retired;
      after = record s {
        pc = 0x100004a4;
        x = (1, 0x10000804) ∷ s.x;
      };
    }

-- jalr x2, 1937(x9)
abbrev pub jalr : Case
jalr =
    let s : State = record start {
      vxrm = Down;
      x = (2, 0x4000000000000000) ∷ (9, 0x4f86f) ∷ [];
    } in
    record {
      word = 0x79148167;
      before = s;
      end = Retired;
      after = record s {
        pc = 0x50000;
        x = (2, 0x10000804) ∷ s.x;
      };
    }

-- beq x6, x21, -18
abbrev pub beq_misaligned : Case
beq_misaligned =
    let s : State = record start {
      vxrm = Down;
      x = (6, 0x8c49823ebea6c1b) ∷ (21, 0x8c49823ebea6c1b) ∷ [];
    } in
    record {
      word = 0xff5307e3;
      before = s;
      end = Misaligned;
      after = s;
    }

-- bge x10, x22, -1410
abbrev pub bge_misaligned : Case
bge_misaligned =
    let s : State = record start {
      vxrm = NearestEven;
      x = (10, 0x0) ∷ (22, 0x8000000000000001) ∷ [];
    } in
    record {
      word = 0xa7655fe3;
      before = s;
      end = Misaligned;
      after = s;
    }

-- bgeu x18, x11, 10
abbrev pub bgeu_misaligned : Case
bgeu_misaligned =
    let s : State = record start {
      vtype = typed E16 M8 false false;
      vstart = 1;
      vxrm = Down;
      vxsat = true;
      x = (11, 0xfffffffffffffffd) ∷ (18, 0xfffffffffffffffe) ∷ [];
    } in
    record {
      word = 0x00b97563;
      before = s;
      end = Misaligned;
      after = s;
    }

-- blt x7, x31, 10
abbrev pub blt_misaligned : Case
blt_misaligned =
    let s : State = record start {
      vxrm = Down;
      x = (7, 0xa0790278b20989a5) ∷ (31, 0xffffffff) ∷ [];
    } in
    record {
      word = 0x01f3c563;
      before = s;
      end = Misaligned;
      after = s;
    }

-- bltu x19, x25, 10
abbrev pub bltu_misaligned : Case
bltu_misaligned =
    let s : State = record start {
      vxrm = Odd;
      x = (19, 0x38) ∷ (25, 0x8000000000000038) ∷ [];
    } in
    record {
      word = 0x0199e563;
      before = s;
      end = Misaligned;
      after = s;
    }

-- bne x24, x0, 10
abbrev pub bne_misaligned : Case
bne_misaligned =
    let s : State = record start {
      vl = 1;
      vtype = typed E16 Mf4 false true;
      vxrm = Odd;
      x = (24, 0xfffffffffffffffe) ∷ [];
    } in
    record {
      word = 0x000c1563;
      before = s;
      end = Misaligned;
      after = s;
    }

-- jal x18, 1854
abbrev pub jal_misaligned : Case
jal_misaligned =
    let s : State = record start {
      vxrm = Down;
      vxsat = true;
      x = (18, 0x40000000) ∷ [];
    } in
    record {
      word = 0x73e0096f;
      before = s;
      end = Misaligned;
      after = s;
    }

-- jalr x18, -1794(x9)
abbrev pub jalr_misaligned : Case
jalr_misaligned =
    let s : State = record start {
      vl = 64;
      vtype = typed E16 M4 true false;
      vstart = 1;
      vxrm = Odd;
      x = (9, 0x10000f14) ∷ (18, 0xfffffffffffffffe) ∷ [];
    } in
    record {
      word = 0x8fe48967;
      before = s;
      end = Misaligned;
      after = s;
    }
