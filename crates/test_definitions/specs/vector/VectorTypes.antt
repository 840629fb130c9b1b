-- Instructions that set the vector length and type. tools/golden/golden_theorems writes this file from lab/tests/data/golden_vectors.
use Rattle.std.specs.Prelude.{[], ◌∷◌, true, false, None}
use Rattle.rv_model.specs.declared.vector.state.RoundingMode.TheVariants.{NearestEven, Down, Odd}
use Rattle.rv_model.specs.declared.vector.types.Lmul.TheVariants.{M1, M2, M4, M8, Mf8, Mf4, Mf2}
use Rattle.rv_model.specs.declared.vector.types.Sew.TheVariants.{E8, E16, E32, E64}
use Rattle.test_definitions.specs.States.{Case, State, start, typed, Retired}

-- vsetivli x27, 0, e8, m1, tu, mu
abbrev pub vsetivli : Case
vsetivli =
    let s : State = record start {
      vl = 30;
      vtype = typed E64 M8 false false;
      vxrm = Odd;
    } in
    record {
      word = 0xc0007dd7;
      before = s;
      end = Retired;
      after = record s {
        pc = 0x10000804;
        vl = 0;
        vtype = typed E8 M1 false false;
        x = (27, 0x0) ∷ s.x;
      };
    }

-- vsetivli x26, 16, 799
abbrev pub vsetivli_2 : Case
vsetivli_2 =
    let s : State = record start {
      vl = 255;
      vtype = typed E8 M8 false true;
      vxrm = Odd;
      vxsat = true;
    } in
    record {
      word = 0xf1f87d57;
      before = s;
      end = Retired;
      after = record s {
        pc = 0x10000804;
        vl = 0;
        vtype = None;
        x = (26, 0x0) ∷ s.x;
      };
    }

-- vsetvl x3, x11, x21
abbrev pub vsetvl : Case
vsetvl =
    let s : State = record start {
      vl = 15;
      vtype = typed E32 M2 true true;
      vxrm = NearestEven;
      x = (11, 0xd6c72bf86676e97f) ∷ (21, 0xd1) ∷ [];
    } in
    record {
      word = 0x8155f1d7;
      before = s;
      end = Retired;
      after = record s {
        pc = 0x10000804;
        vl = 16;
        x = (3, 0x10) ∷ s.x;
      };
    }

-- vsetvl x15, x15, x22
abbrev pub vsetvl_2 : Case
vsetvl_2 =
    let s : State = record start {
      vl = 9;
      vtype = typed E16 M8 true true;
      vstart = 3;
      vxrm = Down;
      x = (15, 0x0) ∷ (22, 0x1000000015b) ∷ [];
    } in
    record {
      word = 0x8167f7d7;
      before = s;
      end = Retired;
      after = record s {
        pc = 0x10000804;
        vl = 0;
        vtype = None;
        vstart = 0;
      };
    }

-- vsetvl x0, x0, x15
abbrev pub vsetvl_3 : Case
vsetvl_3 =
    let s : State = record start {
      vl = 54;
      vtype = typed E8 M2 false false;
      x = (15, 0xa) ∷ [];
    } in
    record {
      word = 0x80f07057;
      before = s;
      end = Retired;
      after = record s {
        pc = 0x10000804;
        vtype = typed E16 M4 false false;
      };
    }

-- vsetvl x0, x0, x16
abbrev pub vsetvl_4 : Case
vsetvl_4 =
    let s : State = record start {
      vl = 128;
      vtype = typed E8 M4 false false;
      vxrm = Odd;
      x = (16, 0x100000000d2) ∷ [];
    } in
    record {
      word = 0x81007057;
      before = s;
      end = Retired;
      after = record s {
        pc = 0x10000804;
        vl = 0;
        vtype = None;
      };
    }

-- vsetvl x25, x0, x1
abbrev pub vsetvl_5 : Case
vsetvl_5 =
    let s : State = record start {
      vl = 15;
      vtype = typed E16 M1 true false;
      vxrm = Odd;
      x = (1, 0xda) ∷ [];
    } in
    record {
      word = 0x80107cd7;
      before = s;
      end = Retired;
      after = record s {
        pc = 0x10000804;
        vl = 16;
        vtype = typed E64 M4 true true;
        x = (25, 0x10) ∷ s.x;
      };
    }

-- vsetvl x28, x0, x10
abbrev pub vsetvl_6 : Case
vsetvl_6 =
    let s : State = record start {
      vl = 6;
      vtype = typed E8 Mf2 true true;
      x = (10, 0x80000000000000c7) ∷ [];
    } in
    record {
      word = 0x80a07e57;
      before = s;
      end = Retired;
      after = record s {
        pc = 0x10000804;
        vl = 0;
        vtype = None;
        x = (28, 0x0) ∷ s.x;
      };
    }

-- vsetvli x5, x1, e8, mf8, tu, ma
abbrev pub vsetvli : Case
vsetvli =
    let s : State = record start {
      vl = 39;
      vtype = typed E16 M4 false true;
      vstart = 3;
      vxsat = true;
      x = (1, 0x100) ∷ [];
    } in
    record {
      word = 0x0850f2d7;
      before = s;
      end = Retired;
      after = record s {
        pc = 0x10000804;
        vl = 4;
        vtype = typed E8 Mf8 false true;
        vstart = 0;
        x = (5, 0x4) ∷ s.x;
      };
    }

-- vsetvli x11, x8, 125
abbrev pub vsetvli_2 : Case
vsetvli_2 =
    let s : State = record start {
      vl = 4;
      vtype = typed E64 M4 true true;
      vxrm = Odd;
      x = (8, 0x26) ∷ [];
    } in
    record {
      word = 0x07d475d7;
      before = s;
      end = Retired;
      after = record s {
        pc = 0x10000804;
        vl = 0;
        vtype = None;
        x = (11, 0x0) ∷ s.x;
      };
    }

-- vsetvli x0, x0, e32, m8, tu, mu
abbrev pub vsetvli_3 : Case
vsetvli_3 =
    let s : State = record start {
      vl = 7;
      vtype = typed E16 M4 false true;
      vstart = 3;
      vxrm = Down;
    } in
    record {
      word = 0x01307057;
      before = s;
      end = Retired;
      after = record s {
        pc = 0x10000804;
        vtype = typed E32 M8 false false;
        vstart = 0;
      };
    }

-- vsetvli x0, x0, 233
abbrev pub vsetvli_4 : Case
vsetvli_4 =
    let s : State = record start {
      vl = 63;
      vtype = typed E8 M2 false false;
    } in
    record {
      word = 0x0e907057;
      before = s;
      end = Retired;
      after = record s {
        pc = 0x10000804;
        vl = 0;
        vtype = None;
      };
    }

-- vsetvli x28, x0, e8, m8, tu, mu
abbrev pub vsetvli_5 : Case
vsetvli_5 =
    let s : State = record start {
      vl = 255;
      vtype = typed E8 M8 false false;
      vxrm = Down;
      vxsat = true;
    } in
    record {
      word = 0x00307e57;
      before = s;
      end = Retired;
      after = record s {
        pc = 0x10000804;
        vl = 256;
        x = (28, 0x100) ∷ s.x;
      };
    }

-- vsetvli x28, x0, 62
abbrev pub vsetvli_6 : Case
vsetvli_6 =
    let s : State = record start {
      vl = 6;
      vtype = typed E8 Mf4 true true;
      vxrm = Odd;
      vxsat = true;
    } in
    record {
      word = 0x03e07e57;
      before = s;
      end = Retired;
      after = record s {
        pc = 0x10000804;
        vl = 0;
        vtype = None;
        x = (28, 0x0) ∷ s.x;
      };
    }
