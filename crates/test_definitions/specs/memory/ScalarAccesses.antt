-- Scalar loads and stores. tools/golden/golden_theorems writes this file from lab/tests/data/golden_vectors.
use Rattle.std.specs.Prelude.{[], ◌∷◌, true, false}
use Rattle.rv_model.specs.declared.vector.state.RoundingMode.TheVariants.{NearestEven, Down, Odd}
use Rattle.rv_model.specs.declared.vector.types.Lmul.TheVariants.{M1, M4, M8, Mf8}
use Rattle.rv_model.specs.declared.vector.types.Sew.TheVariants.{E8, E16, E32, E64}
use Rattle.test_definitions.specs.States.{Case, State, start, typed, Retired}
use Rattle.test_definitions.specs.Memories.{Stored, run}

-- lb x27, -2048(x18)
abbrev pub lb : Case
lb =
    let s : State = record start {
      vl = 127;
      vtype = typed E16 M8 true false;
      x = (18, 0x20f02) ∷ (27, 0x7fffffffffffffff) ∷ [];
    } in
    record {
      word = 0x80090d83;
      before = s;
      end = Retired;
      after = record s {
        pc = 0x10000804;
        x = (27, 0x7c) ∷ s.x;
      };
    }

-- lbu x30, 1(x15)
abbrev pub lbu : Case
lbu =
    let s : State = record start {
      vxrm = NearestEven;
      x = (15, 0x206ff) ∷ (30, 0xfffffffe) ∷ [];
    } in
    record {
      word = 0x0017cf03;
      before = s;
      end = Retired;
      after = record s {
        pc = 0x10000804;
        x = (30, 0x32) ∷ s.x;
      };
    }

-- ld x20, -2048(x26)
abbrev pub ld : Case
ld =
    let s : State = record start {
      vl = 4;
      vtype = typed E8 Mf8 true false;
      vxrm = Odd;
      x = (20, 0x6b4fd99670f4da78) ∷ (26, 0x21ff2) ∷ [];
    } in
    record {
      word = 0x800d3a03;
      before = s;
      end = Retired;
      after = record s {
        pc = 0x10000804;
        x = (20, 0x4c2702ddb8936e49) ∷ s.x;
      };
    }

-- lh x8, 736(x24)
abbrev pub lh : Case
lh =
    let s : State = record start {
      vl = 27;
      vtype = typed E32 M8 false false;
      vstart = 255;
      vxrm = NearestEven;
      x = (8, 0xfffffffffffffffe) ∷ (24, 0x23979) ∷ [];
    } in
    record {
      word = 0x2e0c1403;
      before = s;
      end = Retired;
      after = record s {
        pc = 0x10000804;
        x = (8, 0x6b46) ∷ s.x;
      };
    }

-- lhu x24, 1448(x24)
abbrev pub lhu : Case
lhu =
    let s : State = record start {
      vl = 32;
      vtype = typed E8 M1 false false;
      vxrm = Down;
      x = (24, 0x23a56) ∷ [];
    } in
    record {
      word = 0x5a8c5c03;
      before = s;
      end = Retired;
      after = record s {
        pc = 0x10000804;
        x = (24, 0xb28d) ∷ s.x;
      };
    }

-- lw x22, 1(x28)
abbrev pub lw : Case
lw =
    let s : State = record start {
      vl = 128;
      vtype = typed E8 M4 false false;
      vxrm = Down;
      x = (22, 0xfffffffffffffffe) ∷ (28, 0x2006c) ∷ [];
    } in
    record {
      word = 0x001e2b03;
      before = s;
      end = Retired;
      after = record s {
        pc = 0x10000804;
        x = (22, 0x58330ee9) ∷ s.x;
      };
    }

-- lwu x20, -2048(x13)
abbrev pub lwu : Case
lwu =
    let s : State = record start {
      vl = 128;
      vtype = typed E16 M8 true false;
      vxrm = Odd;
      x = (13, 0x22332) ∷ (20, 0x55555555) ∷ [];
    } in
    record {
      word = 0x8006ea03;
      before = s;
      end = Retired;
      after = record s {
        pc = 0x10000804;
        x = (20, 0xaa85603b) ∷ s.x;
      };
    }

-- sb x0, -2048(x17)
abbrev pub sb : Stored
sb =
    let s : State = record start { x = (17, 0x21534) ∷ [] } in
    record {
      case = record {
        word = 0x80088023;
        before = s;
        end = Retired;
        after = record s { pc = 0x10000804 };
      };
      bytes = run 0x20d34 1 0x0;
      ranges = (0x20d24, 33) ∷ [];
    }

-- sd x5, 766(x6)
abbrev pub sd : Stored
sd =
    let s : State = record start {
      vtype = typed E32 M1 false false;
      vstart = 1;
      vxrm = NearestEven;
      vxsat = true;
      x = (5, 0xfffffffffffffffe) ∷ (6, 0x20922) ∷ [];
    } in
    record {
      case = record {
        word = 0x2e533f23;
        before = s;
        end = Retired;
        after = record s { pc = 0x10000804 };
      };
      bytes = run 0x20c20 8 0xfffffffffffffffe;
      ranges = (0x20c10, 40) ∷ [];
    }

-- sh x7, 1(x10)
abbrev pub sh : Stored
sh =
    let s : State = record start {
      vl = 11;
      vtype = typed E64 M8 true true;
      vxrm = NearestEven;
      x = (7, 0x5555555555555555) ∷ (10, 0x23fff) ∷ [];
    } in
    record {
      case = record {
        word = 0x007510a3;
        before = s;
        end = Retired;
        after = record s { pc = 0x10000804 };
      };
      bytes = run 0x24000 2 0x5555;
      ranges = (0x23ff0, 34) ∷ [];
    }

-- sw x22, -2048(x29)
abbrev pub sw : Stored
sw =
    let s : State = record start {
      vxrm = Odd;
      vxsat = true;
      x = (22, 0x5555555555555555) ∷ (29, 0x21c50) ∷ [];
    } in
    record {
      case = record {
        word = 0x816ea023;
        before = s;
        end = Retired;
        after = record s { pc = 0x10000804 };
      };
      bytes = run 0x21450 4 0x55555555;
      ranges = (0x21440, 36) ∷ [];
    }
