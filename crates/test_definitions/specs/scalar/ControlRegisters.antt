-- Accesses to control registers. tools/golden/golden_theorems writes this file from lab/tests/data/golden_vectors.
use Rattle.std.specs.Prelude.{[], ◌∷◌, true, false}
use Rattle.rv_model.specs.declared.vector.state.RoundingMode.TheVariants.{NearestUp, NearestEven, Odd}
use Rattle.rv_model.specs.declared.vector.types.Lmul.TheVariants.{M4, Mf4, Mf2}
use Rattle.rv_model.specs.declared.vector.types.Sew.TheVariants.{E8, E16, E32}
use Rattle.test_definitions.specs.States.{Case, State, start, typed, Retired}

-- csrrc x31, vl, x0
abbrev pub csrrc : Case
csrrc =
    let s : State = record start {
      vl = 30;
      vtype = typed E32 M4 true true;
      x = (31, 0x3584b381dd086b95) ∷ [];
    } in
    record {
      word = 0xc2003ff3;
      before = s;
      end = Retired;
      after = record s {
        pc = 0x10000804;
        x = (31, 0x1e) ∷ s.x;
      };
    }

-- csrrci x16, vl, 0
abbrev pub csrrci : Case
csrrci =
    let s : State = record start {
      vxrm = Odd;
      x = (16, 0xaaaaaaaa) ∷ [];
    } in
    record {
      word = 0xc2007873;
      before = s;
      end = Retired;
      after = record s {
        pc = 0x10000804;
        x = (16, 0x0) ∷ s.x;
      };
    }

-- csrrs x20, vstart, x25
abbrev pub csrrs : Case
csrrs =
    let s : State = record start {
      vl = 7;
      vtype = typed E16 Mf2 false false;
      vxrm = NearestEven;
      vxsat = true;
      x = (20, 0x5555555555555555) ∷ (25, 0xffffffffc0d731a2) ∷ [];
    } in
    record {
      word = 0x008caa73;
      before = s;
      end = Retired;
      after = record s {
        pc = 0x10000804;
        vstart = 162;
        x = (20, 0x0) ∷ s.x;
      };
    }

-- csrrsi x19, vcsr, 0
abbrev pub csrrsi : Case
csrrsi =
    let s : State = record start {
      vl = 1;
      vtype = typed E8 M4 true true;
      vstart = 95;
      vxrm = NearestEven;
      x = (19, 0xffffffffbeed1913) ∷ [];
    } in
    record {
      word = 0x00f069f3;
      before = s;
      end = Retired;
      after = record s {
        pc = 0x10000804;
        x = (19, 0x2) ∷ s.x;
      };
    }

-- csrrw x9, vstart, x9
abbrev pub csrrw : Case
csrrw =
    let s : State = record start {
      vxrm = NearestEven;
      x = (9, 0x8000000000000001) ∷ [];
    } in
    record {
      word = 0x008494f3;
      before = s;
      end = Retired;
      after = record s {
        pc = 0x10000804;
        vstart = 1;
        x = (9, 0x0) ∷ s.x;
      };
    }

-- csrrwi x28, vcsr, 0
abbrev pub csrrwi : Case
csrrwi =
    let s : State = record start {
      vl = 4;
      vtype = typed E8 Mf4 true true;
      vxrm = NearestEven;
      x = (28, 0x1b) ∷ [];
    } in
    record {
      word = 0x00f05e73;
      before = s;
      end = Retired;
      after = record s {
        pc = 0x10000804;
        vxrm = NearestUp;
        x = (28, 0x2) ∷ s.x;
      };
    }
