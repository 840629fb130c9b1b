use Rattle.std.proofs.Common.{arith, inl, inr, sym, ◌∙◌, ◌++◌}
use Rattle.rv_model.specs.lending.Families.{rows, Uppers, Jumps, JumpRegisters, Branches, Loads, Stores, RegisterImmediates, ShiftImmediates, ShiftImmediateWords, RegisterRegisters, Fences}
use Rattle.rv_decode.proofs.Scan.{at_00, at_0c, at_10, at_14, at_18, at_20, at_30, at_34, at_38, at_60, at_64, at_6c, missed, no_opcode}
use Rattle.rv_decode.proofs.decoder.kind_of.Goals.{in-0, in-12, in-16, in-20, in-24, in-32, in-48, in-96, in-100, in-108, in-8, in_default}
use Rattle.rv_decode.proofs.decoder.kind_of.Goals as goal

pub returns-in-None : goal.returns-in-None
returns-in-None c = elim c.match-word-and124.branch [
  | in-0 w ↦ missed c.args.word _ (rows Loads) (at_00 c.args.word w.in-0.is) w.load-scalar.ensures.row (sym w.scalar-is ∙ c.in-None.is)
  | in-12 w ↦ missed c.args.word _ (rows Fences) (at_0c c.args.word w.in-12.is) w.fence-scalar.ensures.row (sym w.scalar-is ∙ c.in-None.is)
  | in-16 w ↦ missed c.args.word _ (rows RegisterImmediates ++ rows ShiftImmediates) (at_10 c.args.word w.in-16.is) w.immediates-scalar.ensures.row (sym w.scalar-is ∙ c.in-None.is)
  | in-20 w ↦ missed c.args.word _ (rows Uppers) (elim w.in-20.is [ inl e ↦ at_14 c.args.word e | inr e ↦ at_34 c.args.word e ]) w.upper-scalar.ensures.row (sym w.scalar-is ∙ c.in-None.is)
  | in-24 w ↦ missed c.args.word _ (rows RegisterImmediates ++ rows ShiftImmediateWords) (at_18 c.args.word w.in-24.is) w.word_immediates-scalar.ensures.row (sym w.scalar-is ∙ c.in-None.is)
  | in-32 w ↦ missed c.args.word _ (rows Stores) (at_20 c.args.word w.in-32.is) w.store-scalar.ensures.row (sym w.scalar-is ∙ c.in-None.is)
  | in-48 w ↦ missed c.args.word _ (rows RegisterRegisters) (elim w.in-48.is [ inl e ↦ at_30 c.args.word e | inr e ↦ at_38 c.args.word e ]) w.register_register-scalar.ensures.row (sym w.scalar-is ∙ c.in-None.is)
  | in-96 w ↦ missed c.args.word _ (rows Branches) (at_60 c.args.word w.in-96.is) w.branch-scalar.ensures.row (sym w.scalar-is ∙ c.in-None.is)
  | in-100 w ↦ missed c.args.word _ (rows JumpRegisters) (at_64 c.args.word w.in-100.is) w.jump_register-scalar.ensures.row (sym w.scalar-is ∙ c.in-None.is)
  | in-108 w ↦ missed c.args.word _ (rows Jumps) (at_6c c.args.word w.in-108.is) w.jump-scalar.ensures.row (sym w.scalar-is ∙ c.in-None.is)
  | in-8 w ↦ let h = w.in-8.is in no_opcode c.args.word (grind arith, (grind arith, (grind arith, (grind arith, (grind arith, (grind arith, (grind arith, (grind arith, (grind arith, (grind arith, (grind arith, (grind arith, (grind arith, (grind arith, (grind arith, (grind arith, tt))))))))))))))))
  | in_default w ↦ let h = w.in_default in no_opcode c.args.word (grind arith, (grind arith, (grind arith, (grind arith, (grind arith, (grind arith, (grind arith, (grind arith, (grind arith, (grind arith, (grind arith, (grind arith, (grind arith, (grind arith, (grind arith, (grind arith, tt))))))))))))))))
]
