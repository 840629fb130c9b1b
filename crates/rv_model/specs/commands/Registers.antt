-- Register commands: `set`, `regs`, `setpc`, `vreg`, `vset` and `vcsr`; and `policy`, which sets the policy for agnostic elements.
use Rattle.std.specs.Prelude.{ℕ, zero, suc, ◌+◌, ◌*◌, ◌/◌, List, [], ◌∷◌, ◌++◌, decimal, slice_index, slice_range, reverse, flat_map, Option, Some, codes}
use Rattle.std.specs.List.{range_with_len}
use Rattle.hex.specs.Hex.{encode_lower}
use Rattle.rv_model.specs.declared.commands.registers.RegisterCommand.{RegisterCommand}
use Rattle.rv_model.specs.declared.commands.registers.RegisterCommand.TheVariants.{Set, Regs, SetPc, Vreg, Vset, Vcsr, SetPolicy}
use Rattle.rv_model.specs.declared.scalar.Scalar.{Scalar}
use Rattle.rv_model.specs.vector.Types.{Sew, VLEN}
use Rattle.rv_model.specs.declared.vector.state.VState.{VState}
use Rattle.rv_model.specs.commands.Arguments.{address, instruction_address, scalar_register, vector_register, register_bytes, policy_word, sew_argument}
use Rattle.rv_model.specs.commands.Printing.{hex16}
use Rattle.rv_model.specs.commands.Reading.{done, meaning_in, one_argument, two_arguments}
use Rattle.rv_model.specs.instructions.FixedBits.{flag_bit}
use Rattle.rv_model.specs.machine.UserMachine.{Present, Outcome, Writes, replies}
use Rattle.rv_model.specs.scalar.Registers.{with_register}
use Rattle.rv_model.specs.vector.Groups.{sew_bits, register_of, with_register_bytes}
use Rattle.rv_model.specs.vector.RoundingModes.{rounding_number}
use Rattle.rv_model.specs.vector.TypeRules.{vtype_number}

-- the machine with its scalar registers, or its vector registers, replaced
abbrev pub with_scalar : Scalar → Present → Present
with_scalar scalar p = record p { hart = record p.hart { scalar = scalar } }

abbrev pub with_file : List ℕ → Present → Present
with_file file p = record p { hart = record p.hart { vector = record p.hart.vector { file = file } } }

-- ---- regs

-- a register's name and value
unfoldable pub register_text : Scalar → ℕ → List ℕ
register_text s i = codes "x" ++ decimal i ++ codes " " ++ hex16 (slice_index s.x i)

-- a line of four registers, from register i on
unfoldable pub register_line : Scalar → ℕ → List ℕ
register_line s i = register_text s i ++ codes " " ++ register_text s (i + 1) ++ codes " " ++ register_text s (i + 2) ++ codes " " ++ register_text s (i + 3)

-- the given number of lines of four registers, from register i on
abbrev pub register_lines : ℕ → ℕ → Scalar → List (List ℕ)
register_lines zero i s = []
register_lines (suc n) i s = register_line s i ∷ register_lines n (i + 4) s

-- the lines that `regs` prints: the program counter, and all scalar registers
unfoldable pub regs_lines : Scalar → List (List ℕ)
regs_lines s = (codes "pc " ++ hex16 s.pc) ∷ register_lines 8 0 s

-- ---- vreg vN SEW

-- element i of a register, of k bytes, the most significant first
unfoldable pub element_text : ℕ → List ℕ → ℕ → List ℕ
element_text k bytes i = codes " " ++ encode_lower (reverse (slice_range bytes (k * i) (k * i + k)))

-- the line that `vreg` prints: a register's name, and its elements, element 0 first
unfoldable pub vreg_line : ℕ → Sew → List ℕ → List ℕ
vreg_line r sew bytes =
    codes "v" ++ decimal r ++ flat_map (element_text (sew_bits sew / 8) bytes) (range_with_len 0 (VLEN / sew_bits sew))

-- ---- vcsr

unfoldable pub vcsr_line : VState → List ℕ
vcsr_line v =
    codes "vl=" ++ decimal v.conf.vl ++ codes " vtype=" ++ hex16 (vtype_number v.conf.vtype)
    ++ codes " vstart=" ++ decimal v.vstart ++ codes " vxrm=" ++ decimal (rounding_number v.vxrm)
    ++ codes " vxsat=" ++ decimal (flag_bit v.vxsat)

-- ---- all commands of the group

-- the command with this name and these arguments; `None` if no command of this group has the name
abbrev pub registers_named : List ℕ → List (List ℕ) → Option (Option RegisterCommand)
registers_named name args = meaning_in (
    (codes "set", two_arguments Set scalar_register address args)
    ∷ (codes "regs", done Regs args)
    ∷ (codes "setpc", one_argument SetPc instruction_address args)
    ∷ (codes "vreg", two_arguments Vreg vector_register sew_argument args)
    ∷ (codes "vset", two_arguments Vset vector_register register_bytes args)
    ∷ (codes "vcsr", done Vcsr args)
    ∷ (codes "policy", one_argument SetPolicy policy_word args) ∷ []) name

-- the outcome of a command for a user who has entered
unfoldable pub register_command : RegisterCommand → Present → Outcome
-- write a scalar register
register_command (Set register value) p = replies (with_scalar (with_register register value p.hart.scalar) p) (codes "ok")
register_command Regs p = record { next = Some p; lines = regs_lines p.hart.scalar; uses = [] }
-- write the program counter
register_command (SetPc addr) p = replies (with_scalar (record p.hart.scalar { pc = addr }) p) (codes "ok")
-- print a vector register's elements
register_command (Vreg register width) p = replies p (vreg_line register width (register_of p.hart.vector.file register))
-- write a vector register
register_command (Vset register bytes) p =
    record (replies (with_file (with_register_bytes register bytes p.hart.vector.file) p) (codes "ok")) { uses = Writes ∷ [] }
register_command Vcsr p = replies p (vcsr_line p.hart.vector)
-- set the policy for agnostic elements
register_command (SetPolicy policy) p = replies (record p { hart = record p.hart { policy = policy } }) (codes "ok")
