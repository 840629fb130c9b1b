-- The state that a recorder saves before an instruction.
use Rattle.std.specs.Prelude.{ℕ, ◌≡◌, true, false, List}
use Rattle.rv_model.specs.declared.memory.Access.TheVariants.{Fetch}
use Rattle.rv_model.specs.declared.vector.state.VState.{VState}
use Rattle.rv_model.specs.instructions.Table.{scan, table}
use Rattle.rv_model.specs.memory.Memory.{can_access}
use Rattle.rv_model.specs.step.Hart.{HartState}
use Rattle.rv_model.specs.vector.Groups.{register_of}
use Rattle.recording.specs.Classes.{Class, class_of, is_plain, is_unmasked}
use Rattle.recording.specs.declared.pre_state.PreState.{PreState}
use Rattle.recording.specs.declared.key.Key.TheVariants.{Word}
use Rattle.recording.specs.Runs.{word_of}
use Rattle.recording.specs.Sums.{IsRowOf, Row}

-- the saved fields of the state before an instruction of this class, if the class isn't plain
pub record Finds (k : Class) (pc : ℕ) (v : VState) (found : PreState) : Type 0 where
  pub pc_is : found.pc ≡ pc
  pub conf_is : found.conf ≡ v.conf
  pub start_is : found.start ≡ v.vstart
  pub mask_is : is_unmasked k ≡ false → found.mask ≡ register_of v.file 0

-- The row with an index is that of the instruction executed from a state: that of its word, if a fetch is allowed. The saved fields are
-- those of this state, unless the class is plain.
pub record IsRowFor (s : HartState) (index : ℕ) (found : PreState) (rows : List Row) : Type 0 where
  pub word : ℕ
  pub word_is : can_access Fetch s.memory s.scalar.pc 4 ≡ true → word ≡ word_of s
  pub row : IsRowOf (Word s.scalar.pc word) index rows
  pub finds : is_plain (class_of (scan table word)) ≡ false → Finds (class_of (scan table word)) s.scalar.pc s.vector found
