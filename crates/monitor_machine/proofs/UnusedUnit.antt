-- Commands that don't use the vector unit leave it unchanged.
use Rattle.std.proofs.Common.{◌≡◌, ℕ, ◌*◌, List, [], length, Option, Some, None, Result, Ok, Err, refl, sym, subst}
use Rattle.std.specs.Prelude.{nat_le}
use Rattle.rv_model.specs.declared.commands.breakpoints.BreakpointCommand.{BreakpointCommand}
use Rattle.rv_model.specs.declared.commands.breakpoints.BreakpointCommand.TheVariants.{Break, Unbreak, Breaks}
use Rattle.rv_model.specs.declared.commands.memory.MemoryCommand.{MemoryCommand}
use Rattle.rv_model.specs.declared.commands.memory.MemoryCommand.TheVariants.{Map, Poke, Peek}
use Rattle.rv_model.specs.declared.memory.Access.TheVariants.{Monitor}
use Rattle.rv_model.specs.declared.memory.MapRefusal.{MapRefusal}
use Rattle.rv_model.specs.declared.vector.state.VState.{VState}
use Rattle.rv_model.specs.assembler.Table.{spelled}
use Rattle.rv_model.specs.commands.Breakpoints.{breakpoint_command, breakpoint_limit}
use Rattle.rv_model.specs.commands.Memory.{mapping, memory_command}
use Rattle.rv_model.specs.commands.Programs.{assembles, assembling, shows_instructions}
use Rattle.rv_model.specs.commands.Running.{halts}
use Rattle.rv_model.specs.machine.UserMachine.{Outcome, Present, Use, has_breakpoint}
use Rattle.rv_model.specs.machine.VectorUnit.{unit_after_uses}
use Rattle.rv_model.specs.memory.Memory.{Memory, can_access, map_refusal}
use Rattle.rv_model.proofs.Choices.{of_either}
use Rattle.lazy_context.specs.declared.unit.Unit.{Unit}
use Rattle.lazy_context.specs.LazyUnit.{IsSettled, record_of}
use Rattle.monitor_machine.specs.declared.context.Context.{Context}
use Rattle.monitor_machine.specs.Parts.{Addresses, UnitMoves, present}
use Rattle.monitor_machine.proofs.PartLaws.{unit_stays}

-- a group of commands has no uses

abbrev HasNoUse : Outcome → Type 0
HasNoUse o = o.uses ≡ []

of_mapping : (reason : Option MapRefusal) (o : Option MapRefusal → Outcome) → HasNoUse (o None)
    → ((r : MapRefusal) → HasNoUse (o (Some r))) → HasNoUse (o reason)
of_mapping None o none some = none
of_mapping (Some r) o none some = some r

memory_has_none : (c : MemoryCommand) (p : Present) → HasNoUse (memory_command c p)
unfolding memory_command
memory_has_none (Map pages allowed) p =
    of_mapping (map_refusal p.hart.memory pages.first pages.count) (λ r. mapping r pages allowed p) refl (λ r. refl)
memory_has_none (Poke addr bytes) p = of_either HasNoUse (can_access Monitor p.hart.memory addr (length bytes)) _ _ refl refl
memory_has_none (Peek addr count) p = of_either HasNoUse (can_access Monitor p.hart.memory addr count) _ _ refl refl

breakpoints_have_none : (c : BreakpointCommand) (p : Present) → HasNoUse (breakpoint_command c p)
unfolding breakpoint_command
breakpoints_have_none (Break addr) p =
    of_either HasNoUse (nat_le breakpoint_limit (length p.breakpoints)) _ _ refl
    (of_either HasNoUse (has_breakpoint p addr) _ _ refl refl)
breakpoints_have_none (Unbreak addr) p = of_either HasNoUse (has_breakpoint p addr) _ _ refl refl
breakpoints_have_none Breaks p = refl

assembling_has_none : (addr : ℕ) (word : Result ℕ ℕ) (p : Present) → HasNoUse (assembling addr word p)
assembling_has_none addr (Err column) p = refl
assembling_has_none addr (Ok word) p = refl

-- so the unit is unchanged

stays_by : (user : ℕ) (unit : Unit) (uses : List Use) → uses ≡ [] → IsSettled unit
    → UnitMoves user unit unit (unit_after_uses user uses (record_of unit))
stays_by user unit uses none settled =
    subst (λ (us : List Use). UnitMoves user unit unit (unit_after_uses user us (record_of unit))) (sym none) (unit_stays user unit settled)

pub memory_unused : (c : MemoryCommand) (p : Present) (user : ℕ) (unit : Unit) → IsSettled unit
    → UnitMoves user unit unit (unit_after_uses user (memory_command c p).uses (record_of unit))
memory_unused c p user unit settled = stays_by user unit (memory_command c p).uses (memory_has_none c p) settled

pub breakpoints_unused : (c : BreakpointCommand) (p : Present) (user : ℕ) (unit : Unit) → IsSettled unit
    → UnitMoves user unit unit (unit_after_uses user (breakpoint_command c p).uses (record_of unit))
breakpoints_unused c p user unit settled = stays_by user unit (breakpoint_command c p).uses (breakpoints_have_none c p) settled

pub assembles_unused : (c : Context) (t : Addresses) (v : VState) (m : Memory) (addr : ℕ) (text : List ℕ) (user : ℕ) (unit : Unit) → IsSettled unit
    → UnitMoves user unit unit (unit_after_uses user (assembles addr text (present c t v m)).uses (record_of unit))
assembles_unused c t v m addr text user unit settled =
    stays_by user unit (assembles addr text (present c t v m)).uses
    (of_either HasNoUse (can_access Monitor m addr 4) _ _ (assembling_has_none addr (spelled text) (present c t v m)) refl) settled

pub shows_unused : (c : Context) (t : Addresses) (v : VState) (m : Memory) (addr count user : ℕ) (unit : Unit) → IsSettled unit
    → UnitMoves user unit unit (unit_after_uses user (shows_instructions addr count (present c t v m)).uses (record_of unit))
shows_unused c t v m addr count user unit settled =
    stays_by user unit (shows_instructions addr count (present c t v m)).uses
    (of_either HasNoUse (can_access Monitor m addr (4 * count)) _ _ refl refl) settled

pub halts_unused : (c : Context) (t : Addresses) (v : VState) (m : Memory) (user : ℕ) (unit : Unit) → IsSettled unit
    → UnitMoves user unit unit (unit_after_uses user (halts (present c t v m)).uses (record_of unit))
halts_unused c t v m user unit settled =
    stays_by user unit (halts (present c t v m)).uses (of_either HasNoUse c.running _ _ refl refl) settled
