-- The changes of watched places in a run: a line for each instruction and each place whose bytes it changes.
use Rattle.std.specs.Prelude.{ℕ, ◌≡◌, ◌+◌, ◌%◌, ◌^◌, List, [], ◌∷◌, ◌++◌, flat_map, length, codes, decimal, if◌then◌else◌}
use Rattle.std.specs.List.{sum_by}
use Rattle.std.specs.Str.{bytes_eq}
use Rattle.hex.specs.Hex.{encode_lower}
use Rattle.rv_model.specs.commands.Printing.{hex16}
use Rattle.rv_model.specs.memory.Memory.{Memory, bytes_at}
use Rattle.rv_model.specs.step.Hart.{HartState}
use Rattle.rv_model.specs.step.Step.{step}
pub use Rattle.memory_changes.specs.declared.place.Place.{Place}

-- the bytes of a place
abbrev pub held : Memory → Place → List ℕ
held m place = bytes_at m place.addr place.len

-- a text after a space
abbrev pub spaced : List ℕ → List ℕ
spaced text = codes " " ++ text

-- `INSTRUCTION TICKS PC ADDR OLD NEW`
unfoldable pub change_line : ℕ → ℕ → ℕ → ℕ → List ℕ → List ℕ → List ℕ
change_line number ticks pc addr old new =
    decimal number ++ spaced (decimal ticks) ++ spaced (hex16 pc) ++ spaced (hex16 addr) ++ spaced (encode_lower old) ++ spaced (encode_lower new)
    ++ codes "\n"

-- the line of a place; none if its bytes are the same
abbrev pub change : ℕ → ℕ → ℕ → ℕ → List ℕ → List ℕ → List ℕ
change number ticks pc addr old new = if bytes_eq old new then [] else change_line number ticks pc addr old new

-- the lines of all places, between two memories
abbrev pub changes_at : ℕ → ℕ → ℕ → Memory → Memory → List Place → List ℕ
changes_at number ticks pc m n places = flat_map (λ place. change number ticks pc place.addr (held m place) (held n place)) places

-- the ticks of the instruction that starts in this state
abbrev pub ticks_of : HartState → ℕ
ticks_of s = (step 256 s).ticks

-- the lines of the instruction that starts in this state
abbrev pub changes_by : List Place → ℕ → ℕ → HartState → List ℕ
changes_by places number ticks s = changes_at number ticks s.scalar.pc s.memory (step 256 s).state.memory places

-- the number of the next instruction, modulo 2 ^ 64; `ticks_more` adds an instruction's ticks, modulo 2 ^ 64
abbrev pub one_more : ℕ → ℕ
one_more number = (number + 1) % 2 ^ 64

abbrev pub ticks_more : ℕ → HartState → ℕ
ticks_more ticks s = (ticks + ticks_of s) % 2 ^ 64

-- the lines of instructions that follow `number` instructions with `ticks` ticks
unfoldable pub changes_from : List Place → ℕ → ℕ → List HartState → List ℕ
changes_from places number ticks [] = []
changes_from places number ticks (s ∷ states) =
    changes_by places (one_more number) (ticks_more ticks s) s ++ changes_from places (one_more number) (ticks_more ticks s) states

-- The lines of each instruction of a run are between those of the instructions before and after it. Its number is one more than the number
-- of instructions before it. Its ticks are the sum of the ticks up to and including this instruction.
abbrev pub LinesOfEach : Type 0
LinesOfEach = (places : List Place) (before : List HartState) (s : HartState) (after : List HartState)
    → let number : ℕ = (length before + 1) % 2 ^ 64 in
    let ticks : ℕ = (sum_by ticks_of before + ticks_of s) % 2 ^ 64 in
    changes_from places 0 0 (before ++ s ∷ after) ≡ changes_from places 0 0 before ++ changes_by places number ticks s ++ changes_from places number ticks after
