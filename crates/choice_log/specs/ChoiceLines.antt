-- The list of the choices of a run: a line for each kind of choice that an instruction takes. Elements are numbered by their place in the
-- destination group.
use Rattle.std.specs.Prelude.{ℕ, ◌+◌, ◌*◌, ◌/◌, ◌%◌, ◌^◌, ◌==◌, ◌&&◌, nat_le, nat_lt, min, Bool, true, false, List, [], ◌∷◌, ◌++◌, Option, Some, None, codes, decimal, flat_map, length, if◌then◌else◌}
use Rattle.std.specs.List.{range_with_len}
use Rattle.std.specs.Option.{option_map_or}
use Rattle.rv_model.specs.declared.vector.request.RequestedLength.{RequestedLength}
use Rattle.rv_model.specs.declared.vector.request.RequestedLength.TheVariants.{Elements}
use Rattle.rv_model.specs.declared.vector.sizes.TheConstants.{GROUP_BYTES, VLENB}
use Rattle.rv_model.specs.step.Hart.{HartState}
use Rattle.rv_model.specs.step.Step.{step}
use Rattle.rv_model.specs.vector.Groups.{Configuration, registers, vlmax, width_bytes}
use Rattle.open_choices.specs.declared.seeds.Seed.{Seed}
use Rattle.open_choices.specs.Fills.{Fill, fill_of, is_filled}
use Rattle.open_choices.specs.OpenStep.{asked_by, instr_at}
use Rattle.open_choices.specs.Seeds.{first_only_at, has_kind, is_chosen, left_by}
use Rattle.recording.specs.OpenRuns.{has_run}

-- a space and a number
abbrev pub spaced : ℕ → List ℕ
spaced number = codes " " ++ decimal number

-- ---- elements

-- the number of elements of a fill's group: no instruction's group has more than GROUP_BYTES
abbrev pub group_elements : Fill → ℕ
group_elements f = min (VLENB * registers f.group.emul / width_bytes f.group.width) GROUP_BYTES

-- whether element e is in the tail, or before the tail
abbrev pub is_of_kind : Bool → Fill → ℕ → Bool
is_of_kind tail f e = if tail then nat_le f.body.end e else nat_lt e f.body.end

-- whether a seed takes an open element of a fill, in the tail or masked off
abbrev pub is_listed : Bool → Seed → ℕ → Fill → ℕ → Bool
is_listed tail c number f e =
    is_of_kind tail f e && (is_filled f e && (has_kind c.kinds f e && is_chosen c number e))

-- the number of an element, if it is listed
abbrev pub element_text : (ℕ → Bool) → ℕ → List ℕ
element_text listed e = if listed e then spaced e else []

-- the numbers of the elements that are listed
abbrev pub element_texts : Bool → Seed → ℕ → Fill → List ℕ
element_texts tail c number f = flat_map (element_text (is_listed tail c number f)) (range_with_len 0 (group_elements f))

abbrev pub kind_name : Bool → List ℕ
kind_name tail = if tail then codes " tail" else codes " masked"

-- the line of a kind of elements: `N tail E..` or `N masked E..`; none without elements
abbrev pub element_line : Bool → Seed → ℕ → Fill → List ℕ
element_line tail c number f =
    let texts = element_texts tail c number f in
    if length texts == 0 then [] else decimal number ++ kind_name tail ++ texts ++ codes "\n"

-- the lines of both kinds
abbrev pub element_lines : Seed → ℕ → Fill → List ℕ
element_lines c number f = element_line false c number f ++ element_line true c number f

-- ---- lengths

-- `N trim VL`; none if the length is that of the step
abbrev pub trim_line : ℕ → ℕ → ℕ → List ℕ
trim_line number old left = if left == old then [] else decimal number ++ codes " trim" ++ spaced left ++ codes "\n"

-- `N length AVL VLMAX VL`; none if the length is that of the step
abbrev pub vset_line : ℕ → ℕ → ℕ → ℕ → ℕ → List ℕ
vset_line number avl most old left =
    if left == old then [] else decimal number ++ codes " length" ++ spaced avl ++ spaced most ++ spaced left ++ codes "\n"

-- the line of a vset instruction with this request
abbrev pub length_line : ℕ → RequestedLength → ℕ → ℕ → ℕ → List ℕ
length_line number (Elements avl) most old left = vset_line number avl most old left
length_line number _ most old left = []

-- the line of an instruction that leaves this length: with the length that it asks for, or its vstart if it is a fault-only-first load
abbrev pub left_line : ℕ → Option (ℕ × RequestedLength) → Option ℕ → Configuration → ℕ → List ℕ
left_line number (Some asked) vstart new left = length_line number asked.1 (option_map_or vlmax new.vtype 0) new.vl left
left_line number None (Some vstart) new left = trim_line number new.vl left
left_line number None None new left = []

-- ---- an instruction, and a run

-- the lines of an instruction that ran, from its fill, the length that it asks for, its vstart if it is a fault-only-first load, and the
-- configuration that its step leaves
abbrev pub lines_by : Seed → ℕ → Option Fill → Option (ℕ × RequestedLength) → Option ℕ → Configuration → List ℕ
lines_by c number fill asked vstart new =
    option_map_or (element_lines c number) fill [] ++ left_line number asked vstart new (left_by c number asked vstart new)

-- the lines of the instruction with a number that is executed from a state; none if it doesn't retire
abbrev pub choice_lines : Seed → ℕ → HartState → List ℕ
choice_lines c number s =
    if has_run (step 256 s).end then
    lines_by c number (fill_of (instr_at s) s) (asked_by (instr_at s) s) (first_only_at (instr_at s) s) (step 256 s).state.vector.conf
    else []

-- the number of the next instruction
abbrev pub one_more : ℕ → ℕ
one_more number = (number + 1) % 2 ^ 64

-- the lines of instructions that follow `number` instructions
unfoldable pub choices_from : Seed → ℕ → List HartState → List ℕ
choices_from c number [] = []
choices_from c number (s ∷ states) = choice_lines c (one_more number) s ++ choices_from c (one_more number) states
