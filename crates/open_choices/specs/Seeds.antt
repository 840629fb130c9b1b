-- The choices of a seed: a function of the seed, the number of the instruction, the kind and the element.
use Rattle.std.specs.Prelude.{ℕ, ◌+◌, ◌-◌, ◌*◌, ◌/◌, ◌%◌, ◌^◌, ◌==◌, ◌&&◌, ◌||◌, not, nat_le, nat_lt, Bool, Option, Some, None, if◌then◌else◌, min, false}
use Rattle.std.specs.Option.{option_map_or}
use Rattle.rv_model.specs.declared.instructions.instruction.Instr.{Instr}
use Rattle.rv_model.specs.declared.step.step_end.StepEnd.{StepEnd}
use Rattle.rv_model.specs.declared.step.step_end.StepEnd.TheVariants.{Ran}
use Rattle.rv_model.specs.declared.vector.request.RequestedLength.{RequestedLength}
use Rattle.rv_model.specs.declared.vector.request.RequestedLength.TheVariants.{Elements}
use Rattle.rv_model.specs.declared.vector.sizes.TheConstants.{GROUP_BYTES}
use Rattle.rv_model.specs.step.Hart.{HartState}
use Rattle.rv_model.specs.step.Step.{step}
use Rattle.rv_model.specs.vector.Groups.{Configuration, vlmax}
use Rattle.open_choices.specs.declared.seeds.Kinds.{Kinds}
use Rattle.open_choices.specs.declared.seeds.Seed.{Seed}
use Rattle.open_choices.specs.Fills.{Fill, fill_at, overlaid}
use Rattle.open_choices.specs.OpenStep.{asked_by, instr_at, is_first_only, with_choices}

-- a number of 64 bits from another one, as if by chance
abbrev pub mixed : ℕ → ℕ
mixed v =
    let a = v * 0x9e3779b97f4a7c15 % 2 ^ 64 in
    let b = (a + a / 2 ^ 32) % 2 ^ 64 in
    b * 0xbf58476d1ce4e5b9 % 2 ^ 64

-- 32 bits for a number and a place. Two seeds 2 n and 2 n + 1 have the same.
abbrev pub drawn_bits : ℕ → ℕ → ℕ → ℕ
drawn_bits seed number at = mixed ((mixed ((mixed (seed / 2) + number) % 2 ^ 64) + at) % 2 ^ 64) / 2 ^ 32

-- whether a seed chooses at an instruction: seed 0 never does, and others only at the instructions of their range
abbrev pub chooses : Seed → ℕ → Bool
chooses c number = not (c.seed == 0) && (nat_le c.first number && nat_le number c.last)

-- ---- tails and masked-off elements

-- whether element e is drawn: always by seed 1, and otherwise by one of two seeds 2 n and 2 n + 1
abbrev pub is_drawn : ℕ → ℕ → ℕ → Bool
is_drawn seed number e =
    (seed == 1) || not ((drawn_bits seed number (e / 32) / 2 ^ (e % 32) % 2) == (seed % 2))

-- whether it is chosen at an instruction
abbrev pub is_chosen : Seed → ℕ → ℕ → Bool
is_chosen c number e = chooses c number && (is_drawn c.seed number e && (nat_le c.low e && nat_lt e (min c.high GROUP_BYTES)))

-- whether choices are made of the kind of element e of a fill
abbrev pub has_kind : Kinds → Fill → ℕ → Bool
has_kind k f e = if nat_le f.body.end e then k.tail else k.masked

-- whether element e of a step's destination is chosen
abbrev pub is_taken : Seed → ℕ → Option Fill → ℕ → Bool
is_taken c number None e = false
is_taken c number (Some f) e = is_chosen c number e && has_kind c.kinds f e

-- ---- lengths

-- the length for an AVL between VLMAX and twice it: from half of the AVL on, and the same each time. Seed 1 draws the least one, and
-- two seeds 2 n and 2 n + 1 draw at the same distance from the least one and from VLMAX.
abbrev pub drawn_length : ℕ → ℕ → ℕ → ℕ
drawn_length seed avl most =
    let least = (avl + 1) / 2 in
    let drawn = drawn_bits seed avl (512 + most) % (most - least + 1) in
    if seed == 1 then least else if seed % 2 == 0 then least + drawn else most - drawn

-- the length after a fault-only-first load that leaves vl, which is above 1: 1, the length before vl, any of them, or vl. Seed 1 draws 1, and
-- only one of two seeds 2 n and 2 n + 1 draws another length than vl.
abbrev pub drawn_trim : ℕ → ℕ → ℕ → ℕ
drawn_trim seed number vl =
    let word = drawn_bits seed number 256 in
    if seed == 1 then 1
    else if word % 2 == (seed % 2) then vl
    else if word / 2 % 4 == 0 then 1
    else if word / 2 % 4 == 1 then vl - 1
    else 1 + word / 8 % (vl - 1)

-- the length that is left after a vset instruction with this request, VLMAX and vl
abbrev pub chosen_length : Seed → ℕ → RequestedLength → ℕ → ℕ → ℕ
chosen_length c number (Elements avl) most vl =
    if (c.kinds.length && chooses c number) && (nat_lt most avl && nat_lt avl (2 * most)) then drawn_length c.seed avl most else vl
chosen_length c number _ most vl = vl

-- the length that is left after a fault-only-first load from this vstart that leaves vl
abbrev pub chosen_trim : Seed → ℕ → ℕ → ℕ → ℕ
chosen_trim c number vstart vl =
    if (c.kinds.trim && chooses c number) && ((vstart == 0) && nat_lt 1 vl) then drawn_trim c.seed number vl else vl

-- the length that is left after an instruction that ran: with the length that it asks for, or its vstart if it is a fault-only-first load
abbrev pub left_by : Seed → ℕ → Option (ℕ × RequestedLength) → Option ℕ → Configuration → ℕ
left_by c number (Some asked) vstart new = chosen_length c number asked.1 (option_map_or vlmax new.vtype 0) new.vl
left_by c number None (Some vstart) new = chosen_trim c number vstart new.vl
left_by c number None None new = new.vl

-- the vstart of a fault-only-first load
abbrev pub first_only_at : Option Instr → HartState → Option ℕ
first_only_at i s = if is_first_only i then Some s.vector.vstart else None

-- the length after the instruction that is executed from a state
abbrev pub left_at : StepEnd → Seed → ℕ → HartState → Configuration → ℕ
left_at Ran c number s new = left_by c number (asked_by (instr_at s) s) (first_only_at (instr_at s) s) new
left_at _ c number s new = new.vl

-- ---- the state

-- the state after the instruction with a number, with the choices of a seed
abbrev pub seeded : Seed → ℕ → HartState → HartState
seeded c number s =
    let one = step 256 s in
    with_choices s (overlaid s (is_taken c number (fill_at s))) (left_at one.end c number s one.state.vector.conf)
