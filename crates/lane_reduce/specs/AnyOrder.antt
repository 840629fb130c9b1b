-- Operations whose numbers may be combined in any order, and their neutral elements.
use Rattle.std.specs.Prelude.{ℕ, ◌-◌, ◌^◌, ◌<◌, ◌≡◌, map}
use Rattle.std.specs.Int.{Width}
use Rattle.std.specs.List.{fold, range_with_len}
use mir.Val.{hbits}
use Rattle.rv_model.specs.declared.instructions.operations.ReduceOp.{ReduceOp}
use Rattle.rv_model.specs.declared.instructions.operations.ReduceOp.TheVariants.{Vredsum, Vredand, Vredor, Vredxor, Vredminu, Vredmin, Vredmaxu, Vredmax}
use Rattle.rv_model.specs.elements.Formulas.{formula, ones, wrap}
use Rattle.rv_model.specs.elements.Reductions.{combining}

-- an associative and commutative operation on the numbers below a bound, with a neutral element
pub record AnyOrder (combined : ℕ → ℕ → ℕ) (neutral bound : ℕ) : Type 0 where
  pub closed : (x y : ℕ) → combined x y < bound
  pub within : neutral < bound
  pub unchanged : (x : ℕ) → x < bound → combined x neutral ≡ x
  pub commutative : (x y : ℕ) → x < bound → y < bound → combined x y ≡ combined y x
  pub associative : (x y z : ℕ) → x < bound → y < bound → z < bound → combined (combined x y) z ≡ combined x (combined y z)

-- the neutral element of a reduction's operation at a width
abbrev pub neutral_number : ReduceOp → Width → ℕ
neutral_number Vredsum w = 0
neutral_number Vredand w = ones w
neutral_number Vredor w = 0
neutral_number Vredxor w = 0
neutral_number Vredminu w = ones w
neutral_number Vredmin w = 2 ^ hbits w - 1
neutral_number Vredmaxu w = 0
neutral_number Vredmax w = 2 ^ hbits w

-- a reduction's combination of two numbers of width w
abbrev pub combination : ReduceOp → Width → ℕ → ℕ → ℕ
combination op w x a = wrap w (formula (combining op) w x a)

-- the combination of the first n of these numbers; the neutral element if n is 0
abbrev pub total : (ℕ → ℕ → ℕ) → ℕ → (ℕ → ℕ) → ℕ → ℕ
total combined neutral number n = fold combined neutral (map number (range_with_len 0 n))
