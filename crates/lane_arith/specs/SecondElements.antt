-- A second operand: the elements of a vector, or one number for each element.
use Rattle.std.specs.Prelude.{ℕ, ◌%◌, ◌^◌, ⊤, List}
use Rattle.std.specs.Borrow.{Bor}
use Rattle.std.specs.Int.{Width}
use Rattle.std.specs.declared.option.Option.{Option}
use Rattle.std.specs.declared.option.Option.TheVariants.{Some, None}
use mir.Val.{bits}
use Rattle.rv_model.specs.elements.Elements.{element}
use Rattle.rv_model.specs.lending.Writes.{HasElement}
use Rattle.rv_model.specs.vector.Groups.{width_bytes}
use Rattle.lane_arith.specs.declared.second_elements.SecondElements.{SecondElements}

-- element i of a list of bytes, if there is one, else the low bits of a number
abbrev pub element_or : Width → Option (Bor (List ℕ)) → ℕ → ℕ → ℕ
element_or w (Some bytes) number i = element (width_bytes w) bytes.now i
element_or w None number i = number % 2 ^ bits w

-- the element of a second operand at an index, of width w
abbrev pub number_at : Width → SecondElements → ℕ → ℕ
number_at w second i = element_or w second.elements second.number i

-- the list of elements, if there is one, has an element at an index
abbrev pub HasElementAt : Width → Option (Bor (List ℕ)) → ℕ → Type 0
HasElementAt w (Some bytes) i = HasElement (width_bytes w) bytes.now i
HasElementAt w None i = ⊤

-- a second operand has an element at an index
abbrev pub HasNumber : Width → SecondElements → ℕ → Type 0
HasNumber w second i = HasElementAt w second.elements i
