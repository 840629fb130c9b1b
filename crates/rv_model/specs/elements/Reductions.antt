-- Reductions ("V" Vector Extension 1.0, chapter 14): an initial number, combined with each active element in order.
use Rattle.std.specs.Prelude.{ℕ, ℤ, List, map}
use Rattle.std.specs.Int.{Width}
use Rattle.std.specs.List.{filter, fold, range_with_len}
use Rattle.rv_model.specs.instructions.Types.{BinaryOp, ReduceOp, WideSourceOp, WidenReduceOp}
use Rattle.rv_model.specs.declared.instructions.operations.BinaryOp.TheVariants.{Vadd, Vand, Vor, Vxor, Vminu, Vmin, Vmaxu, Vmax}
use Rattle.rv_model.specs.declared.instructions.operations.ReduceOp.TheVariants.{Vredsum, Vredand, Vredor, Vredxor, Vredminu, Vredmin, Vredmaxu, Vredmax}
use Rattle.rv_model.specs.declared.instructions.operations.WideSourceOp.TheVariants.{Vwaddu, Vwadd}
use Rattle.rv_model.specs.declared.instructions.operations.WidenReduceOp.TheVariants.{Vwredsumu, Vwredsum}
use Rattle.rv_model.specs.elements.Elements.{Body, is_active}
use Rattle.rv_model.specs.elements.Formulas.{wrap}

-- the operation that a reduction applies to each element
abbrev pub combining : ReduceOp → BinaryOp
combining Vredsum = Vadd
combining Vredand = Vand
combining Vredor = Vor
combining Vredxor = Vxor
combining Vredminu = Vminu
combining Vredmin = Vmin
combining Vredmaxu = Vmaxu
combining Vredmax = Vmax

-- the operation that a widening reduction applies to each element
abbrev pub widening_combining : WidenReduceOp → WideSourceOp
widening_combining Vwredsumu = Vwaddu
widening_combining Vwredsum = Vwadd

-- the numbers of the active elements, in order
abbrev pub active_numbers : Body → (ℕ → ℕ) → List ℕ
active_numbers body number = map number (filter (is_active body) (range_with_len 0 body.end))

-- the initial number `first`, of the width w, combined with each of the numbers by a formula
abbrev pub reduced : (ℕ → ℕ → ℤ) → Width → ℕ → List ℕ → ℕ
reduced combined w first numbers = fold (λ x a. wrap w (combined x a)) first numbers
