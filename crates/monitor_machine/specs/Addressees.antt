-- The addressee of a line, as the code represents it.
use Rattle.std.specs.Prelude.{ℕ, ◌≤◌, List}
use Rattle.rv_model.specs.machine.Script.{Kind, Empty, Long, Bad, Operator as OperatorLine, Of}
use Rattle.monitor_machine.specs.declared.addressee.Addressee.{Addressee}
use Rattle.monitor_machine.specs.declared.addressee.Addressee.TheVariants.{Nobody, TooLong, BadPrefix, Operator, User}

-- the kind of a line, by its addressee and the text after the prefix
abbrev pub kind_as : Addressee → List ℕ → Kind
kind_as Nobody rest = Empty
kind_as TooLong rest = Long
kind_as BadPrefix rest = Bad
kind_as Operator rest = OperatorLine rest
kind_as (User user) rest = Of user rest

-- a line of a user or of the operator has at least the two bytes of its prefix
abbrev pub HasPrefix : Addressee → ℕ → Type 0
HasPrefix (User user) n = 2 ≤ n
HasPrefix Operator n = 2 ≤ n
HasPrefix _ n = Unit {0}
