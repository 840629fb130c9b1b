-- Encoding of a memory as a stored value.
use Rattle.std.specs.Prelude.{ℕ, Bool, refl}
use Rattle.std.specs.Coded.{Coded, code_by, coded×, coded_ℕ, coded_bool}
use Rattle.std.specs.FinMap.{code}
use Rattle.rv_model.specs.memory.Memory.{Cell, Memory}

-- a cell is stored as its byte and three flags
abbrev pub coded_cell : Coded Cell
coded_cell =
    code_by (ℕ × (Bool × (Bool × Bool))) (coded× coded_ℕ (coded× coded_bool (coded× coded_bool coded_bool)))
    (λ c. (c.byte, (c.permissions.read, (c.permissions.write, c.permissions.execute))))
    (λ p. record { byte = p.0; permissions = record { read = p.1.0; write = p.1.1.0; execute = p.1.1.1 } }) (λ _. refl)

-- the encoding of a memory
abbrev pub coded_memory : Coded Memory
coded_memory = code coded_ℕ coded_cell
