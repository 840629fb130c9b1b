-- The vector state of a machine ("V" Vector Extension 1.0, section 3) for VLEN 256.
use Rattle.std.specs.Prelude.{ℕ, List, replicate, false}
use Rattle.rv_model.specs.vector.Types.{NearestUp, FILE_BYTES}
use Rattle.rv_model.specs.declared.vector.state.VState.{VState}
use Rattle.rv_model.specs.vector.Groups.{initial_configuration}

-- the register file with all bytes 0
unfoldable pub zero_file : List ℕ
zero_file = replicate FILE_BYTES 0

-- a machine's vector state before its first use
unfoldable pub initial_vector : VState
initial_vector = record { file = zero_file; conf = initial_configuration; vstart = 0; vxrm = NearestUp; vxsat = false }
