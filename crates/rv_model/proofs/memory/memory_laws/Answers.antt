use Rattle.rv_model.proofs.memory_lemmas.Memory.{writes_bytes, is_allowed-put_bytes, maps_zeros, maps_permissions, reads_bytes, allows_each_byte}
use Rattle.rv_model.proofs.memory.memory_laws.Goals as goal

pub returns : goal.returns
returns c = search (allows_each_byte, is_allowed-put_bytes, maps_permissions, maps_zeros, reads_bytes, writes_bytes)
