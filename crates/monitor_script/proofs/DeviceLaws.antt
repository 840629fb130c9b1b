-- How callers of `run` use its clauses
use Rattle.std.proofs.Common.{◌≡◌, refl, Result, Ok, Err}
use Rattle.std.specs.Result.{OnOk}
use Rattle.monitor_script.specs.declared.script.RunFault.{RunFault}
use Rattle.monitor_script.specs.declared.script.RunFault.TheVariants.{Read, TooLong, Write}

-- a run ends in one of these ways
pub each_end : {T P : Type 0} (r : Result T RunFault) → OnOk r P → (r ≡ Err Read → P) → (r ≡ Err TooLong → P) → (r ≡ Err Write → P) → P
each_end (Ok x) done read long write = done
each_end (Err Read) done read long write = read refl
each_end (Err TooLong) done read long write = long refl
each_end (Err Write) done read long write = write refl
