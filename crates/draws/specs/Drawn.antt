-- The numbers drawn from now on: those of xoshiro256++. A 32-bit number is the high half of a 64-bit one.
use Rattle.rand_core.specs.Steps.{stream_of, steps_u64_high}
use Rattle.rand_core.specs.Stream.{Stream}
use Rattle.rand_xoshiro.specs.Xoshiro256.{plus_plus}
use Rattle.draws.specs.declared.Draws.{Draws}

abbrev pub drawn : Draws → Stream
drawn draws = stream_of (steps_u64_high plus_plus) draws.generator
