-- The system call that writes. As in Linux, its arguments are a file descriptor in a0 (x10), the address of the bytes in a1 (x11) and their
-- number in a2 (x12). It returns in a0 the number of bytes written, or a negated error number. The only file descriptor is 1, the output
-- buffer.
use Rattle.std.specs.Prelude.{ℕ, ◌-◌, ◌^◌, ◌==◌, ◌++◌, not, List, length, min, if◌then◌else◌}
use Rattle.rv_model.specs.declared.memory.Access.TheVariants.{Load}
use Rattle.rv_model.specs.declared.step.step_end.StepEnd.TheVariants.{OutputFull}
use Rattle.rv_model.specs.memory.Memory.{bytes_at, can_access}
use Rattle.rv_model.specs.scalar.Registers.{read_register}
use Rattle.rv_model.specs.step.Hart.{HartState, Stepped, ends, gives}

-- the capacity of the output buffer, in bytes
abbrev pub output_size : ℕ
output_size = 1024

-- the maximum number of bytes that one call writes
abbrev pub write_size : ℕ
write_size = 256

-- the free space of an output buffer, in bytes
abbrev pub output_room : List ℕ → ℕ
output_room output = output_size - length output

-- the number of bytes that a call writes, of those requested
abbrev pub write_count : ℕ → List ℕ → ℕ
write_count asked output = min asked (min (output_room output) write_size)

-- the call returns an error, by its number in Linux, and the program continues
abbrev pub call_fails : ℕ → HartState → Stepped
call_fails error s = gives 10 (2 ^ 64 - error) s

-- write the bytes to the output buffer, or fail if some of them can't be read (error 14)
abbrev pub puts_out : ℕ → ℕ → HartState → Stepped
puts_out addr count s =
    if can_access Load s.memory addr count
    then gives 10 count (record s { output = s.output ++ bytes_at s.memory addr count })
    else call_fails 14 s

-- Any file descriptor except 1 is an error (9). If the call requests bytes and the output buffer is full, the program stops at the call.
unfoldable pub write_call : HartState → Stepped
write_call s =
    let asked = read_register s.scalar 12 in
    if not (read_register s.scalar 10 == 1) then call_fails 9 s
    else if asked == 0 then gives 10 0 s
    else if output_room s.output == 0 then ends OutputFull s
    else puts_out (read_register s.scalar 11) (write_count asked s.output) s
