-- The lines that register commands print contain no newline.
use Rattle.std.proofs.Common.{ℕ, zero, suc, ◌+◌, ◌*◌, ◌/◌, List, refl}
use Rattle.std.specs.Prelude.{codes, flat_map, reverse, slice_index, slice_range}
use Rattle.std.specs.List.{range_with_len}
use Rattle.std.proofs.lemmas.Bool.{and_from}
use Rattle.rv_model.specs.declared.scalar.Scalar.{Scalar}
use Rattle.rv_model.specs.declared.vector.state.VState.{VState}
use Rattle.rv_model.specs.declared.vector.types.Sew.{Sew}
use Rattle.rv_model.specs.commands.Registers.{register_text, register_line, register_lines, regs_lines, element_text, vreg_line, vcsr_line}
use Rattle.rv_model.specs.instructions.FixedBits.{flag_bit}
use Rattle.rv_model.proofs.text_lemmas.Newlines.{IsLine, AreLines}
use Rattle.rv_model.specs.vector.Groups.{sew_bits}
use Rattle.rv_model.specs.vector.RoundingModes.{rounding_number}
use Rattle.rv_model.specs.vector.TypeRules.{vtype_number}
use Rattle.rv_model.proofs.text_lemmas.Pieces.{Piece, ◌▸◌, hexadecimal, number, bytes, space, flat_map_line}

no_newline_in_register : (s : Scalar) (i : ℕ) → IsLine (register_text s i)
unfolding register_text
no_newline_in_register s i = let x : Piece = (codes "x", refl) in (x ▸ number i ▸ space ▸ hexadecimal (slice_index s.x i)).1

no_newline_in_register_line : (s : Scalar) (i : ℕ) → IsLine (register_line s i)
unfolding register_line
no_newline_in_register_line s i =
    let register : ℕ → Piece = λ n. (register_text s n, no_newline_in_register s n) in
    (register i ▸ space ▸ register (i + 1) ▸ space ▸ register (i + 2) ▸ space ▸ register (i + 3)).1

register_lines_are_lines : (n i : ℕ) (s : Scalar) → AreLines (register_lines n i s)
register_lines_are_lines zero i s = refl
register_lines_are_lines (suc n) i s = and_from _ _ (no_newline_in_register_line s i) (register_lines_are_lines n (i + 4) s)

pub regs_lines_are_lines : (s : Scalar) → AreLines (regs_lines s)
unfolding regs_lines
regs_lines_are_lines s = let pc : Piece = (codes "pc ", refl) in and_from _ _ (pc ▸ hexadecimal s.pc).1 (register_lines_are_lines 8 0 s)

no_newline_in_element : (k : ℕ) (register : List ℕ) (i : ℕ) → IsLine (element_text k register i)
unfolding element_text
no_newline_in_element k register i = (space ▸ bytes (reverse (slice_range register (k * i) (k * i + k)))).1

pub no_newline_in_vreg_line : (r : ℕ) (width : Sew) (register : List ℕ) → IsLine (vreg_line r width register)
unfolding vreg_line
no_newline_in_vreg_line r width register =
    let element = element_text (sew_bits width / 8) register in
    let all = range_with_len 0 (256 / sew_bits width) in
    ((codes "v", refl) ▸ number r ▸ (flat_map element all, flat_map_line element all (no_newline_in_element (sew_bits width / 8) register))).1

pub no_newline_in_vcsr_line : (v : VState) → IsLine (vcsr_line v)
unfolding vcsr_line
no_newline_in_vcsr_line v =
    ((codes "vl=", refl) ▸ number v.conf.vl ▸ (codes " vtype=", refl) ▸ hexadecimal (vtype_number v.conf.vtype) ▸ (codes " vstart=", refl) ▸ number v.vstart
    ▸ (codes " vxrm=", refl) ▸ number (rounding_number v.vxrm) ▸ (codes " vxsat=", refl) ▸ number (flag_bit v.vxsat)).1
