-- The rows of the manual's table of vector operations (V extension, "Vector Instruction Listing"), with each operation once: its name, half
-- of the opcode map, funct6 and forms. Also the second operand: its form, and bits 19 to 15, which hold it (V extension, "Vector Arithmetic
-- Instruction encoding").
use Rattle.std.specs.Prelude.{ℕ, ◌+◌, ◌*◌, ◌^◌, Bool, true, false, List, [], ◌∷◌, map, ◌++◌, codes}
use Rattle.rv_model.specs.instructions.Types.{Form, Source, Line, Major, Forms, VectorOp, CarryOp}
use Rattle.rv_model.specs.declared.instructions.operations.Form.TheVariants as form
use Rattle.rv_model.specs.declared.instructions.source.Source.TheVariants as source
use Rattle.rv_model.specs.declared.instructions.operations.Major.TheVariants.{Opi, Opm}
use Rattle.rv_model.specs.declared.instructions.operations.Forms.TheVariants.{V, X, Vx, Xi, Vxi}
use Rattle.rv_model.specs.instructions.FixedBits.{coded}
use Rattle.rv_model.specs.declared.instructions.operations.VectorOp.TheVariants.{Binary, CarryOut, Compare, FixedPoint, NarrowShift, Clip, Widen, WideSource, MultiplyAdd, WidenMultiplyAdd, Reduce, WidenReduce, Permute}
use Rattle.rv_model.specs.declared.instructions.operations.BinaryOp.TheVariants.{Vadd, Vsub, Vrsub, Vminu, Vmin, Vmaxu, Vmax, Vand, Vor, Vxor, Vsll, Vsrl, Vsra, Vdivu, Vdiv, Vremu, Vrem, Vmulhu, Vmul, Vmulhsu, Vmulh}
use Rattle.rv_model.specs.declared.instructions.operations.CarryOutOp.TheVariants.{Vmadc, Vmsbc}
use Rattle.rv_model.specs.declared.instructions.operations.CompareOp.TheVariants.{Vmseq, Vmsne, Vmsltu, Vmslt, Vmsleu, Vmsle, Vmsgtu, Vmsgt}
use Rattle.rv_model.specs.declared.instructions.operations.FixedPointOp.TheVariants.{Vsaddu, Vsadd, Vssubu, Vssub, Vsmul, Vssrl, Vssra, Vaaddu, Vaadd, Vasubu, Vasub}
use Rattle.rv_model.specs.declared.instructions.operations.NarrowShiftOp.TheVariants.{Vnsrl, Vnsra}
use Rattle.rv_model.specs.declared.instructions.operations.ClipOp.TheVariants.{Vnclipu, Vnclip}
use Rattle.rv_model.specs.declared.instructions.operations.WidenOp.TheVariants.{Vwaddu, Vwadd, Vwsubu, Vwsub, Vwmulu, Vwmulsu, Vwmul}
use Rattle.rv_model.specs.declared.instructions.operations.WideSourceOp.TheVariants as wide_source
use Rattle.rv_model.specs.declared.instructions.operations.MultiplyAddOp.TheVariants.{Vmadd, Vnmsub, Vmacc, Vnmsac}
use Rattle.rv_model.specs.declared.instructions.operations.WidenMultiplyAddOp.TheVariants.{Vwmaccu, Vwmacc, Vwmaccus, Vwmaccsu}
use Rattle.rv_model.specs.declared.instructions.operations.ReduceOp.TheVariants.{Vredsum, Vredand, Vredor, Vredxor, Vredminu, Vredmin, Vredmaxu, Vredmax}
use Rattle.rv_model.specs.declared.instructions.operations.WidenReduceOp.TheVariants.{Vwredsumu, Vwredsum}
use Rattle.rv_model.specs.declared.instructions.operations.PermuteOp.TheVariants.{Vrgather, Vrgatherei16, Vslideup, Vslidedown, Vslide1up, Vslide1down}
use Rattle.rv_model.specs.declared.instructions.operations.CarryOp.TheVariants.{Vadc, Vsbc, Vmerge}

-- the form of an operand
abbrev pub form_of : Source → Form
form_of (source.V r) = form.V
form_of (source.X r) = form.X
form_of (source.I n) = form.I

-- the five bits of an operand: a register number, or an immediate before sign extension
abbrev pub source_number : Source → ℕ
source_number (source.V r) = r
source_number (source.X r) = r
source_number (source.I n) = n

-- the operand of a form with these five bits
abbrev pub source_of : Form → ℕ → Source
source_of form.V n = source.V n
source_of form.X n = source.X n
source_of form.I n = source.I n

-- a row of OPIVV, OPIVX and OPIVI, with the name up to the dot
abbrev pub opi : List ℕ → ℕ → Forms → List ℕ × Line
opi name funct6 forms = (name, record { major = Opi; funct6 = funct6; forms = forms })

-- a row of OPMVV and OPMVX, with the name up to the dot
abbrev pub opm : List ℕ → ℕ → Forms → List ℕ × Line
opm name funct6 forms = (name, record { major = Opm; funct6 = funct6; forms = forms })

-- whether a form is one of these forms
abbrev pub has_form : Forms → Form → Bool
has_form V form.V = true
has_form X form.X = true
has_form Vx form.V = true
has_form Vx form.X = true
has_form Xi form.X = true
has_form Xi form.I = true
has_form Vxi f = true
has_form _ f = false

-- the entry of each operation that may be masked: its name and its row
abbrev pub vector_entry : VectorOp → List ℕ × Line
-- "Vector Integer Arithmetic Instructions", one width
vector_entry (Binary Vadd) = opi (codes "vadd") 0x00 Vxi
vector_entry (Binary Vsub) = opi (codes "vsub") 0x02 Vx
vector_entry (Binary Vrsub) = opi (codes "vrsub") 0x03 Xi
vector_entry (Binary Vminu) = opi (codes "vminu") 0x04 Vx
vector_entry (Binary Vmin) = opi (codes "vmin") 0x05 Vx
vector_entry (Binary Vmaxu) = opi (codes "vmaxu") 0x06 Vx
vector_entry (Binary Vmax) = opi (codes "vmax") 0x07 Vx
vector_entry (Binary Vand) = opi (codes "vand") 0x09 Vxi
vector_entry (Binary Vor) = opi (codes "vor") 0x0a Vxi
vector_entry (Binary Vxor) = opi (codes "vxor") 0x0b Vxi
vector_entry (Binary Vsll) = opi (codes "vsll") 0x25 Vxi
vector_entry (Binary Vsrl) = opi (codes "vsrl") 0x28 Vxi
vector_entry (Binary Vsra) = opi (codes "vsra") 0x29 Vxi
vector_entry (Binary Vdivu) = opm (codes "vdivu") 0x20 Vx
vector_entry (Binary Vdiv) = opm (codes "vdiv") 0x21 Vx
vector_entry (Binary Vremu) = opm (codes "vremu") 0x22 Vx
vector_entry (Binary Vrem) = opm (codes "vrem") 0x23 Vx
vector_entry (Binary Vmulhu) = opm (codes "vmulhu") 0x24 Vx
vector_entry (Binary Vmul) = opm (codes "vmul") 0x25 Vx
vector_entry (Binary Vmulhsu) = opm (codes "vmulhsu") 0x26 Vx
vector_entry (Binary Vmulh) = opm (codes "vmulh") 0x27 Vx
-- "Vector Integer Add-with-Carry / Subtract-with-Borrow Instructions", carries and borrows as masks
vector_entry (CarryOut Vmadc) = opi (codes "vmadc") 0x11 Vxi
vector_entry (CarryOut Vmsbc) = opi (codes "vmsbc") 0x13 Vx
-- "Vector Integer Compare Instructions"
vector_entry (Compare Vmseq) = opi (codes "vmseq") 0x18 Vxi
vector_entry (Compare Vmsne) = opi (codes "vmsne") 0x19 Vxi
vector_entry (Compare Vmsltu) = opi (codes "vmsltu") 0x1a Vx
vector_entry (Compare Vmslt) = opi (codes "vmslt") 0x1b Vx
vector_entry (Compare Vmsleu) = opi (codes "vmsleu") 0x1c Vxi
vector_entry (Compare Vmsle) = opi (codes "vmsle") 0x1d Vxi
vector_entry (Compare Vmsgtu) = opi (codes "vmsgtu") 0x1e Xi
vector_entry (Compare Vmsgt) = opi (codes "vmsgt") 0x1f Xi
-- "Vector Fixed-Point Arithmetic Instructions", one width
vector_entry (FixedPoint Vsaddu) = opi (codes "vsaddu") 0x20 Vxi
vector_entry (FixedPoint Vsadd) = opi (codes "vsadd") 0x21 Vxi
vector_entry (FixedPoint Vssubu) = opi (codes "vssubu") 0x22 Vx
vector_entry (FixedPoint Vssub) = opi (codes "vssub") 0x23 Vx
vector_entry (FixedPoint Vsmul) = opi (codes "vsmul") 0x27 Vx
vector_entry (FixedPoint Vssrl) = opi (codes "vssrl") 0x2a Vxi
vector_entry (FixedPoint Vssra) = opi (codes "vssra") 0x2b Vxi
vector_entry (FixedPoint Vaaddu) = opm (codes "vaaddu") 0x08 Vx
vector_entry (FixedPoint Vaadd) = opm (codes "vaadd") 0x09 Vx
vector_entry (FixedPoint Vasubu) = opm (codes "vasubu") 0x0a Vx
vector_entry (FixedPoint Vasub) = opm (codes "vasub") 0x0b Vx
-- "Vector Narrowing Integer Right Shift Instructions"
vector_entry (NarrowShift Vnsrl) = opi (codes "vnsrl") 0x2c Vxi
vector_entry (NarrowShift Vnsra) = opi (codes "vnsra") 0x2d Vxi
-- "Vector Narrowing Fixed-Point Clip Instructions"
vector_entry (Clip Vnclipu) = opi (codes "vnclipu") 0x2e Vxi
vector_entry (Clip Vnclip) = opi (codes "vnclip") 0x2f Vxi
-- "Vector Widening Integer Add/Subtract", "Vector Widening Integer Multiply Instructions"
vector_entry (Widen Vwaddu) = opm (codes "vwaddu") 0x30 Vx
vector_entry (Widen Vwadd) = opm (codes "vwadd") 0x31 Vx
vector_entry (Widen Vwsubu) = opm (codes "vwsubu") 0x32 Vx
vector_entry (Widen Vwsub) = opm (codes "vwsub") 0x33 Vx
vector_entry (Widen Vwmulu) = opm (codes "vwmulu") 0x38 Vx
vector_entry (Widen Vwmulsu) = opm (codes "vwmulsu") 0x3a Vx
vector_entry (Widen Vwmul) = opm (codes "vwmul") 0x3b Vx
-- "Vector Widening Integer Add/Subtract", with a first source of twice the width
vector_entry (WideSource wide_source.Vwaddu) = opm (codes "vwaddu") 0x34 Vx
vector_entry (WideSource wide_source.Vwadd) = opm (codes "vwadd") 0x35 Vx
vector_entry (WideSource wide_source.Vwsubu) = opm (codes "vwsubu") 0x36 Vx
vector_entry (WideSource wide_source.Vwsub) = opm (codes "vwsub") 0x37 Vx
-- "Vector Single-Width Integer Multiply-Add Instructions"
vector_entry (MultiplyAdd Vmadd) = opm (codes "vmadd") 0x29 Vx
vector_entry (MultiplyAdd Vnmsub) = opm (codes "vnmsub") 0x2b Vx
vector_entry (MultiplyAdd Vmacc) = opm (codes "vmacc") 0x2d Vx
vector_entry (MultiplyAdd Vnmsac) = opm (codes "vnmsac") 0x2f Vx
-- "Vector Widening Integer Multiply-Add Instructions"
vector_entry (WidenMultiplyAdd Vwmaccu) = opm (codes "vwmaccu") 0x3c Vx
vector_entry (WidenMultiplyAdd Vwmacc) = opm (codes "vwmacc") 0x3d Vx
vector_entry (WidenMultiplyAdd Vwmaccus) = opm (codes "vwmaccus") 0x3e X
vector_entry (WidenMultiplyAdd Vwmaccsu) = opm (codes "vwmaccsu") 0x3f Vx
-- "Vector Single-Width Integer Reduction Instructions"
vector_entry (Reduce Vredsum) = opm (codes "vredsum") 0x00 V
vector_entry (Reduce Vredand) = opm (codes "vredand") 0x01 V
vector_entry (Reduce Vredor) = opm (codes "vredor") 0x02 V
vector_entry (Reduce Vredxor) = opm (codes "vredxor") 0x03 V
vector_entry (Reduce Vredminu) = opm (codes "vredminu") 0x04 V
vector_entry (Reduce Vredmin) = opm (codes "vredmin") 0x05 V
vector_entry (Reduce Vredmaxu) = opm (codes "vredmaxu") 0x06 V
vector_entry (Reduce Vredmax) = opm (codes "vredmax") 0x07 V
-- "Vector Widening Integer Reduction Instructions"
vector_entry (WidenReduce Vwredsumu) = opi (codes "vwredsumu") 0x30 V
vector_entry (WidenReduce Vwredsum) = opi (codes "vwredsum") 0x31 V
-- "Vector Permutation Instructions"
vector_entry (Permute Vrgather) = opi (codes "vrgather") 0x0c Vxi
vector_entry (Permute Vrgatherei16) = opi (codes "vrgatherei16") 0x0e V
vector_entry (Permute Vslideup) = opi (codes "vslideup") 0x0e Xi
vector_entry (Permute Vslidedown) = opi (codes "vslidedown") 0x0f Xi
vector_entry (Permute Vslide1up) = opm (codes "vslide1up") 0x0e X
vector_entry (Permute Vslide1down) = opm (codes "vslide1down") 0x0f X

-- all operations that may be masked
abbrev pub vector_ops : List VectorOp
vector_ops =
    map Binary (Vadd ∷ Vsub ∷ Vrsub ∷ Vminu ∷ Vmin ∷ Vmaxu ∷ Vmax ∷ Vand ∷ Vor ∷ Vxor ∷ Vsll ∷ Vsrl ∷ Vsra ∷ Vdivu ∷ Vdiv ∷
    Vremu ∷ Vrem ∷ Vmulhu ∷ Vmul ∷ Vmulhsu ∷ Vmulh ∷ [])
    ++ map CarryOut (Vmadc ∷ Vmsbc ∷ [])
    ++ map Compare (Vmseq ∷ Vmsne ∷ Vmsltu ∷ Vmslt ∷ Vmsleu ∷ Vmsle ∷ Vmsgtu ∷ Vmsgt ∷ [])
    ++ map FixedPoint (Vsaddu ∷ Vsadd ∷ Vssubu ∷ Vssub ∷ Vsmul ∷ Vssrl ∷ Vssra ∷ Vaaddu ∷ Vaadd ∷ Vasubu ∷ Vasub ∷ [])
    ++ map NarrowShift (Vnsrl ∷ Vnsra ∷ [])
    ++ map Clip (Vnclipu ∷ Vnclip ∷ [])
    ++ map Widen (Vwaddu ∷ Vwadd ∷ Vwsubu ∷ Vwsub ∷ Vwmulu ∷ Vwmulsu ∷ Vwmul ∷ [])
    ++ map WideSource (wide_source.Vwaddu ∷ wide_source.Vwadd ∷ wide_source.Vwsubu ∷ wide_source.Vwsub ∷ [])
    ++ map MultiplyAdd (Vmadd ∷ Vnmsub ∷ Vmacc ∷ Vnmsac ∷ [])
    ++ map WidenMultiplyAdd (Vwmaccu ∷ Vwmacc ∷ Vwmaccus ∷ Vwmaccsu ∷ [])
    ++ map Reduce (Vredsum ∷ Vredand ∷ Vredor ∷ Vredxor ∷ Vredminu ∷ Vredmin ∷ Vredmaxu ∷ Vredmax ∷ [])
    ++ map WidenReduce (Vwredsumu ∷ Vwredsum ∷ [])
    ++ map Permute (Vrgather ∷ Vrgatherei16 ∷ Vslideup ∷ Vslidedown ∷ Vslide1up ∷ Vslide1down ∷ [])

-- "Vector Integer Add-with-Carry / Subtract-with-Borrow Instructions", "Vector Integer Merge Instructions"
abbrev pub carry_entry : CarryOp → List ℕ × Line
carry_entry Vadc = opi (codes "vadc") 0x10 Vxi
carry_entry Vsbc = opi (codes "vsbc") 0x12 Vx
carry_entry Vmerge = opi (codes "vmerge") 0x17 Vxi

-- the row of an operation
abbrev pub line : VectorOp → Line
line op = (vector_entry op).1

abbrev pub carry_line : CarryOp → Line
carry_line op = (carry_entry op).1

-- opcode and funct3 of a half of the opcode map, by form; instead of an immediate form, the second half has the configuration-setting
-- instructions
abbrev pub major_bits : Major → Form → ℕ
major_bits Opi form.V = coded 0x57 0
major_bits Opi form.X = coded 0x57 4
major_bits Opi form.I = coded 0x57 3
major_bits Opm form.V = coded 0x57 2
major_bits Opm form.X = coded 0x57 6
major_bits Opm form.I = coded 0x57 7  -- excluded

-- the bits that a row fixes for one of its forms
abbrev pub line_bits : Line → Form → ℕ
line_bits l f = l.funct6 * 2 ^ 26 + major_bits l.major f
