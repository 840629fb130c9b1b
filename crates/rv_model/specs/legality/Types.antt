-- Types of register operands, which the files of this module import from here.
pub use Rattle.rv_model.specs.declared.legality.Operand.{Operand}
pub use Rattle.rv_model.specs.declared.legality.Role.{Role}
pub use Rattle.rv_model.specs.declared.legality.Role.TheVariants.{Read, Control, Write, Apart, Free}
pub use Rattle.rv_model.specs.declared.legality.Content.{Content}
pub use Rattle.rv_model.specs.declared.legality.Content.TheVariants.{Mask, Elements}
pub use Rattle.rv_model.specs.declared.legality.Shape.{Shape}
