-- Types of the vector state, which this module and later ones import from here.
pub use Rattle.rv_model.specs.declared.vector.types.Sew.{Sew}
pub use Rattle.rv_model.specs.declared.vector.types.Sew.TheVariants.{E8, E16, E32, E64}
pub use Rattle.rv_model.specs.declared.vector.types.Lmul.{Lmul}
pub use Rattle.rv_model.specs.declared.vector.types.Lmul.TheVariants.{Mf8, Mf4, Mf2, M1, M2, M4, M8}
pub use Rattle.rv_model.specs.declared.vector.types.VType.{VType}
pub use Rattle.rv_model.specs.declared.vector.state.RoundingMode.{RoundingMode}
pub use Rattle.rv_model.specs.declared.vector.state.RoundingMode.TheVariants.{NearestUp, NearestEven, Down, Odd}
pub use Rattle.rv_model.specs.declared.vector.policy.Policy.{Policy}
pub use Rattle.rv_model.specs.declared.vector.control_register.ControlRegister.{ControlRegister}
pub use Rattle.rv_model.specs.declared.vector.sizes.TheConstants.{VLEN, VLENB, VECTOR_REGISTERS, GROUP_BYTES, FILE_BYTES}
