pub mod CommandLineLaws
pub mod ImageArgumentLaws
pub mod ProgramRunLaws
pub use Rattle.monitor_script.proofs.DeviceLaws
pub use Rattle.monitor_script.proofs.Moves
