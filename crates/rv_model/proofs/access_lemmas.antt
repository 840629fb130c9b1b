-- Laws about vector loads and stores. `Stops`: the index where an instruction stops. `Moves`: results of transfers. `Segments`:
-- transfers of one index. `Addresses`: sums modulo 2 ^ 64. `Growth`: memories that grow between two runs. `Resumes`: transfers that
-- stop and continue. `Kept`: registers that a load leaves unchanged. `Runs`: results and ends of runs. `RunsResume`: loads and stores
-- that stop and are executed again. `InstructionsResume`: the same for each instruction. `RunsAgain`: any number of runs. `GoesOn`: one
-- run, by its result. `Contiguous`: contiguous elements. `TransferBytes`: results of transfers for each byte. `InFile`: elements lie in
-- the register file.
pub mod Addresses
pub mod Contiguous
pub mod GoesOn
pub mod Growth
pub mod InFile
pub mod InstructionsResume
pub mod Kept
pub mod Moves
pub mod Resumes
pub mod Runs
pub mod RunsAgain
pub mod RunsResume
pub mod Segments
pub mod Stops
pub mod TransferBytes
