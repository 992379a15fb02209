pub mod Chances
pub mod Growth
pub mod GroundRuns
pub mod Sets
