pub mod Members
pub mod Opening
pub mod Sound
pub mod Candidates
pub mod Runs
pub mod KeyOrder
pub mod Rebuilding
pub mod Completing
pub mod Taking
pub mod OneStep
pub mod Walking
pub mod Answering
pub mod OneWorker
pub mod Fuel
pub mod Listing
pub mod OpenKeys
pub mod Keeping
pub mod Counting
pub mod Checking
mod Example
mod ExampleWide
