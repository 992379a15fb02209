pub mod Answers
pub mod Changing
pub mod Narrowness
pub mod NextRows
pub mod Outcomes
pub mod PackedTasks
