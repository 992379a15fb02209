pub mod TakenGoals
pub mod LastEntries
pub mod TraceLaws
pub mod Walks
