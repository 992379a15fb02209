pub mod Boards
pub mod Core
pub mod Ledger
pub mod Tables
