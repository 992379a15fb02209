pub mod Files
pub mod Kinds
pub mod Refusals
pub mod WrittenValues
