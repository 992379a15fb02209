pub mod Chains
pub mod Numbers
pub mod Packed
pub mod Rows
pub mod SameRows
pub mod Stored
pub mod Strips
