pub mod FormParts
pub mod FormsMade
pub mod Lookups
