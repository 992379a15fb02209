pub mod Keys
pub mod Chains
pub mod Buckets
pub mod Search
