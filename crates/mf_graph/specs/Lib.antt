pub mod Bounds
pub mod FirstLevels
pub mod Gained
pub mod LayerLists
pub mod NextRanges
pub mod Wants
