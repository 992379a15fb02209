pub mod LiveTests
pub mod ReachedStates
pub mod SearchPlans
pub mod SortedStates
pub mod StartValues
