pub mod RowsOf
pub mod DeadRows
pub mod InfiniteStates
