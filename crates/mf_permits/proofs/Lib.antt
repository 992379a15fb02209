pub mod BeginLaws
pub mod FinishLaws
pub mod GoLaws
pub mod ReadLaws
pub mod StatusLaws
pub mod TableLaws
pub mod TakeLaws
