pub mod Lexicons
pub mod Pieces
pub mod PlanLines
pub mod PlanText
pub mod Validity
pub mod Verdicts
