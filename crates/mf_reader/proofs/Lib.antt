mod ActionReadings
mod AtomReadings
mod Branches
mod Choices
mod CondReadings
pub mod CondSound
mod DeclReadings
pub mod DomainReadings
mod EffectReadings
pub mod EffectSound
mod ExprReadings
pub mod ExprRows
mod ExprSound
mod FileLaws
mod FileOrder
mod FormOrder
mod HeadReadings
mod InitReadings
mod LawForms
mod PartOrder
pub mod ProblemReadings
mod Readings
mod Rows
mod SectionOrder
mod SectionReadings
mod SlotReadings
mod TitleReadings
mod TreeOrder
mod TypedReadings
mod WordOrder
mod WordReadings
pub mod InitSteps
pub mod Saying
