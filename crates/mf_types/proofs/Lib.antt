pub mod After
pub mod ApartNames
pub mod Ascent
pub mod ConstantFunctions
pub mod Depths
pub mod EndZeros
pub mod EveryChange
pub mod EverySide
pub mod Examples
pub mod Faultless
pub mod FewNames
pub mod FewParameters
pub mod FirstValues
pub mod Firsts
pub mod FlatEffects
pub mod Found
pub mod Given
pub mod GroupTypes
pub mod KeyLemmas
pub mod LinearExpressions
pub mod LinearTask
pub mod Made
pub mod Narrow
pub mod NoCycles
pub mod ObjectLists
pub mod OffCycles
pub mod Order
pub mod Paired
pub mod Repetition
pub mod ResolvedTasks
pub mod Resolving
pub mod RoomConditions
pub mod RoomEffects
pub mod RoomTask
pub mod Scoped
pub mod Settled
pub mod StoredNumbers
pub mod TaskReadings
pub mod There
pub mod ThereConditions
pub mod ThereEffects
pub mod ThereExpressions
pub mod ThereScopes
pub mod ThereTask
pub mod ThereTerms
pub mod TopType
pub mod ValidConditions
pub mod ValidEffects
pub mod ValidExpressions
pub mod ValidTask
pub mod ValidTerms
pub mod Walks
mod TypeWords
mod Marked
mod ByMarks
mod FirstTypes
mod PastTop
mod Settling
pub mod Hiding
