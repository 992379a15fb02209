pub mod Closing
mod FormExamples
mod WidthExamples
mod ClosureExamples
mod LayerExamples
mod PlanExamples
mod ActionExamples
mod GroundExamples
mod AtomTasks
mod AtomPlans
mod RoomsExamples
mod CountExamples
