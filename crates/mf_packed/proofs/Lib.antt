pub mod NumberedEffects
