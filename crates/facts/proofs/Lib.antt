pub mod Changes
pub mod Finding
pub mod Fronts
pub mod Relations
