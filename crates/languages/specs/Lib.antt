pub mod Refusals
pub mod Senses
pub mod Scripts
pub mod Languages
pub mod Machines
pub mod Naming
