pub mod Elements
pub mod Firsts
pub mod Spelling
pub mod Naming
