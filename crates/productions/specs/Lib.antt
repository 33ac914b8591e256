pub mod Forms
pub mod Sofar
pub mod Spelling
pub mod Machine
pub mod Meaning
pub mod Reading
pub mod Said
pub mod Kept
