pub mod Forms
pub mod Machine
pub mod Meaning
pub mod Reading
pub mod Settled
