pub mod Finding
pub mod Lookups
pub mod Mapped
pub mod Numbering
