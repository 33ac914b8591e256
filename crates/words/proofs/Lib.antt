pub mod Digits
pub mod Spelling
pub mod Scans
pub mod Standing
