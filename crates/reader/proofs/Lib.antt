pub mod Answering
pub mod Matched
pub mod Numbered
pub mod Rests
pub mod Settling
