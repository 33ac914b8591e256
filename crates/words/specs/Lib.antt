pub mod Bytes
pub mod Numbers
pub mod Kinds
pub mod Words
pub mod Law
