pub mod Choosing
pub mod Taking
