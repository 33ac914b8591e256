pub mod Alike
pub mod Following
pub mod Kindwise
pub mod Steps
