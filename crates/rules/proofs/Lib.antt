pub mod Declared
pub mod Entered
pub mod Marked
pub mod Sizes
pub mod Sums
pub mod Unnegated
