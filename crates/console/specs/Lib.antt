pub mod Printed
pub mod Listings
pub mod Performed
pub mod Sessions
