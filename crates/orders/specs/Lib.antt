pub mod Laws
pub mod Headings
pub mod HeadingLaws
pub mod Choice
pub mod Listed
