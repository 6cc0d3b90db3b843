pub mod Laws
pub mod Lists
pub mod Flow
pub mod Lines
pub mod Orders
pub mod Record
pub mod Refusals
pub mod Tests
