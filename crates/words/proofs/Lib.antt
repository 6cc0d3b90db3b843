pub mod Cases
pub mod Area
pub mod Written
pub mod Zeros
pub mod Lists
pub mod Halves
