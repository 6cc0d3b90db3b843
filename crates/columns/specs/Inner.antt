pub mod Columns
pub mod Full
pub mod Filling
pub mod Given
