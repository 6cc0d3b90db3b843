pub mod Clearing
pub mod Recovering
pub mod Replaying
pub mod Taking
