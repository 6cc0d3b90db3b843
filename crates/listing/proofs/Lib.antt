pub mod Chains
pub mod Channels
pub mod Following
pub mod Laying
pub mod Room
pub mod Rows
pub mod Sorting
pub mod Whole
