-- the demands
pub mod Demand1
pub mod Demand2
pub mod Demand3
pub mod Gates
pub mod Printed
-- why they hold
pub mod Numbers
pub mod Few
pub mod Restarting
pub mod Unread
pub mod Listing
pub mod Replays
pub mod Fits
