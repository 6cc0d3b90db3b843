-- a whole order; the record
pub mod Orders
pub mod Records
pub mod Told
-- laws of the code
pub mod Steps
pub mod Begun
pub mod Ordering
pub mod Cleared
