-- to be read first
pub mod Claims
-- one event, all events, what the tests mean, the run of a trace
pub mod Linking
pub mod Listed
pub mod FirstState
pub mod Passes
pub mod Matches
pub mod Columns
-- laws of the code
pub mod Passing
pub mod Beginning
