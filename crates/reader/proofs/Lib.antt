-- to be read first
pub mod Claims
-- laws of the code
pub mod Judging
pub mod Cutting
pub mod Storing
pub mod First
pub mod Turns
pub mod Verdicts
-- the text of a trace
pub mod Pieces
pub mod Events
pub mod Whole
pub mod Refusals
