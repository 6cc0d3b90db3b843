pub mod Lists
pub mod Events
pub mod Epochs
pub mod Line
pub mod Replay
pub mod Record
pub mod Order
pub mod Answers
pub mod Refusals
-- internal: no contract of a function that users call reaches these
pub mod Inner
