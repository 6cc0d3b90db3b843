-- what one event does to numbers, epochs and phases, and how large they get
pub mod Moves
pub mod Bounds
-- what is stored of one event; the columns and the working words after it
pub mod Storing
pub mod Columns
pub mod Work
pub mod Full
-- all events of a trace, and events one after another, each judged by the working words
pub mod Passes
pub mod Judging
