-- what goes on record; what the relation says of a state; one step; one choice
pub mod Noted
pub mod Told
pub mod Facts
pub mod Moves
pub mod Choices
-- laws of the code
pub mod Steps
pub mod Remaining
pub mod Tree
