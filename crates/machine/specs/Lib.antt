-- public: what a receive has taken in a state, and where the record has it
pub mod Taken
-- internal: no contract of a function that users call reaches these
pub mod Inner
