pub mod Linked
pub mod Linking
pub mod Listed
pub mod Shapes
