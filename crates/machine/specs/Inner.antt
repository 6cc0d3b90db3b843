pub mod Related
pub mod Shapes
pub mod Tree
pub mod Words
