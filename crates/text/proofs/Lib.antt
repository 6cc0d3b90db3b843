pub mod Here
pub mod Lines
pub mod Blocks
pub mod Marks
pub mod Numbers
pub mod Keys
pub mod Standing
