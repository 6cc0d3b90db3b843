pub mod Alike
pub mod Left
