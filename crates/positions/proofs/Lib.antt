pub mod Laws
pub mod Finishing
pub mod Linking
pub mod Newest
pub mod Walking
