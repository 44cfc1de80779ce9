pub mod Best
pub mod Chain
pub mod Greatest
pub mod Invariant
pub mod Apart
pub mod Turn
pub mod Laws
