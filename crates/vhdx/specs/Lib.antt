pub mod Attach
pub mod Plan
pub mod Step
pub mod Refusals
pub mod CrashSafety
pub mod CloseSafety
