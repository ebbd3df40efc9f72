pub mod Idle
pub mod Ready
pub mod States
