pub mod Limits
pub mod Rules
pub mod Acts
pub mod Held
pub mod Test
