pub mod Split
pub mod Reading
pub mod Printed
pub mod Held
pub mod Answers
pub mod Parts
pub mod Covering
