pub mod Reading
pub mod Printed
pub mod Answers
pub mod Parts
