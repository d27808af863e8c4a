pub mod Reading
pub mod Parts
pub mod Printed
pub mod Answers
