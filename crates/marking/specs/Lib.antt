pub mod Tokens
pub mod Held
pub mod Reading
pub mod Printed
pub mod Answers
pub mod Sizes
