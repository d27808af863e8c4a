pub mod Rule
pub mod RuleParts
pub mod Verdict
pub mod VerdictParts
pub mod Changing
pub mod Reading
pub mod Printed
pub mod Answers
