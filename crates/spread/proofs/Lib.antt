pub mod TableLaws
pub mod CallLaws
pub mod Cases
