pub mod ReadsLaws
pub mod LoopLaws
