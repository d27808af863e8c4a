pub mod WholeRun
pub mod ReadBack
pub mod Numbers
pub mod ToC
pub mod Converted
