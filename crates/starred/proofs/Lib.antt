pub mod PrintedCases
pub mod StepCases
pub mod RunCases
pub mod WeightCases
pub mod ListingCases
pub mod Opened
pub mod Listing
pub mod Table
