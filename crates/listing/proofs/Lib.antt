pub mod ThreeFiles
pub mod ListingLines
pub mod ListingLaid
pub mod StageLaws
pub mod FileFaults
pub mod AnswerSizes
pub mod ListingFits
pub mod ListingEnds
