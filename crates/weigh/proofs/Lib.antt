pub mod DotLaws
pub mod NumberLaws
pub mod GainLaws
pub mod TotalLaws
pub mod CoverTests
