pub mod LikeLaws
pub mod RightLaws
pub mod WholeLaws
pub mod KeptLaws
