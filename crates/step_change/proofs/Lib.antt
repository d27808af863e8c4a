pub mod AfterLaws
pub mod LineLaws
pub mod ChangeLaws
