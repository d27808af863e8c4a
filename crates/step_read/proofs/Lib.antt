pub mod GivingLaws
