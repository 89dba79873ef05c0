pub mod ClashLaws
pub mod ReadLaws
