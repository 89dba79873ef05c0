pub mod SectionLaws
pub mod PlaceLaws
