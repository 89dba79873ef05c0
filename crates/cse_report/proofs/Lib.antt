pub mod Utf8Laws
pub mod SpanLaws
pub mod HeldLaws
pub mod TallyLaws
pub mod PutLaws
pub mod ListingLaws
pub mod FrequencyLaws
pub mod ToldLaws
