pub mod FaultyLaws
pub mod RanLaws
pub mod DoesLaws
pub mod EditedLaws
