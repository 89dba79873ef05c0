pub mod ChangeLaws
pub mod FileLaws
pub mod CompareLaws
pub mod AlikeLaws
pub mod SumLaws
pub mod PartLaws
pub mod CountLaws
pub mod ApartLaws
