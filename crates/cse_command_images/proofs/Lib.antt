pub mod TriedLaws
pub mod TryLaws
pub mod CompiledLaws
