pub mod Tried
pub mod TryFiles
pub mod CompileDoes
pub mod CompileHalts
pub mod Compiled
