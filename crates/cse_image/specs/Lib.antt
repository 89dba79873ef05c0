pub mod Spelling
pub mod Reading
pub mod Empty
pub mod Sections
pub mod Place
pub mod View
pub use Rattle.cse_image_parts.specs.Image
pub use Rattle.cse_image_parts.specs.Placeholders
