pub mod Logic
pub mod Laws
pub mod Edit
pub mod Images
pub mod Worked
pub mod Items
pub mod Marks
pub mod Stay
