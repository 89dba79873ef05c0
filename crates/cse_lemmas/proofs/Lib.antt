pub mod Booleans
pub mod Lists
pub mod Numbers
pub mod Options
pub mod Results
pub mod Texts
