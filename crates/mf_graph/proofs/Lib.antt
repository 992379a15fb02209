pub mod Numbers
pub mod Signs
pub mod Ranges
pub mod Lists
pub mod Inverses
