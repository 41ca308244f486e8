-- The laws that belong to no one function.
mod Fits
mod Returning
mod Numbered
pub mod OneReturn
pub mod EqualReturn
