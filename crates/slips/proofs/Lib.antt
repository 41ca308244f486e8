-- Laws of slips.
pub mod laws
