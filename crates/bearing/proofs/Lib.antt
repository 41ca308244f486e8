-- Laws of what bears.
pub mod laws
