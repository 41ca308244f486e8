-- Laws of the plain engine.
pub mod laws
