-- The laws that belong to no one function. The proof of a function stands in the folder of its module: block, messages or text.
pub mod laws
