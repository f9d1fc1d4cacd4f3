pub mod Lengths
pub mod PrintLaws
pub mod Sets
