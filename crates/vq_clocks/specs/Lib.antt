pub mod VectorClocks
pub mod PartClocks
pub mod KeptClocks
