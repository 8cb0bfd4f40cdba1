pub mod Stage1
