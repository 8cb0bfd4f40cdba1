pub mod Stage2
