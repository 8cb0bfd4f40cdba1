pub mod Stage1Lemmas
