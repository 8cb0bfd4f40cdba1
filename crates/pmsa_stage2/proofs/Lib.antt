pub mod Stage2Lemmas
