mod FileListLemmas
pub mod Puts
mod ReaderLemmas
pub mod Told
mod WriterLemmas
