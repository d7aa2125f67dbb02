pub mod Digests
pub mod ForceWords
pub mod ForceWordsLemmas
pub mod Items
pub mod Notes
pub mod NotesLemmas
pub mod Told
