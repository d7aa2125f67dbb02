pub mod Words
pub mod Permutation
pub mod Strings
pub mod Shares
pub mod ThreeShare
pub mod Standing
pub mod StringsLemmas
pub mod Four
