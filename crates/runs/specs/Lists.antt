-- One of two lists, and its string.
pub use Rattle.either.specs.Either.{either}
pub use Rattle.either.specs.declared.Either.{Either}
