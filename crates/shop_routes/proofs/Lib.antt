pub mod Digits
pub mod Tokens
pub mod Seeking
pub mod Walking
pub mod TableRows
pub mod LineFound
pub mod FirstParts
pub mod Formed
