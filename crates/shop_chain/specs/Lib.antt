pub mod Chains
pub mod Inheriting
pub mod Translations
pub mod Showing
