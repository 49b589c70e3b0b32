pub mod BorrowedTexts
pub mod Counts
pub mod Separators
pub mod Domains
pub mod Marks
pub mod Rising
pub mod formers
