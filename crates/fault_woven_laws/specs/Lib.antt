pub mod Modes
pub mod Laws
pub mod WovenNamesLaws
pub mod Tops
pub mod WovenTopsLaws
