-- What contracts of this crate cite.
pub mod Blanks
pub mod Changes
pub mod Csv
pub mod Json
pub mod JsonText
pub mod Mef
pub mod MefText
pub mod Reports
pub mod Xml
