pub mod RowLemmas
pub mod TextLaws
pub mod TableLemmas
