pub mod FoundSets
pub mod UncoveredPatterns
pub mod Problem
pub mod FlatSearch
pub mod Laws
pub mod EncodedSearchLaws
pub mod Searchable
