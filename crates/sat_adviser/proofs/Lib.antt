pub mod PanelLemmas
pub mod Examples
