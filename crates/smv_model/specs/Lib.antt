pub mod ModuleCosts
