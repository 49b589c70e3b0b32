pub mod KeysOnce
pub mod Splits
pub mod OneForm
pub mod ExpressionLaws
pub mod SliceLaws
pub mod Lamp
