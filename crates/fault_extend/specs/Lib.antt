pub mod WovenFaults
pub mod FirstRefusal
pub mod JudgedLaws
pub mod InstanceLaws
pub mod NumberedFaults
pub mod GuardJudgement
pub mod Nominals
pub mod ToldLaws
