pub mod FileReads
pub mod Through
pub mod InstructionSound
pub mod InstructionComplete
pub mod InstructionReads
