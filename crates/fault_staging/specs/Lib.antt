pub mod CauseOf
