pub mod EventLaws
pub mod ReportLaws
pub mod AnsweredLaws
