pub mod FunctionLaws
pub mod RecordLaws
