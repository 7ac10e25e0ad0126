pub mod RecordsFacts
pub mod Worked
