pub mod Answers
pub mod ReadAnswers
pub mod Putting
pub mod PutRows
pub mod Stops
pub mod Running
pub mod Asking
