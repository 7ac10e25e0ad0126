pub mod Files
pub mod Script
pub mod Tables
