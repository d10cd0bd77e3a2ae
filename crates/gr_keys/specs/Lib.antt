pub mod Codes
pub mod ValueCodes
pub mod GoroutineCodes
