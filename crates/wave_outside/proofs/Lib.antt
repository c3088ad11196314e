mod Files
pub mod Handing
