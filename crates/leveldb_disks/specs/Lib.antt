pub mod Journal
pub mod Record
pub mod RecordLaws
pub mod DiskEnv
pub mod DiskEnvLaws
