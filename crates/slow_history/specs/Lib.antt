pub mod View
pub mod Walk
