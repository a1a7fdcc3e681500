-- What files hold of a history, now and after a crash.
pub mod Holds
pub mod HoldsLaws
