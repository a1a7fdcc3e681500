-- A repair of the store under a name.
pub mod Repair
pub mod RepairLaws
