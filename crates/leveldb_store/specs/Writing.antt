-- Batches that are written, and room in the memtable.
pub mod Write
pub mod Switch
pub mod WriteBatch
pub mod Room
pub mod Removal
pub mod RoomSteps
pub mod Due
