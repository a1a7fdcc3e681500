-- A store's open tables, and what is found and stepped to in one.
pub mod TableCache
pub mod TableMoves
