-- Serves contracts: the room that a number takes. Nobody has to believe it.
pub mod Rooms
