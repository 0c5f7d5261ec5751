-- Serves contracts: the room that what is shown of an answer takes. Nobody has to believe it.
pub mod Rooms
