-- Serves contracts: the rooms of lines, what the code finds, one ask of the reader. Nobody has to believe these.
pub mod Rooms
pub mod Found
pub mod Asks
