-- In the order of the argument: the modes follow the grammar's machine; a run gives what Stream allows, and Stream nothing else; a call is a run over the bytes that it takes. Then the code gives a call, and
-- the words that it leaves are determined.
pub mod Characters
pub mod Simulation
pub mod Every
pub mod Clearing
pub mod Messages
pub mod Bytes
pub mod Runs
pub mod Unique
pub mod Splits
pub mod Handed
pub mod Calls
pub mod Vectors
pub mod Numbers
pub mod Numbering
pub mod Nests
pub mod StateLaws
pub mod ByteLaws
pub mod CallLaws
pub mod PieceLaws
pub mod NormalWords
