-- Serves contracts and proofs: the machine that reads a text byte by byte, faults in a text, the first repeated key, and tables of texts. Nobody has to believe these.
pub mod Machine
pub mod Faults
pub mod Repeats
pub mod TextTable
