pub mod Classes
pub mod Chars
pub mod Strings
pub mod Bytes
pub mod Meanings
pub mod Hashes
pub mod Decoding
