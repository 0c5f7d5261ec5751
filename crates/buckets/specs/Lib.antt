-- An index of numbered items by a hash.
pub mod Buckets
