-- Laws of the index.
pub mod BucketLaws
pub mod ChainWalks
