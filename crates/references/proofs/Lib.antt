-- Laws of the resolver, in the order of the argument: lookups in the index; words put; discriminators; what they make of raw rows.
pub mod FindLaws
pub mod SlotLaws
pub mod DiscriminatorLaws
pub mod RawWords
pub mod RawRows
pub mod RawSteps
pub mod RawDiscriminators
pub mod Resolution
pub mod SameDefinitions
