-- Laws that the functions cite: hashes, children looked at in turn, mandatory ones counted, and the index filled and looked up.
pub mod HashLaws
pub mod NameSizes
pub mod ScanLaws
pub mod CountLaws
pub mod PartLaws
pub mod FillLaws
pub mod DefinitionLaws
pub mod LookupLaws
