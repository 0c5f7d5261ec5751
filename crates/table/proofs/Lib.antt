-- In the order of the argument: the layout, definitions and rule 6; then the laws of each file of the judge.
pub mod LayoutFacts
pub mod DefinitionFacts
pub mod DistinctLaws
pub mod ReferenceLaws
pub mod ChainLaws
pub mod UnionLaws
pub mod KindLaws
pub mod AlternateLaws
pub mod LookLaws
pub mod RuleLaws
pub mod SoundLaws
