-- What the contracts cite: what is found of the members that an object has, and mandatory ones counted.
pub mod Members
pub mod Mandatory
