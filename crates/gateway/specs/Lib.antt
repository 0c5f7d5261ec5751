-- What a reader must believe of the exported calls; Serving has what their contracts cite.
pub mod Calls
pub mod StreamRuns
pub mod Serving
