-- Definitions that the probe's contracts cite.
pub mod Probe
