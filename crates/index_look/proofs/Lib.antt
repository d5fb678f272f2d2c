-- `Keeps`: what keeps the promises of the calls that read.
pub mod Keeps
