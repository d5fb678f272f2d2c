-- `Texts`: what is said of a batch or a refusal, and where a text is put.
pub mod Texts
