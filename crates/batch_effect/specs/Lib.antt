-- `Under` says what stands under a key, in the model's words, whether the next key is due, and how many keys are counted.
pub mod Under
