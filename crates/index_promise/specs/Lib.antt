-- `Promise` says what each call answers and leaves behind.
pub mod Promise
