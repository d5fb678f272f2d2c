-- `Asks`: what a line asks for. `Bounds`: that its numbers are what their types can hold.
pub mod Asks
pub mod Bounds
