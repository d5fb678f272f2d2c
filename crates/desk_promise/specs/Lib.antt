-- `Replies`: what is answered to a line. `Program`: what the program writes for any text. `Promise`: what `open` and `answer` owe. `Turns`: what
-- `take_part` owes, and that the program writes what it is to write, however its text is cut.
pub mod Replies
pub mod Program
pub mod Promise
pub mod Turns
