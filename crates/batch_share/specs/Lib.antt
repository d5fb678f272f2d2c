-- `Children` names the children of a node in the pool and what sharing makes of them, `Promises` has what settling a child's result, and each
-- step of it, asks and promises.
pub mod Children
pub mod Promises
