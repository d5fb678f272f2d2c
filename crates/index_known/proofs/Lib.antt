-- `Lends` has that what is lent are numbers of their types, `Replanted` goes from the nodes that one tree sees to the forest, `Batched` has that what the
-- root has done keeps the promise of a batch, and that the tree is known again.
pub mod Lends
pub mod Replanted
pub mod Batched
