-- `Arms`: the results of a child, one by one.
pub mod Arms
