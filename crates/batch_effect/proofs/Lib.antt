-- `Dues` has the laws of the key that is due.
pub mod Dues
