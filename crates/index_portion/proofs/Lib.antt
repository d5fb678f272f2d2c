-- `Tells`: what a portion tells, from its scan, and what is known where it was done. `Listings`: what document 02 demands, proved.
pub mod Tells
pub mod Listings
