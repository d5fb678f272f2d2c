-- `Listings` says what document 02 demands of a listing in portions.
pub mod Listings
