-- `Fills`: a loop that fills a list.
pub mod Fills
