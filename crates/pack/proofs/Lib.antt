-- `Cuts`: entries of the source, cut. `Fills`: a leaf filled. `Grows`: an interior built. `Roots`: the kind that is set before either.
pub mod Cuts
pub mod Fills
pub mod Grows
pub mod Roots
