-- Signs is about whole numbers alone. Units, Ticks, Digits, Inputs and Root speak of whole numbers of ticks; from Values on, all is over rational numbers:
-- the laws in Rounds, Compare, Operations, Exact, Convert and Literals, the calculus of errors in Approx, Analysis and Relative, and in Stated the way back to fractions.
pub mod Signs
pub mod Units
pub mod Ticks
pub mod Digits
pub mod Inputs
pub mod Root
pub mod Values
pub mod Rounds
pub mod Compare
pub mod Operations
pub mod Exact
pub mod Convert
pub mod Literals
pub mod Approx
pub mod Analysis
pub mod Relative
pub mod Stated
