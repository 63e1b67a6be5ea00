mod SpacedLemmas
mod WrittenWords
mod HexWords
mod ReadBack
mod Worked
