pub mod TillLemmas
