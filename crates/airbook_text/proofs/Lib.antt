pub mod RunWhole
pub mod AheadLemmas
pub mod PlayedLemmas
pub mod SourceLemmas
pub mod SaidLemmas
pub mod ListenLemmas
pub mod ServeSettingsIn
