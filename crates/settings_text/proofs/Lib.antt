pub mod SettingsIn
