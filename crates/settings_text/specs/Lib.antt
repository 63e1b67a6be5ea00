pub mod SettingsFaultName
pub mod SettingsFields
pub mod SettingsOfTable
pub mod SettingsOfBytes
