pub mod SettingsWord
