pub mod SettingsWordLaws
