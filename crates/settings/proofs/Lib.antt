-- Laws of the settings.
pub mod Decided
pub mod Enabled
pub mod SettingsLaws
pub mod Settled
