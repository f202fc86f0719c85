pub mod DesiredLaws
