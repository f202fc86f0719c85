pub mod RefusalLaws
pub mod WordLaws
