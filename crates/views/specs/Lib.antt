pub mod Lent
pub mod Proper
pub mod Window
