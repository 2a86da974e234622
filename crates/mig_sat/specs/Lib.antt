pub mod Agendas
pub mod Found
pub mod Models
pub mod Saying
pub mod Steps
pub mod TrailInside
