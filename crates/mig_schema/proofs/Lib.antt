pub mod Anys
pub mod JoinedTables
