pub mod Rows
pub mod RowLaws
pub mod Unions
pub mod UnionLaws
pub mod Readings
