pub mod PackedRows
pub mod RowLists
pub mod AddedRows
pub mod LoggedRows
pub mod Worked
