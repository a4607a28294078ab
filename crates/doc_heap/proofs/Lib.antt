pub mod SlotLists
pub mod SlotSizes
pub mod HeapSheets
pub mod Leavings
pub mod Worked
