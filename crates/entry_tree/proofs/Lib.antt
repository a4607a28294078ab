mod KeyOrders
mod SearchSteps
mod FoundPlaces
mod Reached
mod EntryLists
mod AddedPages
pub mod RootedPages
mod AdoptedPages
mod GrownPages
mod SplitParts
mod SplitRule
mod SplitPages
mod LoggedPages
