mod Lists
mod Remaining
mod ReadPages
mod ShortLists
mod ShortEntries
mod UpToItems
mod PostPages
pub mod Running
pub mod Faults
mod TreeWays
pub mod Carrying
pub mod Owing
mod GrowSteps
mod Dividing
mod Adding
mod AddingPosts
mod AddingIn
mod TwoPages
mod RootingSteps
mod RootingLists
mod TreesOn
mod LawfulWays
pub mod Logs
pub mod Kept
mod Nearer
mod Seeking
mod ReadingsIn
pub mod Stepped
mod WentOn
mod HeldNext
mod Passing
mod UpperKeys
mod OneLeaf
mod OnePost
mod Lacking
mod Resting
pub mod Exits
mod Parts
pub mod Causing
mod SplitCauses
pub mod Lawful
mod FullPages
mod LawfulTrees
mod LawfulPosts
mod LawfulRoom
mod Arms
