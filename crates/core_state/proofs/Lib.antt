-- Public is what the proofs of other crates may cite: the laws, and lemmas on logs, states and trees.
pub mod Showing
pub mod Newest
pub mod Histories
pub mod RunningOnes
pub mod Following
pub mod StateTold
pub mod Worked
pub mod Framing
pub mod PageLists
pub mod RulesByKind
pub mod Trees
pub mod Inserting
pub mod Bounds
pub mod Moments
pub mod LawsHold
pub mod Steps
pub mod PlacedOnce
pub mod NamesInOrder
pub mod ApartLists
pub mod LawfulHistories
pub mod SnapshotOrder
pub mod ChainLengths
pub mod LongVectors
pub mod ChangedPages
pub mod TouchedPages
pub mod Chains
pub mod KeptTrees
pub mod Law
pub mod WorkedPending
pub mod WorkedRun
pub mod NeverAgain
-- Private is how the laws are proved.
mod Taken
mod Leaving
mod Monotone
mod SnapshotDocs
mod Visible
mod Seen
mod Keys
mod BegunOnes
mod BegunSteps
mod PageUses
mod WorkedSteps
mod WorkedMore
mod WorkedSplit
mod WorkedLong
mod WorkedMaintenance
mod WorkedTrees
mod WorkedFacts
mod WorkedStates
mod UseSteps
mod RisingPages
mod RisingSearch
mod LowestUse
mod LastUses
mod GreatestNodes
mod PageRanks
mod PutLists
mod PageRooms
mod HeapRooms
mod PageSizes
mod DocumentLives
mod LifeCases
mod LivesFollow
mod PlacedHeads
mod PlacedNames
mod HeadChanges
mod LivePages
mod HeadSteps
mod FateSteps
mod HeadsFollow
mod StaysIndexed
mod SteadyPages
mod SteadyEnds
mod ChainFrames
mod ChainSteps
mod ChainRows
mod KeptHeads
mod KeptRows
mod RisingKeys
mod FollowingRows
mod LinkedPages
mod LinkedHeads
mod ShiftedPages
mod TakenItems
mod SharedFronts
mod UpperBounds
mod TakenEntries
mod RootedLeaves
mod Halves
mod ListHalves
mod SplitPlaces
mod LongestParts
mod SplitRecords
