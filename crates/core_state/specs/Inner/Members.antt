-- What pages of the trees list, and where two lists differ first.
use Rattle.std.specs.Prelude.{◌≡◌, ℕ, ◌≤◌, List, length, take, map, Some}
use Rattle.std.specs.List.{slice_get}
use Rattle.page_types.specs.declared.page.Entry.{Entry}
use Rattle.page_types.specs.declared.page.EntryChild.{EntryChild}
use Rattle.page_types.specs.declared.page.PostChild.{PostChild}
use Rattle.core_state.specs.declared.members.Members.{Members}
use Rattle.core_state.specs.declared.members.Members.TheVariants as by_ref

-- an entry of a leaf, or a child of an inner page of either tree
pub data Member : Type 0 where
  entry : Entry → Member
  child : EntryChild → Member
  post : PostChild → Member

abbrev pub members_of : Members → List Member
members_of (by_ref.Entries entries) = map Member.entry entries.now
members_of (by_ref.Children children) = map Member.child children.now
members_of (by_ref.Posts children) = map Member.post children.now

-- the same is in two lists at these places
abbrev pub IsSameAt : {A : Type 0} → List A → ℕ → List A → ℕ → Type 0
IsSameAt {A} a i b j = (x : A) × (slice_get a i ≡ Some x) × (slice_get b j ≡ Some x)

-- two lists share their first k, and no more
pub record Shared {A : Type 0} (a b : List A) (k : ℕ) : Type 0 where
  pub within_a : k ≤ length a
  pub within_b : k ≤ length b
  pub front : take k a ≡ take k b
  pub differ : (x : A) → slice_get a k ≡ Some x → slice_get b k ≡ Some x → ⊥
