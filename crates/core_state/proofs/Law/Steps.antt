-- One record more: what a case of each kind has to show, and the step from it.
use Rattle.std.specs.Prelude.{◌≡◌, ◌≢◌, ◌⊎◌, ℕ, suc, ◌≤◌, [], ◌∷◌, length}
use Rattle.ts_base.specs.Vectors.{Vector}
use Rattle.ts_base.specs.Keys.{Key}
use Rattle.page_types.specs.declared.page.Head.{Head}
use Rattle.page_types.specs.declared.record.Record.{Record}
use Rattle.page_types.specs.declared.record.Kind.TheVariants as kind
use Rattle.core_state.specs.Log.{Log, Pages, In, Shows, changed}
use Rattle.core_state.specs.Documents.{Doc, Has, IsWhole, IsDead}
use Rattle.core_state.specs.Index.{NoPair}
use Rattle.core_state.specs.TransactionRules.{IsCreate, IsBegin, IsCommit, IsAbort, IsCheckpoint}
use Rattle.core_state.specs.HeapRules.{IsPlaceHead, IsPutOverflow, IsMarkDeleted}
use Rattle.core_state.specs.PendingRules.{IsPutPending, IsAddRow, IsLinkPending, IsShift}
use Rattle.core_state.specs.TreeRules.{IsAddItems, IsMakeTree, IsAddPostings, IsGrowRoot, IsSplit, IsDeletePost}
use Rattle.core_state.specs.VacuumRules.{MayLeave, IsRemoveItems, IsDropPage, IsFreeSlots}
use Rattle.core_state.specs.Legal.{RuleHolds}
use Rattle.core_state.specs.Trees.Ext.{Ext}
use Rattle.core_state.specs.Trees.Ext.Ext.{least, at, greatest}
use Rattle.core_state.specs.Trees.TreeNodes.{entry_nodes, post_nodes}
use Rattle.core_state.specs.Inner.Ghosts.{Ghost, entry_ghost, post_ghost}
use Rattle.core_state.specs.Inner.Ghosts.Place.{shifted, post}
use Rattle.core_state.specs.Inner.Kinds.{KindsFit, PagesStart, IsLined, AreChained}
use Rattle.core_state.specs.Inner.HeadsKept.{HeadsKept}
use Rattle.core_state.specs.Inner.Owners.{RowsOwned, ItemsOwned, TreesNamed}
use Rattle.core_state.specs.Inner.Grouping.{RowsGrouped}
use Rattle.core_state.specs.Inner.Effects.{Effects}
use Rattle.core_state.specs.Inner.LineSteps.{LineStep}
use Rattle.core_state.specs.Inner.PageKinds.{Touched}
use Rattle.core_state.proofs.HeadSteps.{HeadStep}
use Rattle.core_state.proofs.Trees.Orders.{keys, items}
use Rattle.core_state.proofs.Trees.Growing.{Growing, Stepping}
use Rattle.core_state.proofs.Law.MainPlaces.{MainAt}
use Rattle.core_state.proofs.Law.Invariant.{Inv}

-- what holds before a record with this floor and this since
pub record Before (n L : ℕ) (R : Log) (P Q : Pages) (r : Record) (floor since : ℕ)
    (g : Ghost) : Type 0 where
  pub inv : Inv n L R P g
  pub shown : Shows R P
  pub shown_after : Shows (r ∷ R) Q
  pub number : r.number ≡ suc (length R)
  pub started : (r.kind ≡ kind.Create) ⊎ (R ≢ [])
  pub floor_is : floor ≤ n
  pub since_is : (since ≤ L) ⊎ (L ≡ length R)
  pub within : L ≤ length R

-- What the record does beside, by one lemma for all kinds each: to its pages and to others, to the
-- heads; the heads follow the log, who is dead stays so, no stamp is above the record's number, and a
-- whole document stays so or is dead and without a pair.
pub record Left (n since : ℕ) (R : Log) (P Q : Pages) (r : Record) : Type 0 where
  pub touched : (p : ℕ) → In p (changed r) → Touched P Q r since p
  pub elsewhere : (q : ℕ) → (In q (changed r) → ⊥) → Q q ≡ P q
  pub turns : HeadStep R P Q r n
  pub heads : HeadsKept n (r ∷ R) Q
  pub dead : (d : Doc) → IsDead R n d → IsDead (r ∷ R) n d
  pub stamps : (p : ℕ) → (Q p).stamp ≤ suc (length R)
  pub whole : (d : Doc) (h : Head) (v : Vector) → Has P d h → IsWhole P h v
      → ((h' : Head) × Has Q d h' × IsWhole Q h' v) ⊎ (IsDead R n d × NoPair P d.item)

-- what may leave a posting tree
abbrev pub MayGo : ℕ → Log → Pages → Ext ℕ → Type 0
MayGo n R P x = (i : ℕ) × (x ≡ at i) × MayLeave R P n i

-- a pair with this item leaves the main part: items are removed, and this one may leave
pub record Departs (n : ℕ) (R : Log) (P : Pages) (r : Record) (i : ℕ) : Type 0 where
  pub by : r.kind ≡ kind.RemoveItems
  pub may : MayLeave R P n i

-- The trees change by steps of trees alone: an entry tree keeps its keys, a posting tree keeps the
-- items that may not leave, and the key of a posting tree stays.
pub record TreesStep (n : ℕ) (R : Log) (P Q : Pages) (g g' : Ghost) : Type 0 where
  pub entries : Growing keys least greatest (entry_nodes P) (entry_nodes Q) (entry_ghost g)
      (entry_ghost g')
  pub posts : Stepping items least greatest (post_nodes P) (post_nodes Q) (post_ghost g)
      (post_ghost g') (MayGo n R P)
  pub key_of : (r h : ℕ) → g.place r ≡ post r h → g'.key_of r ≡ g.key_of r

-- What a case shows. That the trees stay sane and rooted follows from their steps; what stays indexed
-- from what becomes of documents, rows and pairs.
pub record Case (n L : ℕ) (R : Log) (P Q : Pages) (r : Record) (g g' : Ghost) : Type 0 where
  pub kinds : KindsFit L Q g'
  pub starts : PagesStart (r ∷ R) Q g'
  pub lined : IsLined (r ∷ R) Q g'
  pub trees : TreesStep n R P Q g g'
  pub named : TreesNamed Q g'
  pub chained : AreChained Q g'
  pub rows_owned : RowsOwned n (r ∷ R) Q g'
  pub items_owned : ItemsOwned Q g'
  pub grouped : RowsGrouped Q g'.line
  pub main : (k : Key) (i : ℕ) → MainAt P g k i → MainAt Q g' k i ⊎ Departs n R P r i
  pub line : LineStep R P Q g g'
  pub shifted_stays : (p : ℕ) → g.place p ≡ shifted → g'.place p ≡ shifted

-- a kind's case: at each moment where its rule holds there are ghosts after the record
abbrev pub CaseOf : (Log → Pages → Pages → Record → ℕ → ℕ → Type 0) → Type 0
CaseOf Row =
    (n L : ℕ) (R : Log) (P Q : Pages) (r : Record) (floor since : ℕ) (g : Ghost)
    → Before n L R P Q r floor since g → Left n since R P Q r → Row R P Q r floor since
    → (g' : Ghost) × Case n L R P Q r g g'

-- the cases of all kinds
pub record Cases : Type 0 where
  pub create : CaseOf (λ R P Q r floor since. IsCreate R P Q r)
  pub begin : CaseOf (λ R P Q r floor since. IsBegin R P Q r)
  pub commit : CaseOf (λ R P Q r floor since. IsCommit R P Q r)
  pub abort : CaseOf (λ R P Q r floor since. IsAbort R P Q r)
  pub checkpoint : CaseOf (λ R P Q r floor since. IsCheckpoint R P Q r)
  pub place_head : CaseOf (λ R P Q r floor since. IsPlaceHead R P Q r since)
  pub put_overflow : CaseOf (λ R P Q r floor since. IsPutOverflow R P Q r since)
  pub mark_deleted : CaseOf (λ R P Q r floor since. IsMarkDeleted R P Q r)
  pub put_pending : CaseOf (λ R P Q r floor since. IsPutPending R P Q r since)
  pub add_row : CaseOf (λ R P Q r floor since. IsAddRow R P Q r)
  pub link_pending : CaseOf (λ R P Q r floor since. IsLinkPending R P Q r)
  pub shift : CaseOf (λ R P Q r floor since. IsShift R P Q r)
  pub add_items : CaseOf (λ R P Q r floor since. IsAddItems R P Q r)
  pub make_tree : CaseOf (λ R P Q r floor since. IsMakeTree R P Q r since)
  pub add_postings : CaseOf (λ R P Q r floor since. IsAddPostings R P Q r)
  pub grow_root : CaseOf (λ R P Q r floor since. IsGrowRoot R P Q r since)
  pub split : CaseOf (λ R P Q r floor since. IsSplit R P Q r since)
  pub remove_items : CaseOf (λ R P Q r floor since. IsRemoveItems R P Q r floor)
  pub delete_post : CaseOf (λ R P Q r floor since. IsDeletePost R P Q r)
  pub drop_page : CaseOf (λ R P Q r floor since. IsDropPage R P Q r floor)
  pub free_slots : CaseOf (λ R P Q r floor since. IsFreeSlots R P Q r floor)

-- what the record's step leaves
pub record After (n L : ℕ) (R : Log) (P Q : Pages) (r : Record) (g : Ghost) : Type 0 where
  pub ghost : Ghost
  pub case : Case n L R P Q r g ghost
  pub effects : Effects R P Q n
  pub inv : Inv n L (r ∷ R) Q ghost

-- the invariant goes on from each moment over each record
abbrev pub StepHolds : Type 0
StepHolds =
    (n L : ℕ) (R : Log) (P Q : Pages) (r : Record) (floor since : ℕ) (g : Ghost)
    → Before n L R P Q r floor since g → RuleHolds R P Q r floor since → After n L R P Q r g
