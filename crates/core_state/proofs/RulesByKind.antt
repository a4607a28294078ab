-- The rule of a record whose kind is known.
use Rattle.std.proofs.Common.{◌≡◌, ℕ, sym, subst}
use Rattle.page_types.specs.declared.record.Record.{Record}
use Rattle.page_types.specs.declared.record.Kind.{Kind}
use Rattle.page_types.specs.declared.record.Kind.TheVariants as kind
use Rattle.core_state.specs.Log.{Log, Pages}
use Rattle.core_state.specs.TransactionRules.{IsCreate, IsBegin, IsCommit, IsAbort, IsCheckpoint}
use Rattle.core_state.specs.HeapRules.{IsPlaceHead, IsPutOverflow, IsMarkDeleted}
use Rattle.core_state.specs.PendingRules.{IsPutPending, IsAddRow, IsLinkPending, IsShift}
use Rattle.core_state.specs.TreeRules.{IsAddItems, IsMakeTree, IsAddPostings, IsGrowRoot, IsSplit, IsDeletePost}
use Rattle.core_state.specs.VacuumRules.{IsRemoveItems, IsDropPage, IsFreeSlots}
use Rattle.core_state.specs.Legal.{RuleHolds}

module _ (R : Log) (P Q : Pages) (r : Record) (floor since : ℕ) where
  -- the rule of a kind
  abbrev pub RuleOf : Kind → Type 0
  RuleOf kind.Create = IsCreate R P Q r
  RuleOf kind.Begin = IsBegin R P Q r
  RuleOf (kind.Commit n) = IsCommit R P Q r
  RuleOf kind.Abort = IsAbort R P Q r
  RuleOf (kind.Checkpoint redo) = IsCheckpoint R P Q r
  RuleOf (kind.PlaceHead i s) = IsPlaceHead R P Q r since
  RuleOf (kind.PutOverflow i s) = IsPutOverflow R P Q r since
  RuleOf (kind.MarkDeleted i s) = IsMarkDeleted R P Q r
  RuleOf (kind.PutPending i s) = IsPutPending R P Q r since
  RuleOf (kind.AddRow i s) = IsAddRow R P Q r
  RuleOf (kind.LinkPending i s) = IsLinkPending R P Q r
  RuleOf kind.Shift = IsShift R P Q r
  RuleOf kind.AddItems = IsAddItems R P Q r
  RuleOf kind.MakeTree = IsMakeTree R P Q r since
  RuleOf kind.AddPostings = IsAddPostings R P Q r
  RuleOf kind.GrowRoot = IsGrowRoot R P Q r since
  RuleOf kind.Split = IsSplit R P Q r since
  RuleOf kind.RemoveItems = IsRemoveItems R P Q r floor
  RuleOf kind.DeletePost = IsDeletePost R P Q r
  RuleOf (kind.DropPage i s) = IsDropPage R P Q r floor
  RuleOf kind.FreeSlots = IsFreeSlots R P Q r floor

  pub rule_of : RuleHolds R P Q r floor since → RuleOf r.kind
  rule_of (RuleHolds.create x) = subst RuleOf (sym x.here.kind_is) x
  rule_of (RuleHolds.begin x) = subst RuleOf (sym x.here.kind_is) x
  rule_of (RuleHolds.commit x) = subst RuleOf (sym x.here.kind_is) x
  rule_of (RuleHolds.abort x) = subst RuleOf (sym x.here.kind_is) x
  rule_of (RuleHolds.checkpoint x) = subst RuleOf (sym x.here.kind_is) x
  rule_of (RuleHolds.place_head x) = subst RuleOf (sym x.here.kind_is) x
  rule_of (RuleHolds.put_overflow x) = subst RuleOf (sym x.here.kind_is) x
  rule_of (RuleHolds.mark_deleted x) = subst RuleOf (sym x.here.kind_is) x
  rule_of (RuleHolds.put_pending x) = subst RuleOf (sym x.here.kind_is) x
  rule_of (RuleHolds.add_row x) = subst RuleOf (sym x.here.kind_is) x
  rule_of (RuleHolds.link_pending x) = subst RuleOf (sym x.here.kind_is) x
  rule_of (RuleHolds.shift x) = subst RuleOf (sym x.here.kind_is) x
  rule_of (RuleHolds.add_items x) = subst RuleOf (sym x.here.kind_is) x
  rule_of (RuleHolds.make_tree x) = subst RuleOf (sym x.here.kind_is) x
  rule_of (RuleHolds.add_postings x) = subst RuleOf (sym x.here.kind_is) x
  rule_of (RuleHolds.grow_root x) = subst RuleOf (sym x.here.kind_is) x
  rule_of (RuleHolds.split x) = subst RuleOf (sym x.here.kind_is) x
  rule_of (RuleHolds.remove_items x) = subst RuleOf (sym x.here.kind_is) x
  rule_of (RuleHolds.delete_post x) = subst RuleOf (sym x.here.kind_is) x
  rule_of (RuleHolds.drop_page x) = subst RuleOf (sym x.here.kind_is) x
  rule_of (RuleHolds.free_slots x) = subst RuleOf (sym x.here.kind_is) x

  pub kind_rule : (k : Kind) → r.kind ≡ k → RuleHolds R P Q r floor since → RuleOf k
  kind_rule k e x = subst RuleOf e (rule_of x)
