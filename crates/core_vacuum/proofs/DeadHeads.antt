-- Dead documents keep their slots but over the records that free them.
use Rattle.std.proofs.Common.{◌≡◌, ◌≢◌, ◌<◌, ◌≤◌, ℕ, [], ◌∷◌, ◌++◌, refl, sym, subst, ◌∙◌, inl, inr, arith}
use Rattle.page_types.specs.Records.{kind_number}
use Rattle.page_types.specs.declared.page.Head.{Head}
use Rattle.page_types.specs.declared.record.Record.{Record}
use Rattle.page_types.specs.declared.record.Kind.{Kind}
use Rattle.page_types.specs.declared.record.Kind.TheVariants as kind
use Rattle.core_state.specs.Log.{Log, Pages, In, Shows}
use Rattle.core_state.specs.Documents.{Doc, Has, IsDead}
use Rattle.core_state.specs.Legal.{IsLegal}
use Rattle.core_state.specs.Steady.{IsIndexWork, SteadyFacts}
use Rattle.core_state.specs.RecordKeeps.{SameHeads, RecordKeeps}
use Rattle.core_state.proofs.Showing.{shown_one}
use Rattle.core_state.proofs.Newest.{legal_less}
use Rattle.core_state.proofs.LawsHold.{records, steady}
use Rattle.core_state.proofs.Steps.Seen.{steady_facts}
use Rattle.core_maintenance.proofs.Right.{index_stays}
use Rattle.core_maintenance.proofs.Shifts.{shift_holds}
use Rattle.core_vacuum.specs.DeadHeads.{HasDeadHead, LeavesHeads, DeadHeadsHold, RightKeepsDeadHeads, MoreAreDead}

pub more_are_dead : MoreAreDead
more_are_dead R m n d le (IsDead.insert_aborted x a b) = IsDead.insert_aborted x a b
more_are_dead R m n d le (IsDead.delete_counted x k a b c) = IsDead.delete_counted x k a (omega (arith, b, le)) c

-- a log that goes on after one that isn't empty isn't empty
some_behind : (later R : Log) → R ≢ [] → later ++ R ≢ []
some_behind [] R some = some
some_behind (r ∷ later) R some = λ e. cc

-- one record more
module _ (R : Log) (r : Record) (P Q : Pages) (some : R ≢ []) (legal : IsLegal (r ∷ R)) (shown : Shows R P)
    (shown' : Shows (r ∷ R) Q) where
  facts : SteadyFacts R (r ∷ []) (r ∷ R) P Q
  facts = steady R (r ∷ []) (r ∷ R) P Q refl some (legal_less r R legal) legal shown shown'

  keeps : RecordKeeps R P Q r
  keeps = records R r P Q some legal shown shown'

  same : (d : Doc) (h : Head) → Has P d h → SameHeads P Q → Has Q d h
  same d h has heads = record { at = heads d.item ∙ has.at; serial = has.serial }

  module _ (d : Doc) (h : Head) (floor : ℕ) (dead : IsDead R floor d) (has : Has P d h) where
    early : (k : Kind) → r.kind ≡ k → kind_number k < 12 → Has Q d h
    early k is low = ((facts.index_stays quiet).dead d h floor dead has).head
      where
        late : (j : Kind) → j ≡ k → IsIndexWork j → ⊥
        late j e w = let v = subst IsIndexWork e w in omega (arith, low, v.0)

        quiet : (s : Record) → In s (r ∷ []) → IsIndexWork s.kind → ⊥
        quiet s (inl e) w = late r.kind is (subst (λ (x : Record). IsIndexWork x.kind) e w)
        quiet s (inr none) w = none

    placing : (k : Kind) → r.kind ≡ k → 13 ≤ kind_number k → kind_number k ≤ 17 → Has Q d h
    placing k is low high = same d h has (keeps.placing (subst (λ (x : Kind). 13 ≤ kind_number x) (sym is) low)
        (subst (λ (x : Kind). kind_number x ≤ 17) (sym is) high)).heads

    by_kind : (k : Kind) → r.kind ≡ k → kind_number k < 20 → Has Q d h
    by_kind kind.Create is low = early kind.Create is (omega arith)
    by_kind kind.Begin is low = early kind.Begin is (omega arith)
    by_kind (kind.Commit c) is low = early (kind.Commit c) is (omega arith)
    by_kind kind.Abort is low = early kind.Abort is (omega arith)
    by_kind (kind.Checkpoint redo) is low = early (kind.Checkpoint redo) is (omega arith)
    by_kind (kind.PlaceHead i s) is low = early (kind.PlaceHead i s) is (omega arith)
    by_kind (kind.PutOverflow i s) is low = early (kind.PutOverflow i s) is (omega arith)
    by_kind (kind.MarkDeleted i s) is low = early (kind.MarkDeleted i s) is (omega arith)
    by_kind (kind.PutPending i s) is low = early (kind.PutPending i s) is (omega arith)
    by_kind (kind.AddRow i s) is low = early (kind.AddRow i s) is (omega arith)
    by_kind (kind.LinkPending i s) is low = early (kind.LinkPending i s) is (omega arith)
    by_kind kind.Shift is low = same d h has (shift_holds R r P Q legal shown shown' is).heads
    by_kind kind.AddItems is low = placing kind.AddItems is (omega arith) (omega arith)
    by_kind kind.MakeTree is low = placing kind.MakeTree is (omega arith) (omega arith)
    by_kind kind.AddPostings is low = placing kind.AddPostings is (omega arith) (omega arith)
    by_kind kind.GrowRoot is low = placing kind.GrowRoot is (omega arith) (omega arith)
    by_kind kind.Split is low = placing kind.Split is (omega arith) (omega arith)
    by_kind kind.RemoveItems is low = same d h has (keeps.removing is).heads
    by_kind kind.DeletePost is low = same d h has (keeps.deleting is).heads
    by_kind (kind.DropPage i s) is low = absurd (omega (arith, low))
    by_kind kind.FreeSlots is low = absurd (omega (arith, low))

  step : kind_number r.kind < 20 → (floor i : ℕ) → HasDeadHead R P floor i → HasDeadHead (r ∷ R) Q floor i
  step low floor i h = record {
    doc = h.doc;
    head = h.head;
    item = h.item;
    has = by_kind h.doc h.head floor h.dead h.has r.kind refl low;
    dead = facts.ends_stay.dead_stays h.doc floor h.dead;
  }

over : (R later : Log) (P Q : Pages) → R ≢ [] → IsLegal (later ++ R) → Shows R P → Shows (later ++ R) Q
    → LeavesHeads later → (floor i : ℕ) → HasDeadHead R P floor i → HasDeadHead (later ++ R) Q floor i
over R [] P Q some legal shown shown' each floor i h =
    subst (λ (S : Pages). HasDeadHead R S floor i) (shown_one R P Q shown shown') h
over R (r ∷ later) P Q some legal shown shown' each floor i h =
    let u = legal.valid.1 in
    step (later ++ R) r u.before Q (some_behind later R some) legal u.shown shown' (each r (inl refl)) floor i
    (over R later P u.before some (legal_less r (later ++ R) legal) shown u.shown (λ s j. each s (inr j)) floor i h)

pub dead_heads_hold : DeadHeadsHold
dead_heads_hold R later R' P Q on some legal shown shown' each floor i h =
    subst (λ (S : Log). HasDeadHead S Q floor i) (sym on)
    (over R later P Q some (subst IsLegal on legal) shown (subst (λ (S : Log). Shows S Q) on shown') each floor i h)

pub right_keeps_dead_heads : RightKeepsDeadHeads
right_keeps_dead_heads v R a P may shown floor i h = record {
  doc = h.doc;
  head = h.head;
  item = h.item;
  has = ((index_stays v R a P shown may).dead h.doc h.head floor h.dead h.has).head;
  dead = (steady_facts v R a P shown may.started).ends_stay.dead_stays h.doc floor h.dead;
}
