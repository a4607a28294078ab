-- The documents of a transaction that runs stay as they are through the records of others.
use Rattle.std.proofs.Common.{◌≡◌, ◌≢◌, ◌++◌, ℕ, suc, List, [], ◌∷◌, length, refl, sym, ap, subst, ◌∙◌, inl, inr, arith}
use Rattle.page_types.specs.Views.{rows_in, rows_of}
use Rattle.page_types.specs.declared.page.Page.{Page}
use Rattle.page_types.specs.declared.page.Head.{Head}
use Rattle.page_types.specs.declared.page.Row.{Row}
use Rattle.page_types.specs.declared.page.Body.{Body}
use Rattle.page_types.specs.declared.page.Body.TheVariants as body
use Rattle.page_types.specs.declared.record.Record.{Record}
use Rattle.page_types.specs.declared.record.Kind.TheVariants as kind
use Rattle.core_state.specs.Log.{Log, Pages, In, Shows, changed, commits, fate}
use Rattle.core_state.specs.Documents.{Doc, Has, IsDead, placed, doc_at}
use Rattle.core_state.specs.Index.{IsLinked, HasRow}
use Rattle.core_state.specs.TransactionRules.{IsCreate}
use Rattle.core_state.specs.Legal.{RuleHolds, Valid, RecordsAreValid}
use Rattle.core_state.specs.Steady.{LeavesXid, SameChain, KeepsHead, RunsOn}
use Rattle.core_state.specs.Inner.HeadsKept.{HeadsKept}
use Rattle.core_state.specs.Inner.PageKinds.{Touched}
use Rattle.core_state.specs.Inner.Ghosts.{Ghost}
use Rattle.core_state.specs.Inner.Ghosts.Place.{line, overflow_of, private_of}
use Rattle.core_state.specs.declared.answers.Fate.TheVariants.{Running, Aborted, Committed}
use Rattle.core_state.proofs.Showing.{shown_one}
use Rattle.core_state.proofs.Histories.{chain_one}
use Rattle.core_state.proofs.PageLists.{in_or_not}
use Rattle.core_state.proofs.RulesByKind.{kind_rule}
use Rattle.core_state.proofs.FateSteps.{runs_on, placed_on}
use Rattle.core_state.proofs.StaysIndexed.{same_doc}
use Rattle.core_state.proofs.SteadyPages.{touches, elsewhere}
use Rattle.core_state.proofs.SteadyEnds.{fates_step, heads_step, xids_drawn, heads_kept}
use Rattle.core_state.proofs.KeptHeads.{running_keeps}
use Rattle.core_state.proofs.KeptRows.{row_written}
use Rattle.core_state.proofs.Law.Places.{place_for}
use Rattle.core_state.proofs.Law.LineEffects.{on_line}
use Rattle.core_state.proofs.Law.ChainsStay.{overflows, privates}
use Rattle.core_state.proofs.Law.Invariant.{Inv}
use Rattle.core_state.proofs.Law.Steps.{After, StepHolds}
use Rattle.core_state.proofs.Law.Runs.{Holds, plain_run, step_over}

pending_of : (b : Body) (w : Row) → In w (rows_in b) → (rows : List Row) × (b ≡ body.Pending rows)
pending_of (body.Pending rows) w i = (rows, refl)
pending_of _ w i = absurd i

module _ (n L m : ℕ) (R : Log) (P Q : Pages) (r : Record) (floor since : ℕ) (g g' : Ghost) (v : Inv n L R P g)
    (w : Inv n m (r ∷ R) Q g') (row : RuleHolds R P Q r floor since)
    (touch : (p : ℕ) → In p (changed r) → Touched P Q r since p) (other : (q : ℕ) → (In q (changed r) → ⊥)
    → Q q ≡ P q)
    (later : r.kind ≢ kind.Create) where
  -- a page that is on the pending list after the record is on no private chain of a head that stays
  not_private : (d : Doc) (h : Head) → Has P d h → KeepsHead P Q d h → (q : ℕ) → In q g'.line
      → g.place q ≡ private_of d.item → ⊥
  not_private d h has keeps q on at =
      let c = v.chained.private.some d.item h has.at in
      let c' = w.chained.private.some d.item h keeps.head.at in
      let same = chain_one Q h.private c.pages c'.pages (keeps.private c.pages c.is_chain).0 c'.is_chain in
      let now = (c'.on q).0 (subst (In q) same ((c.on q).1 at)) in
      let clash : line ≡ private_of d.item = sym ((w.lined.on q).0 on) ∙ now in
      cc

  linked_before : (q : ℕ) (u : Row) → g.place q ≡ line → In u (rows_of (P q)) → IsLinked P u
  linked_before q u at on =
      record { line = g.line; is_line = v.lined.is_line; page = q; on = (v.lined.on q).1 at; there = on }

  -- a linked row of a document of another transaction that stays was linked
  pub linked_was : (d : Doc) (h : Head) → Has P d h → KeepsHead P Q d h → h.inserted_by ≢ r.xid → (u : Row)
      → u.item ≡ d.item → IsLinked Q u → IsLinked P u
  linked_was d h has keeps off u same k =
      let o = on_line (r ∷ R) Q g' u w.lined k in
      elim (in_or_not o.0 (changed r)) [
        | inl i ↦ elim (row_written R P Q r floor since row touch other later o.0 i u o.2) [
          | inl old ↦ linked_before o.0 u ((v.lined.on o.0).0 (old.1 g.line v.lined.is_line)) old.0
          | inr own ↦ absurd (off (ap (λ (z : Head). z.inserted_by) (sym (same_doc P own.doc d own.head h own.has has
              (own.item ∙ same)).1) ∙ own.by))
        ]
        | inr out ↦
            let there = subst (λ (p : Page). In u (rows_of p)) (other o.0 out) o.2 in
            let pending = pending_of (P o.0).body u there in
            elim (place_for L (g.place o.0) (P o.0) (body.Pending pending.0) (v.kinds o.0) pending.1) [
              | inl at ↦ linked_before o.0 u at there
              | inr at ↦
                  let item = v.rows_owned.private_item o.0 at.0 u at.1 there in
                  absurd (not_private d h has keeps o.0 o.1 (at.1 ∙ ap private_of (sym item ∙ same)))
            ]
      ]

  pub row_was : (d : Doc) (h : Head) → Has P d h → KeepsHead P Q d h → h.inserted_by ≢ r.xid → HasRow Q d.item
      → HasRow P d.item
  row_was d h has keeps off k =
      record { row = k.row; linked = linked_was d h has keeps off k.row k.item k.linked; item = k.item }

-- a document of a running transaction isn't dead
pub placed_alive : (n : ℕ) (R : Log) (P : Pages) → HeadsKept n R P → (x : ℕ) (d : Doc) → In d (placed R x)
    → fate R x ≡ Running → IsDead R n d → ⊥
placed_alive n R P D x d p runs (IsDead.insert_aborted y e q) = let f : Running ≡ Aborted = sym runs
    ∙ ap (fate R) (D.once x y d d p q refl).0 ∙ e in cc
placed_alive n R P D x d p runs (IsDead.delete_counted y k e l q) =
    let c = D.marked_committed y d q in
    let f : Running ≡ Committed c.1 = sym runs ∙ ap (fate R) (D.once x c.0 d d p c.2 refl).0 ∙ c.3 in
    cc

-- a record after others makes no store
pub not_create : (R : Log) (r : Record) (floor since : ℕ) → Valid R r floor since → R ≢ [] → r.kind ≢ kind.Create
not_create [] r floor since v some e = some refl
not_create (s ∷ S) r floor since v some e =
    let x : IsCreate (s ∷ S) v.before v.after r = kind_rule (s ∷ S) v.before v.after r floor since kind.Create e v.rule
    in
    omega (arith, x.here.empty)

pub some_behind : (later R : Log) → R ≢ [] → later ++ R ≢ []
some_behind [] R some = some
some_behind (r ∷ later) R some = λ e. not_empty r (later ++ R) e
  where
    not_empty : (s : Record) (S : Log) → s ∷ S ≡ [] → ⊥
    not_empty s S e = cc

chain_same : (P : Pages) (p : ℕ) → SameChain P P p
chain_same P p qs c = (c, λ q i. refl)

chain_on : (P S Q : Pages) (p : ℕ) → SameChain P S p → SameChain S Q p → SameChain P Q p
chain_on P S Q p a b qs c =
    let x = a qs c in
    let y = b qs x.0 in
    (y.0, λ q i. y.1 q i ∙ x.1 q i)

pub keeps_same : (P : Pages) (d : Doc) (h : Head) → Has P d h → KeepsHead P P d h
keeps_same P d h has = record {
  head = has;
  overflow = chain_same P h.overflow;
  private = chain_same P h.private;
  vector = λ v w. w;
}

pub keeps_on : (P S Q : Pages) (d : Doc) (h : Head) → KeepsHead P S d h → KeepsHead S Q d h → KeepsHead P Q d h
keeps_on P S Q d h a b = record {
  head = b.head;
  overflow = chain_on P S Q h.overflow a.overflow b.overflow;
  private = chain_on P S Q h.private a.private b.private;
  vector = λ v w. b.vector v (a.vector v w);
}

-- what stays of a running transaction over some records
pub record Stays (x : ℕ) (S : Log) (P Q : Pages) : Type 0 where
  pub runs : fate S x ≡ Running
  pub keeps : (d : Doc) (h : Head) → Has P d h → h.inserted_by ≡ x → KeepsHead P Q d h
  pub rows : (d : Doc) (h : Head) → Has P d h → h.inserted_by ≡ x → HasRow Q d.item → HasRow P d.item

placed_later : (later R : Log) (x : ℕ) (d : Doc) → In d (placed R x) → In d (placed (later ++ R) x)
placed_later [] R x d i = i
placed_later (r ∷ later) R x d i = placed_on r (later ++ R) x d (placed_later later R x d i)

module _ (step : StepHolds) where
  -- over one record more
  module _ (x : ℕ) (S : Log) (r : Record) (v : RecordsAreValid S) (u : Valid S r (commits S) (suc (length S)))
      (some : S ≢ []) (P : Pages) (off : r.xid ≢ x) (all : r.kind ≡ kind.Abort → r.xid ≢ 0)
      (I : Stays x S P u.before) where
    before : Holds (commits S) (length S) S u.before
    before = plain_run step S v u.before u.shown

    behind : After (commits S) (length S) S u.before u.after r before.0
    behind = step_over step (commits S) (length S) S r (commits S) (suc (length S)) u (omega arith) (inr refl)
        (omega arith) u.before u.after before.0 u.shown u.shown_after before.1

    not_own : (h : Head) → h.inserted_by ≡ x → h.inserted_by ≢ r.xid
    not_own h by e = off (sym e ∙ by)

    one : (d : Doc) (h : Head) → Has u.before d h → h.inserted_by ≡ x → KeepsHead u.before u.after d h
    one d h has by = running_keeps S u.before u.after r (commits S) (suc (length S)) u.rule (touches S r (commits S)
        (suc (length S)) u) (elsewhere S r (commits S) (suc (length S)) u) before.0.line
        (λ i q. before.0.place q ≡ overflow_of i) (λ i q. before.0.place q ≡ private_of i) (overflows (commits S)
        (length S) S u.before before.0 before.1) (privates (commits S) (length S) S u.before before.0 before.1)
        (commits S) before.1.heads (omega arith) (heads_step S r (commits S) (suc (length S)) u) d h has
        (ap (fate S) by ∙ I.runs) (not_own h by)

    row_one : (d : Doc) (h : Head) → Has u.before d h → h.inserted_by ≡ x → HasRow u.after d.item
        → HasRow u.before d.item
    row_one d h has by k = row_was (commits S) (length S) (length S) S u.before u.after r (commits S) (suc (length S))
        before.0 behind.ghost before.1 behind.inv u.rule
        (touches S r (commits S) (suc (length S)) u) (elsewhere S r (commits S) (suc (length S)) u)
        (not_create S r (commits S) (suc (length S)) u some) d h has (one d h has by) (not_own h by) k

    stays_step : Stays x (r ∷ S) P u.after
    stays_step = record {
      runs = runs_on S r (xids_drawn S v) (fates_step S r (commits S) (suc (length S)) (xids_drawn S v) u) x I.runs
          off
          all;
      keeps = λ d h has by. let k = I.keeps d h has by in keeps_on P u.before u.after d h k (one d h k.head by);
      rows = λ d h has by k. I.rows d h has by (row_one d h (I.keeps d h has by).head by k);
    }

  stays_behind : (x : ℕ) (later R : Log) → RecordsAreValid (later ++ R) → R ≢ [] → (P Q : Pages) → Shows R P
      → Shows (later ++ R) Q → fate R x ≡ Running → LeavesXid x later → Stays x (later ++ R) P Q
  stays_behind x [] R v some P Q shown shown' runs leaves = subst (Stays x R P) (shown_one R P Q shown shown')
      (record {
        runs = runs;
        keeps = λ d h has by. keeps_same P d h has;
        rows = λ d h has by k. k;
      })
  stays_behind x (r ∷ later) R v some P Q shown shown' runs leaves =
      let off = leaves r (inl refl) in
      subst (Stays x (r ∷ (later ++ R)) P) (shown_one (r ∷ (later ++ R)) v.1.after Q v.1.shown_after shown')
      (stays_step x (later ++ R) r v.0 v.1 (some_behind later R some) P off.0 off.1 (stays_behind x later R v.0 some P
      v.1.before shown v.1.shown runs (λ s i. leaves s (inr i))))

  -- a transaction that runs and of which no later record is runs on, and its documents stay as they are
  pub runs_on_behind : (x : ℕ) (later R : Log) → RecordsAreValid R → RecordsAreValid (later ++ R) → R ≢ []
      → (P Q : Pages)
      → Shows R P → Shows (later ++ R) Q → fate R x ≡ Running → LeavesXid x later
      → RunsOn R (later ++ R) P Q x
  runs_on_behind x later R v v' some P Q shown shown' runs leaves = record {
    runs = I.runs;
    heads = λ d i. let k = head d i in (k.0, k.1, I.keeps d k.0 k.1 k.2);
    no_row = λ d i none k. let s = head d i in none (I.rows d s.0 s.1 s.2 k);
    indexed = λ d i idx.
        now.1.indexed.stays d (record {
          later = later;
          then = R;
          goes_on = refl;
          pages = P;
          shown = shown;
          indexed = idx;
        })
        (inl (placed_alive (commits (later ++ R)) (later ++ R) Q now.1.heads x d
        (placed_later later R x d i) I.runs));
  }
    where
      I : Stays x (later ++ R) P Q
      I = stays_behind x later R v' some P Q shown shown' runs leaves

      now : Holds (commits (later ++ R)) (length (later ++ R)) (later ++ R) Q
      now = plain_run step (later ++ R) v' Q shown'

      D : HeadsKept (commits R) R P
      D = heads_kept R P v shown

      head : (d : Doc) → In d (placed R x) → (h : Head) × Has P d h × (h.inserted_by ≡ x)
      head d i = elim (D.there x d i) [
        | inl has ↦ (
          has.0,
          has.1,
          (D.once has.0.inserted_by x d d
              (subst (λ (s : ℕ). In (doc_at d.item s) (placed R has.0.inserted_by)) has.1.serial
              (D.inserted d.item has.0
              has.1.at)) i refl).0,
        )
        | inr dead ↦ absurd (placed_alive (commits R) R P D x d i runs dead)
      ]
