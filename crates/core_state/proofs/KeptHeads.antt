-- A head and its chains stay through records that aren't its transaction's, as long as its transaction runs, and where
-- it is dead until it is removed.
use Rattle.std.proofs.Common.{◌≡◌, ◌≢◌, ◌⊎◌, ◌≤◌, ◌+◌, ℕ, List, refl, sym, ap, subst, ◌∙◌, inl, inr, arith}
use Rattle.std.specs.Prelude.{Some, None}
use Rattle.page_types.specs.declared.page.Page.{Page}
use Rattle.page_types.specs.declared.page.Head.{Head}
use Rattle.page_types.specs.declared.record.Record.{Record}
use Rattle.page_types.specs.declared.record.Kind.{Kind}
use Rattle.page_types.specs.declared.record.Kind.TheVariants as kind
use Rattle.core_state.specs.Log.{Log, Pages, In, changed, fate}
use Rattle.core_state.specs.Documents.{Doc, Has, IsChain, IsDead, marked, head_of, doc_at}
use Rattle.core_state.specs.HeapRules.{IsPutOverflow}
use Rattle.core_state.specs.PendingRules.{IsPutPending, IsLinkPending}
use Rattle.core_state.specs.VacuumRules.{IsGoneFrom}
use Rattle.core_state.specs.Steady.{SameChain, KeepsHead}
use Rattle.core_state.specs.Legal.{RuleHolds}
use Rattle.core_state.specs.Inner.HeadsKept.{HeadsKept}
use Rattle.core_state.specs.Inner.ItemChains.{AreOverflows, ArePrivates}
use Rattle.core_state.specs.Inner.PageKinds.{Touched}
use Rattle.core_state.specs.declared.answers.Fate.TheVariants.{Running, Aborted, Committed}
use Rattle.core_state.proofs.PageLists.{same_or_not}
use Rattle.core_state.proofs.RulesByKind.{kind_rule}
use Rattle.core_state.proofs.HeadSteps.{TurnsHead, HeadStep, put_turned, rows_turned, link_turned}
use Rattle.core_state.proofs.HeadsFollow.{marks_doc, heads_more}
use Rattle.core_state.proofs.FateSteps.{dead_more}
use Rattle.core_state.proofs.StaysIndexed.{same_doc, placed_by_head, runs_alive}
use Rattle.core_state.proofs.Chains.{chain_kept}
use Rattle.core_state.proofs.ChainFrames.{RemovesDocs, Removed, drop_gone, overflow_chain_stays, private_chain_stays}
use Rattle.core_state.proofs.ChainFrames.{whole_kept}

-- what a record does to a head: it stays, or it is the record's transaction's own, or it is marked, or its document is
-- removed
pub data HeadMove (R : Log) (P Q : Pages) (r : Record) (floor : ℕ) (d : Doc) (h : Head) : Type 0 where
  stays : Has Q d h → HeadMove R P Q r floor d h
  ours : h.inserted_by ≡ r.xid → fate R r.xid ≡ Running → HeadMove R P Q r floor d h
  marks : r.kind ≡ kind.MarkDeleted d.item d.serial → HeadMove R P Q r floor d h
  removed : Removed R P r floor d → HeadMove R P Q r floor d h

committed_running : (m : ℕ) → Committed m ≡ Running → ⊥
committed_running m e = cc

committed_aborted : (m : ℕ) → Committed m ≡ Aborted → ⊥
committed_aborted m e = cc

module _ (R : Log) (P Q : Pages) (r : Record) (floor since : ℕ) (row : RuleHolds R P Q r floor since) (touch : (p : ℕ)
    → In p (changed r) → Touched P Q r since p)
    (elsewhere : (q : ℕ) → (In q (changed r) → ⊥) → Q q ≡ P q) where
  -- the head's document by the kind that changes it
  turn_by : (k : Kind) → r.kind ≡ k → (d : Doc) (h : Head) → Has P d h → TurnsHead k d → HeadMove R P Q r floor d h
  turn_by (kind.PutOverflow i s) e d h has t =
      let x : IsPutOverflow R P Q r since = kind_rule R P Q r floor since (kind.PutOverflow i s) e row in
      let f : kind.PutOverflow x.here.doc.item x.here.doc.serial ≡ kind.PutOverflow i s = sym x.here.kind_is ∙ e in
      let item : x.here.doc.item ≡ i = cc in
      let same = same_doc P x.here.doc d x.here.head h (put_turned R P Q r floor since touch elsewhere x).was has (item
      ∙ t.0) in
      HeadMove.ours (ap (λ (z : Head). z.inserted_by) (sym same.1) ∙ x.here.own.by) x.here.own.runs
  turn_by (kind.MarkDeleted i s) e d h has t = HeadMove.marks (e ∙ ap (λ (z : ℕ). kind.MarkDeleted z s) t.0
      ∙ ap (λ (z : ℕ). kind.MarkDeleted d.item z) t.1)
  turn_by (kind.PutPending i s) e d h has t =
      let x : IsPutPending R P Q r since = kind_rule R P Q r floor since (kind.PutPending i s) e row in
      let f : kind.PutPending x.here.doc.item x.here.doc.serial ≡ kind.PutPending i s = sym x.here.kind_is ∙ e in
      let item : x.here.doc.item ≡ i = cc in
      let same = same_doc P x.here.doc d x.here.head h (rows_turned R P Q r floor since touch elsewhere x).was has
      (item ∙ t.0) in
      HeadMove.ours (ap (λ (z : Head). z.inserted_by) (sym same.1) ∙ x.here.own.by) x.here.own.runs
  turn_by (kind.LinkPending i s) e d h has t =
      let x : IsLinkPending R P Q r = kind_rule R P Q r floor since (kind.LinkPending i s) e row in
      let f : kind.LinkPending x.here.doc.item x.here.doc.serial ≡ kind.LinkPending i s = sym x.here.kind_is ∙ e in
      let item : x.here.doc.item ≡ i = cc in
      let same = same_doc P x.here.doc d x.here.head h (link_turned R P Q r floor since touch elsewhere x).was has
      (item ∙ t.0) in
      HeadMove.ours (ap (λ (z : Head). z.inserted_by) (sym same.1) ∙ x.here.own.by) x.here.own.runs
  turn_by (kind.DropPage i s) e d h has t = HeadMove.removed (drop_gone R P Q r floor since row d (e
      ∙ ap (λ (z : ℕ). kind.DropPage z s) t.0 ∙ ap (λ (z : ℕ). kind.DropPage d.item z) t.1))
  turn_by _ e d h has t = absurd t

  pub head_moves : HeadStep R P Q r floor → (d : Doc) (h : Head) → Has P d h → HeadMove R P Q r floor d h
  head_moves (HeadStep.same s) d h has = HeadMove.stays (record { at = s d.item ∙ has.at; serial = has.serial })
  head_moves (HeadStep.placed e k kd free now new rest) d h has = elim (same_or_not e.item d.item) [
    | inl w ↦ absurd (none_some h (sym free ∙ ap (head_of P) (sym w) ∙ has.at))
    | inr w ↦ HeadMove.stays (record { at = rest d.item w ∙ has.at; serial = has.serial })
  ]
    where
      none_some : (k : Head) → None ≡ Some k → ⊥
      none_some k z = cc
  head_moves (HeadStep.turned e k k' old now t rest) d h has = elim (same_or_not e.item d.item) [
    | inl w ↦ turn_by r.kind refl d h has (subst (TurnsHead r.kind) (same_doc P e d k h old has (sym w)).0 t.by)
    | inr w ↦ HeadMove.stays (record { at = rest d.item w ∙ has.at; serial = has.serial })
  ]
  head_moves (HeadStep.freed k each) d h has = elim (each d.item) [
    | inl s ↦ HeadMove.stays (record { at = s ∙ has.at; serial = has.serial })
    | inr f ↦
        let one : f.head ≡ h = some_one f.head h (sym f.was ∙ has.at) in
        HeadMove.removed (record {
          by = subst RemovesDocs (sym k) tt;
          gone = subst (λ (s : ℕ). IsGoneFrom R P floor (doc_at d.item s)) (ap (λ (z : Head). z.serial) one
              ∙ has.serial) f.gone;
        })
  ]
    where
      some_one : (a b : Head) → Some a ≡ Some b → a ≡ b
      some_one a b z = cc

  module _ (line : List ℕ) (Ov Pr : ℕ → ℕ → Type 0) (O : AreOverflows P Ov) (W : ArePrivates P line Pr) where
    same_chain_of : (p : ℕ) → ((qs : List ℕ) → IsChain P p qs → (q : ℕ) → In q qs → Q q ≡ P q) → SameChain P Q p
    same_chain_of p stay qs c = (chain_kept P Q p qs (λ q i. ap (λ (x : Page). x.right) (stay qs c q i)) c, stay qs c)

    -- a head that stays keeps its chains and its vector, where the document isn't removed
    pub keeps_head : (d : Doc) (h : Head) → Has P d h → Has Q d h → (Removed R P r floor d → ⊥) → KeepsHead P Q d h
    keeps_head d h has now alive = elim (overflow_chain_stays R P Q r floor since row touch elsewhere Ov O d h has) [
      | inr gone ↦ absurd (alive gone)
      | inl over ↦ elim (private_chain_stays R P Q r floor since row touch elsewhere line Pr W d h has) [
        | inr gone ↦ absurd (alive gone)
        | inl own ↦ record {
          head = now;
          overflow = same_chain_of h.overflow over;
          private = same_chain_of h.private
              own;
          vector = λ v w. whole_kept P Q h h refl refl refl v w over;
        }
      ]
    ]

    -- where its transaction runs, through another's record
    pub running_keeps : (n : ℕ) → HeadsKept n R P → floor ≤ n → HeadStep R P Q r floor → (d : Doc) (h : Head)
        → Has P d h → fate R h.inserted_by ≡ Running → h.inserted_by ≢ r.xid → KeepsHead P Q d h
    running_keeps n D low H d h has runs other = elim (head_moves H d h has) [
      | HeadMove.stays now ↦ keeps_head d h has now gone
      | HeadMove.ours by now ↦ absurd (other by)
      | HeadMove.marks k ↦
          let m = marks_doc R P Q r floor since row d.item d.serial k in
          let same = same_doc P (doc_at d.item d.serial) d m.head h m.has has refl in
          absurd (committed_running m.number (sym m.inserted ∙ ap (λ (z : Head). fate R z.inserted_by) same.1 ∙ runs))
      | HeadMove.removed x ↦ absurd (gone x)
    ]
      where
        gone : Removed R P r floor d → ⊥
        gone x = runs_alive n R P D d h has runs (dead_more R floor n d low x.gone.dead)

    -- where the document is dead, through a record that removes none
    pub dead_keeps : (n m : ℕ) → HeadsKept n R P → HeadStep R P Q r floor → (d : Doc) (h : Head) → Has P d h
        → IsDead R m d → (RemovesDocs r.kind → ⊥) → KeepsHead P Q d h
    dead_keeps n m D H d h has dead quiet = elim (head_moves H d h has) [
      | HeadMove.stays now ↦ keeps_head d h has now (λ x. quiet x.by)
      | HeadMove.ours by now ↦ absurd (runs_alive (n + m) R P (heads_more n (n + m) R P (omega arith) D) d h has
          (ap (fate R) by ∙ now) (dead_more R m (n + m) d (omega arith) dead))
      | HeadMove.marks k ↦ absurd (not_marked k dead)
      | HeadMove.removed x ↦ absurd (quiet x.by)
    ]
      where
        not_marked : r.kind ≡ kind.MarkDeleted d.item d.serial → IsDead R m d → ⊥
        not_marked k z =
            let x = marks_doc R P Q r floor since row d.item d.serial k in
            let same = same_doc P (doc_at d.item d.serial) d x.head h x.has has refl in
            let ins : fate R h.inserted_by ≡ Committed x.number = ap (λ (y : Head). fate R y.inserted_by) (sym same.1)
            ∙ x.inserted in
            go z x.number ins (subst (λ (y : Head). (y.deleted_by ≡ 0) ⊎ (fate R y.deleted_by ≡ Aborted)) same.1
            x.unmarked)
          where
            go : IsDead R m d → (c : ℕ) → fate R h.inserted_by ≡ Committed c → (h.deleted_by ≡ 0)
                ⊎ (fate R h.deleted_by ≡ Aborted) → ⊥
            go (IsDead.insert_aborted x e p) c ins un =
                committed_aborted c (sym ins ∙ ap (fate R) (D.once h.inserted_by x d d (placed_by_head n R P D d h has)
                p refl).0 ∙ e)
            go (IsDead.delete_counted x j e l p) c ins un =
                elim (D.marks d.item h x has.at (subst (λ (s : ℕ). In (doc_at d.item s) (marked R x)) (sym has.serial)
                p)) [
                  | inl a ↦ committed_aborted j (sym e ∙ a)
                  | inr by ↦ elim un [
                    | inl none ↦ D.mark_xid x d p (sym by ∙ none)
                    | inr a ↦ committed_aborted j (sym e ∙ ap (fate R) (sym by) ∙ a)
                  ]
                ]
