-- What each record does to xids, and to the documents that transactions placed and marked.
use Rattle.std.proofs.Common.{◌≡◌, ◌≢◌, ◌⊎◌, ◌≤◌, ◌==◌, cond, ℕ, suc, List, [], ◌∷◌, ◌++◌, refl, sym, ap, subst, ◌∙◌}
use Rattle.std.proofs.Common.{inl, inr, arith}
use Rattle.page_types.specs.declared.record.Record.{Record}
use Rattle.page_types.specs.declared.record.Kind.{Kind}
use Rattle.page_types.specs.declared.record.Kind.TheVariants as kind
use Rattle.core_state.specs.Log.{Log, Pages, In, fate, fate_with, ended, xid_behind, next_xid, serial_behind}
use Rattle.core_state.specs.Log.{next_serial, commits}
use Rattle.core_state.specs.Documents.{Doc, IsDead, placed_with, placed, marked_with, marked, doc_at}
use Rattle.core_state.specs.Legal.{RuleHolds}
use Rattle.core_state.specs.Inner.XidsDrawn.{XidsDrawn}
use Rattle.core_state.specs.declared.answers.Fate.{Fate}
use Rattle.core_state.specs.declared.answers.Fate.TheVariants.{Unused, Running, Aborted, Committed}
use Rattle.core_state.proofs.RunningOnes.{same_or_other, on_same, on_other}
use Rattle.core_state.proofs.PageLists.{in_front, in_back, in_either}

-- a document more, where the two numbers are one
added_on : (x y : ℕ) (d z : Doc) (ds : List Doc) → In d ds → In d (cond (x == y) (ds ++ z ∷ []) ds)
added_on x y d z ds i = elim (same_or_other x y) [
  | inl e ↦ subst (In d) (sym (on_same x y (ds ++ z ∷ []) ds e)) (in_front d ds (z ∷ []) i)
  | inr n ↦ subst (In d) (sym (on_other x y (ds ++ z ∷ []) ds n)) i
]

added_new : (x : ℕ) (z : Doc) (ds : List Doc) → In z (cond (x == x) (ds ++ z ∷ []) ds)
added_new x z ds = subst (In z) (sym (on_same x x (ds ++ z ∷ []) ds refl)) (in_back z ds (z ∷ []) (inl refl))

added_back : (x y : ℕ) (d z : Doc) (ds : List Doc) → In d (cond (x == y) (ds ++ z ∷ []) ds) → In d ds
    ⊎ ((d ≡ z) × (x ≡ y))
added_back x y d z ds i = elim (same_or_other x y) [
  | inl e ↦ elim (in_either d ds (z ∷ []) (subst (In d) (on_same x y (ds ++ z ∷ []) ds e) i)) [
    | inl j ↦ inl j
    | inr (inl s) ↦ inr (s, e)
    | inr (inr n) ↦ absurd n
  ]
  | inr n ↦ inl (subst (In d) (on_other x y (ds ++ z ∷ []) ds n) i)
]

placed_kept : (k : Kind) (xid x : ℕ) (ds : List Doc) (d : Doc) → In d ds → In d (placed_with k xid x ds)
placed_kept (kind.PlaceHead i s) xid x ds d m = added_on xid x d (doc_at i s) ds m
placed_kept _ xid x ds d m = m

placed_from : (k : Kind) (xid x : ℕ) (ds : List Doc) (d : Doc) → In d (placed_with k xid x ds) → In d ds
    ⊎ ((k ≡ kind.PlaceHead d.item d.serial) × (xid ≡ x))
placed_from (kind.PlaceHead i s) xid x ds d m = elim (added_back xid x d (doc_at i s) ds m) [
  | inl old ↦ inl old
  | inr new ↦ inr (ap (λ (z : Doc). kind.PlaceHead z.item z.serial) (sym new.0), new.1)
]
placed_from _ xid x ds d m = inl m

marked_kept : (k : Kind) (xid x : ℕ) (ds : List Doc) (d : Doc) → In d ds → In d (marked_with k xid x ds)
marked_kept (kind.MarkDeleted i s) xid x ds d m = added_on xid x d (doc_at i s) ds m
marked_kept _ xid x ds d m = m

marked_from : (k : Kind) (xid x : ℕ) (ds : List Doc) (d : Doc) → In d (marked_with k xid x ds) → In d ds
    ⊎ ((k ≡ kind.MarkDeleted d.item d.serial) × (xid ≡ x))
marked_from (kind.MarkDeleted i s) xid x ds d m = elim (added_back xid x d (doc_at i s) ds m) [
  | inl old ↦ inl old
  | inr new ↦ inr (ap (λ (z : Doc). kind.MarkDeleted z.item z.serial) (sym new.0), new.1)
]
marked_from _ xid x ds d m = inl m

serial_more : (k : Kind) (s : ℕ) → s ≤ serial_behind k s
serial_more (kind.PlaceHead i n) s = omega arith
serial_more _ s = omega arith

module _ (r : Record) (R : Log) where
  pub placed_on : (x : ℕ) (d : Doc) → In d (placed R x) → In d (placed (r ∷ R) x)
  placed_on x d m = placed_kept r.kind r.xid x (placed R x) d m

  pub placed_new : (i s : ℕ) → r.kind ≡ kind.PlaceHead i s → In (doc_at i s) (placed (r ∷ R) r.xid)
  placed_new i s e = subst (λ (k : Kind). In (doc_at i s) (placed_with k r.xid r.xid (placed R r.xid))) (sym e)
      (added_new r.xid (doc_at i s) (placed R r.xid))

  pub placed_back : (x : ℕ) (d : Doc) → In d (placed (r ∷ R) x) → In d (placed R x)
      ⊎ ((r.kind ≡ kind.PlaceHead d.item d.serial) × (r.xid ≡ x))
  placed_back x d m = placed_from r.kind r.xid x (placed R x) d m

  pub marked_on : (x : ℕ) (d : Doc) → In d (marked R x) → In d (marked (r ∷ R) x)
  marked_on x d m = marked_kept r.kind r.xid x (marked R x) d m

  pub marked_new : (i s : ℕ) → r.kind ≡ kind.MarkDeleted i s → In (doc_at i s) (marked (r ∷ R) r.xid)
  marked_new i s e = subst (λ (k : Kind). In (doc_at i s) (marked_with k r.xid r.xid (marked R r.xid))) (sym e)
      (added_new r.xid (doc_at i s) (marked R r.xid))

  pub marked_back : (x : ℕ) (d : Doc) → In d (marked (r ∷ R) x) → In d (marked R x)
      ⊎ ((r.kind ≡ kind.MarkDeleted d.item d.serial) × (r.xid ≡ x))
  marked_back x d m = marked_from r.kind r.xid x (marked R x) d m

  pub serial_grows : next_serial R ≤ next_serial (r ∷ R)
  serial_grows = serial_more r.kind (next_serial R)

  pub serial_next : (i s : ℕ) → r.kind ≡ kind.PlaceHead i s → next_serial (r ∷ R) ≡ suc (next_serial R)
  serial_next i s e = ap (λ (k : Kind). serial_behind k (next_serial R)) e

-- the fate with which a record ends a transaction
abbrev pub EndsWith : Record → Fate → Type 0
EndsWith r f = (f ≡ Aborted) ⊎ ((n : ℕ) × (f ≡ Committed n) × (r.kind ≡ kind.Commit n))

-- what a record does to xids: nothing, or one begins, one ends, or all that run are aborted
pub data FateStep (R : Log) (r : Record) : Type 0 where
  same : ((x : ℕ) → fate (r ∷ R) x ≡ fate R x) → next_xid (r ∷ R) ≡ next_xid R → FateStep R r
  begins : r.xid ≡ next_xid R → ((x : ℕ) → fate (r ∷ R) x ≡ cond (r.xid == x) Running (fate R x))
      → next_xid (r ∷ R) ≡ suc (next_xid R) → FateStep R r
  ends : (f : Fate) → EndsWith r f → fate R r.xid ≡ Running → ((x : ℕ) → fate (r ∷ R) x ≡ cond (r.xid == x) f
      (fate R x)) → next_xid (r ∷ R) ≡ next_xid R
      → FateStep R r
  all_end : r.kind ≡ kind.Abort → r.xid ≡ 0 → ((x : ℕ) → fate (r ∷ R) x ≡ ended (fate R x))
      → next_xid (r ∷ R) ≡ next_xid R → FateStep R r

module _ (R : Log) (P Q : Pages) (r : Record) (floor since : ℕ) (D : XidsDrawn R) where
  -- the fate by a kind that is known
  by_kind : (k : Kind) (x : ℕ) → r.kind ≡ k → fate (r ∷ R) x ≡ fate_with k r.xid x (fate R x)
  by_kind k x e = ap (λ (z : Kind). fate_with z r.xid x (fate R x)) e

  next_by : (k : Kind) → r.kind ≡ k → next_xid (r ∷ R) ≡ xid_behind k (next_xid R)
  next_by k e = ap (λ (z : Kind). xid_behind z (next_xid R)) e

  running_unused : Running ≡ Unused → ⊥
  running_unused e = cc

  not_zero : fate R r.xid ≡ Running → r.xid ≢ 0
  not_zero runs e = running_unused (sym runs ∙ ap (fate R) e ∙ D.none)

  aborts : r.kind ≡ kind.Abort → (fate R r.xid ≡ Running) ⊎ (r.xid ≡ 0) → FateStep R r
  aborts e (inl runs) = FateStep.ends Aborted (inl refl) runs (λ x. by_kind kind.Abort x e
      ∙ on_other r.xid 0 (ended (fate R x)) (cond (r.xid == x) Aborted (fate R x)) (not_zero runs))
      (next_by kind.Abort e)
  aborts e (inr all) = FateStep.all_end e all (λ x. by_kind kind.Abort x e ∙ on_same r.xid 0 (ended (fate R x))
      (cond (r.xid == x) Aborted (fate R x)) all) (next_by kind.Abort e)

  pub fate_step : RuleHolds R P Q r floor since → FateStep R r
  fate_step (RuleHolds.create v) = FateStep.same (λ x. by_kind kind.Create x v.here.kind_is) (next_by kind.Create
      v.here.kind_is)
  fate_step (RuleHolds.begin v) = FateStep.begins v.here.next (λ x. by_kind kind.Begin x v.here.kind_is)
      (next_by kind.Begin v.here.kind_is)
  fate_step (RuleHolds.commit v) =
      let k = kind.Commit (suc (commits R)) in
      FateStep.ends (Committed (suc (commits R))) (inr (suc (commits R), refl, v.here.kind_is)) v.here.runs
      (λ x. by_kind k x v.here.kind_is) (next_by k v.here.kind_is)
  fate_step (RuleHolds.abort v) = aborts v.here.kind_is v.here.runs
  fate_step (RuleHolds.checkpoint v) = FateStep.same (λ x. by_kind (kind.Checkpoint v.here.redo) x v.here.kind_is)
      (next_by (kind.Checkpoint v.here.redo) v.here.kind_is)
  fate_step (RuleHolds.place_head v) = let k = kind.PlaceHead v.here.doc.item v.here.doc.serial in FateStep.same
      (λ x. by_kind k x v.here.kind_is) (next_by k v.here.kind_is)
  fate_step (RuleHolds.put_overflow v) = let k = kind.PutOverflow v.here.doc.item v.here.doc.serial in FateStep.same
      (λ x. by_kind k x v.here.kind_is) (next_by k v.here.kind_is)
  fate_step (RuleHolds.mark_deleted v) = let k = kind.MarkDeleted v.here.doc.item v.here.doc.serial in FateStep.same
      (λ x. by_kind k x v.here.kind_is) (next_by k v.here.kind_is)
  fate_step (RuleHolds.put_pending v) = let k = kind.PutPending v.here.doc.item v.here.doc.serial in FateStep.same
      (λ x. by_kind k x v.here.kind_is) (next_by k v.here.kind_is)
  fate_step (RuleHolds.add_row v) = let k = kind.AddRow v.here.doc.item v.here.doc.serial in FateStep.same
      (λ x. by_kind k x v.here.kind_is) (next_by k v.here.kind_is)
  fate_step (RuleHolds.link_pending v) = let k = kind.LinkPending v.here.doc.item v.here.doc.serial in FateStep.same
      (λ x. by_kind k x v.here.kind_is) (next_by k v.here.kind_is)
  fate_step (RuleHolds.shift v) = FateStep.same (λ x. by_kind kind.Shift x v.here.kind_is)
      (next_by kind.Shift v.here.kind_is)
  fate_step (RuleHolds.add_items v) = FateStep.same (λ x. by_kind kind.AddItems x v.here.kind_is) (next_by kind.AddItems
      v.here.kind_is)
  fate_step (RuleHolds.make_tree v) = FateStep.same (λ x. by_kind kind.MakeTree x v.here.kind_is) (next_by kind.MakeTree
      v.here.kind_is)
  fate_step (RuleHolds.add_postings v) = FateStep.same (λ x. by_kind kind.AddPostings x v.here.kind_is)
      (next_by kind.AddPostings v.here.kind_is)
  fate_step (RuleHolds.grow_root v) = FateStep.same (λ x. by_kind kind.GrowRoot x v.here.kind_is) (next_by kind.GrowRoot
      v.here.kind_is)
  fate_step (RuleHolds.split v) = FateStep.same (λ x. by_kind kind.Split x v.here.kind_is)
      (next_by kind.Split v.here.kind_is)
  fate_step (RuleHolds.remove_items v) = FateStep.same (λ x. by_kind kind.RemoveItems x v.here.kind_is)
      (next_by kind.RemoveItems v.here.kind_is)
  fate_step (RuleHolds.delete_post v) = FateStep.same (λ x. by_kind kind.DeletePost x v.here.kind_is)
      (next_by kind.DeletePost v.here.kind_is)
  fate_step (RuleHolds.drop_page v) = let k = kind.DropPage v.here.doc.item v.here.doc.serial in FateStep.same
      (λ x. by_kind k x v.here.kind_is) (next_by k v.here.kind_is)
  fate_step (RuleHolds.free_slots v) = FateStep.same (λ x. by_kind kind.FreeSlots x v.here.kind_is)
      (next_by kind.FreeSlots v.here.kind_is)

-- a transaction has ended
pub data HasEnded : Fate → Type 0 where
  aborted : HasEnded Aborted
  committed : (n : ℕ) → HasEnded (Committed n)

ended_not_running : (f : Fate) → HasEnded f → f ≢ Running
ended_not_running f HasEnded.aborted e = cc
ended_not_running f (HasEnded.committed n) e = cc

ended_not_unused : (f : Fate) → HasEnded f → f ≢ Unused
ended_not_unused f HasEnded.aborted e = cc
ended_not_unused f (HasEnded.committed n) e = cc

ended_same : (f : Fate) → HasEnded f → ended f ≡ f
ended_same f HasEnded.aborted = refl
ended_same f (HasEnded.committed n) = refl

-- a fate with which a transaction ends isn't that of a running one
end_not_running : (r : Record) (f : Fate) → EndsWith r f → f ≢ Running
end_not_running r f (inl a) e = let g : Aborted ≡ Running = sym a ∙ e in cc
end_not_running r f (inr c) e = let g : Committed c.0 ≡ Running = sym c.1 ∙ e in cc

ended_running : (f : Fate) → ended f ≡ Running → ⊥
ended_running Unused e = cc
ended_running Running e = cc
ended_running Aborted e = cc
ended_running (Committed m) e = cc

running_committed : (m : ℕ) → Running ≡ Committed m → ⊥
running_committed m e = cc

end_commits : (r : Record) (f : Fate) (m : ℕ) → EndsWith r f → f ≡ Committed m → r.kind ≡ kind.Commit m
end_commits r f m (inl a) e = let g : Aborted ≡ Committed m = sym a ∙ e in absurd (cc)
end_commits r f m (inr c) e =
    let g : Committed c.0 ≡ Committed m = sym c.1 ∙ e in
    let n : c.0 ≡ m = cc in
    c.2 ∙ ap (λ (z : ℕ). kind.Commit z) n

ended_commits : (f : Fate) (m : ℕ) → ended f ≡ Committed m → f ≡ Committed m
ended_commits Unused m e = e
ended_commits Running m e = absurd (cc)
ended_commits Aborted m e = e
ended_commits (Committed k) m e = e

run_unused : Running ≡ Unused → ⊥
run_unused e = cc

module _ (R : Log) (r : Record) (D : XidsDrawn R) where
  -- who has ended stays so
  pub ends_stay : FateStep R r → (x : ℕ) (f : Fate) → fate R x ≡ f → HasEnded f → fate (r ∷ R) x ≡ f
  ends_stay (FateStep.same s n) x f e h = s x ∙ e
  ends_stay (FateStep.begins i s n) x f e h = elim (same_or_other r.xid x) [
    | inl w ↦ absurd (ended_not_unused f h (sym e ∙ D.fresh x (subst (λ (z : ℕ). next_xid R ≤ z) (sym i
        ∙ w) (omega arith))))
    | inr w ↦ s x ∙ on_other r.xid x Running (fate R x) w ∙ e
  ]
  ends_stay (FateStep.ends g k runs s n) x f e h = elim (same_or_other r.xid x) [
    | inl w ↦ absurd (ended_not_running f h (sym e ∙ ap (fate R) (sym w) ∙ runs))
    | inr w ↦ s x ∙ on_other r.xid x g (fate R x) w ∙ e
  ]
  ends_stay (FateStep.all_end k z s n) x f e h = s x ∙ ap ended e ∙ ended_same f h

  -- who runs ran, or is the one that begins
  pub runs_back : FateStep R r → (x : ℕ) → fate (r ∷ R) x ≡ Running → (fate R x ≡ Running) ⊎ (x ≡ next_xid R)
  runs_back (FateStep.same s n) x e = inl (sym (s x) ∙ e)
  runs_back (FateStep.begins i s n) x e = elim (same_or_other r.xid x) [
    | inl w ↦ inr (sym w ∙ i)
    | inr w ↦ inl (sym (on_other r.xid x Running (fate R x) w) ∙ sym (s x) ∙ e)
  ]
  runs_back (FateStep.ends g k runs s n) x e = elim (same_or_other r.xid x) [
    | inl w ↦ absurd (end_not_running r g k (sym (on_same r.xid x g (fate R x) w) ∙ sym (s x) ∙ e))
    | inr w ↦ inl (sym (on_other r.xid x g (fate R x) w) ∙ sym (s x) ∙ e)
  ]
  runs_back (FateStep.all_end k z s n) x e = absurd (ended_running (fate R x) (sym (s x) ∙ e))

  -- who runs goes on through a record of another that doesn't end all
  pub runs_on : FateStep R r → (x : ℕ) → fate R x ≡ Running → r.xid ≢ x → (r.kind ≡ kind.Abort → r.xid ≢ 0)
      → fate (r ∷ R) x ≡ Running
  runs_on (FateStep.same s n) x e off all = s x ∙ e
  runs_on (FateStep.begins i s n) x e off all = s x ∙ on_other r.xid x Running (fate R x) off ∙ e
  runs_on (FateStep.ends g k runs s n) x e off all = s x ∙ on_other r.xid x g (fate R x) off ∙ e
  runs_on (FateStep.all_end k z s n) x e off all = absurd (all k z)

  -- who has committed had, or does by the record
  pub commits_back : FateStep R r → (x m : ℕ) → fate (r ∷ R) x ≡ Committed m → (fate R x ≡ Committed m)
      ⊎ ((r.kind ≡ kind.Commit m) × (r.xid ≡ x))
  commits_back (FateStep.same s n) x m e = inl (sym (s x) ∙ e)
  commits_back (FateStep.begins i s n) x m e = elim (same_or_other r.xid x) [
    | inl w ↦ absurd (running_committed m (sym (on_same r.xid x Running (fate R x) w) ∙ sym (s x) ∙ e))
    | inr w ↦ inl (sym (on_other r.xid x Running (fate R x) w) ∙ sym (s x) ∙ e)
  ]
  commits_back (FateStep.ends g k runs s n) x m e = elim (same_or_other r.xid x) [
    | inl w ↦ inr (end_commits r g m k (sym (on_same r.xid x g (fate R x) w) ∙ sym (s x) ∙ e), w)
    | inr w ↦ inl (sym (on_other r.xid x g (fate R x) w) ∙ sym (s x) ∙ e)
  ]
  commits_back (FateStep.all_end k z s n) x m e = inl (ended_commits (fate R x) m (sym (s x) ∙ e))

  -- the xids that weren't drawn are unused after it too
  pub drawn_step : FateStep R r → XidsDrawn (r ∷ R)
  drawn_step (FateStep.same s n) = record {
    first = subst (λ (z : ℕ). 1 ≤ z) (sym n) D.first;
    fresh = λ x l. s x ∙ D.fresh x (subst (λ (z : ℕ). z ≤ x) n l);
    none = s 0 ∙ D.none;
  }
  drawn_step (FateStep.begins i s n) = record {
    first = subst (λ (z : ℕ). 1 ≤ z) (sym n) (omega arith);
    fresh = λ x l.
        let m : suc (next_xid R) ≤ x = subst (λ (z : ℕ). z ≤ x) n l in
        s x ∙ on_other r.xid x Running (fate R x) (λ w. beyond r.xid (next_xid R) x i m w)
        ∙ D.fresh x (omega (arith, m));
    none = s 0 ∙ on_other r.xid 0 Running (fate R 0) (λ w. beyond_none r.xid (next_xid R) i D.first w) ∙ D.none;
  }
    where
      beyond : (a b x : ℕ) → a ≡ b → suc b ≤ x → a ≡ x → ⊥
      beyond a b x e l f = omega (arith, e, l, f)

      beyond_none : (a b : ℕ) → a ≡ b → 1 ≤ b → a ≡ 0 → ⊥
      beyond_none a b e l f = omega (arith, e, l, f)
  drawn_step (FateStep.ends g k runs s n) = record {
    first = subst (λ (z : ℕ). 1 ≤ z) (sym n) D.first;
    fresh = λ x l. still x (D.fresh x (subst (λ (z : ℕ). z ≤ x) n l));
    none = still 0 D.none;
  }
    where
      still : (x : ℕ) → fate R x ≡ Unused → fate (r ∷ R) x ≡ Unused
      still x u = s x ∙ on_other r.xid x g (fate R x) (λ w. run_unused (sym runs ∙ ap (fate R) w ∙ u)) ∙ u
  drawn_step (FateStep.all_end k z s n) = record {
    first = subst (λ (z : ℕ). 1 ≤ z) (sym n) D.first;
    fresh = λ x l. s x ∙ ap ended (D.fresh x (subst (λ (z : ℕ). z ≤ x) n l));
    none = s 0 ∙ ap ended D.none;
  }

  -- what is dead stays dead
  pub dead_stays : FateStep R r → (floor : ℕ) (d : Doc) → IsDead R floor d → IsDead (r ∷ R) floor d
  dead_stays F floor d (IsDead.insert_aborted x e p) = IsDead.insert_aborted x (ends_stay F x Aborted e
      HasEnded.aborted) (placed_on r R x d p)
  dead_stays F floor d (IsDead.delete_counted x k e l p) = IsDead.delete_counted x k (ends_stay F x (Committed k) e
      (HasEnded.committed k)) l (marked_on r R x d p)

-- a larger floor has more dead
pub dead_more : (R : Log) (n m : ℕ) (d : Doc) → n ≤ m → IsDead R n d → IsDead R m d
dead_more R n m d le (IsDead.insert_aborted x e p) = IsDead.insert_aborted x e p
dead_more R n m d le (IsDead.delete_counted x k e l p) = IsDead.delete_counted x k e (omega (arith, l, le)) p
