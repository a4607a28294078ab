-- The documents that were placed, and the commits that deleted them, after each record of a legal log.
use Rattle.std.proofs.Common.{◌≡◌, ◌≢◌, ◌<◌, ◌+◌, ◌-◌, ℕ, zero, suc, List, [], ◌∷◌, ◌++◌, length, get_or, map, refl}
use Rattle.std.proofs.Common.{sym, ap, subst, ◌∙◌, inl, inr, arith}
use Rattle.std.specs.Prelude.{Option, Some, None, ◌↔◌}
use Rattle.std.specs.List.{slice_get}
use Rattle.std.proofs.lemmas.List.{length-append, get_or_append_left}
use Rattle.page_types.specs.declared.page.Name.{Name}
use Rattle.page_types.specs.declared.record.Record.{Record}
use Rattle.page_types.specs.declared.record.Kind.{Kind}
use Rattle.page_types.specs.declared.record.Kind.TheVariants as kind
use Rattle.core_state.specs.Log.{Log, Pages, In, changed, fate, next_serial, serial_behind, commits, commits_with}
use Rattle.core_state.specs.Log.{fate_with}
use Rattle.core_state.specs.Documents.{Doc, page_of, name_of, placed, marked, doc_at}
use Rattle.core_state.specs.Legal.{RuleHolds, RecordsAreValid}
use Rattle.core_state.specs.Lives.{IsLife, IsHeapPage, first_end, with_ends, life_by, life_in}
use Rattle.core_state.specs.States.{StateValue, fate_of, transaction, committed, placed_head, noted, done_by, with_page}
use Rattle.core_state.specs.States.{stepped, step_of, state_of, life_of}
use Rattle.core_state.specs.Inner.HeadsKept.{HeadsKept}
use Rattle.core_state.specs.Inner.LivesKept.{IsPlacedAt, IsEnd, LivesKept}
use Rattle.core_state.specs.declared.answers.Fate.{Fate}
use Rattle.core_state.specs.declared.answers.Fate.TheVariants.{Running, Committed}
use Rattle.core_state.specs.declared.lives.Placed.{Placed}
use Rattle.core_state.specs.declared.transactions.Transaction.{Transaction}
use Rattle.core_state.proofs.FateSteps.{FateStep, HasEnded, fate_step, ends_stay, commits_back, placed_on, placed_new}
use Rattle.core_state.proofs.FateSteps.{placed_back, marked_on, marked_back}
use Rattle.core_state.proofs.HeadsFollow.{marks_doc}
use Rattle.core_state.proofs.SteadyEnds.{heads_kept}
use Rattle.core_state.proofs.RisingSearch.{in_with, in_still, in_back}
use Rattle.core_state.proofs.RunningOnes.{on_same}
use Rattle.core_state.proofs.Following.{Kept, kept}
use Rattle.core_state.proofs.DocumentLives.{AnEnd, an_end, length-with_ends, suc_end, life_told}
use Rattle.core_state.proofs.LifeCases.{IsOther, KindCase, kind_case, other_places, other_commits, other_serial}
use Rattle.core_state.proofs.LifeCases.{SameLists, stepped_same, Placing, placing_of, Committing, committing_of}
use Rattle.core_state.proofs.LifeCases.{runs_of, get_front, get_last, get_back, get_within, in_named, named_in}
use Rattle.core_state.proofs.LifeCases.{running_committed}

-- a document as transaction xid placed it
abbrev placed_as : ℕ → ℕ → Placed
placed_as item xid = record { item = item; xid = xid }

module _ (R : Log) (P Q : Pages) (r : Record) (floor since n : ℕ) (D : HeadsKept n R P)
    (row : RuleHolds R P Q r floor since) (ps : List Placed) (es : List ℕ) (L : LivesKept R ps es) where
  F : FateStep R r
  F = fate_step R P Q r floor since D.xids row

  commit_stays : (y m : ℕ) → fate R y ≡ Committed m → fate (r ∷ R) y ≡ Committed m
  commit_stays y m e = ends_stay R r D.xids F y (Committed m) e (HasEnded.committed m)

  -- who marked a document and has committed had marked it before
  marked_before : (y m : ℕ) (d : Doc) → fate R y ≡ Committed m → In d (marked (r ∷ R) y) → In d (marked R y)
  marked_before y m d e i = elim (marked_back r R y d i) [
    | inl old ↦ old
    | inr new ↦
        let runs = (marks_doc R P Q r floor since row d.item d.serial new.0).runs in
        absurd (running_committed m (sym runs ∙ ap (fate R) new.1 ∙ e))
  ]

  -- an end stays where the record commits nobody who has marked the document
  end_stays : (d : Doc) (e : ℕ)
      → ((y m : ℕ) → r.kind ≡ kind.Commit m → r.xid ≡ y → In d (marked (r ∷ R) y) → ⊥)
      → IsEnd R d e → IsEnd (r ∷ R) d e
  end_stays d e not w = record {
    none = λ z y m c i. elim (commits_back R r D.xids F y m c) [
      | inl old ↦ w.none z y m old (marked_before y m d old i)
      | inr new ↦ not y m new.0 new.1 i
    ];
    some = λ off. let o = w.some off in (o.0, marked_on r R o.0 d o.1, commit_stays o.0 e o.2);
  }

  other_lives : IsOther r.kind → LivesKept (r ∷ R) ps es
  other_lives o = record {
    size = L.size ∙ sym (other_serial r.kind (next_serial R) o);
    ends = L.ends;
    there = λ x d i. elim (placed_back r R x d i) [
      | inl old ↦ L.there x d old
      | inr new ↦ absurd (other_places r.kind d.item d.serial o new.0)
    ];
    placed_by = λ k p at. placed_on r R p.xid (doc_at p.item (suc k)) (L.placed_by k p at);
    ended = λ k p at. end_stays (doc_at p.item (suc k)) (get_or es k 0)
        (λ y m c x i. other_commits r.kind m o c) (L.ended k p at);
  }

  -- a head is placed
  module _ (i s : ℕ) (e : r.kind ≡ kind.PlaceHead i s) (next : s ≡ next_serial R) where
    abbrev q : Placed
    q = record { item = i; xid = r.xid }

    place_commits : (m : ℕ) → r.kind ≡ kind.Commit m → ⊥
    place_commits m c = let both : kind.PlaceHead i s ≡ kind.Commit m = sym e ∙ c in cc

    last : s ≡ suc (length ps)
    last = next ∙ sym L.size

    new_there : (x : ℕ) (d : Doc) → (r.kind ≡ kind.PlaceHead d.item d.serial) × (r.xid ≡ x)
        → IsPlacedAt (ps ++ q ∷ []) d x
    new_there x d w =
        let both : kind.PlaceHead i s ≡ kind.PlaceHead d.item d.serial = sym e ∙ w.0 in
        let item : i ≡ d.item = cc in
        let serial : s ≡ d.serial = cc in
        record {
          place = length ps;
          serial = sym serial ∙ last;
          at = get_last ps q ∙ ap (λ (j : ℕ). Some (placed_as j r.xid)) item
              ∙ ap (λ (y : ℕ). Some (placed_as d.item y)) w.1;
        }

    old_there : (x : ℕ) (d : Doc) → IsPlacedAt ps d x → IsPlacedAt (ps ++ q ∷ []) d x
    old_there x d w = record {
      place = w.place;
      serial = w.serial;
      at = get_front ps q w.place (record { item = d.item; xid = x }) w.at;
    }

    -- nobody had marked the new document
    fresh : (y : ℕ) → In (doc_at i (suc (length ps))) (marked R y) → ⊥
    fresh y m =
        let w = D.marked_committed y (doc_at i (suc (length ps))) m in
        let l : suc (length ps) < next_serial R = D.serials w.0 (doc_at i (suc (length ps))) w.2 in
        omega (arith, l, L.size)

    new_end : IsEnd (r ∷ R) (doc_at i (suc (length ps))) 0
    new_end = end_stays (doc_at i (suc (length ps))) 0 (λ y m c x j. place_commits m c) (record {
      none = λ z y m c j. fresh y j;
      some = λ off. absurd (off refl);
    })

    placed_lives : LivesKept (r ∷ R) (ps ++ q ∷ []) (es ++ 0 ∷ [])
    placed_lives = record {
      size = ap suc (length-append ps (q ∷ [])) ∙ one_more ∙ sym (ap (λ (k : Kind). serial_behind k (next_serial R)) e);
      ends = length-append es (0 ∷ []) ∙ ap (λ (z : ℕ). z + 1) L.ends ∙ sym (length-append ps (q ∷ []));
      there = λ x d m. elim (placed_back r R x d m) [
        | inl old ↦ old_there x d (L.there x d old)
        | inr new ↦ new_there x d new
      ];
      placed_by = λ k p at. elim (get_back ps q k p at) [
        | inl old ↦ placed_on r R p.xid (doc_at p.item (suc k)) (L.placed_by k p old)
        | inr new ↦ new_placed k p new.0 new.1
      ];
      ended = λ k p at. elim (get_back ps q k p at) [
        | inl old ↦ old_ended k p old
        | inr new ↦ new_ended k p new.0 new.1
      ];
    }
      where
        one_more : suc (length ps + 1) ≡ suc (next_serial R)
        one_more = omega (arith, L.size)

        new_placed : (k : ℕ) (p : Placed) → k ≡ length ps → q ≡ p → In (doc_at p.item (suc k)) (placed (r ∷ R) p.xid)
        new_placed k p f g =
            let at : In (doc_at i s) (placed (r ∷ R) r.xid) = placed_new r R i s e in
            let here : In (doc_at i (suc k)) (placed (r ∷ R) r.xid) = subst
            (λ (z : ℕ). In (doc_at i z) (placed (r ∷ R) r.xid)) (last ∙ ap suc (sym f)) at in
            subst (λ (z : Placed). In (doc_at z.item (suc k)) (placed (r ∷ R) z.xid)) g here

        old_ended : (k : ℕ) (p : Placed) → slice_get ps k ≡ Some p
            → IsEnd (r ∷ R) (doc_at p.item (suc k)) (get_or (es ++ 0 ∷ []) k 0)
        old_ended k p old =
            let l : k < length es = omega (arith, get_within ps k p old, L.ends) in
            subst (IsEnd (r ∷ R) (doc_at p.item (suc k))) (sym (get_or_append_left es (0 ∷ []) 0 k l))
            (end_stays (doc_at p.item (suc k)) (get_or es k 0) (λ y m c x j. place_commits m c) (L.ended k p old))

        new_ended : (k : ℕ) (p : Placed) → k ≡ length ps → q ≡ p
            → IsEnd (r ∷ R) (doc_at p.item (suc k)) (get_or (es ++ 0 ∷ []) k 0)
        new_ended k p f g =
            let zero_is : get_or (es ++ 0 ∷ []) k 0 ≡ 0 = last_is es k (f ∙ sym L.ends) in
            subst (IsEnd (r ∷ R) (doc_at p.item (suc k))) (sym zero_is)
            (subst (λ (z : Placed). IsEnd (r ∷ R) (doc_at z.item (suc k)) 0) g
            (subst (λ (j : ℕ). IsEnd (r ∷ R) (doc_at i (suc j)) 0) (sym f) new_end))
          where
            last_is : (xs : List ℕ) (j : ℕ) → j ≡ length xs → get_or (xs ++ 0 ∷ []) j 0 ≡ 0
            last_is [] j h = ap (λ (z : ℕ). get_or (0 ∷ []) z 0) h
            last_is (x ∷ xs) zero h = absurd (omega (arith, h))
            last_is (x ∷ xs) (suc j) h = last_is xs j (omega (arith, h))

  -- a transaction commits
  module _ (c : ℕ) (e : r.kind ≡ kind.Commit c) (some : c ≢ 0) (runs : fate R r.xid ≡ Running)
      (now : fate (r ∷ R) r.xid ≡ Committed c) where
    commit_places : (i s : ℕ) → r.kind ≡ kind.PlaceHead i s → ⊥
    commit_places i s p = let both : kind.Commit c ≡ kind.PlaceHead i s = sym e ∙ p in cc

    commit_marks : (i s : ℕ) → r.kind ≡ kind.MarkDeleted i s → ⊥
    commit_marks i s p = let both : kind.Commit c ≡ kind.MarkDeleted i s = sym e ∙ p in cc

    same_marked : (y : ℕ) (d : Doc) → In d (marked (r ∷ R) y) → In d (marked R y)
    same_marked y d m = elim (marked_back r R y d m)
        [ inl old ↦ old | inr new ↦ absurd (commit_marks d.item d.serial new.0) ]

    -- the document was marked by the transaction
    marked_end : (d : Doc) (old new : ℕ) → IsEnd R d old → In d (marked R r.xid) → new ≡ first_end c old
        → IsEnd (r ∷ R) d new
    marked_end d zero new w m f = record {
      none = λ z y k g i. absurd (some (sym f ∙ z));
      some = λ off. (r.xid, marked_on r R r.xid d m, now ∙ ap Committed (sym f));
    }
    marked_end d (suc old) new w m f =
        let o = w.some (λ z. cc) in
        let same : new ≡ suc old = f ∙ suc_end c old in
        record {
          none = λ z. absurd (nonzero old new same z);
          some = λ off. (o.0, marked_on r R o.0 d o.1, commit_stays o.0 new (o.2 ∙ ap Committed (sym same)));
        }
      where
        nonzero : (a b : ℕ) → b ≡ suc a → b ≡ 0 → ⊥
        nonzero a b g z = omega (arith, g, z)

    commit_lives : LivesKept (r ∷ R) ps (with_ends c ps (map name_of (marked R r.xid)) es)
    commit_lives = record {
      size = L.size ∙ sym (ap (λ (k : Kind). serial_behind k (next_serial R)) e);
      ends = length-with_ends c ps (map name_of (marked R r.xid)) es ∙ L.ends;
      there = λ x d i. elim (placed_back r R x d i) [
        | inl old ↦ L.there x d old
        | inr new ↦ absurd (commit_places d.item d.serial new.0)
      ];
      placed_by = λ k p at. placed_on r R p.xid (doc_at p.item (suc k)) (L.placed_by k p at);
      ended = λ k p at. ended_by k p at;
    }
      where
        ended_by : (k : ℕ) (p : Placed) → slice_get ps k ≡ Some p
            → IsEnd (r ∷ R) (doc_at p.item (suc k)) (get_or (with_ends c ps (map name_of (marked R r.xid)) es) k 0)
        ended_by k p at =
            let d = doc_at p.item (suc k) in
            let l : k < length es = omega (arith, get_within ps k p at, L.ends) in
            let a : AnEnd c (map name_of (marked R r.xid)) es (with_ends c ps (map name_of (marked R r.xid)) es) k p =
            an_end c ps (map name_of (marked R r.xid)) es k p at l in
            elim a [
              | inl here ↦ marked_end d (get_or es k 0) _ (L.ended k p at) (named_in d (marked R r.xid) here.0) here.1
              | inr off ↦ subst (IsEnd (r ∷ R) d) (sym off.1)
                  (end_stays d (get_or es k 0)
                  (λ y m g x i. off.0 (in_named d (marked R r.xid)
                  (subst (λ (z : ℕ). In d (marked R z)) (sym x) (same_marked y d i)))) (L.ended k p at))
            ]

lists_of : (R : Log) (s : StateValue) (ps qs : List Placed) (es fs : List ℕ) → ps ≡ qs → es ≡ fs → LivesKept R qs fs
    → LivesKept R ps es
lists_of R s ps qs es fs e f k =
    subst (λ (z : List Placed). LivesKept R z es) (sym e) (subst (LivesKept R qs) (sym f) k)

-- the heap pages say of the log
abbrev HeapsTold : Log → List ℕ → Type 0
HeapsTold R qs = (p : ℕ) → In p qs ↔ IsHeapPage R p

never_same : (a b : ℕ) → a ≡ suc b → a ≡ b → ⊥
never_same a b e f = omega (arith, e, f)

module _ (R : Log) (P Q : Pages) (r : Record) (floor since n : ℕ) (s : StateValue) (D : HeadsKept n R P)
    (row : RuleHolds R P Q r floor since) (K : Kept R s) (K' : Kept (r ∷ R) (step_of r s))
    (L : LivesKept R s.placed s.ends) where
  abbrev Follow : StateValue → Type 0
  Follow z = LivesKept (r ∷ R) z.placed z.ends

  -- who is found among the running ones
  found_runs : (t : Transaction) → transaction r.xid s.running ≡ Some t
      → (fate R r.xid ≡ Running) × (done_by R r.xid ≡ t)
  found_runs t is = runs_of (fate R r.xid) (done_by R r.xid) t (sym (K.running r.xid) ∙ is)

  placed_step : (i sr : ℕ) → r.kind ≡ kind.PlaceHead i sr
      → step_of r s ≡ placed_head (transaction r.xid s.running) (doc_at i sr) (noted r s)
  placed_step i sr e = ap (λ (k : Kind). stepped k r.xid (changed r) (noted r s)) e

  -- the head is placed
  placing : (i sr : ℕ) → r.kind ≡ kind.PlaceHead i sr
      → Placing (transaction r.xid s.running) (doc_at i sr) (noted r s)
      (placed_head (transaction r.xid s.running) (doc_at i sr) (noted r s))
  placing i sr e =
      let o = transaction r.xid s.running in
      let d : Doc = doc_at i sr in
      let new : (placed_head o d (noted r s)).next_serial ≡ suc (next_serial R) =
      sym (ap (λ (z : StateValue). z.next_serial) (placed_step i sr e)) ∙ K'.next_serial_is
      ∙ ap (λ (k : Kind). serial_behind k (next_serial R)) e in
      placing_of o d (noted r s) (λ f. never_same s.next_serial (next_serial R) (sym f ∙ new) K.next_serial_is)

  place_row : (i sr : ℕ) → r.kind ≡ kind.PlaceHead i sr → Follow (step_of r s)
  place_row i sr e =
      let w = placing i sr e in
      let by : w.t.xid ≡ r.xid = sym (ap (λ (t : Transaction). t.xid) (found_runs w.t w.is).1) in
      let base = placed_lives R P Q r floor since n D row s.placed s.ends L i sr e (w.next ∙ K.next_serial_is) in
      let here = subst
      (λ (x : ℕ). LivesKept (r ∷ R) (s.placed ++ record { item = i; xid = x } ∷ []) (s.ends ++ 0 ∷ [])) (sym by) base in
      subst Follow (sym (placed_step i sr e)) (lists_of (r ∷ R) s _ _ _ _ w.placed_is w.ends_is here)

  committed_step : (c : ℕ) → r.kind ≡ kind.Commit c
      → step_of r s ≡ committed c r.xid (transaction r.xid s.running) (noted r s)
  committed_step c e = ap (λ (k : Kind). stepped k r.xid (changed r) (noted r s)) e

  -- the commit is made
  committing : (c : ℕ) → r.kind ≡ kind.Commit c
      → Committing c (transaction r.xid s.running) (noted r s)
      (committed c r.xid (transaction r.xid s.running) (noted r s))
  committing c e =
      let o = transaction r.xid s.running in
      let new : length (committed c r.xid o (noted r s)).deleted ≡ suc (commits R) =
      sym (ap (λ (z : StateValue). length z.deleted) (committed_step c e)) ∙ K'.commits_are
      ∙ ap (λ (k : Kind). commits_with k (commits R)) e in
      committing_of c r.xid o (noted r s)
      (λ f. never_same (length s.deleted) (commits R) (sym f ∙ new) K.commits_are)

  commit_row : (c : ℕ) → r.kind ≡ kind.Commit c → Follow (step_of r s)
  commit_row c e =
      let w = committing c e in
      let found = found_runs w.t w.is in
      let names : map name_of (marked R r.xid) ≡ w.t.deleted = ap (λ (t : Transaction). t.deleted) found.1 in
      let now : fate (r ∷ R) r.xid ≡ Committed c = ap (λ (k : Kind). fate_with k r.xid r.xid (fate R r.xid)) e
      ∙ on_same r.xid r.xid (Committed c) (fate R r.xid) refl in
      let base = commit_lives R P Q r floor since n D row s.placed s.ends L c e w.some found.0 now in
      let here = subst (λ (ns : List Name). LivesKept (r ∷ R) s.placed (with_ends c s.placed ns s.ends)) names base in
      subst Follow (sym (committed_step c e)) (lists_of (r ∷ R) s _ _ _ _ w.placed_is w.ends_is here)

  pub row_lives : Follow (step_of r s)
  row_lives = elim (kind_case r.kind) [
    | KindCase.is_place i sr e ↦ place_row i sr e
    | KindCase.is_commit c e ↦ commit_row c e
    | KindCase.is_other o ↦
        let w : SameLists (noted r s) (step_of r s) = stepped_same r.kind r.xid (changed r) (noted r s) o in
        lists_of (r ∷ R) s _ _ _ _ w.placed_same w.ends_same
        (other_lives R P Q r floor since n D row s.placed s.ends L o)
  ]

  -- the heap pages say of the log
  abbrev Heaps : StateValue → Type 0
  Heaps z = HeapsTold (r ∷ R) z.heaps

  heaps_stay : (qs : List ℕ) → qs ≡ s.heaps → ((i sr : ℕ) → r.kind ≡ kind.PlaceHead i sr → ⊥) → HeapsTold R s.heaps
      → HeapsTold (r ∷ R) qs
  heaps_stay qs e not h p = (
    λ i.
        let w = (h p).0 (subst (In p) e i) in
        record { xid = w.xid; doc = w.doc; placed_it = placed_on r R w.xid w.doc w.placed_it; on = w.on },
    λ w. elim (placed_back r R w.xid w.doc w.placed_it) [
      | inl old ↦ subst (In p) (sym e) ((h p).1 (record { xid = w.xid; doc = w.doc; placed_it = old; on = w.on }))
      | inr new ↦ absurd (not w.doc.item w.doc.serial new.0)
    ],
  )

  heaps_grow : (i sr : ℕ) (qs : List ℕ) → r.kind ≡ kind.PlaceHead i sr → qs ≡ with_page (page_of i) s.heaps
      → HeapsTold R s.heaps → HeapsTold (r ∷ R) qs
  heaps_grow i sr qs e is h p = (
    λ j. elim (in_back (page_of i) p s.heaps (subst (In p) is j)) [
      | inl new ↦
          record { xid = r.xid; doc = doc_at i sr; placed_it = placed_new r R i sr e; on = sym new }
      | inr old ↦
          let w = (h p).0 old in
          record { xid = w.xid; doc = w.doc; placed_it = placed_on r R w.xid w.doc w.placed_it; on = w.on }
    ],
    λ w. elim (placed_back r R w.xid w.doc w.placed_it) [
      | inl old ↦ subst (In p) (sym is)
          (in_still (page_of i) p s.heaps ((h p).1 (record { xid = w.xid; doc = w.doc; placed_it = old; on = w.on })))
      | inr new ↦
          let both : kind.PlaceHead i sr ≡ kind.PlaceHead w.doc.item w.doc.serial = sym e ∙ new.0 in
          let item : i ≡ w.doc.item = cc in
          let page : page_of i ≡ p = ap page_of item ∙ w.on in
          subst (In p) (sym is)
          (subst (λ (x : ℕ). In x (with_page (page_of i) s.heaps)) page (in_with (page_of i) s.heaps))
    ],
  )

  pub row_heaps : HeapsTold R s.heaps → Heaps (step_of r s)
  row_heaps h = elim (kind_case r.kind) [
    | KindCase.is_place i sr e ↦ subst Heaps (sym (placed_step i sr e))
        (heaps_grow i sr (placed_head (transaction r.xid s.running) (doc_at i sr) (noted r s)).heaps e
        (placing i sr e).heaps_is h)
    | KindCase.is_commit c e ↦ subst Heaps (sym (committed_step c e))
        (heaps_stay (committed c r.xid (transaction r.xid s.running) (noted r s)).heaps (committing c e).heaps_is
        (λ i sr f. let both : kind.Commit c ≡ kind.PlaceHead i sr = sym e ∙ f in absurd (cc)) h)
    | KindCase.is_other o ↦
        heaps_stay (step_of r s).heaps
        (stepped_same r.kind r.xid (changed r) (noted r s) o).heaps_same (λ i sr f. other_places r.kind i sr o f) h
  ]

pub lives_kept : (pages xid_limit : ℕ) (R : Log) → RecordsAreValid R
    → LivesKept R (state_of pages xid_limit R).placed (state_of pages xid_limit R).ends
lives_kept pages xid_limit [] v = record {
  size = refl;
  ends = refl;
  there = λ x d i. absurd i;
  placed_by = λ k p at. absurd (none_there k p at);
  ended = λ k p at. absurd (none_there k p at);
}
  where
    none_there : (k : ℕ) (p : Placed) → slice_get [] k ≡ Some p → ⊥
    none_there k p e = cc
lives_kept pages xid_limit (r ∷ R) v =
    row_lives R v.1.before v.1.after r (commits R) (suc (length R)) (commits R) (state_of pages xid_limit R)
    (heads_kept R v.1.before v.0 v.1.shown) v.1.rule (kept pages xid_limit R v.0) (kept pages xid_limit (r ∷ R) v)
    (lives_kept pages xid_limit R v.0)

pub heaps_told : (pages xid_limit : ℕ) (R : Log) → RecordsAreValid R → HeapsTold R (state_of pages xid_limit R).heaps
heaps_told pages xid_limit [] v = λ p. (λ i. absurd i, λ w. absurd w.placed_it)
heaps_told pages xid_limit (r ∷ R) v =
    row_heaps R v.1.before v.1.after r (commits R) (suc (length R)) (commits R) (state_of pages xid_limit R)
    (heads_kept R v.1.before v.0 v.1.shown) v.1.rule (kept pages xid_limit R v.0) (kept pages xid_limit (r ∷ R) v)
    (lives_kept pages xid_limit R v.0) (heaps_told pages xid_limit R v.0)

same_life : (f g : ℕ → Fate) (es : List ℕ) (n : Name) (o : Option ℕ) → ((x : ℕ) → f x ≡ g x)
    → life_in f es n o ≡ life_in g es n o
same_life f g es n None e = refl
same_life f g es n (Some x) e = ap (λ (h : Fate). life_by h (get_or es (n.serial - 1) 0)) (e x)

pub lives_told : (pages xid_limit : ℕ) (R : Log) → RecordsAreValid R → (n : Name)
    → IsLife R n (life_of (state_of pages xid_limit R) n)
lives_told pages xid_limit R v n =
    let s = state_of pages xid_limit R in
    let k = kept pages xid_limit R v in
    subst (IsLife R n) (sym (same_life (fate_of s) (fate R) s.ends n _ k.fates))
    (life_told R s.placed s.ends n (lives_kept pages xid_limit R v))
