-- What a vacuum has done at its end.
use Rattle.std.proofs.Common.{◌≡◌, ◌≢◌, ◌⊎◌, ◌≤◌, ◌<◌, ℕ, List, [], ◌∷◌, ◌++◌, length, refl, sym, ap, subst, ◌∙◌}
use Rattle.std.proofs.Common.{inl, inr, arith, length-append}
use Rattle.std.specs.Prelude.{◌-◌, take, Option, Some, None}
use Rattle.std.specs.List.{AllByRecursion}
use Rattle.disk_trait.specs.declared.device.Disk.{Ghosts as Disk}
use Rattle.wal.specs.Waiting.{down_of}
use Rattle.page_types.specs.Records.{kind_number}
use Rattle.page_types.specs.declared.page.Head.{Head}
use Rattle.page_types.specs.declared.record.Record.{Record}
use Rattle.core_state.specs.Log.{Log, Pages, In, Shows, commits, cut}
use Rattle.core_state.specs.Documents.{Doc, Has, IsDead, doc_at, head_of, placed}
use Rattle.core_state.specs.Index.{HasRow, Main, NoPair}
use Rattle.core_state.specs.Legal.{IsLegal}
use Rattle.core_state.specs.VacuumRules.{MayLeave}
use Rattle.core_state.proofs.LawsHold.{bullets}
use Rattle.core_state.proofs.NeverAgain.{never_again, placed_then}
use Rattle.core_state.proofs.RunningOnes.{same_or_other}
use Rattle.core_maintenance.specs.Keeping.{PairsHold, ShiftHolds}
use Rattle.core_vacuum.specs.Keeping.{VacuumHolds}
use Rattle.buffer_frames.specs.Frames.{FramesValue, Stands}
use Rattle.buffer_frames.specs.Passes.{HasAdded}
use Rattle.buffer_frames.specs.declared.pass.Pass.{Pass}
use Rattle.buffer_frames.proofs.Added.{added_in_turn}
use Rattle.buffer_frames.proofs.AtHand.{log_length, parts_of}
use Rattle.buffer_frames.proofs.FirstLogs.{shown_by}
use Rattle.buffer_frames.proofs.HistoryParts.{legal_before}
use Rattle.gin_cleanup.specs.Going.{IsCleaningKind}
use Rattle.gin_place.proofs.Carrying.{cut_cut}
use Rattle.gin_place.proofs.Logs.{cut_front}
use Rattle.gin_vacuum.specs.Finding.{HasFoundDead, HaveAll}
use Rattle.gin_vacuum.specs.Unlinked.{AreUnlinked, HadRow}
use Rattle.gin_vacuum.specs.Vacuum.{AreDead, AreSwept, AreOut, AreFreedSince}
use Rattle.engine.specs.Vacuuming.{IsFloor, IsIndexKind, IsLive, IsGone}
use Rattle.engine.specs.Inner.Cleaned.{AreGoneSince}
use Rattle.engine.specs.Inner.Vacuumed.{SeesAll, IsTakenOut, AreTakenOut, LeaveLinked, ArePlacedSince}
use Rattle.engine.proofs.DeadKept.{seen_now}
use Rattle.engine.proofs.DeadLogs.{PlaceNone, Takes, dead_placed, has_placed, placed_same, live_stays, mains_over}
use Rattle.engine.proofs.DeadLogs.{rows_over}
use Rattle.engine.proofs.PendingMoved.{moved_all}
use Rattle.engine.proofs.Since.{Since, Grown, grown, parts_by}

-- what was placed in the log of n records was so in that of more
pub placed_cut : (n m : ℕ) (R : Log) (x : ℕ) (d : Doc) → n ≤ m → m ≤ length R → In d (placed (cut n R) x)
    → In d (placed (cut m R) x)
placed_cut n m R x d le most i =
    let twice : cut n (cut m R) ≡ cut n R = cut_cut n m R le most in
    let parts : cut m R ≡ take (length (cut m R) - n) (cut m R) ++ cut n R =
    parts_of n (cut m R) ∙ ap (λ (L : Log). take (length (cut m R) - n) (cut m R) ++ L) twice in
    subst (λ (L : Log). In d (placed L x)) (sym parts)
    (placed_then (take (length (cut m R) - n) (cut m R)) (cut n R) x d i)

-- a document that was placed, and then had no slot, has none
pub none_since : (n : ℕ) (R : Log) (P Q : Pages) (x : ℕ) (d : Doc) → IsLegal R → Shows (cut n R) P → Shows R Q
    → In d (placed (cut n R) x) → ((h : Head) → Has P d h → ⊥) → (h : Head) → Has Q d h → ⊥
none_since n R P Q x d legal shown shown' i none h has =
    let parts = parts_of n R in
    never_again (take (length R - n) R) (cut n R) P Q x d (subst IsLegal parts legal).valid shown
    (subst (λ (L : Log). Shows L Q) parts shown') i none h has

legal_cut : (n : ℕ) (R : Log) → IsLegal R → IsLegal (cut n R)
legal_cut n R legal = legal_before (take (length R - n) R) (cut n R) (subst IsLegal (parts_of n R) legal)

module _ {D : Type 0} (device : Disk D) where
  -- ── out of trees, chains and slots ──

  -- both that items may leave and that they have left the trees
  pub out_of : (f : FramesValue D) (p : Pass) (items : List ℕ) → AreDead device f p items → AreSwept device f p items
      → AreOut device f p items
  out_of f p items dead swept tells up R stands legal P shown i on = record {
    may = dead tells up R stands legal P shown i on;
    swept = swept tells up R stands legal P shown i on;
  }

  -- slots that became free since a place in the log were free of what was placed before
  pub taken_by : (n m : ℕ) (items : List ℕ) (g : FramesValue D) → n ≤ m → m ≤ g.journal.state.records
      → AreFreedSince device m items g → AreTakenOut device n items g
  taken_by n m items g le most freed tells up R stands legal Q shown i on d x item placed_it h has =
      let long = log_length device g.journal R stands.journal in
      let P = shown_by (cut m R) (legal_cut m R legal).valid in
      none_since m R P.0 Q x d legal P.1 shown
      (placed_cut n m R x d le (omega (arith, most, long)) placed_it)
      (λ k before. freed tells up R stands legal P.0 Q P.1 shown d k h
      (subst (λ (j : ℕ). In j items) (sym item) on) before has) h has

  -- ── rows that stay ──

  -- what was taken out, or has a row, after others
  pub linked_by : VacuumHolds → (g h : FramesValue D) (q : Pass) (ks : List ℕ) (n : ℕ) (items out : List ℕ)
      → HasAdded device g h ks → AllByRecursion (λ (k : ℕ). (18 ≤ k) × (k ≤ 21)) ks → 0 < g.journal.state.records
      → SeesAll device g q → n ≤ q.seen → q.seen ≤ g.journal.state.records
      → AreUnlinked device g q n items out → AreTakenOut device q.seen out h → LeaveLinked device n items h
  linked_by vacuum g h q ks n items out added all some whole le most unlinked taken tells up R stands legal Q shown i
      on =
      let b = grown device (λ (k : ℕ). (18 ≤ k) × (k ≤ 21)) g h ks added all tells up R stands legal in
      let M = shown_by b.old b.legal.valid in
      let long = log_length device h.journal R stands.journal in
      let longer : g.journal.state.records ≤ length R =
      omega (arith, b.long, ap length b.came.log_is, length-append b.came.later b.old) in
      elim (seen_now device g q (λ S P. (j : ℕ) → In j items → In j out ⊎ (HadRow S n j × HasRow P j)) whole
      unlinked.others tells b.up b.old b.stands b.legal M.0 M.1 i on) [
        | inl gone ↦ inl (λ d x item placed_it k has. taken tells up R stands legal Q shown i gone d x item
            (placed_cut n q.seen R x d le (omega (arith, most, longer)) placed_it) k has)
        | inr row ↦ inr (rows_over vacuum b.came.later b.old M.0 Q
            (λ none. omega (arith, b.long, ap length none, some)) (subst IsLegal b.came.log_is legal) M.1
            (subst (λ (L : Log). Shows L Q) b.came.log_is shown) (came_takes b.old R b.came) i row.1)
      ]
    where
      came_takes : (S T : Log) (w : Since (λ (k : ℕ). (18 ≤ k) × (k ≤ 21)) S T) (r : Record) → In r w.later → Takes r
      came_takes S T w r i = elim (w.each r i) [
        | inl v ↦ inl v
        | inr e ↦ inr (omega (arith, ap (λ (x : Record). kind_number x.kind) e))
      ]

  -- ── what was pending ──

  pub placed_by : PairsHold → ShiftHolds → VacuumHolds → (f g h : FramesValue D) (ks js : List ℕ)
      → HasAdded device f g ks → AllByRecursion IsCleaningKind ks → 0 < f.journal.state.records
      → AreGoneSince device f.journal.state.records g → HasAdded device g h js
      → AllByRecursion (λ (k : ℕ). (18 ≤ k) × (k ≤ 21)) js → ArePlacedSince device f.journal.state.records h
  placed_by pairs shifts vacuum f g h ks js added all some gone more alls tells up R stands legal P Q shown shown' k i
      pending live =
      let b = grown device (λ (j : ℕ). (18 ≤ j) × (j ≤ 21)) g h js more alls tells up R stands legal in
      let c = grown device IsCleaningKind f g ks added all tells b.up b.old b.stands b.legal in
      let M = shown_by b.old b.legal.valid in
      let longer : f.journal.state.records ≤ length b.old =
      omega (arith, c.long, ap length c.came.log_is, length-append c.came.later c.old) in
      let front : cut f.journal.state.records R ≡ cut f.journal.state.records b.old =
      ap (cut f.journal.state.records) b.came.log_is
      ∙ cut_front f.journal.state.records b.came.later b.old longer in
      let main : Main M.0 k i = moved_all pairs shifts device f g ks added all some gone tells b.up b.old b.stands
      b.legal P
      M.0 (subst (λ (L : Log). Shows L P) front shown) M.1 k i pending in
      let first : Shows c.old P = subst (λ (L : Log). Shows L P) (front ∙ c.front) shown in
      let some_first : c.old ≢ [] = λ none. omega (arith, c.long, ap length none, some) in
      mains_over vacuum b.came.later b.old M.0 Q
      (λ none. omega (arith, ap length none, longer, some)) (subst IsLegal b.came.log_is legal) M.1
      (subst (λ (L : Log). Shows L Q) b.came.log_is shown') (came_takes b.old R b.came) k i
      (λ x y X e at may.
      let parts : R ≡ x ++ ((y ++ c.came.later) ++ c.old) =
      b.came.log_is ∙ ap (λ (l : Log). l ++ b.old) e ∙ again x y b.old
      ∙ ap (λ (l : Log). x ++ (y ++ l)) c.came.log_is ∙ ap (λ (l : Log). x ++ l) (sym (again y c.came.later c.old)) in
      let mid : y ++ b.old ≡ (y ++ c.came.later) ++ c.old =
      ap (λ (l : Log). y ++ l) c.came.log_is ∙ sym (again y c.came.later c.old) in
      live_stays x (y ++ c.came.later) c.old P X k i some_first (subst IsLegal parts legal) first
      (subst (λ (L : Log). Shows L X) mid at) pending (subst (λ (L : Log). IsLive L P i) parts live)
      (subst (λ (L : Log). MayLeave L X (commits L) i) mid may)) main
    where
      came_takes : (S T : Log) (w : Since (λ (j : ℕ). (18 ≤ j) × (j ≤ 21)) S T) (r : Record) → In r w.later → Takes r
      came_takes S T w r i = elim (w.each r i) [
        | inl v ↦ inl v
        | inr e ↦ inr (omega (arith, ap (λ (x : Record). kind_number x.kind) e))
      ]

      again : (xs ys zs : Log) → (xs ++ ys) ++ zs ≡ xs ++ (ys ++ zs)
      again [] ys zs = refl
      again (x ∷ xs) ys zs = ap (λ (l : Log). x ∷ l) (again xs ys zs)

  -- no row that was linked is so still, after others
  pub gone_then : (g h : FramesValue D) (js : List ℕ) (n : ℕ) → HasAdded device g h js → AreGoneSince device n g
      → AreGoneSince device n h
  gone_then g h js n added gone tells up R stands legal w still =
      let b = added.back tells up R stands in
      go b.0 b.1 (parts_by g.journal.owes js b.0 R b.2)
    where
      go : (S : Log) → Stands device g S → (xs : Log) × (R ≡ xs ++ S) → ⊥
      go S s (xs, e) =
          gone tells (added.was_up up) S s (legal_before xs S (subst IsLegal e legal)) w
          (λ m least most P at. still m least (omega (arith, most, ap length e, length-append xs S)) P
          (subst (λ (L : Log). Shows L P) (sym (ap (cut m) e ∙ cut_front m xs S most)) at))

  -- ── who was dead ──

  -- what a pass has found, the log at hand, and what became of each
  module _ (f g h : FramesValue D) (q : Pass) (ks : List ℕ) (items : List ℕ) (m : ℕ)
      (added : HasAdded device f g []) (more : HasAdded device g h ks) (all : AllByRecursion IsIndexKind ks)
      (whole : SeesAll device g q) (le : f.journal.state.records ≤ m) (most : m ≤ h.journal.state.records)
      (found : (floor : ℕ) → IsFloor f floor
      → HasFoundDead device g q f.journal.state.records floor items) where
    -- a document that was dead and had its slot was found
    was_found : (tells : device.tells) (up : down_of h.journal.wal ≡ None) (R : Log) → Stands device h R → IsLegal R
        → (P : Pages) → Shows (cut f.journal.state.records R) P → (floor : ℕ) → IsFloor f floor → (d : Doc) (k : Head)
        → Has P d k → IsDead (cut f.journal.state.records R) floor d → In d.item items
    was_found tells up R stands legal P shown floor least d k has dead =
        let b = grown device IsIndexKind g h ks more all tells up R stands legal in
        let c = grown device IsIndexKind f g [] added tt tells b.up b.old b.stands b.legal in
        let longer : f.journal.state.records ≤ length b.old =
        omega (arith, c.long, ap length c.came.log_is, length-append c.came.later c.old) in
        let front : cut f.journal.state.records R ≡ cut f.journal.state.records b.old =
        ap (cut f.journal.state.records) b.came.log_is
        ∙ cut_front f.journal.state.records b.came.later b.old longer in
        let M = shown_by b.old b.legal.valid in
        seen_now device g q (λ S X. HaveAll f.journal.state.records floor None items S) whole (found floor least).all
        tells b.up b.old b.stands b.legal M.0 M.1 d
        (record {
          pages = P;
          head = k;
          shown = subst (λ (L : Log). Shows L P) front shown;
          has = has;
          dead = subst (λ (L : Log). IsDead L floor d) front dead;
        }) tt

    -- it is gone where it was taken out
    module _ (tells : device.tells) (up : down_of h.journal.wal ≡ None) (R : Log) (stands : Stands device h R)
        (legal : IsLegal R) (P Q : Pages) (shown : Shows (cut f.journal.state.records R) P) (shown' : Shows R Q)
        (floor : ℕ) (least : IsFloor f floor) (d : Doc) (dead : IsDead (cut f.journal.state.records R) floor d) where
      e : Grown device IsIndexKind f R
      e = grown device IsIndexKind f h ks (added_in_turn device f g h [] ks added more) all tells up R stands legal

      place_none : PlaceNone e.came.later
      place_none r i = elim (e.came.each r i) [
        | inl is ↦ λ six. omega (arith, is.0, six)
        | inr a ↦ λ six. omega (arith, ap (λ (x : Record). kind_number x.kind) a, six)
      ]

      long : length R ≡ h.journal.state.records
      long = sym (log_length device h.journal R stands.journal)

      gone_if : ((k : Head) → Has P d k → IsTakenOut m R Q d.item) → IsGone P Q d
      gone_if taken =
          let by = dead_placed (cut f.journal.state.records R) floor d (legal_cut f.journal.state.records R legal)
          dead in
          record {
            slot = λ k has. none_since f.journal.state.records R P Q by.0 d legal shown shown' by.1
                (λ j before. taken j before d by.0 refl
                (placed_cut f.journal.state.records m R by.0 d le (omega (arith, most, long)) by.1) k has) k has;
            pairs = λ k has. clean (taken k has) (head_of Q d.item) refl;
          }
        where
          clean : IsTakenOut m R Q d.item → (o : Option Head) → head_of Q d.item ≡ o → NoPair Q d.item
          clean out None at = (bullets R Q legal shown').owned.free_clean d.item at
          clean out (Some k) at =
              let c : Doc = doc_at d.item k.serial in
              let has : Has Q c k = record { at = at; serial = refl } in
              let i = has_placed R Q c k legal shown' has in
              let old = subst (λ (L : Log). In c (placed L k.inserted_by)) (sym (e.front))
              (placed_same e.came.later e.old k.inserted_by c place_none
              (subst (λ (L : Log). In c (placed L k.inserted_by)) e.came.log_is i)) in
              absurd (out c k.inserted_by refl
              (placed_cut f.journal.state.records m R k.inserted_by c le (omega (arith, most, long)) old) k has)

      pub gone_now : AreTakenOut device m items h → IsGone P Q d
      gone_now taken = gone_if (λ k has.
          taken tells up R stands legal Q shown' d.item
          (was_found tells up R stands legal P shown floor least d k has dead))

      pub gone_or_linked : LeaveLinked device m items h → IsGone P Q d ⊎ HasRow Q d.item
      gone_or_linked left = by (head_of P d.item) refl
        where
          no : (o : Option Head) → head_of P d.item ≡ o → ((k : Head) → o ≡ Some k → k.serial ≡ d.serial → ⊥)
              → IsGone P Q d
          no o e off = gone_if (λ k has. absurd (off k (sym e ∙ has.at) has.serial))

          by : (o : Option Head) → head_of P d.item ≡ o → IsGone P Q d ⊎ HasRow Q d.item
          by None e = inl (no None e (λ k is same. let z : None ≡ Some k = is in let y : ⊥ = cc in y))
          by (Some j) e = elim (same_or_other j.serial d.serial) [
            | inr off ↦ inl (no (Some j) e (λ k is same. off
                (let one : j ≡ k = cc in ap (λ (x : Head). x.serial) one ∙ same)))
            | inl same ↦
                let has : Has P d j = record { at = e; serial = same } in
                let on = was_found tells up R stands legal P shown floor least d j has dead in
                elim (left tells up R stands legal Q shown' d.item on) [
                  | inl out ↦ inl (gone_if (λ k has. out))
                  | inr row ↦ inr row
                ]
          ]
