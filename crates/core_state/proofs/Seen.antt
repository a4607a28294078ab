-- Which head a snapshot sees: that of a document which is there after so many first commits.
use Rattle.std.proofs.Common.{◌≡◌, ◌≢◌, ◌⊎◌, ◌<◌, ◌≤◌, ◌==◌, cond, ℕ, zero, suc, Bool, true, false, not, nat_lt, List}
use Rattle.std.proofs.Common.{[], ◌∷◌, ◌++◌, map, take, length, refl, sym, ap, ap₂, subst, ◌∙◌, inl, inr, arith}
use Rattle.std.specs.Prelude.{Some, if◌then◌else◌, ◌↔◌}
use Rattle.std.specs.List.{filter}
use Rattle.page_types.specs.declared.page.Head.{Head}
use Rattle.page_types.specs.declared.page.Name.{Name}
use Rattle.page_types.specs.declared.record.Record.{Record}
use Rattle.page_types.specs.declared.record.Kind.{Kind}
use Rattle.page_types.specs.declared.record.Kind.TheVariants as kind
use Rattle.core_state.specs.Log.{Log, Pages, In, fate, fate_with, commits}
use Rattle.core_state.specs.Documents.{Doc, name_of, placed, placed_with, marked, head_of, doc_at}
use Rattle.core_state.specs.History.{Document, Commit, History, inserts, deletes, AreInserts, IsHistoryWith, IsHistory}
use Rattle.core_state.specs.History.{docs, has_serial, with_document, by_serial, stays}
use Rattle.core_state.specs.Legal.{RecordsAreValid}
use Rattle.core_state.specs.Standing.{Sees, IsInSnapshot}
use Rattle.core_state.specs.Inner.HeadsKept.{HeadsKept}
use Rattle.core_state.specs.declared.answers.Fate.TheVariants.{Unused, Running, Aborted, Committed}
use Rattle.core_state.proofs.RunningOnes.{same_or_other, on_same, on_other}
use Rattle.core_state.proofs.FateSteps.{HasEnded, ends_stay, placed_back, marked_on}
use Rattle.core_state.proofs.SteadyEnds.{xids_drawn, fates_step}
use Rattle.core_state.proofs.HeadsFollow.{places_doc}
use Rattle.core_state.proofs.HeadSteps.{one_item}
use Rattle.core_state.proofs.RulesByKind.{kind_rule}
use Rattle.core_state.proofs.Trees.Members.{of_map}
use Rattle.core_state.proofs.SnapshotDocs.{in_joined, joined_in, take_last, take_more, take_end}
use Rattle.core_state.proofs.Visible.{NotCommit, committed_before, history_length, Visible, visible}

-- an insert for each document that a transaction placed
insert_for : (P : Pages) (ds : List Doc) (is : List Document) (d : Doc) → AreInserts P ds is → In d ds
    → (D : Document) × In D is × (D.name ≡ name_of d)
insert_for P [] is d a i = absurd i
insert_for P (e ∷ ds) [] d a i = absurd a
insert_for P (e ∷ ds) (x ∷ is) d a (inl f) = (x, inl refl, a.0 ∙ ap name_of (sym f))
insert_for P (e ∷ ds) (x ∷ is) d a (inr i) = let r = insert_for P ds is d a.2 i in (r.0, inr r.1, r.2)

-- who has committed places no more
placed_old : (r : Record) (R : Log) (y c : ℕ) (d : Doc) → RecordsAreValid (r ∷ R) → fate R y ≡ Committed c
    → In d (placed (r ∷ R) y) → In d (placed R y)
placed_old r R y c d v e m = elim (placed_back r R y d m) [
  | inl old ↦ old
  | inr new ↦
      let place = places_doc R v.1.before v.1.after r _ _ v.1.rule d.item d.serial new.0 in
      absurd (running_not (sym place.runs ∙ ap (fate R) new.1 ∙ e))
]
  where
    running_not : Running ≡ Committed c → ⊥
    running_not f = cc

abbrev IsInserted : History → ℕ → Doc → Type 0
IsInserted H n d = (D : Document) × In D (inserts (take n H)) × (D.name ≡ name_of d)

-- what a committed transaction has placed is inserted by its commit
inserted_of : (k : Kind) (r : Record) (R : Log) (H : History) (n y c : ℕ) (d : Doc) → RecordsAreValid (r ∷ R)
    → r.kind ≡ k
    → ((H' : History) → IsHistory R H' → fate R y ≡ Committed c → In d (placed R y) → IsInserted H' n d)
    → IsHistoryWith k r.xid R (IsHistory R) H → fate (r ∷ R) y ≡ Committed c → c ≤ n → In d (placed (r ∷ R) y)
    → IsInserted H n d
inserted_of (kind.Commit m) r R H n y c d v k known h e l there =
    let fates : cond (r.xid == y) (Committed m) (fate R y) ≡ Committed c = sym
    (ap (λ z. fate_with z r.xid y (fate R y)) k) ∙ e in
    let ds : In d (placed R y) = subst (λ z. In d (placed_with z r.xid y (placed R y))) k there in
    subst (λ z. IsInserted z n d) (sym h.4) (elim (same_or_other r.xid y) [
      | inl same ↦
          let number : m ≡ c = committed_same m c (sym (on_same r.xid y (Committed m) (fate R y) same) ∙ fates) in
          let row = kind_rule R v.1.before v.1.after r (commits R) (suc (length R)) (kind.Commit m) k v.1.rule in
          let next : m ≡ suc (commits R) = commit_same m (suc (commits R)) (sym k ∙ row.here.kind_is) in
          let size = history_length R h.0 h.2 in
          let i = insert_for h.3.pages (placed R r.xid) h.1.inserted d h.3.inserted
          (subst (λ z. In d (placed R z)) (sym same) ds) in (
            i.0,
            joined_in (λ (x : Commit). x.inserted) (take n (h.0 ++ h.1 ∷ [])) h.1 i.0
                (take_end n h.0 h.1 (omega (arith, number, next, size, l))) i.1,
            i.2,
          )
      | inr other ↦
          let old = known h.0 h.2 (sym (on_other r.xid y (Committed m) (fate R y) other) ∙ fates) ds in
          let at = in_joined (λ (x : Commit). x.inserted) (take n h.0) old.0 old.1 in (
            old.0,
            joined_in (λ (x : Commit). x.inserted) (take n (h.0 ++ h.1 ∷ [])) at.0 old.0
                (take_more n h.0 (h.1 ∷ []) at.0 at.1) at.2,
            old.2,
          )
    ])
  where
    committed_same : (a b : ℕ) → Committed a ≡ Committed b → a ≡ b
    committed_same a b f = cc

    commit_same : (a b : ℕ) → kind.Commit a ≡ kind.Commit b → a ≡ b
    commit_same a b f = cc
inserted_of _ r R H n y c d v k known h e l there =
    let before : fate R y ≡ Committed c = committed_before r.kind r.xid y c (fate R y)
    (subst NotCommit (sym k) tt) e in
    known H h before (placed_old r R y c d v before there)

inserted_in : (R : Log) (H : History) (n y c : ℕ) (d : Doc) → RecordsAreValid R → IsHistory R H
    → fate R y ≡ Committed c → c ≤ n → In d (placed R y) → IsInserted H n d
inserted_in [] H n y c d v h e l there = absurd there
inserted_in (r ∷ R) H n y c d v h e l there = inserted_of r.kind r R H n y c d v refl
    (λ H' h' e' m. inserted_in R H' n y c d v.0 h' e' l m) h e l there

-- a deleted name is one that a committed transaction marked
pub record Deleter (R : Log) (n : ℕ) (x : Name) : Type 0 where
  pub doc : Doc
  pub xid : ℕ
  pub number : ℕ
  pub name : x ≡ name_of doc
  pub committed : fate R xid ≡ Committed number
  pub counted : number ≤ n
  pub marks : In doc (marked R xid)

deleter_on : (r : Record) (R : Log) (n : ℕ) (x : Name) → RecordsAreValid (r ∷ R) → Deleter R n x → Deleter (r ∷ R) n x
deleter_on r R n x v d =
    let X = xids_drawn R v.0 in
    record {
      doc = d.doc;
      xid = d.xid;
      number = d.number;
      name = d.name;
      committed = ends_stay R r X (fates_step R r _ _ X v.1) d.xid (Committed d.number) d.committed
          (HasEnded.committed d.number);
      counted = d.counted;
      marks = marked_on r R d.xid d.doc d.marks;
    }

deleter_of : (k : Kind) (r : Record) (R : Log) (H : History) (n : ℕ) (x : Name) → RecordsAreValid (r ∷ R) → r.kind ≡ k
    → ((H' : History) → IsHistory R H' → In x (deletes (take n H')) → Deleter R n x)
    → IsHistoryWith k r.xid R (IsHistory R) H → In x (deletes (take n H)) → Deleter (r ∷ R) n x
deleter_of (kind.Commit m) r R H n x v k known h i =
    let j = in_joined (λ (c : Commit). c.deleted) (take n H) x i in
    let at : In j.0 (take n (h.0 ++ h.1 ∷ [])) = subst (λ z. In j.0 (take n z)) h.4 j.1 in
    elim (take_last n h.0 h.1 j.0 at) [
      | inl old ↦ deleter_on r R n x v
          (known h.0 h.2 (joined_in (λ (c : Commit). c.deleted) (take n h.0) j.0 x old j.2))
      | inr new ↦
          let d = of_map name_of x (marked R r.xid)
          (subst (In x) h.3.deleted (subst (λ (z : Commit). In x z.deleted) new.0 j.2)) in
          let row = kind_rule R v.1.before v.1.after r (commits R) (suc (length R)) (kind.Commit m) k v.1.rule in
          let next : m ≡ suc (commits R) = commit_same m (suc (commits R)) (sym k ∙ row.here.kind_is) in
          let size = history_length R h.0 h.2 in
          record {
            doc = d.0;
            xid = r.xid;
            number = m;
            name = d.2;
            committed = ap (λ z. fate_with z r.xid r.xid (fate R r.xid)) k ∙ on_same r.xid r.xid (Committed m)
                (fate R r.xid) refl;
            counted = omega (arith, next, size, new.1);
            marks = marked_on r R r.xid d.0 d.1;
          }
    ]
  where
    commit_same : (a b : ℕ) → kind.Commit a ≡ kind.Commit b → a ≡ b
    commit_same a b f = cc
deleter_of _ r R H n x v k known h i = deleter_on r R n x v (known H h i)

deleter : (R : Log) (H : History) (n : ℕ) (x : Name) → RecordsAreValid R → IsHistory R H → In x (deletes (take n H))
    → Deleter R n x
deleter [] H n x v h i = absurd (empty n (subst (λ z. In x (deletes (take n z))) h i))
  where
    empty : (n : ℕ) → In x (deletes (take n [])) → ⊥
    empty zero j = j
    empty (suc n) j = j
deleter (r ∷ R) H n x v h i = deleter_of r.kind r R H n x v refl (λ H' h' i'. deleter R H' n x v.0 h' i') h i

-- filtering and sorting lose nothing
filter_in : {A : Type 0} (p : A → Bool) (xs : List A) (a : A) → In a xs → p a ≡ true → In a (filter p xs)
filter_in p [] a i e = absurd i
filter_in {A} p (x ∷ xs) a (inl f) e = by (p x) (ap p (sym f) ∙ e)
  where
    by : (b : Bool) → b ≡ true → In a (if b then x ∷ filter p xs else filter p xs)
    by true g = inl f
    by false g = cc
filter_in {A} p (x ∷ xs) a (inr i) e = by (p x) (filter_in p xs a i e)
  where
    by : (b : Bool) → In a (filter p xs) → In a (if b then x ∷ filter p xs else filter p xs)
    by true m = inr m
    by false m = m

with_in : (d : Document) (ds : List Document) (a : Document) → (a ≡ d) ⊎ In a ds → In a (with_document d ds)
with_in d [] a (inl e) = inl e
with_in d [] a (inr i) = absurd i
with_in d (e ∷ es) a m = by (nat_lt d.name.serial e.name.serial) (with_in d es a) m
  where
    by : (b : Bool) → ((a ≡ d) ⊎ In a es → In a (with_document d es)) → (a ≡ d) ⊎ In a (e ∷ es)
        → In a (if b then d ∷ e ∷ es else e ∷ with_document d es)
    by true more (inl f) = inl f
    by true more (inr j) = inr j
    by false more (inl f) = inr (more (inl f))
    by false more (inr (inl f)) = inl f
    by false more (inr (inr j)) = inr (more (inr j))

sorted_in : (ds : List Document) (a : Document) → In a ds → In a (by_serial ds)
sorted_in [] a i = i
sorted_in (d ∷ ds) a (inl e) = with_in d (by_serial ds) a (inl e)
sorted_in (d ∷ ds) a (inr i) = with_in d (by_serial ds) a (inr (sorted_in ds a i))

-- no name has the serial
no_serial : (s : ℕ) (names : List Name) → ((x : Name) → In x names → x.serial ≢ s) → has_serial s names ≡ false
no_serial s [] off = refl
no_serial s (x ∷ xs) off = ap₂ Rattle.std.proofs.Common.◌||◌ (differs x.serial s (off x (inl refl)))
    (no_serial s xs (λ y i. off y (inr i)))
  where
    differs : (a b : ℕ) → a ≢ b → (a == b) ≡ false
    differs a b n = grind (arith, n)

there_in : (H : History) (D : Document) → In D (inserts H) → ((x : Name) → In x (deletes H)
    → x.serial ≢ D.name.serial) → In D (docs H)
there_in H D i off = sorted_in (filter (λ (d : Document). stays d (deletes H)) (inserts H)) D
    (filter_in (λ (d : Document). stays d (deletes H)) (inserts H) D i
    (ap not (no_serial D.name.serial (deletes H) off)))

-- a name is one document's
same_name : (d e : Doc) → name_of d ≡ name_of e → d ≡ e
same_name d e f = ap₂ doc_at (one_item d.item e.item (ap (λ (n : Name). n.page) f) (ap (λ (n : Name). n.slot) f))
    (ap (λ (n : Name). n.serial) f)

module _ (k : ℕ) (R : Log) (P : Pages) (v : RecordsAreValid R) (K : HeadsKept k R P) (i : ℕ) (h : Head)
    (at : head_of P i
    ≡ Some h) (H : History) (n : ℕ) (history : IsHistory R H) where
  abbrev doc : Doc
  doc = doc_at i h.serial

  in_to_seen : IsInSnapshot H n (name_of doc) → Sees (fate R) n h
  in_to_seen s =
      let V : Visible R n s.0 = visible R H n s.0 v history s.1 in
      let same : V.inserted.doc ≡ doc = same_name V.inserted.doc doc (sym V.inserted.named ∙ s.2) in
      let by = (K.once V.inserted.xid h.inserted_by V.inserted.doc doc V.inserted.placed_by (K.inserted i h at)
      (ap (λ (d : Doc). d.serial) same)).0 in
      record {
        number = V.inserted.number;
        inserted = ap (fate R) (sym by) ∙ V.inserted.committed;
        within = V.inserted.counted;
        not_deleted = λ m e l. elim (K.deleted i h at) [
          | inl none ↦ unused m (sym K.xids.none ∙ ap (fate R) (sym none) ∙ e)
          | inr marks ↦ V.unmarked h.deleted_by m e l
              (subst (λ (d : Doc). In d (marked R h.deleted_by)) (sym same) marks)
        ];
      }
    where
      unused : (m : ℕ) → Unused ≡ Committed m → ⊥
      unused m e = cc

  seen_to_in : Sees (fate R) n h → IsInSnapshot H n (name_of doc)
  seen_to_in s =
      let D = inserted_in R H n h.inserted_by s.number doc v history s.inserted s.within (K.inserted i h at) in
      (D.0, there_in (take n H) D.0 D.1 (λ x j e. off x j (e ∙ ap (λ (m : Name). m.serial) D.2)), D.2)
    where
      aborted_not : (m : ℕ) → Aborted ≡ Committed m → ⊥
      aborted_not m e = cc

      off : (x : Name) → In x (deletes (take n H)) → x.serial ≡ h.serial → ⊥
      off x j e =
          let d = deleter R H n x v history j in
          let c = K.marked_committed d.xid d.doc d.marks in
          let same : d.doc ≡ doc = (K.once c.0 h.inserted_by d.doc doc c.2 (K.inserted i h at)
          (sym (ap (λ (m : Name). m.serial) d.name) ∙ e)).1 in
          elim (K.marks i h d.xid at (subst (λ (z : Doc). In z (marked R d.xid)) same d.marks)) [
            | inl a ↦ aborted_not d.number (sym a ∙ d.committed)
            | inr by ↦ s.not_deleted d.number (ap (fate R) by ∙ d.committed) d.counted
          ]

  pub seen : IsInSnapshot H n (name_of doc) ↔ Sees (fate R) n h
  seen = (in_to_seen, seen_to_in)
