-- A document of a snapshot in the log: who placed and committed it, with which vector, and that no commit of the
-- snapshot marked it.
use Rattle.std.proofs.Common.{◌≡◌, ◌<◌, ◌≤◌, ◌==◌, cond, ℕ, zero, suc, Bool, true, false, List, [], ◌∷◌, ◌++◌, length}
use Rattle.std.proofs.Common.{length-append, take, refl, sym, ap, subst, ◌∙◌, inl, inr, arith}
use Rattle.ts_base.specs.Vectors.{Vector}
use Rattle.page_types.specs.declared.page.Name.{Name}
use Rattle.page_types.specs.declared.record.Record.{Record}
use Rattle.page_types.specs.declared.record.Kind.{Kind}
use Rattle.page_types.specs.declared.record.Kind.TheVariants as kind
use Rattle.core_state.specs.Log.{Log, Pages, In, Shows, fate, fate_with, ended, commits}
use Rattle.core_state.specs.Documents.{Doc, HasVector, name_of, placed, marked}
use Rattle.core_state.specs.History.{Document, Commit, History, inserts, deletes, AreInserts, IsCommitOf, IsHistoryWith}
use Rattle.core_state.specs.History.{IsHistory, docs}
use Rattle.core_state.specs.Legal.{RecordsAreValid}
use Rattle.core_state.specs.declared.answers.Fate.{Fate}
use Rattle.core_state.specs.declared.answers.Fate.TheVariants.{Unused, Running, Aborted, Committed}
use Rattle.core_state.proofs.RunningOnes.{same_or_other, on_same, on_other}
use Rattle.core_state.proofs.FateSteps.{HasEnded, ends_stay, placed_on, marked_back}
use Rattle.core_state.proofs.SteadyEnds.{xids_drawn, fates_step}
use Rattle.core_state.proofs.HeadsFollow.{marks_doc}
use Rattle.core_state.proofs.RulesByKind.{kind_rule}
use Rattle.core_state.proofs.Trees.Members.{in_map}
use Rattle.core_state.proofs.SnapshotDocs.{in_joined, joined_in, take_last, take_more, take_end, there_inserted}
use Rattle.core_state.proofs.SnapshotDocs.{there_undeleted}

-- the commit of a document, whose vector was in the pages before it
pub record CommittedAt (R : Log) (d : Doc) (v : Vector) (number : ℕ) : Type 0 where
  pub later : Log
  pub earlier : Log
  pub by : Record
  pub log_is : R ≡ later ++ by ∷ earlier
  pub kind_is : by.kind ≡ kind.Commit number
  pub number_is : number ≡ suc (commits earlier)
  pub pages : Pages
  pub shown : Shows earlier pages
  pub placed_by : In d (placed earlier by.xid)
  pub vector : HasVector pages d v

pub record Inserted (R : Log) (n : ℕ) (D : Document) : Type 0 where
  pub doc : Doc
  pub named : D.name ≡ name_of doc
  pub xid : ℕ
  pub number : ℕ
  pub committed : fate R xid ≡ Committed number
  pub counted : number ≤ n
  pub placed_by : In doc (placed R xid)
  pub commit : CommittedAt R doc D.vector number

still : (r : Record) (R : Log) (n : ℕ) (D : Document) → RecordsAreValid (r ∷ R) → Inserted R n D → Inserted (r ∷ R) n D
still r R n D v i =
    let X = xids_drawn R v.0 in
    record {
      doc = i.doc;
      named = i.named;
      xid = i.xid;
      number = i.number;
      committed = ends_stay R r X (fates_step R r _ _ X v.1) i.xid (Committed i.number) i.committed
          (HasEnded.committed i.number);
      counted = i.counted;
      placed_by = placed_on r R i.xid i.doc i.placed_by;
      commit = record {
        later = r ∷ i.commit.later;
        earlier = i.commit.earlier;
        by = i.commit.by;
        log_is = ap (λ S. r ∷ S) i.commit.log_is;
        kind_is = i.commit.kind_is;
        number_is = i.commit.number_is;
        pages = i.commit.pages;
        shown = i.commit.shown;
        placed_by = i.commit.placed_by;
        vector = i.commit.vector;
      };
    }

-- an insert of a transaction is a document that it placed, with its vector
insert_of : (P : Pages) (ds : List Doc) (is : List Document) (D : Document) → AreInserts P ds is → In D is
    → (d : Doc) × In d ds × (D.name ≡ name_of d) × HasVector P d D.vector
insert_of P [] [] D a i = absurd i
insert_of P [] (x ∷ is) D a i = absurd a
insert_of P (d ∷ ds) [] D a i = absurd i
insert_of P (d ∷ ds) (x ∷ is) D a (inl e) =
    (d, inl refl, ap (λ (z : Document). z.name) e ∙ a.0, subst (λ (z : Document). HasVector P d z.vector) (sym e) a.1)
insert_of P (d ∷ ds) (x ∷ is) D a (inr i) = let r = insert_of P ds is D a.2 i in (r.0, inr r.1, r.2, r.3)

length_by : (k : Kind) (x : ℕ) (R : Log) (H : History) → ((H' : History) → IsHistory R H' → length H' ≡ commits R)
    → IsHistoryWith k x R (IsHistory R) H → length H ≡ Rattle.core_state.specs.Log.commits_with k (commits R)
length_by (kind.Commit n) x R H known h = ap length h.4
    ∙ (let e = known h.0 h.2 in omega (arith, length-append h.0 (h.1 ∷ []), e))
length_by _ x R H known h = known H h

-- a history has a commit for each record of that kind
pub history_length : (R : Log) (H : History) → IsHistory R H → length H ≡ commits R
history_length [] H h = ap length h
history_length (r ∷ R) H h = length_by r.kind r.xid R H (history_length R) h

-- the inserts of a commit
of_commit : (r : Record) (R : Log) (n m : ℕ) (D : Document) → RecordsAreValid (r ∷ R) → r.kind ≡ kind.Commit m
    → (H' : History) (c : Commit) → IsHistory R H' → IsCommitOf R r.xid c
    → In D c.inserted → length H' < n → Inserted (r ∷ R) n D
of_commit r R n m D v k H' c before is i l =
    let row = kind_rule R v.1.before v.1.after r (commits R) (suc (length R)) (kind.Commit m) k v.1.rule in
    let number : m ≡ suc (commits R) = same_number m (suc (commits R)) (sym k ∙ row.here.kind_is) in
    let f = insert_of is.pages (placed R r.xid) c.inserted D is.inserted i in
    record {
      doc = f.0;
      named = f.2;
      xid = r.xid;
      number = m;
      committed = ap (λ z. fate_with z r.xid r.xid (fate R r.xid)) k ∙ on_same r.xid r.xid (Committed m)
          (fate R r.xid) refl;
      counted = (let e = history_length R H' before in omega (arith, number, e, l));
      placed_by = placed_on r R r.xid f.0 f.1;
      commit = record {
        later = [];
        earlier = R;
        by = r;
        log_is = refl;
        kind_is = k;
        number_is = number;
        pages = is.pages;
        shown = is.shown;
        placed_by = f.1;
        vector = f.3;
      };
    }
  where
    same_number : (a b : ℕ) → kind.Commit a ≡ kind.Commit b → a ≡ b
    same_number a b e = cc

-- what is inserted among the first n commits of a history
inserted_by : (k : Kind) (r : Record) (R : Log) (H : History) (n : ℕ) (D : Document) → RecordsAreValid (r ∷ R)
    → r.kind ≡ k
    → ((H' : History) → IsHistory R H' → In D (inserts (take n H')) → Inserted R n D)
    → IsHistoryWith k r.xid R (IsHistory R) H → In D (inserts (take n H)) → Inserted (r ∷ R) n D
inserted_by (kind.Commit m) r R H n D v e known h i =
    let j = in_joined (λ (c : Commit). c.inserted) (take n H) D i in
    let at : In j.0 (take n (h.0 ++ h.1 ∷ [])) = subst (λ z. In j.0 (take n z)) h.4 j.1 in
    elim (take_last n h.0 h.1 j.0 at) [
      | inl old ↦ still r R n D v (known h.0 h.2 (joined_in (λ (c : Commit). c.inserted) (take n h.0) j.0 D old j.2))
      | inr new ↦ of_commit r R n m D v e h.0 h.1 h.2 h.3 (subst (λ (z : Commit). In D z.inserted) new.0 j.2) new.1
    ]
inserted_by _ r R H n D v e known h i = still r R n D v (known H h i)

pub inserted_at : (R : Log) (H : History) (n : ℕ) (D : Document) → RecordsAreValid R → IsHistory R H
    → In D (inserts (take n H)) → Inserted R n D
inserted_at [] H n D v h i = absurd (empty n (subst (λ z. In D (inserts (take n z))) h i))
  where
    empty : (n : ℕ) → In D (inserts (take n [])) → ⊥
    empty zero j = j
    empty (suc n) j = j
inserted_at (r ∷ R) H n D v h i = inserted_by r.kind r R H n D v refl (λ H' h' i'. inserted_at R H' n D v.0 h' i') h i

-- only a record of kind Commit commits
abbrev pub NotCommit : Kind → Type 0
NotCommit (kind.Commit n) = ⊥
NotCommit _ = Rattle.std.specs.Prelude.⊤

unended : (f : Fate) (c : ℕ) → ended f ≡ Committed c → f ≡ Committed c
unended Unused c e = cc
unended Running c e = cc
unended Aborted c e = cc
unended (Committed n) c e = e

pub committed_before : (k : Kind) (x y c : ℕ) (f : Fate) → NotCommit k → fate_with k x y f ≡ Committed c
    → f ≡ Committed c
committed_before (kind.Commit n) x y c f off e = absurd off
committed_before kind.Begin x y c f off e = by (x == y) e
  where
    by : (b : Bool) → cond b Running f ≡ Committed c → f ≡ Committed c
    by true g = cc
    by false g = g
committed_before kind.Abort x y c f off e = by (x == 0) (x == y) e
  where
    by : (b d : Bool) → cond b (ended f) (cond d Aborted f) ≡ Committed c → f ≡ Committed c
    by true d g = unended f c g
    by false true g = cc
    by false false g = g
committed_before _ x y c f off e = e

-- who has committed marks no more
marks_old : (r : Record) (R : Log) (y c : ℕ) (d : Doc) → RecordsAreValid (r ∷ R) → fate R y ≡ Committed c
    → In d (marked (r ∷ R) y) → In d (marked R y)
marks_old r R y c d v e m = elim (marked_back r R y d m) [
  | inl old ↦ old
  | inr new ↦
      let marks = marks_doc R v.1.before v.1.after r _ _ v.1.rule d.item d.serial new.0 in
      absurd (running_not (sym marks.runs ∙ ap (fate R) new.1 ∙ e))
]
  where
    running_not : Running ≡ Committed c → ⊥
    running_not f = cc

-- what a committed transaction has marked is deleted by its commit
deleted_by : (k : Kind) (r : Record) (R : Log) (H : History) (n y c : ℕ) (d : Doc) → RecordsAreValid (r ∷ R)
    → r.kind ≡ k
    → ((H' : History) → IsHistory R H' → fate R y ≡ Committed c → In d (marked R y)
    → In (name_of d) (deletes (take n H')))
    → IsHistoryWith k r.xid R (IsHistory R) H → fate (r ∷ R) y ≡ Committed c → c ≤ n → In d (marked (r ∷ R) y)
    → In (name_of d) (deletes (take n H))
deleted_by (kind.Commit m) r R H n y c d v k known h e l mark =
    let fates : cond (r.xid == y) (Committed m) (fate R y) ≡ Committed c = sym
    (ap (λ z. fate_with z r.xid y (fate R y)) k) ∙ e in
    let marks : In d (marked R y) = subst
    (λ z. In d (Rattle.core_state.specs.Documents.marked_with z r.xid y (marked R y))) k mark in
    subst (λ z. In (name_of d) (deletes (take n z))) (sym h.4) (elim (same_or_other r.xid y) [
      | inl same ↦
          let number : m ≡ c = committed_same m c (sym (on_same r.xid y (Committed m) (fate R y) same) ∙ fates) in
          let row = kind_rule R v.1.before v.1.after r (commits R) (suc (length R)) (kind.Commit m) k v.1.rule in
          let next : m ≡ suc (commits R) = commit_same m (suc (commits R)) (sym k ∙ row.here.kind_is) in
          let size = history_length R h.0 h.2 in
          joined_in (λ (x : Commit). x.deleted) (take n (h.0 ++ h.1 ∷ [])) h.1 (name_of d)
          (take_end n h.0 h.1 (omega (arith, number, next, size, l)))
          (subst (In (name_of d)) (sym h.3.deleted)
          (in_map name_of d (marked R r.xid) (subst (λ z. In d (marked R z)) (sym same) marks)))
      | inr other ↦
          let old = known h.0 h.2 (sym (on_other r.xid y (Committed m) (fate R y) other) ∙ fates) marks in
          let at = in_joined (λ (x : Commit). x.deleted) (take n h.0) (name_of d) old in
          joined_in (λ (x : Commit). x.deleted) (take n (h.0 ++ h.1 ∷ [])) at.0 (name_of d)
          (take_more n h.0 (h.1 ∷ []) at.0 at.1) at.2
    ])
  where
    committed_same : (a b : ℕ) → Committed a ≡ Committed b → a ≡ b
    committed_same a b f = cc

    commit_same : (a b : ℕ) → kind.Commit a ≡ kind.Commit b → a ≡ b
    commit_same a b f = cc
deleted_by _ r R H n y c d v k known h e l mark =
    let before : fate R y ≡ Committed c = committed_before r.kind r.xid y c (fate R y)
    (subst NotCommit (sym k) tt) e in
    known H h before (marks_old r R y c d v before mark)

pub deleted_at : (R : Log) (H : History) (n y c : ℕ) (d : Doc) → RecordsAreValid R → IsHistory R H
    → fate R y ≡ Committed c → c ≤ n → In d (marked R y)
    → In (name_of d) (deletes (take n H))
deleted_at [] H n y c d v h e l mark = absurd mark
deleted_at (r ∷ R) H n y c d v h e l mark = deleted_by r.kind r R H n y c d v refl
    (λ H' h' e' m. deleted_at R H' n y c d v.0 h' e' l m) h e l mark

-- a document of a snapshot
pub record Visible (R : Log) (n : ℕ) (D : Document) : Type 0 where
  pub inserted : Inserted R n D
  pub unmarked : (y c : ℕ) → fate R y ≡ Committed c → c ≤ n → In inserted.doc (marked R y) → ⊥

pub visible : (R : Log) (H : History) (n : ℕ) (D : Document) → RecordsAreValid R → IsHistory R H
    → In D (docs (take n H)) → Visible R n D
visible R H n D v h i =
    let ins = inserted_at R H n D v h (there_inserted (take n H) D i) in
    record {
      inserted = ins;
      unmarked = λ y c e l m. there_undeleted (take n H) D i (name_of ins.doc)
          (deleted_at R H n y c ins.doc v h e l m) (ap (λ (x : Name). x.serial) (sym ins.named));
    }
