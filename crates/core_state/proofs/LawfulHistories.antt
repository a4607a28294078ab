-- The history of a legal log is a lawful one.
use Rattle.std.proofs.Common.{◌≡◌, ◌≢◌, ◌<◌, ◌≤◌, ◌+◌, ℕ, zero, suc, ◌==◌, cond, Bool, true, false, List, []}
use Rattle.std.proofs.Common.{◌∷◌, ◌++◌, length, length-append, map, take, drop, refl, sym, ap, subst, ◌∙◌, inl, inr}
use Rattle.std.proofs.Common.{arith}
use Rattle.std.specs.Prelude.{Some}
use Rattle.std.specs.List.{All, AllByRecursion, AllPairs, Contains, filter, flat_map, slice_get}
use Rattle.std.proofs.lemmas.Grind.{flat_map-append}
use Rattle.std.proofs.lemmas.List.{append-nil, take-append-drop, take-append-le}
use Rattle.std.proofs.lemmas.List.Kept.{AllPairs-filter}
use Rattle.std.proofs.Math.Seq.{take-append_seam}
use Rattle.page_types.specs.declared.page.Head.{Head}
use Rattle.page_types.specs.declared.page.Name.{Name}
use Rattle.page_types.specs.declared.record.Record.{Record}
use Rattle.page_types.specs.declared.record.Kind.{Kind}
use Rattle.page_types.specs.declared.record.Kind.TheVariants as kind
use Rattle.core_state.specs.Log.{Log, Pages, In, Shows, fate, fate_with, commits}
use Rattle.core_state.specs.Documents.{Doc, page_of, slot_of, name_of, doc_at, head_of, placed, placed_with, marked}
use Rattle.core_state.specs.Documents.{marked_with}
use Rattle.core_state.specs.History.{Document, Commit, History, AreInserts, IsCommitOf, IsHistoryWith, IsHistory}
use Rattle.core_state.specs.History.{IsLawful}
use Rattle.core_state.specs.History.{IsStored, AreApart, inserts, inserted_names, deletes, docs, stays}
use Rattle.core_state.specs.Legal.{IsLegal}
use Rattle.core_state.specs.Lives.{IsInsertedBy, IsDeletedBy}
use Rattle.core_state.specs.Standing.{DocumentsStand, Sees, IsInSnapshot}
use Rattle.core_state.specs.States.{RiseBySerial, names}
use Rattle.core_state.specs.TransactionRules.{IsCommit}
use Rattle.core_state.specs.declared.answers.Fate.TheVariants.{Unused, Running, Aborted, Committed}
use Rattle.core_state.proofs.Histories.{legal_history}
use Rattle.core_state.proofs.LawsHold.{documents, steady}
use Rattle.core_state.proofs.Newest.{legal_less}
use Rattle.core_state.proofs.PageLists.{in_either, in_front}
use Rattle.core_state.proofs.RulesByKind.{kind_rule}
use Rattle.core_state.proofs.RunningOnes.{same_or_other, below_or_past, on_same}
use Rattle.core_state.proofs.StateTold.{state_told}
use Rattle.core_state.proofs.ApartLists.{of_map, in_map, pairs_none, pairs_more, pairs_joined, pairs_weaker, pairs_map}
use Rattle.core_state.proofs.ApartLists.{pairs_of_map, pairs_sorted}
use Rattle.core_state.proofs.NamesInOrder.{in_at, in_all, kept_in, of_sorted}
use Rattle.core_state.proofs.PlacedOnce.{IsMarking, placed_once, marking, marked_cases, marks_alone, marked_once}
use Rattle.core_state.proofs.PlacedOnce.{one_named}
use Rattle.core_state.proofs.PlacedOnce.{zero_unused}

-- ── lists ──

joined_end : {A B : Type 0} (f : A → List B) (xs : List A) (y : A) → flat_map f (xs ++ y ∷ []) ≡ flat_map f xs ++ f y
joined_end f xs y =
    flat_map-append f xs (y ∷ []) ∙ ap (λ (zs : List _). flat_map f xs ++ zs) (append-nil (f y))

joined_more : {A B : Type 0} (f : A → List B) (n : ℕ) (xs : List A) (b : B) → In b (flat_map f (take n xs))
    → In b (flat_map f xs)
joined_more f n xs b i =
    subst (λ (zs : List _). In b (flat_map f zs)) (take-append-drop n xs)
    (subst (In b) (sym (flat_map-append f (take n xs) (drop n xs)))
    (in_front b (flat_map f (take n xs)) (flat_map f (drop n xs)) i))

take_all : {A : Type 0} (n : ℕ) (xs : List A) → length xs ≤ n → take n xs ≡ xs
take_all zero [] le = refl
take_all (suc n) [] le = refl
take_all zero (x ∷ xs) le = absurd (omega (arith, le))
take_all (suc n) (x ∷ xs) le = ap (λ (zs : List _). x ∷ zs) (take_all n xs (omega (arith, le)))

get_front : {A : Type 0} (xs ys : List A) (k : ℕ) → k < length xs → slice_get (xs ++ ys) k ≡ slice_get xs k
get_front [] ys k lt = absurd (omega (arith, lt))
get_front (x ∷ xs) ys zero lt = refl
get_front (x ∷ xs) ys (suc k) lt = get_front xs ys k (omega (arith, lt))

get_end : {A : Type 0} (xs : List A) (y z : A) (k : ℕ) → length xs ≤ k → slice_get (xs ++ y ∷ []) k ≡ Some z
    → (k ≡ length xs) × (z ≡ y)
get_end [] y z zero le e = let same : y ≡ z = cc in (refl, sym same)
get_end [] y z (suc k) le e = absurd (let x : ⊥ = cc in x)
get_end (x ∷ xs) y z zero le e = absurd (omega (arith, le))
get_end (x ∷ xs) y z (suc k) le e =
    let r = get_end xs y z k (omega (arith, le)) e in
    (ap suc r.0, r.1)

-- ── a history by its log ──

-- what holds of the empty log and its history, and with each record more, holds of every legal log
by_records : (T : Log → History → Type 0) → T [] []
    → ((r : Record) (R : Log) (H : History) (c : Commit) (n : ℕ) → IsLegal (r ∷ R) → r.kind ≡ kind.Commit n
    → IsHistory R H → IsHistory (r ∷ R) (H ++ c ∷ []) → IsCommitOf R r.xid c → T R H → T (r ∷ R) (H ++ c ∷ []))
    → ((r : Record) (R : Log) (H : History) → IsLegal (r ∷ R) → IsHistory R H → T R H → T (r ∷ R) H) → (R : Log)
    (H : History) → IsLegal R → IsHistory R H → T R H
by_records T none one other [] H legal h = subst (T []) (sym h) none
by_records T none one other (r ∷ R) H legal h =
    by r.kind refl (λ H' h'. by_records T none one other R H' (legal_less r R legal) h') h
  where
    by : (k : Kind) → r.kind ≡ k → ((H' : History) → IsHistory R H' → T R H')
        → IsHistoryWith k r.xid R (IsHistory R) H → T (r ∷ R) H
    by (kind.Commit n) e known w =
        subst (T (r ∷ R)) (sym w.4)
        (one r R w.0 w.1 n legal e w.2 (subst (IsHistory (r ∷ R)) w.4 h) w.3 (known w.0 w.2))
    by _ e known w = other r R H legal w (known H w)

commit_runs : (r : Record) (R : Log) (n : ℕ) → IsLegal (r ∷ R) → r.kind ≡ kind.Commit n → fate R r.xid ≡ Running
commit_runs r R n legal e =
    let v = legal.valid.1 in
    let rule : IsCommit R v.before v.after r =
    kind_rule R v.before v.after r (commits R) (suc (length R)) (kind.Commit n) e v.rule in
    rule.here.runs

commit_ends : (r : Record) (R : Log) (n : ℕ) → r.kind ≡ kind.Commit n → fate (r ∷ R) r.xid ≡ Committed n
commit_ends r R n e =
    ap (λ (k : Kind). fate_with k r.xid r.xid (fate R r.xid)) e
    ∙ on_same r.xid r.xid (Committed n) (fate R r.xid) refl

committed_runs : (x n : ℕ) (R : Log) → fate R x ≡ Committed n → fate R x ≡ Running → ⊥
committed_runs x n R c r = let e : Committed n ≡ Running = sym c ∙ r in (let z : ⊥ = cc in z)

-- what was committed stays so
committed_on : (r : Record) (R : Log) (x n : ℕ) → R ≢ [] → IsLegal (r ∷ R) → fate R x ≡ Committed n
    → fate (r ∷ R) x ≡ Committed n
committed_on r R x n some legal c =
    let v = legal.valid.1 in
    let facts = steady R (r ∷ []) (r ∷ R) v.before v.after refl some (legal_less r R legal) legal v.shown v.shown_after
    in
    facts.ends_stay.committed_stays x n c

placed_on : (r : Record) (R : Log) (x : ℕ) (d : Doc) → In d (placed R x) → In d (placed (r ∷ R) x)
placed_on r R x d i = by r.kind
  where
    joined : (b : Bool) (e : Doc) → In d (cond b (placed R x ++ e ∷ []) (placed R x))
    joined true e = in_front d (placed R x) (e ∷ []) i
    joined false e = i

    by : (k : Kind) → In d (placed_with k r.xid x (placed R x))
    by (kind.PlaceHead item serial) = joined (r.xid == x) (doc_at item serial)
    by _ = i

marked_on : (r : Record) (R : Log) (x : ℕ) (d : Doc) → In d (marked R x) → In d (marked (r ∷ R) x)
marked_on r R x d i = by r.kind
  where
    joined : (b : Bool) (e : Doc) → In d (cond b (marked R x ++ e ∷ []) (marked R x))
    joined true e = in_front d (marked R x) (e ∷ []) i
    joined false e = i

    by : (k : Kind) → In d (marked_with k r.xid x (marked R x))
    by (kind.MarkDeleted item serial) = joined (r.xid == x) (doc_at item serial)
    by _ = i

placed_some : (R : Log) (x : ℕ) (d : Doc) → In d (placed R x) → R ≢ []
placed_some R x d i e = subst (λ (L : Log). In d (placed L x)) e i

marked_some : (R : Log) (x : ℕ) (d : Doc) → In d (marked R x) → R ≢ []
marked_some R x d i e = subst (λ (L : Log). In d (marked L x)) e i

-- ── who has inserted and deleted what is in a history ──

abbrev Inserted : Log → Name → Type 0
Inserted R name = (k : ℕ) × IsInsertedBy R name k

abbrev Deleted : Log → Name → Type 0
Deleted R name = (k : ℕ) × IsDeletedBy R name k

inserted_on : (r : Record) (R : Log) (name : Name) → IsLegal (r ∷ R) → Inserted R name → Inserted (r ∷ R) name
inserted_on r R name legal (k, v) = (
  k,
  record {
    xid = v.xid;
    doc = v.doc;
    named = v.named;
    placed_it = placed_on r R v.xid v.doc v.placed_it;
    committed = committed_on r R v.xid k (placed_some R v.xid v.doc v.placed_it) legal v.committed;
  },
)

deleted_on : (r : Record) (R : Log) (name : Name) → IsLegal (r ∷ R) → Deleted R name → Deleted (r ∷ R) name
deleted_on r R name legal (k, v) = (
  k,
  record {
    xid = v.xid;
    doc = v.doc;
    named = v.named;
    marked_it = marked_on r R v.xid v.doc v.marked_it;
    committed = committed_on r R v.xid k (marked_some R v.xid v.doc v.marked_it) legal v.committed;
  },
)

inserts_named : (P : Pages) (ds : List Doc) (is : List Document) → AreInserts P ds is → names is ≡ map name_of ds
inserts_named P [] [] a = refl
inserts_named P [] (i ∷ is) a = absurd a
inserts_named P (d ∷ ds) [] a = absurd a
inserts_named P (d ∷ ds) (i ∷ is) a =
    ap (λ (n : Name). n ∷ names is) a.0 ∙ ap (λ (ns : List Name). name_of d ∷ ns) (inserts_named P ds is a.2)

-- a document that a commit inserts is one that its transaction placed
insert_placed : (R : Log) (x : ℕ) (c : Commit) (D : Document) → IsCommitOf R x c → In D c.inserted
    → (d : Doc) × In d (placed R x) × (D.name ≡ name_of d)
insert_placed R x c D of i =
    let named = inserts_named of.pages (placed R x) c.inserted of.inserted in
    of_map name_of D.name (placed R x) (subst (In D.name) named (in_map (λ (E : Document). E.name) D c.inserted i))

delete_marked : (R : Log) (x : ℕ) (c : Commit) (name : Name) → IsCommitOf R x c → In name c.deleted
    → (d : Doc) × In d (marked R x) × (name ≡ name_of d)
delete_marked R x c name of i = of_map name_of name (marked R x) (subst (In name) of.deleted i)

abbrev InsertsAre : Log → History → Type 0
InsertsAre R H = (D : Document) → In D (inserts H) → Inserted R D.name

inserts_are : (R : Log) (H : History) → IsLegal R → IsHistory R H → InsertsAre R H
inserts_are = by_records InsertsAre (λ D i. absurd i)
    (λ r R H c n legal e h on of known D i.
    elim (in_either D (inserts H) c.inserted (subst (In D) (joined_end (λ (b : Commit). b.inserted) H c) i)) [
      | inl j ↦ inserted_on r R D.name legal (known D j)
      | inr j ↦
          let p = insert_placed R r.xid c D of j in (
            n,
            record {
              xid = r.xid;
              doc = p.0;
              named = sym p.2;
              placed_it = placed_on r R r.xid p.0 p.1;
              committed = commit_ends r R n e;
            },
          )
    ])
    (λ r R H legal h known D i. inserted_on r R D.name legal (known D i))

abbrev DeletesAre : Log → History → Type 0
DeletesAre R H = (name : Name) → In name (deletes H) → Deleted R name

deletes_are : (R : Log) (H : History) → IsLegal R → IsHistory R H → DeletesAre R H
deletes_are = by_records DeletesAre (λ name i. absurd i)
    (λ r R H c n legal e h on of known name i.
    elim (in_either name (deletes H) c.deleted (subst (In name) (joined_end (λ (b : Commit). b.deleted) H c) i)) [
      | inl j ↦ deleted_on r R name legal (known name j)
      | inr j ↦
          let p = delete_marked R r.xid c name of j in (
            n,
            record {
              xid = r.xid;
              doc = p.0;
              named = sym p.2;
              marked_it = marked_on r R r.xid p.0 p.1;
              committed = commit_ends r R n e;
            },
          )
    ])
    (λ r R H legal h known name i. deleted_on r R name legal (known name i))

-- ── what is marked was inserted ──

-- a document that is marked next was inserted
marking_there : (r : Record) (R : Log) (H : History) (x : ℕ) (d : Doc) → IsLegal (r ∷ R) → IsHistory R H
    → IsMarking R r x d → In (name_of d) (inserted_names H)
marking_there r R H x d legal h m =
    let before = legal_less r R legal in
    let stand : DocumentsStand R m.pages = documents R m.pages before m.shown in
    let sees : Sees (fate R) m.number m.head = record {
      number = m.number;
      inserted = m.inserted;
      within = omega arith;
      not_deleted = λ k e le. elim m.unmarked [
        | inl none ↦
            let z : Unused ≡ Committed k = sym (zero_unused R before) ∙ ap (fate R) (sym none) ∙ e in
            (let y : ⊥ = cc in y)
        | inr aborted ↦ let z : Aborted ≡ Committed k = sym aborted ∙ e in (let y : ⊥ = cc in y)
      ];
    } in
    let there : IsInSnapshot H m.number (name_of (doc_at d.item m.head.serial)) =
    (stand.seen d.item m.head H m.number m.at h).1 sees in
    let taken = take m.number H in
    let inserted : In there.0 (inserts taken) =
    (kept_in (λ (D : Document). stays D (deletes taken)) (inserts taken) there.0
    (of_sorted (filter (λ (D : Document). stays D (deletes taken)) (inserts taken)) there.0 there.1)).0 in
    let named : there.0.name ≡ name_of d = there.2 ∙ ap (λ (s : ℕ). name_of (doc_at d.item s)) m.serial in
    subst (λ (n : Name). In n (inserted_names H)) named
    (in_map (λ (D : Document). D.name) there.0 (inserts H)
    (joined_more (λ (c : Commit). c.inserted) m.number H there.0 inserted))

names_more : (H : History) (c : Commit) (name : Name) → In name (inserted_names H)
    → In name (inserted_names (H ++ c ∷ []))
names_more H c name i =
    let r = of_map (λ (D : Document). D.name) name (inserts H) i in
    subst (λ (n : Name). In n (inserted_names (H ++ c ∷ []))) (sym r.2)
    (in_map (λ (D : Document). D.name) r.0 (inserts (H ++ c ∷ []))
    (subst (In r.0) (sym (joined_end (λ (b : Commit). b.inserted) H c)) (in_front r.0 (inserts H) c.inserted r.1)))

abbrev MarksAre : Log → History → Type 0
MarksAre R H = (x : ℕ) (d : Doc) → In d (marked R x) → In (name_of d) (inserted_names H)

marks_are : (R : Log) (H : History) → IsLegal R → IsHistory R H → MarksAre R H
marks_are = by_records MarksAre (λ x d i. absurd i)
    (λ r R H c n legal e h on of known x d i. names_more H c (name_of d) (elim (marked_cases R r x d legal.valid i) [
      | inl old ↦ known x d old
      | inr m ↦ marking_there r R H x d legal h m
    ]))
    (λ r R H legal h known x d i. elim (marked_cases R r x d legal.valid i) [
      | inl old ↦ known x d old
      | inr m ↦ marking_there r R H x d legal h m
    ])

-- so it was placed
name_placed : (R : Log) (H : History) (d : Doc) → IsLegal R → IsHistory R H → In (name_of d) (inserted_names H)
    → (x : ℕ) × In d (placed R x)
name_placed R H d legal h i =
    let r = of_map (λ (D : Document). D.name) (name_of d) (inserts H) i in
    let v = inserts_are R H legal h r.0 r.1 in
    let same : v.1.doc ≡ d = one_named v.1.doc d (v.1.named ∙ sym r.2) in
    (v.1.xid, subst (λ (e : Doc). In e (placed R v.1.xid)) same v.1.placed_it)

marked_placed : (R : Log) (x : ℕ) (d : Doc) → IsLegal R → In d (marked R x) → (y : ℕ) × In d (placed R y)
marked_placed R x d legal i =
    let h = legal_history R legal in
    name_placed R h.0 d legal h.1 (marks_are R h.0 legal h.1 x d i)

marking_placed : (r : Record) (R : Log) (x : ℕ) (d : Doc) → IsLegal (r ∷ R) → IsMarking R r x d
    → (y : ℕ) × In d (placed R y)
marking_placed r R x d legal m =
    let before = legal_less r R legal in
    let h = legal_history R before in
    name_placed R h.0 d before h.1 (marking_there r R h.0 x d legal h.1 m)

-- documents that were placed are one where their serials are
one_serial : (R : Log) (d e : Doc) → IsLegal R → (x : ℕ) × In d (placed R x) → (y : ℕ) × In e (placed R y)
    → d.serial ≡ e.serial → d ≡ e
one_serial R d e legal (x, i) (y, j) same = (placed_once R x y d e legal.valid i j same).1

-- ── serials are apart ──

below_all : (x : Name) (ns : List Name) → AllByRecursion (λ (n : Name). x.serial < n.serial) ns → (y : Name) → In y ns
    → x.serial ≢ y.serial
below_all x [] all y i same = absurd i
below_all x (n ∷ ns) all y (inl e) same =
    let lt : x.serial < n.serial = all.0 in
    omega (arith, lt, same, ap (λ (z : Name). z.serial) e)
below_all x (n ∷ ns) all y (inr i) same = below_all x ns all.1 y i same

rise_apart : (ns : List Name) → RiseBySerial ns → AllPairs (λ (a b : Name). a.serial ≢ b.serial) ns
rise_apart [] up = pairs_none (λ (a b : Name). a.serial ≢ b.serial)
rise_apart (n ∷ ns) up =
    pairs_more (λ (a b : Name). a.serial ≢ b.serial) n ns (λ y i. below_all n ns up.0 y i) (rise_apart ns up.1)

abbrev pub ByDocument : Document → Document → Type 0
ByDocument a b = a.name.serial ≢ b.name.serial

-- what one commit inserts
commit_apart : (R : Log) (x : ℕ) (c : Commit) → IsLegal R → IsCommitOf R x c → AllPairs ByDocument c.inserted
commit_apart R x c legal of =
    let named = inserts_named of.pages (placed R x) c.inserted of.inserted in
    let up : RiseBySerial (map name_of (placed R x)) = (state_told 0 0 R legal).placed_rise x in
    pairs_of_map (λ (D : Document). D.name) (λ (a b : Name). a.serial ≢ b.serial) c.inserted
    (rise_apart (names c.inserted) (subst RiseBySerial (sym named) up))

abbrev pub InsertsApart : Log → History → Type 0
InsertsApart R H = AllPairs ByDocument (inserts H)

pub inserts_apart : (R : Log) (H : History) → IsLegal R → IsHistory R H → InsertsApart R H
inserts_apart = by_records InsertsApart (pairs_none ByDocument)
    (λ r R H c n legal e h on of known.
    let before = legal_less r R legal in
    subst (AllPairs ByDocument) (sym (joined_end (λ (b : Commit). b.inserted) H c))
    (pairs_joined ByDocument (inserts H) c.inserted known (commit_apart R r.xid c before of)
    (λ D E i j same.
    let v = inserts_are R H before h D i in
    let p = insert_placed R r.xid c E of j in
    let serial : v.1.doc.serial ≡ p.0.serial =
    ap (λ (z : Name). z.serial) v.1.named ∙ same ∙ ap (λ (z : Name). z.serial) p.2 in
    let one = placed_once R v.1.xid r.xid v.1.doc p.0 before.valid v.1.placed_it p.1 serial in
    committed_runs v.1.xid v.0 R v.1.committed (ap (fate R) one.0 ∙ commit_runs r R n legal e))))
    (λ r R H legal h known. known)

-- what one transaction marks
abbrev ByDoc : Doc → Doc → Type 0
ByDoc d e = d.serial ≢ e.serial

kept_running : (r : Record) (R : Log) (item serial : ℕ) → r.kind ≡ kind.MarkDeleted item serial
    → fate (r ∷ R) r.xid ≡ fate R r.xid
kept_running r R item serial e = ap (λ (k : Kind). fate_with k r.xid r.xid (fate R r.xid)) e

-- none of what was marked is marked next by the same transaction
marked_before : (r : Record) (R : Log) (x : ℕ) (d e : Doc) → IsLegal (r ∷ R)
    → r.kind ≡ kind.MarkDeleted e.item e.serial → r.xid ≡ x → In d (marked R x) → d.serial ≢ e.serial
marked_before r R x d e legal k by i same =
    let before = legal_less r R legal in
    let m = marking R r x e legal.valid k by in
    let one : d ≡ e =
    one_serial R d e before (marked_placed R x d before i) (marking_placed r R x e legal m) same in
    let aborted = marks_alone R r x x e legal m (subst (λ (f : Doc). In f (marked R x)) one i) in
    let runs : fate (r ∷ R) x ≡ Running =
    ap (fate (r ∷ R)) (sym by) ∙ kept_running r R e.item e.serial k ∙ m.runs in
    let z : Aborted ≡ Running = sym aborted ∙ runs in
    (let y : ⊥ = cc in y)

marked_apart : (R : Log) (x : ℕ) → IsLegal R → AllPairs ByDoc (marked R x)
marked_apart [] x legal = pairs_none ByDoc
marked_apart (r ∷ R) x legal = by r.kind refl (marked_apart R x (legal_less r R legal))
  where
    joined : (e : Doc) → r.kind ≡ kind.MarkDeleted e.item e.serial → (b : Bool) → (b ≡ true → r.xid ≡ x)
        → AllPairs ByDoc (marked R x) → AllPairs ByDoc (cond b (marked R x ++ e ∷ []) (marked R x))
    joined e k true is known =
        pairs_joined ByDoc (marked R x) (e ∷ []) known
        (pairs_more ByDoc e [] (λ y i. absurd i) (pairs_none ByDoc))
        (λ a b i j. elim j [
          | inl same ↦ subst (λ (f : Doc). a.serial ≢ f.serial) (sym same) (marked_before r R x a e legal k (is refl) i)
          | inr none ↦ absurd none
        ])
    joined e k false is known = known

    by : (k : Kind) → r.kind ≡ k → AllPairs ByDoc (marked R x)
        → AllPairs ByDoc (marked_with k r.xid x (marked R x))
    by (kind.MarkDeleted item serial) e known =
        joined (doc_at item serial) e (r.xid == x) (λ t. grind (arith, t)) known
    by _ e known = known

abbrev pub ByName : Name → Name → Type 0
ByName a b = a.serial ≢ b.serial

abbrev DeletesApart : Log → History → Type 0
DeletesApart R H = AllPairs ByName (deletes H)

deletes_apart : (R : Log) (H : History) → IsLegal R → IsHistory R H → DeletesApart R H
deletes_apart = by_records DeletesApart (pairs_none ByName)
    (λ r R H c n legal e h on of known.
    let before = legal_less r R legal in
    let own : AllPairs ByName (map name_of (marked R r.xid)) =
    pairs_map name_of ByName (marked R r.xid) (marked_apart R r.xid before) in
    subst (AllPairs ByName) (sym (joined_end (λ (b : Commit). b.deleted) H c))
    (pairs_joined ByName (deletes H) c.deleted known (subst (AllPairs ByName) (sym of.deleted) own)
    (λ a b i j same. other_marks r R n legal e a (deletes_are R H before h a i) b
    (delete_marked R r.xid c b of j) same)))
    (λ r R H legal h known. known)
  where
    other_marks : (r : Record) (R : Log) (n : ℕ) → IsLegal (r ∷ R) → r.kind ≡ kind.Commit n → (a : Name) → Deleted R a
        → (b : Name) → (d : Doc) × In d (marked R r.xid) × (b ≡ name_of d) → a.serial ≢ b.serial
    other_marks r R n legal e a (k, v) b (d, i, named) same =
        let before = legal_less r R legal in
        let runs = commit_runs r R n legal e in
        let serial : v.doc.serial ≡ d.serial =
        ap (λ (z : Name). z.serial) v.named ∙ same ∙ ap (λ (z : Name). z.serial) named in
        let one : v.doc ≡ d =
        one_serial R v.doc d before (marked_placed R v.xid v.doc before v.marked_it) (marked_placed R r.xid d before i)
        serial in
        let off : v.xid ≢ r.xid = λ f. committed_runs v.xid k R v.committed (ap (fate R) f ∙ runs) in
        elim
        (marked_once R v.xid r.xid d before off (subst (λ (f : Doc). In f (marked R v.xid)) one v.marked_it) i) [
          | inl aborted ↦ let z : Committed k ≡ Aborted = sym v.committed ∙ aborted in (let y : ⊥ = cc in y)
          | inr aborted ↦ let z : Running ≡ Aborted = sym runs ∙ aborted in (let y : ⊥ = cc in y)
        ]

-- ── what is deleted was inserted earlier ──

abbrev DeletedLater : Log → History → Type 0
DeletedLater R H =
    (k : ℕ) (c : Commit) → slice_get H k ≡ Some c
    → All (λ (x : Name). Contains (inserted_names (take k H)) x) c.deleted

deleted_later : (R : Log) (H : History) → IsLegal R → IsHistory R H → DeletedLater R H
deleted_later = by_records DeletedLater (λ k c e. absurd (let z : ⊥ = cc in z))
    (λ r R H c n legal e h on of known k b is. elim (below_or_past k (length H)) [
      | inl lt ↦
          let le : k ≤ length H = omega (arith, lt) in
          subst (λ (J : History). All (λ (x : Name). Contains (inserted_names J) x) b.deleted)
          (sym (take-append-le k H (c ∷ []) le)) (known k b (sym (get_front H (c ∷ []) k lt) ∙ is))
      | inr le ↦
          let last = get_end H c b k le is in
          let front : take k (H ++ c ∷ []) ≡ H =
          ap (λ (j : ℕ). take j (H ++ c ∷ [])) last.0 ∙ take-append_seam H (c ∷ []) in
          in_all (λ (x : Name). Contains (inserted_names (take k (H ++ c ∷ []))) x) b.deleted
          (λ x i.
          let d = delete_marked R r.xid c x of (subst (λ (z : Commit). In x z.deleted) last.1 i) in
          let there : In x (inserted_names H) =
          subst (λ (z : Name). In z (inserted_names H)) (sym d.2)
          (marks_are R H (legal_less r R legal) h r.xid d.0 d.1) in
          in_at (inserted_names (take k (H ++ c ∷ []))) x
          (subst (λ (J : History). In x (inserted_names J)) (sym front) there))
    ])
    (λ r R H legal h known. known)

-- ── documents that are there lie apart ──

pub docs_apart : (H : History) → AllPairs ByDocument (inserts H) → AllPairs ByDocument (docs H)
docs_apart H apart =
    pairs_sorted ByDocument (λ a b off same. off (sym same))
    (filter (λ (D : Document). stays D (deletes H)) (inserts H))
    (AllPairs-filter ByDocument (λ (D : Document). stays D (deletes H)) (inserts H) apart)

-- two documents that are stored, of two serials
lie_apart : (P : Pages) (a b : Document) → IsStored P a → IsStored P b → ByDocument a b → AreApart a.name b.name
lie_apart P a b s t off = elim (same_or_other a.name.page b.name.page) [
  | inr other ↦ inl other
  | inl page ↦ elim (same_or_other a.name.slot b.name.slot) [
    | inr other ↦ inr other
    | inl slot ↦
        let pages : page_of s.doc.item ≡ page_of t.doc.item =
        ap (λ (n : Name). n.page) (sym s.name) ∙ page ∙ ap (λ (n : Name). n.page) t.name in
        let slots : slot_of s.doc.item ≡ slot_of t.doc.item =
        ap (λ (n : Name). n.slot) (sym s.name) ∙ slot ∙ ap (λ (n : Name). n.slot) t.name in
        let item : s.doc.item ≡ t.doc.item = omega (arith, pages, slots) in
        let heads : Some s.head ≡ Some t.head = sym s.has.at ∙ ap (head_of P) item ∙ t.has.at in
        let head : s.head ≡ t.head = cc in
        let serial : s.doc.serial ≡ t.doc.serial = sym s.has.serial ∙ ap (λ (h : Head). h.serial) head ∙ t.has.serial in
        absurd (off (ap (λ (n : Name). n.serial) s.name ∙ serial ∙ ap (λ (n : Name). n.serial) (sym t.name)))
  ]
]

pub places_apart : (R : Log) (P : Pages) (H : History) → IsLegal R → Shows R P → IsHistory R H
    → AllPairs (λ (a b : Document). AreApart a.name b.name) (docs H)
places_apart R P H legal shown h =
    let stand : DocumentsStand R P = documents R P legal shown in
    let n = length H + commits R in
    let all : take n H ≡ H = take_all n H (omega arith) in
    let stored : (D : Document) → In D (docs H) → IsStored P D =
    λ D i. stand.history H n D h (omega arith) (subst (λ (J : History). In D (docs J)) (sym all) i) in
    pairs_weaker ByDocument (λ (a b : Document). AreApart a.name b.name) (docs H)
    (docs_apart H (inserts_apart R H legal h)) (λ a b i j off. lie_apart P a b (stored a i) (stored b j) off)

abbrev PlacesApart : Log → History → Type 0
PlacesApart R H = (n : ℕ) → AllPairs (λ (a b : Document). AreApart a.name b.name) (docs (take n H))

none_apart : PlacesApart [] []
none_apart zero = pairs_none (λ (a b : Document). AreApart a.name b.name)
none_apart (suc n) = pairs_none (λ (a b : Document). AreApart a.name b.name)

apart_places : (R : Log) (H : History) → IsLegal R → IsHistory R H → PlacesApart R H
apart_places = by_records PlacesApart none_apart
    (λ r R H c n legal e h on of known m. elim (below_or_past (length H) m) [
      | inl lt ↦
          let all : take m (H ++ c ∷ []) ≡ H ++ c ∷ [] = take_all m (H ++ c ∷ []) (long H c m lt) in
          let v = legal.valid.1 in
          subst (λ (J : History). AllPairs (λ (a b : Document). AreApart a.name b.name) (docs J)) (sym all)
          (places_apart (r ∷ R) v.after (H ++ c ∷ []) legal v.shown_after on)
      | inr le ↦
          subst (λ (J : History). AllPairs (λ (a b : Document). AreApart a.name b.name) (docs J))
          (sym (take-append-le m H (c ∷ []) le)) (known m)
    ])
    (λ r R H legal h known. known)
  where
    long : (H : History) (c : Commit) (m : ℕ) → length H < m → length (H ++ c ∷ []) ≤ m
    long H c m lt = omega (arith, lt, length-append H (c ∷ []))

-- ── the law ──

pub history_lawful : (R : Log) (H : History) → IsLegal R → IsHistory R H → IsLawful H
history_lawful R H legal h = record {
  apart = pairs_map (λ (D : Document). D.name.serial) (λ (a b : ℕ). a ≢ b) (inserts H) (inserts_apart R H legal h);
  deleted_once = deletes_apart R H legal h;
  deleted_later = deleted_later R H legal h;
  apart_places = apart_places R H legal h;
}
