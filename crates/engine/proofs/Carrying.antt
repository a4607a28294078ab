-- What a pass's own transaction has changed stays in calls that log nothing.
use Rattle.std.proofs.Common.{◌≡◌, ◌≤◌, ◌+◌, ◌-◌, ℕ, List, [], ◌∷◌, ◌++◌, length, drop, refl, sym, ap, ap₂, subst}
use Rattle.std.proofs.Common.{◌∙◌, inl, inr, arith, length-drop, drop-drop}
use Rattle.std.specs.Prelude.{Option, Some, map}
use Rattle.disk_trait.specs.declared.device.Disk.{Ghosts as Disk}
use Rattle.page_types.specs.Views.{part_of, rows_of}
use Rattle.ts_base.specs.Vectors.{Vector}
use Rattle.page_types.specs.declared.page.Page.{Page}
use Rattle.page_types.specs.declared.page.Row.{Row}
use Rattle.page_types.specs.declared.page.Head.{Head}
use Rattle.page_types.specs.declared.page.Name.{Name}
use Rattle.core_state.specs.Log.{Log, Pages, In, Shows, cut, fate}
use Rattle.core_state.specs.Documents.{Doc, Has, name_of, placed, marked, parts}
use Rattle.core_state.specs.History.{Commit, Document, AreInserts, IsCommitOf}
use Rattle.core_state.specs.Index.{rows_on}
use Rattle.core_state.specs.Steady.{KeepsHead, RunsOn}
use Rattle.core_state.specs.Steps.{RunsOwn}
use Rattle.core_state.specs.declared.answers.Fate.TheVariants.{Running}
use Rattle.core_state.proofs.Showing.{shown_one}
use Rattle.core_state.proofs.Steps.Seen.{own_holds, seen_shown}
use Rattle.buffer_frames.specs.Frames.{FramesValue, Stands, KeepsState}
use Rattle.buffer_frames.specs.Passes.{IsPassOf, IsHolding, HasAdded, PassRises, Seen, SeesOn, view_of, xids_of}
use Rattle.buffer_frames.specs.declared.pass.Pass.{Pass}
use Rattle.buffer_frames.proofs.AtHand.{log_length, none_held}
use Rattle.buffer_frames.proofs.Begun.{same_by_none}
use Rattle.engine.specs.Db.{DbValue}
use Rattle.engine.specs.Inner.Parts.{KeepsWork, IsPlacedSoFar, IsRowedSoFar, AreIndexed, CarriesOwn}

-- ── a running transaction's documents in a later log ──

-- calls one after another that leave the state of the records
pub state_in_turn : {D : Type 0} (f g h : FramesValue D) → KeepsState f g → KeepsState g h → KeepsState f h
state_in_turn f g h x y = record {
  state = y.state ∙ x.state;
  owes = y.owes ∙ x.owes;
  work = y.work ∙ x.work;
}

-- a log cut twice
pub cut_cut : (n m : ℕ) (R : Log) → n ≤ m → m ≤ length R → cut n (cut m R) ≡ cut n R
cut_cut n m R le most =
    drop-drop (length (cut m R) - n) (length R - m) R
    ∙ ap (λ (k : ℕ). drop k R)
    (let e : length R - m + (length (cut m R) - n) ≡ length R - n =
    omega (arith, length-drop (length R - m) R, le, most) in e)

head_one : (P : Pages) (d : Doc) (h h' : Head) → Has P d h → Has P d h' → h ≡ h'
head_one P d h h' a b = let e : Some h ≡ Some h' = sym a.at ∙ b.at in cc

keeps_this : (P P' : Pages) (d : Doc) (h : Head) → Has P d h → (h' : Head) × Has P d h' × KeepsHead P P' d h'
    → KeepsHead P P' d h
keeps_this P P' d h has k = subst (KeepsHead P P' d) (head_one P d k.0 h k.1 has) k.2

inserts_stay : (P P' : Pages) (ds : List Doc) (is : List Document)
    → ((d : Doc) → In d ds → (h : Head) × Has P d h × KeepsHead P P' d h) → AreInserts P ds is → AreInserts P' ds is
inserts_stay P P' [] [] keep a = tt
inserts_stay P P' [] (i ∷ is) keep a = a
inserts_stay P P' (d ∷ ds) [] keep a = a
inserts_stay P P' (d ∷ ds) (i ∷ is) keep a =
    let k = keeps_this P P' d a.1.0 a.1.1 (keep d (inl refl)) in (
      a.0,
      (a.1.0, k.head, k.vector i.vector a.1.2),
      inserts_stay P P' ds is (λ e m. keep e (inr m)) a.2,
    )

pub parts_stay : (P P' : Pages) (qs : List ℕ) → ((q : ℕ) → In q qs → P' q ≡ P q) → parts P' qs ≡ parts P qs
parts_stay P P' [] same = refl
parts_stay P P' (q ∷ qs) same =
    ap₂ (λ (a b : List ℕ). a ++ b) (ap part_of (same q (inl refl))) (parts_stay P P' qs (λ p i. same p (inr i)))

pub rows_kept : (P P' : Pages) (qs : List ℕ) → ((q : ℕ) → In q qs → P' q ≡ P q) → rows_on P' qs ≡ rows_on P qs
rows_kept P P' [] same = refl
rows_kept P P' (q ∷ qs) same =
    ap₂ (λ (a b : List Row). a ++ b) (ap rows_of (same q (inl refl))) (rows_kept P P' qs (λ p i. same p (inr i)))

-- What a running transaction has changed in the log S, with its pages P, it has changed in S', with P'.
module _ (S S' : Log) (P P' : Pages) (x : ℕ) (on : RunsOn S S' P P' x) (same : placed S' x ≡ placed S x)
    (marks : marked S' x ≡ marked S x) (shown : Shows S P) (shown' : Shows S' P') where
  commit_stays : (c : Commit) → (fate S x ≡ Running) × IsCommitOf S x c × AreIndexed S P x
      → (fate S' x ≡ Running) × IsCommitOf S' x c × AreIndexed S' P' x
  commit_stays c had = (
    on.runs,
    record {
      pages = P';
      shown = shown';
      deleted = had.1.deleted ∙ ap (map name_of) (sym marks);
      inserted = subst (λ (ds : List Doc). AreInserts P' ds c.inserted) (sym same)
          (inserts_stay P P' (placed S x) c.inserted on.heads
          (subst (λ (Q : Pages). AreInserts Q (placed S x) c.inserted)
          (shown_one S had.1.pages P had.1.shown shown) had.1.inserted));
    },
    λ d i. let was : In d (placed S x) = subst (In d) same i in on.indexed d was (had.2 d was),
  )

  document_stays : (d : Doc) (bytes behind : List ℕ) → IsPlacedSoFar S P x d bytes behind
      → IsPlacedSoFar S' P' x d bytes behind
  document_stays d bytes behind p =
      let k = keeps_this P P' d p.head p.has (on.heads d (subst (In d) (sym p.placed_one) (inl refl))) in
      let chain = k.overflow p.chain p.is_chain in
      record {
        runs = on.runs;
        placed_one = same ∙ p.placed_one;
        head = p.head;
        has = k.head;
        by = p.by;
        length_is = p.length_is;
        short = p.short;
        chain = p.chain;
        is_chain = chain.0;
        there = parts_stay P P' p.chain chain.1 ∙ p.there;
        none = p.none;
        front = p.front;
        ends = p.ends;
        no_rows = p.no_rows;
        no_row = on.no_row d (subst (In d) (sym p.placed_one) (inl refl)) p.no_row;
      }

  rows_stay : (d : Doc) (v : Vector) (back : List Page) (last : ℕ) → IsRowedSoFar S P x d v back last
      → IsRowedSoFar S' P' x d v back last
  rows_stay d v back last p =
      let here : In d (placed S x) = subst (In d) (sym p.placed_one) (inl refl) in
      let k = keeps_this P P' d p.head p.has (on.heads d here) in
      let chain = k.private p.chain p.is_chain in
      record {
        runs = on.runs;
        placed_one = same ∙ p.placed_one;
        head = p.head;
        has = k.head;
        by = p.by;
        whole = k.vector v p.whole;
        no_row = on.no_row d here p.no_row;
        chain = p.chain;
        is_chain = chain.0;
        rows = rows_kept P P' p.chain chain.1 ∙ p.rows;
        many = p.many;
        ends = p.ends;
      }

  rowed_stays : (d : Doc) (v : Vector) (back : List Page) (last : ℕ) (names : List Name)
      → IsRowedSoFar S P x d v back last × (map name_of (marked S x) ≡ names)
      → IsRowedSoFar S' P' x d v back last × (map name_of (marked S' x) ≡ names)
  rowed_stays d v back last names had = (rows_stay d v back last had.0, ap (map name_of) marks ∙ had.1)

  placed_stays : (d : Doc) (bytes behind : List ℕ) (names : List Name)
      → IsPlacedSoFar S P x d bytes behind × (map name_of (marked S x) ≡ names)
      → IsPlacedSoFar S' P' x d bytes behind × (map name_of (marked S' x) ≡ names)
  placed_stays d bytes behind names had = (document_stays d bytes behind had.0, ap (map name_of) marks ∙ had.1)

-- ── in a call that logs nothing ──

module _ {D : Type 0} (device : Disk D) (old new : DbValue D) (pass pass' : Pass)
    (added : HasAdded device old.frames new.frames []) (sees : SeesOn device new.frames pass pass')
    (rises : PassRises pass pass') (of : IsPassOf new.frames pass') where
  -- what the pass had seen, by the log that it has seen now
  seen_then : (X : Log → Pages → Type 0) → Seen device old.frames pass X
      → Seen device new.frames pass' (λ (S : Log) (Q : Pages). (P : Pages) → Shows (cut pass.seen S) P
      → X (cut pass.seen S) P)
  seen_then X seen t up R stands legal Q shown P before =
      let back = added.back t up R stands in
      let same : back.0 ≡ R = sym (same_by_none old.frames.journal.owes back.0 R back.2) in
      let long = log_length device new.frames.journal R stands.journal in
      let cuts : cut pass.seen (cut pass'.seen R) ≡ cut pass.seen R =
      cut_cut pass.seen pass'.seen R rises.seen (omega (arith, of.seen, long)) in
      subst (λ (S : Log). X S P) (sym cuts)
      (seen t (added.was_up up) R (subst (Stands device old.frames) same back.1) legal P
      (subst (λ (S : Log). Shows S P) cuts before))

  carried : (x : ℕ) (X : Log → Pages → Type 0) → pass.xid ≡ Some x
      → ((S : Log) (P : Pages) → X S P → fate S x ≡ Running)
      → ((S S' : Log) (P P' : Pages) → RunsOn S S' P P' x → placed S' x ≡ placed S x → marked S' x ≡ marked S x
      → Shows S P → Shows S' P' → X S P → X S' P')
      → Seen device old.frames pass X → Seen device new.frames pass' X
  carried x X is runs stay seen t up R stands legal Q shown =
      let S : Log = cut pass'.seen R in
      let v = view_of new.frames pass S [] in
      let a = sees t up R stands legal Q shown in
      let P = seen_shown v S a in
      let had = seen_then X seen t up R stands legal Q shown P.0 P.1 in
      let here : In x (xids_of pass.xid) = subst (λ (o : Option ℕ). In x (xids_of o)) (sym is) (inl refl) in
      let own : RunsOwn v x = record {
        own = here;
        begun = λ none. subst (In x) none here;
        runs = runs (cut pass.seen S) P.0 had;
      } in
      let on = own_holds v S a P.0 x own P.1 in
      subst (X S) (shown_one S a.pages Q a.shown shown)
      (stay (cut pass.seen S) S P.0 a.pages on.runs_on on.placed_same on.marked_same P.1 a.shown had)

  pub carries : CarriesOwn device old pass new pass'
  carries = record {
    runs = λ x is had. carried x (λ (S : Log) (P : Pages). fate S x ≡ Running) is (λ S P h. h)
        (λ S S' P P' on same marks shown shown' h. on.runs) had;
    changed = λ x c is had.
        carried x (λ (S : Log) (P : Pages). (fate S x ≡ Running) × IsCommitOf S x c × AreIndexed S P x) is
        (λ S P h. h.0)
        (λ S S' P P' on same marks shown shown' h. commit_stays S S' P P' x on same marks shown shown' c h) had;
    placed = λ x d bytes behind names is had.
        carried x (λ (S : Log) (P : Pages). IsPlacedSoFar S P x d bytes behind
        × (map name_of (marked S x) ≡ names)) is (λ S P h. (h.0).runs)
        (λ S S' P P' on same marks shown shown' h.
        placed_stays S S' P P' x on same marks shown shown' d bytes behind names h) had;
    rows = λ x d v back last names is had.
        carried x (λ (S : Log) (P : Pages). IsRowedSoFar S P x d v back last
        × (map name_of (marked S x) ≡ names)) is (λ S P h. (h.0).runs)
        (λ S S' P P' on same marks shown shown' h.
        rowed_stays S S' P P' x on same marks shown shown' d v back last names h) had;
  }

-- ── calls one after another ──

module _ {D : Type 0} (device : Disk D) where
  -- nothing is done
  pub carries_still : (s : DbValue D) (pass : Pass) → CarriesOwn device s pass s pass
  carries_still s pass = record {
    runs = λ x is had. had;
    changed = λ x c is had. had;
    placed = λ x d bytes behind names is had. had;
    rows = λ x d v back last names is had. had;
  }

  pub carries_on : (a b c : DbValue D) (p q r : Pass) → q.xid ≡ p.xid → CarriesOwn device a p b q
      → CarriesOwn device b q c r → CarriesOwn device a p c r
  carries_on a b c p q r same first then = record {
    runs = λ x is had. then.runs x (same ∙ is) (first.runs x is had);
    changed = λ x w is had. then.changed x w (same ∙ is) (first.changed x w is had);
    placed = λ x d bytes behind names is had.
        then.placed x d bytes behind names (same ∙ is) (first.placed x d bytes behind names is had);
    rows = λ x d v back last names is had.
        then.rows x d v back last names (same ∙ is) (first.rows x d v back last names is had);
  }

  -- a pass that holds no page
  pub holds_none : (s : DbValue D) (pass : Pass) → IsPassOf s.frames pass → pass.held ≡ 0
      → IsHolding device s.frames pass []
  holds_none s pass of none = none_held device s.frames pass of none

pub keeps_still : (pass : Pass) → KeepsWork pass pass
keeps_still pass = record {
  pin = refl;
  room = refl;
  xid = refl;
  shown = omega arith;
}

pub keeps_on : (p q r : Pass) → KeepsWork p q → KeepsWork q r → KeepsWork p r
keeps_on p q r a b = record {
  pin = b.pin ∙ a.pin;
  room = b.room ∙ a.room;
  xid = b.xid ∙ a.xid;
  shown = omega (arith, a.shown, b.shown);
}
