-- What was found dead stays so over a cleanup, and then has no linked row.
use Rattle.std.proofs.Common.{◌≡◌, ◌≢◌, ◌⊎◌, ◌≤◌, ◌<◌, ℕ, List, [], ◌∷◌, ◌++◌, length, refl, sym, ap, subst, ◌∙◌}
use Rattle.std.proofs.Common.{inl, inr, arith}
use Rattle.std.specs.Prelude.{◌-◌, drop, None}
use Rattle.disk_trait.specs.declared.device.Disk.{Ghosts as Disk}
use Rattle.wal.specs.Waiting.{down_of}
use Rattle.page_types.specs.Records.{kind_number}
use Rattle.page_types.specs.declared.page.Row.{Row}
use Rattle.page_types.specs.declared.record.Record.{Record}
use Rattle.core_state.specs.Log.{Log, Pages, In, Shows, cut}
use Rattle.core_state.specs.Documents.{IsDead}
use Rattle.core_state.specs.Index.{IsLinked}
use Rattle.core_state.specs.Legal.{IsLegal}
use Rattle.core_state.specs.VacuumRules.{MayLeave}
use Rattle.core_vacuum.specs.DeadHeads.{DeadHeadsHold, LeavesHeads}
use Rattle.core_vacuum.specs.DeadHeads as laws
use Rattle.buffer_frames.specs.Frames.{FramesValue, Stands, Behind}
use Rattle.buffer_frames.specs.Passes.{IsPassOf, Seen}
use Rattle.buffer_frames.specs.declared.pass.Pass.{Pass}
use Rattle.buffer_frames.proofs.FirstLogs.{shown_by}
use Rattle.buffer_frames.proofs.HistoryParts.{legal_before}
use Rattle.gin_cleanup.specs.Cleaning.{IsStillIn}
use Rattle.gin_cleanup.specs.Going.{IsCleaningKind}
use Rattle.gin_place.proofs.Logs.{cut_front}
use Rattle.gin_vacuum.specs.Vacuum.{HasDeadHead, HaveDeadHeads, AreDead}
use Rattle.engine.specs.Inner.Cleaned.{CleansThrough, AreGoneSince}
use Rattle.engine.specs.Inner.Vacuumed.{SeesAll}
use Rattle.engine.proofs.DeadLogs.{PlaceNone, facts, head_still, dead_then, more_dead, some_more}
use Rattle.engine.proofs.Since.{Since, Grown, grown}

-- a log that isn't longer is whole
pub cut_all : (n : ℕ) (R : Log) → length R ≤ n → cut n R ≡ R
cut_all n R le = let none : length R - n ≡ 0 = omega (arith, le) in ap (λ (k : ℕ). drop k R) none

-- what a pass that has seen all of the log has seen is so of the log
pub seen_now : {D : Type 0} (device : Disk D) (f : FramesValue D) (p : Pass) (X : Log → Pages → Type 0)
    → SeesAll device f p → Seen device f p X
    → Behind device f (λ (R : Log). (P : Pages) → Shows R P → X R P)
seen_now device f p X all seen tells up R stands legal P shown =
    let whole : cut p.seen R ≡ R = cut_all p.seen R (all tells up R stands legal) in
    subst (λ (L : Log). X L P) whole
    (seen tells up R stands legal P (subst (λ (L : Log). Shows L P) (sym whole) shown))

pub now_seen : {D : Type 0} (device : Disk D) (f : FramesValue D) (p : Pass) (X : Log → Pages → Type 0)
    → SeesAll device f p
    → Behind device f (λ (R : Log). (P : Pages) → Shows R P → X R P) → Seen device f p X
now_seen device f p X all now tells up R stands legal P shown =
    let whole : cut p.seen R ≡ R = cut_all p.seen R (all tells up R stands legal) in
    subst (λ (L : Log). X L P) (sym whole)
    (now tells up R stands legal P (subst (λ (L : Log). Shows L P) whole shown))

-- ── over records of a cleanup ──

-- such a record takes no head away, and places none
low_kind : (n : ℕ) → IsCleaningKind n → (12 ≤ n) × (n < 18)
low_kind n (inl e) = (omega (arith, e), omega (arith, e))
low_kind n (inr p) = (omega (arith, p.0), omega (arith, p.1))

module _ (R R' : Log) (w : Since IsCleaningKind R R') where
  leaves : LeavesHeads w.later
  leaves r i = elim (w.each r i) [
    | inl is ↦ let k = low_kind (kind_number r.kind) is in omega (arith, k.1)
    | inr e ↦ omega (arith, ap (λ (x : Record). kind_number x.kind) e)
  ]

  pub place_none : PlaceNone w.later
  place_none r i = elim (w.each r i) [
    | inl is ↦ λ six. let k = low_kind (kind_number r.kind) is in omega (arith, k.0, six)
    | inr e ↦ λ six. omega (arith, ap (λ (x : Record). kind_number x.kind) e, six)
  ]

-- the part of a log after an earlier one, up to a place in it
middle : (xs R : Log) (m : ℕ) → length R ≤ m → m ≤ length (xs ++ R) → (ys : Log) × (zs : Log) × (xs ≡ ys ++ zs)
    × (cut m (xs ++ R) ≡ zs ++ R)
middle [] R m least most = ([], [], refl, cut_all m R (omega (arith, most)))
middle (x ∷ xs) R m least most = elim (last m) [
  | inl all ↦ ([], x ∷ xs, refl, cut_all m ((x ∷ xs) ++ R) all)
  | inr less ↦
      let v = middle xs R m least less in (
        x ∷ v.0,
        v.1,
        ap (λ (l : Log). x ∷ l) v.2,
        cut_front m (x ∷ []) (xs ++ R) less ∙ v.3,
      )
]
  where
    last : (k : ℕ) → (length ((x ∷ xs) ++ R) ≤ k) ⊎ (k ≤ length (xs ++ R))
    last k = grind arith

module _ (heads : DeadHeadsHold) (R later : Log) (P Q : Pages) (some : R ≢ []) (legal : IsLegal (later ++ R))
    (shown : Shows R P) (shown' : Shows (later ++ R) Q) (leave : LeavesHeads later) (none : PlaceNone later) where
  was : IsLegal R
  was = legal_before later R legal

  kept : (floor i : ℕ) → HasDeadHead R P floor i → HasDeadHead (later ++ R) Q floor i
  kept floor i h =
      let k = heads R later (later ++ R) P Q refl some legal shown shown' leave floor i
      (record { doc = h.doc; head = h.head; item = h.item; has = h.has; dead = h.dead }) in
      record { doc = k.doc; head = k.head; item = k.item; has = k.has; dead = k.dead }

  -- a row that is linked was so in each log between
  still : (floor i : ℕ) → HasDeadHead R P floor i → (w : Row) → w.item ≡ i → IsLinked Q w
      → IsStillIn (length R) (later ++ R) w
  still floor i h w item linked m least most M at =
      let v = middle later R m least most in
      let T : Log = v.1 ++ R in
      let parts : later ++ R ≡ v.0 ++ T = ap (λ (l : Log). l ++ R) v.2 ∙ again v.0 v.1 in
      let t : IsLegal T = legal_before v.0 T (subst IsLegal parts legal) in
      let there : Shows T M = subst (λ (L : Log). Shows L M) v.3 at in
      let dead : IsDead T floor h.doc = dead_then v.1 R floor h.doc some t was h.dead in
      let now = head_still later R P Q some legal was shown shown' none h.doc h.head floor h.has
      (dead_heads (kept floor h.doc.item (subst (HasDeadHead R P floor) (sym h.item) h))) in
      (facts v.0 T M Q (some_more v.1 R some) (subst IsLegal parts legal) t there
      (subst (λ (L : Log). Shows L Q) parts shown')).dead_rows h.doc now.0 floor dead now.1 w (item ∙ sym h.item) linked
    where
      again : (ys zs : Log) → (ys ++ zs) ++ R ≡ ys ++ (zs ++ R)
      again [] zs = refl
      again (y ∷ ys) zs = ap (λ (l : Log). y ∷ l) (again ys zs)

      dead_heads : {S : Log} {X : Pages} {n j : ℕ} → HasDeadHead S X n j → laws.HasDeadHead S X n j
      dead_heads k = record { doc = k.doc; head = k.head; item = k.item; has = k.has; dead = k.dead }

module _ {D : Type 0} (device : Disk D) (heads : DeadHeadsHold) (f g : FramesValue D) (p q : Pass) (ks : List ℕ)
    (of : IsPassOf f p) (clean : CleansThrough device f p g q ks) (whole : SeesAll device f p)
    (whole' : SeesAll device g q) (items : List ℕ) (found : HaveDeadHeads device f p items) where
  -- the log before
  earlier : (tells : device.tells) (up : down_of g.journal.wal ≡ None) (R : Log) → Stands device g R → IsLegal R
      → Grown device IsCleaningKind f R
  earlier tells up R stands legal = grown device IsCleaningKind f g ks clean.added clean.are tells up R stands legal

  some_old : (S : Log) → length S ≡ f.journal.state.records → S ≢ []
  some_old S long none = omega (arith, long, ap length none, of.some, of.seen)

  heads_now : Behind device g (λ (R : Log). (P : Pages) → Shows R P → (i : ℕ) → In i items
      → HasDeadHead R P q.floor i)
  heads_now tells up R stands legal Q shown i on =
      let b = earlier tells up R stands legal in
      let P = shown_by b.old b.legal.valid in
      let h : HasDeadHead b.old P.0 p.floor i =
      seen_now device f p (λ S X. (j : ℕ) → In j items → HasDeadHead S X p.floor j) whole found tells b.up b.old
      b.stands
      b.legal P.0 P.1 i on in
      let k = kept heads b.old b.came.later P.0 Q (some_old b.old b.long) (subst IsLegal b.came.log_is legal) P.1
      (subst (λ (L : Log). Shows L Q) b.came.log_is shown) (leaves b.old R b.came) (place_none b.old R b.came) p.floor i
      h in
      record {
        doc = k.doc;
        head = k.head;
        item = k.item;
        has = k.has;
        dead = more_dead R p.floor q.floor k.doc clean.rises.floor
            (subst (λ (L : Log). IsDead L p.floor k.doc) (sym b.came.log_is) k.dead);
      }

  pub heads_kept : HaveDeadHeads device g q items
  heads_kept = now_seen device g q (λ S X. (i : ℕ) → In i items → HasDeadHead S X q.floor i) whole' heads_now

  -- once no row is linked that was
  pub dead_kept : AreGoneSince device f.journal.state.records g → AreDead device g q items
  dead_kept gone = now_seen device g q (λ S X. (i : ℕ) → In i items → MayLeave S X q.floor i) whole' now
    where
      now : Behind device g (λ (R : Log). (P : Pages) → Shows R P → (i : ℕ) → In i items → MayLeave R P q.floor i)
      now tells up R stands legal Q shown i on =
          let b = earlier tells up R stands legal in
          let P = shown_by b.old b.legal.valid in
          let h : HasDeadHead b.old P.0 p.floor i =
          seen_now device f p (λ S X. (j : ℕ) → In j items → HasDeadHead S X p.floor j) whole found tells b.up b.old
          b.stands b.legal P.0 P.1 i on in
          let k = heads_now tells up R stands legal Q shown i on in
          record {
            doc = k.doc;
            head = k.head;
            item = k.item;
            has = k.has;
            dead = k.dead;
            no_row = λ w. gone tells up R stands legal w.row
                (subst (λ (n : ℕ). IsStillIn n R w.row) b.long
                (subst (λ (L : Log). IsStillIn (length b.old) L w.row) (sym b.came.log_is)
                (still heads b.old b.came.later P.0 Q (some_old b.old b.long) (subst IsLegal b.came.log_is legal) P.1
                (subst (λ (L : Log). Shows L Q) b.came.log_is shown) (leaves b.old R b.came) (place_none b.old R b.came)
                p.floor i h w.row w.item w.linked)));
          }
