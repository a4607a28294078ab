-- Dead documents over the records of a vacuum.
use Rattle.std.proofs.Common.{◌≡◌, ◌≢◌, ◌⊎◌, ◌≤◌, ◌<◌, ℕ, List, [], ◌∷◌, ◌++◌, refl, sym, ap, ap₂, subst}
use Rattle.std.proofs.Common.{◌∙◌}
use Rattle.std.proofs.Common.{inl, inr, arith}
use Rattle.page_types.specs.Records.{kind_number}
use Rattle.page_types.specs.declared.page.Head.{Head}
use Rattle.page_types.specs.declared.record.Record.{Record}
use Rattle.page_types.specs.declared.record.Kind.{Kind}
use Rattle.page_types.specs.declared.record.Kind.TheVariants as kind
use Rattle.ts_base.specs.Keys.{Key}
use Rattle.core_state.specs.Log.{Log, Pages, In, Shows, commits, commits_with}
use Rattle.core_state.specs.Documents.{Doc, Has, IsDead, doc_at, name_of, placed, placed_with, marked}
use Rattle.core_state.specs.Index.{HasRow, Pending, Main}
use Rattle.core_state.specs.Legal.{IsLegal}
use Rattle.core_state.specs.Steady.{IsIndexWork, SteadyFacts}
use Rattle.core_state.specs.VacuumRules.{MayLeave}
use Rattle.core_state.proofs.LawsHold.{steady, bullets, documents}
use Rattle.core_state.proofs.Newest.{legal_less}
use Rattle.core_state.proofs.NeverAgain.{never_again, one_doc, placed_then}
use Rattle.core_state.proofs.PlacedOnce.{marked_cases, one_named}
use Rattle.core_state.proofs.RunningOnes.{same_or_other}
use Rattle.core_state.proofs.Showing.{shown_one}
use Rattle.core_vacuum.specs.DeadHeads.{HasDeadHead}
use Rattle.core_vacuum.specs.Keeping.{IsVacuum, VacuumHolds}
use Rattle.buffer_frames.proofs.FirstLogs.{shown_by}
use Rattle.engine.specs.Vacuuming.{IsLive}

-- a log that goes on after one that isn't empty isn't empty
pub some_more : (later R : Log) → R ≢ [] → later ++ R ≢ []
some_more [] R some = some
some_more (r ∷ later) R some = λ e. cc

-- ── who is placed ──

-- records that place no head
abbrev pub PlaceNone : List Record → Type 0
PlaceNone later = (r : Record) → In r later → kind_number r.kind ≢ 6

pub placed_same : (later R : Log) (x : ℕ) (d : Doc) → PlaceNone later → In d (placed (later ++ R) x)
    → In d (placed R x)
placed_same [] R x d none i = i
placed_same (r ∷ later) R x d none i =
    placed_same later R x d (λ s j. none s (inr j))
    (by r.kind (none r (inl refl)) i)
  where
    by : (k : Kind) → kind_number k ≢ 6 → In d (placed_with k r.xid x (placed (later ++ R) x))
        → In d (placed (later ++ R) x)
    by (kind.PlaceHead item serial) off j = absurd (off refl)
    by _ off j = j

-- a dead document was placed
marked_placed : (R : Log) (x : ℕ) (d : Doc) → IsLegal R → In d (marked R x) → (y : ℕ) × In d (placed R y)
marked_placed [] x d legal i = absurd i
marked_placed (r ∷ R) x d legal i = elim (marked_cases R r x d legal.valid i) [
  | inl old ↦
      let p = marked_placed R x d (legal_less r R legal) old in (p.0, placed_then (r ∷ []) R p.0 d p.1)
  | inr new ↦
      let at = (documents R new.pages (legal_less r R legal) new.shown).inserted d.item new.head new.at in
      let same : doc_at d.item new.head.serial ≡ d = ap (doc_at d.item) new.serial in (
        new.head.inserted_by,
        placed_then (r ∷ []) R new.head.inserted_by d
            (subst (λ (c : Doc). In c (placed R new.head.inserted_by)) same at),
      )
]

pub dead_placed : (R : Log) (floor : ℕ) (d : Doc) → IsLegal R → IsDead R floor d → (x : ℕ) × In d (placed R x)
dead_placed R floor d legal (IsDead.insert_aborted x a i) = (x, i)
dead_placed R floor d legal (IsDead.delete_counted x n a b i) = marked_placed R x d legal i

pub has_placed : (R : Log) (P : Pages) (d : Doc) (h : Head) → IsLegal R → Shows R P → Has P d h
    → In d (placed R h.inserted_by)
has_placed R P d h legal shown has =
    subst (λ (c : Doc). In c (placed R h.inserted_by)) (ap (doc_at d.item) has.serial)
    ((documents R P legal shown).inserted d.item h has.at)

-- ── dead documents that have their slots ──

module _ (later R : Log) (P Q : Pages) (some : R ≢ []) (legal : IsLegal (later ++ R)) (was : IsLegal R)
    (shown : Shows R P) (shown' : Shows (later ++ R) Q) where
  pub facts : SteadyFacts R later (later ++ R) P Q
  facts = steady R later (later ++ R) P Q refl some was legal shown shown'

  -- the document that has the slot is the one that had it
  pub same_doc : PlaceNone later → (d e : Doc) (h g : Head) → Has P d h → Has Q e g → e.item ≡ d.item → e ≡ d
  same_doc none d e h g has then at = elim (same_or_other e.serial d.serial) [
    | inl same ↦ ap₂ doc_at at same
    | inr off ↦
        absurd (never_again later R P Q g.inserted_by e legal.valid shown shown'
        (placed_same later R g.inserted_by e none (has_placed (later ++ R) Q e g legal shown' then))
        (λ k before. off (ap (λ (c : Doc). c.serial) (one_doc P e d k h before has at))) g then)
  ]

  -- so a dead one has it still, where the item has a dead document's head
  pub head_still : PlaceNone later → (d : Doc) (h : Head) (floor : ℕ) → Has P d h
      → HasDeadHead (later ++ R) Q floor d.item → (g : Head) × Has Q d g
  head_still none d h floor has then =
      let one : then.doc ≡ d = same_doc none d then.doc h then.head has then.has then.item in
      (then.head, subst (λ (c : Doc). Has Q c then.head) one then.has)

-- what is dead by some commits is so by more
pub more_dead : (R : Log) (m n : ℕ) (d : Doc) → m ≤ n → IsDead R m d → IsDead R n d
more_dead R m n d le (IsDead.insert_aborted x a b) = IsDead.insert_aborted x a b
more_dead R m n d le (IsDead.delete_counted x k a b c) = IsDead.delete_counted x k a (omega (arith, b, le)) c

-- what is dead in a log is dead in one that goes on from it
pub dead_then : (later R : Log) (floor : ℕ) (d : Doc) → R ≢ [] → IsLegal (later ++ R) → IsLegal R → IsDead R floor d
    → IsDead (later ++ R) floor d
dead_then later R floor d some legal was dead =
    let P = shown_by R was.valid in
    let Q = shown_by (later ++ R) legal.valid in
    (facts later R P.0 Q.0 some legal was P.1 Q.1).ends_stay.dead_stays d floor dead

-- ── pairs ──

-- a record that takes dead documents out, or an Abort of all that ran
abbrev pub Takes : Record → Type 0
Takes r = IsVacuum r.kind ⊎ (kind_number r.kind < 12)

-- a record of work on the index is none
late : (k : Kind) → kind_number k < 12 → IsIndexWork k → ⊥
late k low w = omega (arith, low, w.0)

module _ (vacuum : VacuumHolds) where
  module _ (r : Record) (R : Log) (P Q : Pages) (some : R ≢ []) (legal : IsLegal (r ∷ R)) (shown : Shows R P)
      (shown' : Shows (r ∷ R) Q) where
    one : SteadyFacts R (r ∷ []) (r ∷ R) P Q
    one = facts (r ∷ []) R P Q some legal (legal_less r R legal) shown shown'

    early : kind_number r.kind < 12 → (s : Record) → In s (r ∷ []) → IsIndexWork s.kind → ⊥
    early low s (inl e) w = late r.kind low (subst (λ (x : Record). IsIndexWork x.kind) e w)
    early low s (inr none) w = none

    row_on : Takes r → (i : ℕ) → HasRow P i → HasRow Q i
    row_on (inl v) i h = record {
      row = h.row;
      linked = ((vacuum R r P Q some legal shown shown' v).rows h.row).0 h.linked;
      item = h.item;
    }
    row_on (inr low) i h = record {
      row = h.row;
      linked = (one.index_stays (early low)).rows h.row h.linked;
      item = h.item;
    }

    main_on : Takes r → (k : Key) (i : ℕ) → (MayLeave R P (commits R) i → ⊥) → Main P k i → Main Q k i
    main_on (inl v) k i not m = elim ((vacuum R r P Q some legal shown shown' v).pairs k i m) [
      | inl stays ↦ stays
      | inr may ↦ absurd (not may)
    ]
    main_on (inr low) k i not m = ((one.index_stays (early low)).main k i).0 m

  pub rows_over : (later R : Log) (P Q : Pages) → R ≢ [] → IsLegal (later ++ R) → Shows R P → Shows (later ++ R) Q
      → ((r : Record) → In r later → Takes r) → (i : ℕ) → HasRow P i → HasRow Q i
  rows_over [] R P Q some legal shown shown' each i h =
      subst (λ (X : Pages). HasRow X i) (shown_one R P Q shown shown') h
  rows_over (r ∷ later) R P Q some legal shown shown' each i h =
      let T : Log = later ++ R in
      let before : IsLegal T = legal_less r T legal in
      let M = shown_by T before.valid in
      row_on r T M.0 Q (some_more later R some) legal M.1 shown' (each r (inl refl)) i
      (rows_over later R P M.0 some before shown M.1 (λ s j. each s (inr j)) i h)

  -- a pair stays whose item may leave in none of the logs between
  pub mains_over : (later R : Log) (P Q : Pages) → R ≢ [] → IsLegal (later ++ R) → Shows R P → Shows (later ++ R) Q
      → ((r : Record) → In r later → Takes r) → (k : Key) (i : ℕ)
      → ((a b : Log) (M : Pages) → later ≡ a ++ b → Shows (b ++ R) M → MayLeave (b ++ R) M (commits (b ++ R)) i → ⊥)
      → Main P k i → Main Q k i
  mains_over [] R P Q some legal shown shown' each k i not m =
      subst (λ (X : Pages). Main X k i) (shown_one R P Q shown shown') m
  mains_over (r ∷ later) R P Q some legal shown shown' each k i not m =
      let T : Log = later ++ R in
      let before : IsLegal T = legal_less r T legal in
      let M = shown_by T before.valid in
      main_on r T M.0 Q (some_more later R some) legal M.1 shown' (each r (inl refl)) k i
      (not (r ∷ []) later M.0 refl M.1)
      (mains_over later R P M.0 some before shown M.1 (λ s j. each s (inr j)) k i
      (λ a b X e s may. not (r ∷ a) b X (ap (λ (l : Log). r ∷ l) e) s may) m)

-- ── live documents ──

commits_more : (k : Kind) (c : ℕ) → c ≤ commits_with k c
commits_more (kind.Commit n) c = omega arith
commits_more _ c = omega arith

commits_grow : (later R : Log) → commits R ≤ commits (later ++ R)
commits_grow [] R = omega arith
commits_grow (r ∷ later) R =
    let le = commits_grow later R in
    let more = commits_more r.kind (commits (later ++ R)) in
    omega (arith, le, more)

behind : (xs S : Log) → IsLegal (xs ++ S) → IsLegal S
behind [] S l = l
behind (x ∷ xs) S l = behind xs S (legal_less x (xs ++ S) l)

-- The owner of a pair that was pending is not dead in the log at hand: its item may leave in no log between.
pub live_stays : (later mid R : Log) (P M : Pages) (k : Key) (i : ℕ) → R ≢ [] → IsLegal (later ++ (mid ++ R))
    → Shows R P
    → Shows (mid ++ R) M → Pending P k i → IsLive (later ++ (mid ++ R)) P i
    → MayLeave (mid ++ R) M (commits (mid ++ R)) i → ⊥
live_stays later mid R P M k i some legal shown shown' pending live may =
    let T : Log = mid ++ R in
    let t : IsLegal T = behind later T legal in
    let was : IsLegal R = behind mid R t in
    let own = (bullets R P was shown).owned.pending k i pending in
    let not : IsDead T (commits T) own.doc → ⊥ = λ dead.
    live own.doc own.head own.has own.item
    (more_dead (later ++ T) (commits T) (commits (later ++ T)) own.doc (commits_grow later T)
    (dead_then later T (commits T) own.doc (some_more mid R some) legal t dead)) in
    let s = (facts mid R P M some t was shown shown').live_stay
    (record { name = name_of own.doc; vector = own.vector })
    (record { doc = own.doc; head = own.head; name = refl; has = own.has; content = own.whole }) not in
    let same : own.doc ≡ s.doc = one_named own.doc s.doc s.name in
    let there : Has M own.doc s.head = subst (λ (c : Doc). Has M c s.head) (sym same) s.has in
    let one : may.doc ≡ own.doc = one_doc M may.doc own.doc may.head s.head may.has there (may.item ∙ sym own.item) in
    not (subst (IsDead T (commits T)) one may.dead)
