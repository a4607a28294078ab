-- Over records that only add pairs stay; over those of the kinds 13 to 17 heads and rows stay too.
use Rattle.std.proofs.Common.{◌≡◌, ◌≢◌, ◌⊎◌, ◌<◌, ℕ, [], ◌∷◌, ◌++◌, refl, sym, subst, ◌∙◌, inl, inr, arith}
use Rattle.ts_base.specs.Vectors.{Vector}
use Rattle.ts_base.specs.Keys.{Key, keys_of, lexeme_key, placeholder}
use Rattle.page_types.specs.Records.{kind_number}
use Rattle.page_types.specs.declared.page.Row.{Row}
use Rattle.page_types.specs.declared.record.Record.{Record}
use Rattle.page_types.specs.declared.record.Kind.{Kind}
use Rattle.page_types.specs.declared.record.Kind.TheVariants as kind
use Rattle.core_state.specs.Log.{Log, Pages, In, Shows}
use Rattle.core_state.specs.Documents.{HasVector}
use Rattle.core_state.specs.History.{History, IsHistoryWith, IsHistory}
use Rattle.core_state.specs.Index.{IsLinked, Main}
use Rattle.core_state.specs.Legal.{IsLegal}
use Rattle.core_state.specs.Steady.{IsIndexWork}
use Rattle.core_state.specs.RecordKeeps.{PlacingKeeps}
use Rattle.core_state.proofs.Showing.{shown_one}
use Rattle.core_state.proofs.Newest.{legal_less}
use Rattle.core_state.proofs.LawsHold.{records, steady}
use Rattle.core_state.proofs.Law.AllCases.{all_steps}
use Rattle.core_state.proofs.Law.NowIndexed.{leaves}
use Rattle.core_maintenance.specs.MovingSteps.{IsAllMain}
use Rattle.core_maintenance.specs.Keeping.{IsPlacing, PairsStay, HoldsAfter, PairsHold, PlacingHolds, HistoryHolds}

-- a log that goes on after one that isn't empty isn't empty
pub some_behind : (later R : Log) → R ≢ [] → later ++ R ≢ []
some_behind [] R some = some
some_behind (r ∷ later) R some = λ e. cc

-- What holds of the same pages, and over one record more, and is carried from pages to pages, holds over
-- all these records.
module _ (Is : Record → Type 0) (Holds : Pages → Pages → Type 0) (same : (P : Pages) → Holds P P)
    (joined : (P Q S : Pages) → Holds P Q → Holds Q S → Holds P S)
    (step : (R : Log) (r : Record) (P Q : Pages) → R ≢ [] → IsLegal (r ∷ R) → Shows R P → Shows (r ∷ R) Q → Is r
    → Holds P Q) where
  over : (R later : Log) (P Q : Pages) → R ≢ [] → IsLegal (later ++ R) → Shows R P → Shows (later ++ R) Q
      → ((r : Record) → In r later → Is r) → Holds P Q
  over R [] P Q some legal shown shown' each = subst (Holds P) (shown_one R P Q shown shown') (same P)
  over R (r ∷ later) P Q some legal shown shown' each =
      let u = legal.valid.1 in
      joined P u.before Q
      (over R later P u.before some (legal_less r (later ++ R) legal) shown u.shown (λ s i. each s (inr i)))
      (step (later ++ R) r u.before Q (some_behind later R some) legal u.shown shown' (each r (inl refl)))

  pub holds_after : HoldsAfter (λ later. (r : Record) → In r later → Is r) Holds
  holds_after R later R' P Q on some legal shown shown' each =
      over R later P Q some (subst IsLegal on legal) shown (subst (λ (S : Log). Shows S Q) on shown') each

-- a kind below 12 is no work on the index
pub early : (k : Kind) → (kind_number k < 12) → IsIndexWork k → ⊥
early k low work = omega (arith, low, work.0)

-- a vector has a key, so that a document in the main part has a pair there
some_key : (w : Vector) → (k : Key) × In k (keys_of w)
some_key [] = (placeholder, inl refl)
some_key (e ∷ es) = (lexeme_key e.lexeme, inl refl)

-- a document with all its keys in the main part stays whole, where the pairs stay
all_main_stays : (R : Log) (r : Record) (P Q : Pages) → IsLegal (r ∷ R) → Shows R P → Shows (r ∷ R) Q
    → ((k : Key) (i : ℕ) → Main P k i → Main Q k i) → (i : ℕ) → IsAllMain P i → IsAllMain Q i
all_main_stays R r P Q legal shown shown' main i m =
    let u = legal.valid.1 in
    let same : u.before ≡ P = shown_one R u.before P u.shown shown in
    let then : u.after ≡ Q = shown_one (r ∷ R) u.after Q u.shown_after shown' in
    let whole = (leaves all_steps R r legal.valid.0 u).whole in
    let old = subst (λ (S : Pages). HasVector S m.0 m.1) (sym same) m.3 in
    elim (whole m.0 old.0 m.1 old.1 old.2) [
      | inl now ↦ (
        m.0,
        m.1,
        m.2,
        subst (λ (S : Pages). HasVector S m.0 m.1) then (now.0, now.1, now.2),
        λ k j. main k i (m.4 k j),
      )
      | inr gone ↦
          let k = some_key m.1 in
          let pair : Main P k.0 i = m.4 k.0 k.1 in
          absurd (gone.1.no_posting k.0 (subst (λ (S : Pages). Main S k.0 m.0.item) (sym same)
          (subst (Main P k.0) (sym m.2) pair)))
    ]

pairs_of : (P Q : Pages) → ((w : Row) → IsLinked P w → IsLinked Q w) → ((k : Key) (i : ℕ) → Main P k i → Main Q k i)
    → ((i : ℕ) → IsAllMain P i → IsAllMain Q i) → PairsStay P Q
pairs_of P Q rows main all = record {
  rows = rows;
  pending = λ k i p. record { row = p.row; linked = rows p.row p.linked; item = p.item; key = p.key };
  main = main;
  all_main = all;
}

pairs_step : (R : Log) (r : Record) (P Q : Pages) → R ≢ [] → IsLegal (r ∷ R) → Shows R P → Shows (r ∷ R) Q
    → (kind_number r.kind < 12) ⊎ IsPlacing r.kind → PairsStay P Q
pairs_step R r P Q some legal shown shown' (inl low) =
    let stay = (steady R (r ∷ []) (r ∷ R) P Q refl some (legal_less r R legal) legal shown shown').index_stays
    (λ s i w. elim i [ inl e ↦ early r.kind low (subst (λ (x : Record). IsIndexWork x.kind) e w) | inr none ↦ none ]) in
    let main = λ (k : Key) (i : ℕ). (stay.main k i).0 in
    pairs_of P Q stay.rows main (all_main_stays R r P Q legal shown shown' main)
pairs_step R r P Q some legal shown shown' (inr is) =
    let keep = (records R r P Q some legal shown shown').placing is.0 is.1 in
    pairs_of P Q (λ w. (keep.rows w).0) keep.main (all_main_stays R r P Q legal shown shown' keep.main)

pub pairs_hold : PairsHold
pairs_hold = holds_after (λ r. (kind_number r.kind < 12) ⊎ IsPlacing r.kind) PairsStay
    (λ P. pairs_of P P (λ w k. k) (λ k i m. m) (λ i m. m))
    (λ P Q S a b. pairs_of P S (λ w k. b.rows w (a.rows w k)) (λ k i m. b.main k i (a.main k i m))
    (λ i m. b.all_main i (a.all_main i m)))
    pairs_step

pub placing_holds : PlacingHolds
placing_holds = holds_after (λ r. IsPlacing r.kind) PlacingKeeps
    (λ P. record { heads = λ i. refl; rows = λ w. (λ k. k, λ k. k); main = λ k i m. m })
    (λ P Q S a b. record {
      heads = λ i. b.heads i ∙ a.heads i;
      rows = λ w. (λ k. (b.rows w).0 ((a.rows w).0 k), λ k. (a.rows w).1 ((b.rows w).1 k));
      main = λ k i m. b.main k i (a.main k i m);
    })
    (λ R r P Q some legal shown shown' is. (records R r P Q some legal shown shown').placing is.0 is.1)

-- a record that is no commit adds none
same_history : (k : Kind) (x : ℕ) (R : Log) (H : History) → IsIndexWork k → IsHistory R H
    → IsHistoryWith k x R (IsHistory R) H
same_history (kind.Commit n) x R H work is = absurd (omega (arith, work))
same_history _ x R H work is = is

pub history_holds : HistoryHolds
history_holds R [] H each is = is
history_holds R (r ∷ later) H each is =
    same_history r.kind r.xid (later ++ R) H (each r (inl refl))
    (history_holds R later H (λ s i. each s (inr i)) is)
