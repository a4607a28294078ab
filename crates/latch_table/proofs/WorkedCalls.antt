-- The steps of that pass, one after the other: the rule holds of a table whose pass has seen the Create,
-- the Begin and the Abort.
use Rattle.std.proofs.Common.{◌≡◌, ◌≢◌, ℕ, ◌<◌, eqb, false, List, [], ◌∷◌, ◌++◌, map, length, get_or, set}
use Rattle.std.proofs.Common.{replicate, refl, sym, ap, subst, ◌∙◌, arith}
use Rattle.std.specs.Prelude.{Some}
use Rattle.std.specs.declared.snapshot.Snapshot.{Snapshot}
use mathlib.Core.Option.{some}
use lib.ListN.{get_elem?}
use prog.Atomic.{either}
use Rattle.atomic_table.specs.Table.{State, Act, stepped, opening}
use Rattle.core_state.specs.Log.{Log}
use Rattle.latch_table.specs.declared.slots.Slot.{Slot}
use Rattle.latch_table.specs.declared.slots.Slot.TheVariants.{Frame, Journal, Away}
use Rattle.latch_table.specs.declared.states.PassState.{PassState}
use Rattle.latch_table.specs.PassStates.{first_state}
use Rattle.latch_table.specs.Told.{HasOpened, HasClaimed, HasClaimedWork, HasClaimedJournal}
use Rattle.latch_table.specs.Giving.{Entry, MayGive, HasGivenJournal}
use Rattle.latch_table.specs.Laying.{CanLie}
use Rattle.latch_table.specs.Appending.{logged}
use Rattle.latch_table.specs.Rule.{Kept}
use Rattle.latch_table.proofs.Starts.{starts}
use Rattle.latch_table.proofs.Opens.{opens}
use Rattle.latch_table.proofs.ClaimFrames.{claims_frame}
use Rattle.latch_table.proofs.ClaimJournal.{claims_journal}
use Rattle.latch_table.proofs.ClaimWork.{claims_work}
use Rattle.latch_table.proofs.GiveJournal.{gives_journal}
use Rattle.latch_table.proofs.Worked.{Leaf, leaf, diary, frames, can_lie, create_record, begin_record, abort_record}
use Rattle.latch_table.proofs.Worked.{create, begin, abort, has_claimed, has_given, holding, ready, creates, begins}
use Rattle.latch_table.proofs.Worked.{aborts}
use Rattle.latch_table.proofs.Views.{changed_at}

module _ (key : Snapshot Log) (empty : key.value ≡ []) where
  abbrev St : Type 0
  St = State (Slot Leaf Log) (PassState Log)

  abbrev Rule : St → Type 0
  Rule = Kept leaf diary key.value

  -- a table that keeps the rule, with these words, of which the first seat has this view
  pub record At (v : PassState Log) (words : List ℕ) : Type 0 where
    pub state : St
    pub rule : Rule state
    pub is : state.words ≡ words
    pub at : get_elem? state.views 0 ≡ some v

  deep : (v : PassState Log) (ws : List ℕ) (t : At v ws) → length ws ≡ 4 → length t.state.homes ≡ 4
  deep v ws t four = t.rule.words.deep ∙ sym t.rule.words.wide ∙ ap length t.is ∙ four

  low : (v : PassState Log) (ws : List ℕ) (t : At v ws) (i : ℕ) → get_or ws i 0 < 18446744073709551616
      → get_or t.state.words i 0 < 18446744073709551616
  low v ws t i lt = subst (λ (l : List ℕ). get_or l i 0 < 18446744073709551616) (sym t.is) lt

  -- the table after a step
  after : (v : PassState Log) (ws : List ℕ) (t : At v ws) (i : ℕ) (f : ℕ → ℕ) (c : List (ℕ × Slot Leaf Log))
      (w : PassState Log)
      (a : Act (Slot Leaf Log)) → Rule (stepped t.state i (f (get_or t.state.words i 0)) 0 c w a)
      → At w (set ws i (f (get_or ws i 0)))
  after v ws t i f c w a rule = record {
    state = stepped t.state i (f (get_or t.state.words i 0)) 0 c w a;
    rule = rule;
    is = ap (λ (l : List ℕ). set l i (f (get_or l i 0))) t.is;
    at = changed_at t.state.views 0 v w t.at;
  }

  some_room : (v : PassState Log) → v.room ≡ 16 → v.room ≢ 0
  some_room v room e = omega (arith, room, e)

  start : At (first_state key) (0 ∷ 0 ∷ 0 ∷ 0 ∷ [])
  start = record {
    state = opening (replicate 4 0) (map Frame frames ++ Journal key.value ∷ Away ∷ []) (first_state key);
    rule = starts leaf diary frames key (subst (CanLie leaf diary frames) (sym empty) can_lie);
    is = refl;
    at = refl;
  }

  opened_at : (v : PassState Log) × At v (0 ∷ 0 ∷ 0 ∷ 0 ∷ []) × HasOpened diary [] (first_state key) v
  opened_at =
      let t = start in
      let r = opens leaf diary key.value 4 0 key t.state t.rule (deep _ _ t refl) t.at (low _ _ t 0 (omega arith)) in (
        r.0,
        after _ _ t 0 (λ n. n) [] r.0 r.1 r.3,
        subst (λ (b : Log). HasOpened diary b (first_state key) r.0) empty (r.4 key refl).0,
      )

  worker_at : (v : PassState Log) × At v (0 ∷ 0 ∷ 0 ∷ 1 ∷ []) × HasClaimedWork diary opened_at.0 v
  worker_at =
      let t = opened_at.1 in
      let room = some_room opened_at.0 (ap (λ (x : PassState Log). x.room) opened_at.2.state) in
      let r = claims_work leaf diary key.value false 4 0 3 (opened_at.0, []) refl room t.state t.rule
      (deep _ _ t refl) t.at (low _ _ t 3 (omega arith)) in
      let found = ap (λ (l : List ℕ). get_or l 3 0) t.is in
      (r.0, after _ _ t 3 (λ x. either (eqb x 0) 1 x) [] r.0 r.1 r.3, r.4.1 found)

  first_at : (v : PassState Log) × (f : Leaf) × At v (1 ∷ 0 ∷ 0 ∷ 1 ∷ []) × HasClaimed leaf diary 0 0 f worker_at.0 v
  first_at =
      let t = worker_at.1 in
      let room = some_room worker_at.0
      (ap (λ (x : PassState Log). x.room) worker_at.2.state ∙ ap (λ (x : PassState Log). x.room) opened_at.2.state) in
      let r = claims_frame leaf diary key.value false 4 0 0 0 (worker_at.0, []) (omega arith) room t.state t.rule
      (deep _ _ t refl) t.at (low _ _ t 0 (omega arith)) in
      let told = r.4.0 (ap (λ (l : List ℕ). get_or l 0 0) t.is) in
      (r.0, told.0, after _ _ t 0 (λ x. either (eqb x 0) 1 x) [] r.0 r.1 r.3, told.1)

  second_at : (v : PassState Log) × (f : Leaf) × At v (1 ∷ 2 ∷ 0 ∷ 1 ∷ []) × HasClaimed leaf diary 1 1 f first_at.0 v
  second_at =
      let t = first_at.2 in
      let room = some_room first_at.0
      (ap (λ (x : PassState Log). x.room) first_at.3.state ∙ ap (λ (x : PassState Log). x.room) worker_at.2.state
      ∙ ap (λ (x : PassState Log). x.room) opened_at.2.state) in
      let r = claims_frame leaf diary key.value false 4 0 1 1 (first_at.0, []) (omega arith) room t.state t.rule
      (deep _ _ t refl) t.at (low _ _ t 1 (omega arith)) in
      let told = r.4.0 (ap (λ (l : List ℕ). get_or l 1 0) t.is) in
      (r.0, told.0, after _ _ t 1 (λ x. either (eqb x 0) 2 x) [] r.0 r.1 r.3, told.1)

  -- the journal is claimed
  claim : (v : PassState Log) → v.room ≡ 16 → At v (1 ∷ 2 ∷ 0 ∷ 1 ∷ [])
      → (w : PassState Log) × (b : Log) × At w (1 ∷ 2 ∷ 1 ∷ 1 ∷ []) × HasClaimedJournal diary b v w
  claim v full t =
      let r = claims_journal leaf diary key.value 4 0 2 (v, []) refl (some_room v full) t.state t.rule
      (deep _ _ t refl) t.at (low _ _ t 2 (omega arith)) in
      let told = r.4.0 (ap (λ (l : List ℕ). get_or l 2 0) t.is) in
      (r.0, told.0, after _ _ t 2 (λ x. either (eqb x 0) 1 x) [] r.0 r.1 r.3, told.1)

  -- and given back with a record
  give : (v w : PassState Log) (b b' : Log) (e : Entry) → v.room ≡ 16 → v.fresh ≡ false → v.start ≡ Some key
      → At w (1 ∷ 2 ∷ 1 ∷ 1 ∷ [])
      → HasClaimedJournal diary b v w → MayGive diary 2 w w.seen b b' (logged e w)
      → (x : PassState Log) × At x (1 ∷ 2 ∷ 0 ∷ 1 ∷ []) × HasGivenJournal diary b b' (logged e w) w x
  give v w b b' e full seen begun t has may =
      let is = ap (λ (y : PassState Log). y.journal) has.state in
      let r = gives_journal leaf diary key.value (λ y c. logged e y) 4 0 2 (w, (2, Journal b') ∷ []) b' [] refl
      (some_room w (ap (λ (y : PassState Log). y.room) has.state ∙ full))
      (ap (λ (y : PassState Log). y.fresh) has.state ∙ seen)
      (key, ap (λ (y : PassState Log). y.start) has.state ∙ begun) refl (b, is, may)
      t.state t.rule (deep _ _ t refl) t.at (low _ _ t 2 (omega arith)) in
      (r.0, after _ _ t 2 (λ x. 0) ((2, Journal b') ∷ []) r.0 r.1 r.3, (r.4 b b' [] is refl).0)

  -- a Create, a Begin and an Abort, one after the other
  pub happens : (v : PassState Log) × At v (1 ∷ 2 ∷ 0 ∷ 1 ∷ [])
      × (v.seen ≡ abort_record ∷ begin_record ∷ create_record ∷ [])
  happens =
      let v1 = opened_at.0 in
      let v2 = worker_at.0 in
      let v3 = first_at.0 in
      let v4 = second_at.0 in
      let laid = opened_at.2 in
      let right = worker_at.2 in
      let first = first_at.3 in
      let second = second_at.3 in
      let h4 = holding key empty v1 v2 v3 v4 first_at.1 second_at.1 laid right first second in
      let a = claim v4 h4.room second_at.2 in
      let h5 = ready key empty v1 v2 v3 v4 first_at.1 second_at.1 laid right first second a.0 a.1 a.3 in
      let b = give v4 a.0 a.1 (create_record ∷ []) create h4.room h4.fresh h4.start a.2 a.3
      (creates key empty v1 v2 v3 v4 first_at.1 second_at.1 laid right first second a.0 a.1 a.3) in
      let h6 = has_given key [] a.1 (create_record ∷ []) create [] [] a.0 b.0 h5 b.2 in
      let c = claim b.0 h6.room b.1 in
      let d = give b.0 c.0 c.1 (begin_record ∷ create_record ∷ []) begin h6.room h6.fresh h6.start c.2 c.3
      (begins key empty v1 v2 v3 v4 first_at.1 second_at.1 laid right first second a.0 a.1 a.3 b.0 c.0 c.1 b.2 c.3) in
      let h7 = has_claimed key (create_record ∷ []) c.1 [] [] b.0 c.0 empty h6 c.3 in
      let h8 = has_given key (create_record ∷ []) c.1 (begin_record ∷ create_record ∷ []) begin [] [] c.0 d.0 h7 d.2 in
      let e = claim d.0 h8.room d.1 in
      let f =
      give d.0 e.0 e.1 (abort_record ∷ begin_record ∷ create_record ∷ []) abort h8.room h8.fresh h8.start e.2 e.3
      (aborts key empty v1 v2 v3 v4 first_at.1 second_at.1 laid right first second a.0 a.1 a.3 b.0 c.0 c.1 b.2 c.3 d.0
      e.0 e.1 d.2 e.3) in
      let h9 = has_claimed key (begin_record ∷ create_record ∷ []) e.1 (1 ∷ []) (1 ∷ []) d.0 e.0 empty h8 e.3 in
      let h10 = has_given key (begin_record ∷ create_record ∷ []) e.1
      (abort_record ∷ begin_record ∷ create_record ∷ []) abort (1 ∷ []) (1 ∷ []) e.0 f.0 h9 f.2 in
      (f.0, f.1, h10.seen)
