-- What was pending is in the main part once its row is gone, over the records of a cleanup.
use Rattle.std.proofs.Common.{◌≡◌, ◌≢◌, ◌⊎◌, ◌≤◌, ◌<◌, ℕ, suc, List, [], ◌∷◌, ◌++◌, length, refl, sym, ap, subst, ◌∙◌}
use Rattle.std.proofs.Common.{inl, inr, arith, append_assoc, length-append}
use Rattle.std.specs.Prelude.{◌+◌, Bool, true, false}
use Rattle.std.specs.List.{AllByRecursion}
use Rattle.disk_trait.specs.declared.device.Disk.{Ghosts as Disk}
use Rattle.ts_base.specs.Vectors.{Vector}
use Rattle.ts_base.specs.Keys.{Key, keys_of}
use Rattle.page_types.specs.Records.{kind_number}
use Rattle.page_types.specs.Views.{rows_of, rows_in, first_in}
use Rattle.page_types.specs.declared.page.Page.{Page}
use Rattle.page_types.specs.declared.page.Head.{Head}
use Rattle.page_types.specs.declared.page.Row.{Row}
use Rattle.page_types.specs.declared.record.Record.{Record}
use Rattle.page_types.specs.declared.record.Kind.{Kind}
use Rattle.page_types.specs.declared.record.Kind.TheVariants as kind
use Rattle.core_state.specs.Log.{Log, Pages, In, Shows, changed, cut}
use Rattle.core_state.specs.Documents.{IsWhole, head_of}
use Rattle.core_state.specs.Index.{IsLinked, Pending, Main}
use Rattle.core_state.specs.Legal.{IsLegal}
use Rattle.core_state.specs.PendingRules.{IsShift}
use Rattle.core_state.proofs.Showing.{shown_one}
use Rattle.core_state.proofs.Newest.{legal_less, cut_less}
use Rattle.core_state.proofs.RulesByKind.{kind_rule}
use Rattle.core_state.proofs.PageLists.{two_pages}
use Rattle.core_state.proofs.RunningOnes.{same_or_other}
use Rattle.core_state.proofs.Histories.{whole_one}
use Rattle.core_state.proofs.LawsHold.{bullets}
use Rattle.core_maintenance.specs.Keeping.{IsPlacing, OnlyAdd, PairsHold, ShiftHolds, ShiftKeeps}
use Rattle.buffer_frames.specs.Frames.{FramesValue, Behind}
use Rattle.buffer_frames.specs.Journals.{owed_abort}
use Rattle.buffer_frames.specs.Passes.{HasAdded, GoesOnBy, before_more}
use Rattle.buffer_frames.proofs.AtHand.{cut_whole, log_length}
use Rattle.buffer_frames.proofs.PassesOf.{some_one}
use Rattle.buffer_frames.proofs.FirstLogs.{shown_by}
use Rattle.gin_place.proofs.Logs.{cut_front}
use Rattle.gin_cleanup.specs.Cleaning.{IsStillIn}
use Rattle.gin_cleanup.specs.Going.{IsCleaningKind}
use Rattle.gin_cleanup.proofs.ListKept.{in_kinds, all_in}
use Rattle.engine.specs.Inner.Cleaned.{AreGoneSince}

-- the record only adds, or is a Shift
abbrev Moves : Record → Type 0
Moves r = ((kind_number r.kind < 12) ⊎ IsPlacing r.kind) ⊎ (r.kind ≡ kind.Shift)

-- each pair of the row is in the main part
abbrev AllOf : Pages → Row → Type 0
AllOf P w = (k : Key) → In k w.keys → Main P k w.item

-- the keys of a row on the page that a Shift takes away are all in the main part
taken_in_main : (r : Record) (T : Log) (P : Pages) (w : Row) (page : ℕ) → IsLegal (r ∷ T) → Shows T P
    → r.kind ≡ kind.Shift
    → first_in (P 0).body ≡ page → In w (rows_of (P page)) → IsLinked P w → AllOf P w
taken_in_main r T P w page legal shown shift first on linked k i =
    let u = legal.valid.1 in
    let same : u.before ≡ P = shown_one T u.before P u.shown shown in
    let x : IsShift T u.before u.after r = kind_rule T u.before u.after r _ _ kind.Shift shift u.rule in
    let was = two_pages u.before (changed r) 0 x.here.page x.here.meta x.here.old x.here.pages x.here.before_is in
    let named : first_in (u.before 0).body ≡ x.here.page = ap (λ (c : Page). first_in c.body) was.0
    ∙ ap first_in x.here.first in
    let at : page ≡ x.here.page = sym first ∙ ap (λ (Q : Pages). first_in (Q 0).body) (sym same) ∙ named in
    let rows : rows_of (u.before x.here.page) ≡ x.here.rows =
    ap (λ (c : Page). rows_in c.body) was.1 ∙ ap rows_in x.here.was in
    let there : In w x.here.rows =
    subst (In w) rows (subst (λ (q : ℕ). In w (rows_of (u.before q))) at
    (subst (λ (Q : Pages). In w (rows_of (Q page))) (sym same) on)) in
    let d = x.rest w there in
    let own = (bullets T u.before (legal_less r T legal) u.shown).owned.pending k w.item
    (record {
      row = w;
      linked = subst (λ (Q : Pages). IsLinked Q w) (sym same) linked;
      item = refl;
      key = i;
    }) in
    let head : own.head ≡ d.3.0 =
    some_one own.head d.3.0
    (sym own.has.at ∙ ap (head_of u.before) (own.item ∙ sym d.2) ∙ d.3.1.at) in
    let vector : own.vector ≡ d.1 =
    whole_one u.before own.head own.vector d.1 own.whole
    (subst (λ (h : Head). IsWhole u.before h d.1) (sym head) d.3.2) in
    subst (λ (Q : Pages). Main Q k w.item) same
    (d.4 k (subst (λ (v : Vector). In k (keys_of v)) vector own.key))

module _ (pairs : PairsHold) (shifts : ShiftHolds) where
  -- one record: a pair of the main part stays, and a linked row is linked still, or its pairs are in the main part
  main_on : (r : Record) (T : Log) (P Q : Pages) → T ≢ [] → IsLegal (r ∷ T) → Shows T P → Shows (r ∷ T) Q → Moves r
      → (k : Key) (i : ℕ) → Main P k i → Main Q k i
  main_on r T P Q some legal shown shown' (inl adds) k i m =
      (pairs T (r ∷ []) (r ∷ T) P Q refl some legal shown shown' (only adds)).main k i m
    where
      only : ((kind_number r.kind < 12) ⊎ IsPlacing r.kind) → OnlyAdd (r ∷ [])
      only a s (inl e) = subst (λ (x : Record). (kind_number x.kind < 12) ⊎ IsPlacing x.kind) (sym e) a
      only a s (inr z) = absurd z
  main_on r T P Q some legal shown shown' (inr shift) k i m =
      ((shifts T r P Q legal shown shown' shift).main k i).0 m

  row_on : (r : Record) (T : Log) (P Q : Pages) (w : Row) → T ≢ [] → IsLegal (r ∷ T) → Shows T P → Shows (r ∷ T) Q
      → Moves r → IsLinked P w → IsLinked Q w ⊎ AllOf Q w
  row_on r T P Q w some legal shown shown' (inl adds) linked =
      inl ((pairs T (r ∷ []) (r ∷ T) P Q refl some legal shown shown' (only adds)).rows w linked)
    where
      only : ((kind_number r.kind < 12) ⊎ IsPlacing r.kind) → OnlyAdd (r ∷ [])
      only a s (inl e) = subst (λ (x : Record). (kind_number x.kind < 12) ⊎ IsPlacing x.kind) (sym e) a
      only a s (inr z) = absurd z
  row_on r T P Q w some legal shown shown' (inr shift) linked =
      let keeps : ShiftKeeps P Q = shifts T r P Q legal shown shown' shift in
      elim (keeps.rows w linked) [
        | inl still ↦ inl still
        | inr on ↦ inr (λ k i. (keeps.main k w.item).0
            (taken_in_main r T P w keeps.page legal shown shift keeps.line.0 on linked k i))
      ]

  still_on : (r : Record) (T : Log) (Q : Pages) (w : Row) (n : ℕ) → n ≤ length T → Shows (r ∷ T) Q → IsStillIn n T w
      → IsLinked Q w → IsStillIn n (r ∷ T) w
  still_on r T Q w n le shown still linked m from to P at = elim (same_or_other m (suc (length T))) [
    | inl e ↦
        let whole : cut m (r ∷ T) ≡ r ∷ T = cut_whole m (r ∷ T) e in
        subst (λ (Z : Pages). IsLinked Z w)
        (shown_one (r ∷ T) Q P shown (subst (λ (L : Log). Shows L P) whole at)) linked
    | inr off ↦
        let within : m ≤ length T = grind (arith, to, off) in
        still m from within P (subst (λ (L : Log). Shows L P) (cut_less m r T within) at)
  ]

  -- over some records: it was linked all the time, or its pairs are in the main part
  rows_over : (later R : Log) (P Q : Pages) (w : Row) → R ≢ [] → IsLegal (later ++ R) → Shows R P
      → Shows (later ++ R) Q → ((r : Record) → In r later → Moves r) → IsLinked P w
      → IsStillIn (length R) (later ++ R) w ⊎ AllOf Q w
  rows_over [] R P Q w some legal shown shown' each linked = inl (λ m from to Z at.
      let whole : cut m R ≡ R = cut_whole m R (omega (arith, from, to)) in
      subst (λ (X : Pages). IsLinked X w)
      (shown_one R P Z shown (subst (λ (L : Log). Shows L Z) whole at)) linked)
  rows_over (r ∷ l) R P Q w some legal shown shown' each linked =
      let T : Log = l ++ R in
      let before : IsLegal T = legal_less r T legal in
      let M = shown_by T before.valid in
      let long : length R ≤ length T = omega (arith, length-append l R) in
      let more : T ≢ [] = λ e. some (no_more l R e) in
      elim (rows_over l R P M.0 w some before shown M.1 (λ s i. each s (inr i)) linked) [
        | inr all ↦ inr (λ k i. main_on r T M.0 Q more legal M.1 shown' (each r (inl refl)) k w.item (all k i))
        | inl still ↦
            let here : IsLinked M.0 w =
            still (length T) long (omega arith) M.0
            (subst (λ (L : Log). Shows L M.0) (sym (cut_whole (length T) T refl)) M.1) in
            elim (row_on r T M.0 Q w more legal M.1 shown' (each r (inl refl)) here) [
              | inl there ↦ inl (still_on r T Q w (length R) long shown' still there)
              | inr all ↦ inr all
            ]
      ]
    where
      no_more : (xs ys : Log) → xs ++ ys ≡ [] → ys ≡ []
      no_more [] ys e = e
      no_more (x ∷ xs) ys e = absurd (let z : ⊥ = cc in z)

-- the records of a cleanup are such
cleaning_moves : (r : Record) → IsCleaningKind (kind_number r.kind) → Moves r
cleaning_moves r (inl e) = inr (shift_of r.kind e)
  where
    shift_of : (k : Kind) → kind_number k ≡ 12 → k ≡ kind.Shift
    shift_of kind.Shift e = refl
    shift_of kind.Create e = absurd (let z : ⊥ = omega (arith, e) in z)
    shift_of kind.Begin e = absurd (let z : ⊥ = omega (arith, e) in z)
    shift_of (kind.Commit n) e = absurd (let z : ⊥ = omega (arith, e) in z)
    shift_of kind.Abort e = absurd (let z : ⊥ = omega (arith, e) in z)
    shift_of (kind.Checkpoint n) e = absurd (let z : ⊥ = omega (arith, e) in z)
    shift_of (kind.PlaceHead i s) e = absurd (let z : ⊥ = omega (arith, e) in z)
    shift_of (kind.PutOverflow i s) e = absurd (let z : ⊥ = omega (arith, e) in z)
    shift_of (kind.MarkDeleted i s) e = absurd (let z : ⊥ = omega (arith, e) in z)
    shift_of (kind.PutPending i s) e = absurd (let z : ⊥ = omega (arith, e) in z)
    shift_of (kind.AddRow i s) e = absurd (let z : ⊥ = omega (arith, e) in z)
    shift_of (kind.LinkPending i s) e = absurd (let z : ⊥ = omega (arith, e) in z)
    shift_of kind.AddItems e = absurd (let z : ⊥ = omega (arith, e) in z)
    shift_of kind.MakeTree e = absurd (let z : ⊥ = omega (arith, e) in z)
    shift_of kind.AddPostings e = absurd (let z : ⊥ = omega (arith, e) in z)
    shift_of kind.GrowRoot e = absurd (let z : ⊥ = omega (arith, e) in z)
    shift_of kind.Split e = absurd (let z : ⊥ = omega (arith, e) in z)
    shift_of kind.RemoveItems e = absurd (let z : ⊥ = omega (arith, e) in z)
    shift_of kind.DeletePost e = absurd (let z : ⊥ = omega (arith, e) in z)
    shift_of (kind.DropPage i s) e = absurd (let z : ⊥ = omega (arith, e) in z)
    shift_of kind.FreeSlots e = absurd (let z : ⊥ = omega (arith, e) in z)
cleaning_moves r (inr p) = inl (inr p)

-- what came between, with the owed Abort
record Between (R R' : Log) : Type 0 where
  pub later : Log
  pub log_is : R' ≡ later ++ R
  pub moves : (r : Record) → In r later → Moves r

between : (owes : Bool) (ks : List ℕ) (R R' : Log) → AllByRecursion IsCleaningKind ks → GoesOnBy owes R R' ks
    → Between R R'
between owes ks R R' all on = go owes ks on.log_is
    (λ r i. all_in IsCleaningKind ks (kind_number r.kind) all
    (subst (In (kind_number r.kind)) on.kinds_are (in_kinds on.added r i)))
  where
    go : (o : Bool) (js : List ℕ) → R' ≡ on.added ++ before_more o js R
        → ((r : Record) → In r on.added → IsCleaningKind (kind_number r.kind)) → Between R R'
    go o [] is each = record { later = on.added; log_is = is; moves = λ r i. cleaning_moves r (each r i) }
    go false (j ∷ js) is each = record { later = on.added; log_is = is; moves = λ r i. cleaning_moves r (each r i) }
    go true (j ∷ js) is each = record {
      later = on.added ++ owed_abort (1 + length R) ∷ [];
      log_is = is ∙ sym (append_assoc on.added (owed_abort (1 + length R) ∷ []) R);
      moves = λ r i. elim (in_parts on.added r i) [
        | inl a ↦ cleaning_moves r (each r a)
        | inr e ↦ inl (inl (omega (arith, ap (λ (x : Record). kind_number x.kind) e)))
      ];
    }
      where
        in_parts : (xs : Log) (r : Record) → In r (xs ++ owed_abort (1 + length R) ∷ [])
            → In r xs ⊎ (r ≡ owed_abort (1 + length R))
        in_parts [] r (inl e) = inr e
        in_parts [] r (inr z) = absurd z
        in_parts (x ∷ xs) r (inl e) = inl (inl e)
        in_parts (x ∷ xs) r (inr i) = elim (in_parts xs r i) [ inl a ↦ inl (inr a) | inr e ↦ inr e ]

pub moved_all : PairsHold → ShiftHolds → {D : Type 0} (device : Disk D) (f g : FramesValue D) (ks : List ℕ)
    → HasAdded device f g ks → AllByRecursion IsCleaningKind ks → 0 < f.journal.state.records
    → AreGoneSince device f.journal.state.records g
    → Behind device g (λ (R : Log). (P Q : Pages) → Shows (cut f.journal.state.records R) P → Shows R Q
    → (k : Key) (i : ℕ) → Pending P k i → Main Q k i)
moved_all pairs shifts device f g ks added all some gone tells up R stands legal P Q shown shown' k i pending =
    let n : ℕ = f.journal.state.records in
    let b = added.back tells up R stands in
    let long : n ≡ length b.0 = log_length device f.journal b.0 b.1.journal in
    let w : Between b.0 R = between f.journal.owes ks b.0 R all b.2 in
    let front : cut n R ≡ b.0 =
    ap (cut n) w.log_is ∙ cut_front n w.later b.0 (omega (arith, long)) ∙ cut_whole n b.0 long in
    let more : b.0 ≢ [] = λ e. let z : n ≡ 0 = long ∙ ap length e in omega (arith, z, some) in
    elim (rows_over pairs shifts w.later b.0 P Q pending.row more (subst IsLegal w.log_is legal)
    (subst (λ (L : Log). Shows L P) front shown) (subst (λ (L : Log). Shows L Q) w.log_is shown') w.moves
    pending.linked) [
      | inl still ↦ absurd (gone tells up R stands legal pending.row
          (subst (λ (m : ℕ). IsStillIn m R pending.row) (sym long)
          (subst (λ (L : Log). IsStillIn (length b.0) L pending.row) (sym w.log_is) still)))
      | inr main ↦ subst (Main Q k) pending.item (main k pending.key)
    ]
