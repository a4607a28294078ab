-- What a pass with the right of maintenance has seen of the pending list and of pairs is so still where items
-- come into the trees.
use Rattle.std.proofs.Common.{◌≡◌, ◌≢◌, ◌⊎◌, ◌≤◌, ◌-◌, ℕ, List, [], ◌∷◌, ◌++◌, length, take, drop, map, refl, sym, ap}
use Rattle.std.proofs.Common.{subst, ◌∙◌, inl, inr, arith, append_assoc, length-append}
use Rattle.std.proofs.lemmas.List.{drop-append-le, reverse-append, map-append}
use Rattle.std.specs.Prelude.{◌<◌, ◌+◌, Bool, reverse, true, false, None}
use Rattle.std.specs.List.{AllByRecursion}
use Rattle.disk_trait.specs.declared.device.Disk.{Ghosts as Disk}
use Rattle.page_types.specs.Records.{kind_number}
use Rattle.page_types.specs.declared.record.Record.{Record}
use Rattle.core_state.specs.Log.{Log, Pages, In, Shows, cut}
use Rattle.core_state.specs.Allowed.{Sheet}
use Rattle.core_state.specs.Legal.{IsLegal}
use Rattle.core_maintenance.specs.Keeping.{IsPlacing, OnlyAdd, PairsStay, LineGrows}
use Rattle.core_maintenance.specs.FreshRows.{RowsAreFresh}
use Rattle.core_maintenance.proofs.FreshRows.{fresh_holds}
use Rattle.core_maintenance.proofs.Lists.{line_holds}
use Rattle.core_maintenance.proofs.Pairs.{pairs_hold}
use Rattle.core_maintenance.proofs.Right.{others_early}
use Rattle.wal.specs.Waiting.{down_of}
use Rattle.buffer_frames.specs.Journals.{owed_abort}
use Rattle.buffer_frames.specs.Frames.{FramesValue, Stands}
use Rattle.buffer_frames.specs.Passes.{IsPassOf, IsHolding, Seen, kinds_of, before_more, GoesOnBy, view_of}
use Rattle.buffer_frames.specs.declared.pass.Pass.{Pass}
use Rattle.buffer_frames.proofs.AtHand.{cut_length, log_length, parts_of}
use Rattle.buffer_frames.proofs.FirstLogs.{shown_by}
use Rattle.buffer_frames.proofs.HistoryParts.{legal_before}
use Rattle.core_state.proofs.PageLists.{in_either, in_front, in_back}
use Rattle.gin_place.specs.Going.{IsPlacingKind, WorksOn}
use Rattle.gin_place.specs.Placing.{HasRight}
use Rattle.gin_place.proofs.Owing.{right_of}
use Rattle.gin_cleanup.proofs.RowLists.{in_drop}

-- a record that only adds
abbrev Adds : Record → Type 0
Adds r = (kind_number r.kind < 12) ⊎ IsPlacing r.kind

-- the kinds of records of a log
pub in_kinds : (R : Log) (r : Record) → In r R → In (kind_number r.kind) (kinds_of R)
in_kinds [] r i = absurd i
in_kinds (s ∷ R) r i =
    subst (In (kind_number r.kind))
    (sym (ap (map (λ (x : Record). kind_number x.kind)) (reverse-append (s ∷ []) R)
    ∙ map-append (λ (x : Record). kind_number x.kind) (reverse R) (s ∷ [])))
    (elim i [
      | inl e ↦ in_back (kind_number r.kind) (kinds_of R) (kind_number s.kind ∷ [])
          (inl (ap (λ (x : Record). kind_number x.kind) e))
      | inr j ↦ in_front (kind_number r.kind) (kinds_of R) (kind_number s.kind ∷ []) (in_kinds R r j)
    ])

pub all_in : (T : ℕ → Type 0) (ks : List ℕ) (k : ℕ) → AllByRecursion T ks → In k ks → T k
all_in T [] k all i = absurd i
all_in T (j ∷ ks) k all (inl e) = subst T (sym e) all.0
all_in T (j ∷ ks) k all (inr i) = all_in T ks k all.1 i

-- what came before records of such kinds, where an Abort was owed
owed_adds : (owes : Bool) (ks : List ℕ) (B : Log)
    → (more : Log) × (before_more owes ks B ≡ more ++ B) × ((r : Record) → In r more → Adds r)
owed_adds owes [] B = ([], refl, λ r i. absurd i)
owed_adds true (k ∷ ks) B =
    (owed_abort (1 + length B) ∷ [], refl, λ r i. inl (early r i))
  where
    early : (r : Record) → In r (owed_abort (1 + length B) ∷ []) → kind_number r.kind < 12
    early r (inl e) = omega (arith, ap (λ (x : Record). kind_number x.kind) e)
    early r (inr i) = absurd i
owed_adds false (k ∷ ks) B = ([], refl, λ r i. absurd i)

module _ {D : Type 0} (device : Disk D) (f g : FramesValue D) (p q : Pass) (ks : List ℕ) (held : List Sheet)
    (hold : IsHolding device f p held) (was : IsPassOf f p) (right : HasRight p)
    (works : WorksOn device f p g q ks) where
  -- what the pass sees goes on, by records that only add, from what it had seen
  pub record Goes (R : Log) : Type 0 where
    pub before : Log
    pub stood : Stands device f before
    pub legal : IsLegal before
    pub later : Log
    pub seen_is : cut q.seen R ≡ later ++ cut p.seen before
    pub adds : OnlyAdd later
    pub size : length (cut p.seen before) ≡ p.seen

  pub goes : device.tells → down_of g.journal.wal ≡ None → (R : Log) → Stands device g R → IsLegal R → Goes R
  goes t up R stands legal =
      let back = works.added.back t up R stands in
      let B : Log = back.0 in
      let on : GoesOnBy f.journal.owes B R ks = back.2 in
      let m = owed_adds f.journal.owes ks B in
      let parts : R ≡ on.added ++ (m.0 ++ B) = on.log_is ∙ ap (λ (l : Log). on.added ++ l) m.1 in
      let legal_B : IsLegal B =
      legal_before m.0 B (legal_before on.added (m.0 ++ B) (subst IsLegal parts legal)) in
      let a = hold.allowed t (works.added.was_up up) B back.1 legal_B in
      let C : Log = cut p.seen B in
      let all : Log = on.added ++ (m.0 ++ a.later) in
      let whole : R ≡ all ++ C =
      parts ∙ ap (λ (l : Log). on.added ++ (m.0 ++ l)) a.goes_on
      ∙ ap (λ (l : Log). on.added ++ l) (sym (append_assoc m.0 a.later C))
      ∙ sym (append_assoc on.added (m.0 ++ a.later) C) in
      let long_f : f.journal.state.records ≡ length B = log_length device f.journal B back.1.journal in
      let size : length C ≡ p.seen = cut_length p.seen B (omega (arith, was.seen, long_f)) in
      let k : ℕ = length R - q.seen in
      let within : k ≤ length all =
      omega (arith, ap length whole, length-append all C, size, (works.rises).seen) in
      let early = others_early (view_of f p B held) B a (right_of device f p held B was right back.1) in
      record {
        before = B;
        stood = back.1;
        legal = legal_B;
        later = drop k all;
        seen_is = ap (λ (l : Log). drop k l) whole ∙ drop-append-le k all C within;
        adds = λ r i. elim (in_either r on.added (m.0 ++ a.later) (in_drop k r all i)) [
          | inl j ↦ inr (all_in IsPlacingKind ks (kind_number r.kind) works.placing
              (subst (In (kind_number r.kind)) on.kinds_are (in_kinds on.added r j)))
          | inr j ↦ elim (in_either r m.0 a.later j) [ inl i ↦ m.2 r i | inr i ↦ inl (early r i) ]
        ];
        size = size;
      }

  -- the log that it sees is legal, and so is what it had seen
  pub sees_legal : (R : Log) → IsLegal R → IsLegal (cut q.seen R)
  sees_legal R legal =
      legal_before (take (length R - q.seen) R) (cut q.seen R) (subst IsLegal (parts_of q.seen R) legal)

  pub had_legal : (R : Log) → IsLegal R → (o : Goes R) → IsLegal (cut p.seen o.before)
  had_legal R legal o = legal_before o.later (cut p.seen o.before) (subst IsLegal o.seen_is (sees_legal R legal))

  pub had_some : (R : Log) (o : Goes R) → cut p.seen o.before ≢ []
  had_some R o e = omega (arith, was.some, o.size, ap length e)

  -- what it had seen, by what it sees
  pub carried_by : (X Y : Log → Pages → Type 0)
      → ((C later S : Log) (P Q : Pages) → S ≡ later ++ C → length C ≡ p.seen → IsLegal S → Shows C P → Shows S Q
      → OnlyAdd later → LineGrows P Q → RowsAreFresh P Q → PairsStay P Q → X C P → Y S Q)
      → Seen device f p X → Seen device g q Y
  carried_by X Y stay seen t up R stands legal Q shown =
      let o = goes t up R stands legal in
      let C : Log = cut p.seen o.before in
      let S : Log = cut q.seen R in
      let all = sees_legal R legal in
      let some = had_some R o in
      let P = shown_by C (had_legal R legal o).valid in
      stay C o.later S P.0 Q o.seen_is o.size all P.1 shown o.adds
      (line_holds C o.later S P.0 Q o.seen_is some all P.1 shown o.adds)
      (fresh_holds C o.later S P.0 Q o.seen_is some all P.1 shown o.adds)
      (pairs_hold C o.later S P.0 Q o.seen_is some all P.1 shown o.adds)
      (seen t (works.added.was_up up) o.before o.stood o.legal P.0 P.1)

  pub carried : (X : Pages → Type 0)
      → ((P Q : Pages) → LineGrows P Q → RowsAreFresh P Q → PairsStay P Q → X P → X Q)
      → Seen device f p (λ S P. X P) → Seen device g q (λ S P. X P)
  carried X stay =
      carried_by (λ S P. X P) (λ S P. X P)
      (λ C later S P Q is size legal shown_P shown_Q adds grows new kept x. stay P Q grows new kept x)
