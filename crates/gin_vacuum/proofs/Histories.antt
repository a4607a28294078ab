-- Records by which dead documents go leave the history.
use Rattle.std.proofs.Common.{◌∙◌, ◌++◌, ℕ, List, [], ◌∷◌, refl, sym, ap, subst, inl, inr, arith}
use Rattle.std.specs.Prelude.{Bool, true, false, map, reverse}
use Rattle.std.proofs.lemmas.List.{map-append, reverse-append}
use Rattle.std.specs.List.{AllByRecursion}
use Rattle.page_types.specs.Records.{kind_number}
use Rattle.page_types.specs.declared.record.Record.{Record}
use Rattle.page_types.specs.declared.record.Kind.{Kind}
use Rattle.page_types.specs.declared.record.Kind.TheVariants as kind
use Rattle.core_state.specs.Log.{Log, In}
use Rattle.core_state.proofs.PageLists.{in_front, in_back}
use Rattle.core_state.specs.History.{History, IsHistory, IsHistoryWith}
use Rattle.buffer_frames.specs.Passes.{GoesOnBy, before_more, kinds_of}
use Rattle.gin_vacuum.specs.Going.{IsVacuumKind}

-- an Abort leaves the history
owed_history : (owes : Bool) (ks : List ℕ) (R : Log) (H : History) → IsHistory R H → IsHistory (before_more owes ks R) H
owed_history owes [] R H h = h
owed_history true (k ∷ ks) R H h = h
owed_history false (k ∷ ks) R H h = h

-- the kinds of records of a log
in_kinds : (R : Log) (r : Record) → In r R → In (kind_number r.kind) (kinds_of R)
in_kinds [] r i = absurd i
in_kinds (s ∷ R) r i =
    subst (In (kind_number r.kind))
    (sym (ap (map (λ (x : Record). kind_number x.kind)) (reverse-append (s ∷ []) R)
    ∙ map-append (λ (x : Record). kind_number x.kind) (reverse R) (s ∷ [])))
    (elim i [
      | inl e ↦ in_back (kind_number r.kind) (kinds_of R) (kind_number s.kind ∷ [])
          (inl (ap (λ (x : Record). kind_number x.kind) e))
      | inr j ↦ in_front (kind_number r.kind) (kinds_of R) (kind_number s.kind ∷ []) (in_kinds R r j)
    ])

all_in : (ks : List ℕ) (k : ℕ) → AllByRecursion IsVacuumKind ks → In k ks → IsVacuumKind k
all_in [] k all i = absurd i
all_in (j ∷ ks) k all (inl e) = subst IsVacuumKind (sym e) all.0
all_in (j ∷ ks) k all (inr i) = all_in ks k all.1 i

-- one such record is no commit
same_history : (k : Kind) (x : ℕ) (R : Log) (H : History) → IsVacuumKind (kind_number k) → IsHistory R H
    → IsHistoryWith k x R (IsHistory R) H
same_history (kind.Commit n) x R H is had = absurd (omega (arith, is))
same_history _ x R H is had = had

added_history : (added R : Log) (H : History) → ((r : Record) → In r added → IsVacuumKind (kind_number r.kind))
    → IsHistory R H → IsHistory (added ++ R) H
added_history [] R H each had = had
added_history (r ∷ added) R H each had =
    same_history r.kind r.xid (added ++ R) H (each r (inl refl))
    (added_history added R H (λ s i. each s (inr i)) had)

-- so do these records
pub history_on : (owes : Bool) (ks : List ℕ) → AllByRecursion IsVacuumKind ks → (R R' : Log)
    (H : History) → GoesOnBy owes R R' ks → IsHistory R H → IsHistory R' H
history_on owes ks each R R' H on had =
    subst (λ (T : Log). IsHistory T H) (sym on.log_is)
    (added_history on.added (before_more owes ks R) H
    (λ r i. all_in ks (kind_number r.kind) each
    (subst (In (kind_number r.kind)) on.kinds_are (in_kinds on.added r i)))
    (owed_history owes ks R H had))
