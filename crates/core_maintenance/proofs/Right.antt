-- What a session with the right of maintenance knows of each log that is allowed to it.
use Rattle.std.proofs.Common.{◌<◌, [], ◌∷◌, ◌++◌, length, ap, subst, inl, inr, arith}
use Rattle.std.proofs.lemmas.List.{length-append}
use Rattle.page_types.specs.Records.{kind_number}
use Rattle.page_types.specs.declared.record.Record.{Record}
use Rattle.page_types.specs.declared.record.Kind.{Kind}
use Rattle.page_types.specs.declared.record.Kind.TheVariants as kind
use Rattle.core_state.specs.Log.{Log, Pages, In, Shows}
use Rattle.core_state.specs.Legal.{RecordsAreValid}
use Rattle.core_state.specs.Steady.{IsMaintenance, IndexStays}
use Rattle.core_state.specs.Allowed.{View, IsAllowed}
use Rattle.core_state.proofs.Steps.Seen.{others_each}
use Rattle.core_state.proofs.Steps.Pinned.{right_holds}
use Rattle.core_maintenance.specs.Right.{HasRight}

pub index_stays : (v : View) (R : Log) (a : IsAllowed v R) (P : Pages) → Shows v.seen P → HasRight v
    → IndexStays v.seen R P a.pages
index_stays v R a P shown h = right_holds v h.at R a P h.has h.within h.started shown

-- the records after a log have numbers above its length
numbers : (later R : Log) → RecordsAreValid (later ++ R) → (r : Record) → In r later → length R < r.number
numbers [] R v r i = absurd i
numbers (s ∷ later) R v r (inl e) =
    let n = v.1.number in
    omega (arith, n, ap (λ (x : Record). x.number) e, length-append later R)
numbers (s ∷ later) R v r (inr i) = numbers later R v.0 r i

no_maintenance : (k : Kind) → (IsMaintenance k → ⊥) → kind_number k < 12
no_maintenance kind.Shift off = absurd (off (omega arith, omega arith))
no_maintenance kind.AddItems off = absurd (off (omega arith, omega arith))
no_maintenance kind.MakeTree off = absurd (off (omega arith, omega arith))
no_maintenance kind.AddPostings off = absurd (off (omega arith, omega arith))
no_maintenance kind.GrowRoot off = absurd (off (omega arith, omega arith))
no_maintenance kind.Split off = absurd (off (omega arith, omega arith))
no_maintenance kind.RemoveItems off = absurd (off (omega arith, omega arith))
no_maintenance kind.DeletePost off = absurd (off (omega arith, omega arith))
no_maintenance (kind.DropPage item serial) off = absurd (off (omega arith, omega arith))
no_maintenance kind.FreeSlots off = absurd (off (omega arith, omega arith))
no_maintenance _ off = omega arith

-- others log kinds below 12 alone
pub others_early : (v : View) (R : Log) (a : IsAllowed v R) → HasRight v → (r : Record) → In r a.later
    → kind_number r.kind < 12
others_early v R a h r i =
    let n = numbers a.later v.seen (subst RecordsAreValid a.goes_on a.legal.valid) r i in
    no_maintenance r.kind ((others_each v a.later a.others r i).not_work h.at h.has (omega (arith, h.within, n)))
