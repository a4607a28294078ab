-- Beginnings of logs, and their histories.
use Rattle.std.proofs.Common.{◌≡◌, ℕ, [], ◌∷◌, ◌++◌, length, sym, ap, ◌∙◌, append-nil, append_assoc, inr, arith}
use Rattle.std.proofs.lemmas.List.{length-append}
use Rattle.page_types.specs.declared.record.Record.{Record}
use Rattle.page_types.specs.declared.record.Kind.{Kind}
use Rattle.page_types.specs.declared.record.Kind.TheVariants as kind
use Rattle.core_state.specs.Log.{Log, In, commits, commits_with}
use Rattle.core_state.specs.History.{History, Begins, IsHistoryWith, IsHistory}
use Rattle.core_state.proofs.Newest.{legal_less}
use Rattle.buffer_frames.specs.Inner.LogFiles.{LegalBefore, HistoryBegins}

pub legal_before : LegalBefore
legal_before [] R l = l
legal_before (r ∷ more) R l = legal_before more R (legal_less r (more ++ R) l)

-- a record of a log is in each log that goes on from it
pub still_in : (r : Record) (more R : Log) → In r R → In r (more ++ R)
still_in r [] R i = i
still_in r (s ∷ more) R i = inr (still_in r more R i)

-- some history of this log begins that one
abbrev BeginsSome : Log → History → Type 0
BeginsSome R H = (H' : History) × IsHistory R H' × Begins H' H

begins_with : (k : Kind) (x : ℕ) (S R : Log) (H : History) → ((K : History) → IsHistory S K → BeginsSome R K)
    → IsHistoryWith k x S (IsHistory S) H → BeginsSome R H
begins_with (kind.Commit n) x S R H begins h =
    let b = begins h.0 h.2 in
    let last = ap (λ (K : History). K ++ h.1 ∷ []) b.2.1 in
    (b.0, b.1, (b.2.0 ++ h.1 ∷ [], sym (append_assoc b.0 b.2.0 (h.1 ∷ [])) ∙ last ∙ sym h.4))
begins_with _ x S R H begins h = begins H h

pub history_begins : HistoryBegins
history_begins [] R H h = (H, h, ([], append-nil H))
history_begins (r ∷ more) R H h = begins_with r.kind r.xid (more ++ R) R H (history_begins more R) h

-- a history has as many commits as its log
commits_with_told : (k : Kind) (x : ℕ) (R : Log) (H : History) → ((K : History) → IsHistory R K → commits R ≡ length K)
    → IsHistoryWith k x R (IsHistory R) H
    → commits_with k (commits R) ≡ length H
commits_with_told (kind.Commit n) x R H told h =
    omega (arith, told h.0 h.2, ap length h.4, length-append h.0 (h.1 ∷ []))
commits_with_told _ x R H told h = told H h

pub commits_told : (R : Log) (H : History) → IsHistory R H → commits R ≡ length H
commits_told [] H h = sym (ap length h)
commits_told (r ∷ R) H h = commits_with_told r.kind r.xid R H (commits_told R) h
