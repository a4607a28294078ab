-- What a run is: each statement with its reply and its notes.
use Rattle.std.specs.Prelude.{◌≡◌, ◌⊎◌, ℕ, ◌+◌, ◌-◌, ◌^◌, ◌<◌, ◌≤◌, Bool, false, ◌==◌, List, map, length, take}
use Rattle.std.specs.Prelude.{count_by, sum_by}
use Rattle.std.specs.Prelude.{Option, Some, None, IfSome}
use Rattle.std.specs.List.{All, Any, slice_get}
use Rattle.ts_base.specs.Vectors.{Vector}
use Rattle.ts_query.specs.Queries.{Query}
use Rattle.ts_match.specs.Meaning.{Holds}
use Rattle.ts_config.specs.Known.{Known}
use Rattle.shell_script.specs.Grammar.{Statement, insert, update, delete, search, clean_up, show, ask, parse}
use Rattle.shell_script.specs.Grammar.{vacuum, list_commits, define, invalid}
use Rattle.engine.specs.Finding.{Document, Commit, History, Name, docs, IsFound, Begins, IsLawful, IsInSnapshot}
use Rattle.engine.specs.Finding.{document, insertion, replacement, deletion, names}
use Rattle.shell_run.specs.Defining.{IsDefined}
pub use Rattle.shell_script.specs.Replies.{Refusal, no_statement, no_configuration, no_dictionary, no_document}
pub use Rattle.shell_script.specs.Replies.{conflict, store_full, log_full, transactions_spent, down, device, bad_page}
pub use Rattle.shell_script.specs.Replies.{memory, text_refused}
pub use Rattle.shell_script.specs.Replies.{CommitLine, Reply, stored, removed, maintained, lists, shows_vector}
pub use Rattle.shell_script.specs.Replies.{shows_query, shows_tokens, shows_commits, done, refused}
use Rattle.shell_run.specs.Values.{IsValueOf, ExprFails, IsQueryOf, QueryFails, IsRefusedBy, IsShown, IsQueried}
use Rattle.shell_run.specs.Values.{IsParsed}

-- Where a statement is: the step of the script, where a block is one step; the session; and
-- its place there.
pub record Place : Type 0 where
  pub step : ℕ
  pub session : ℕ
  pub turn : ℕ

-- The notes of a statement: how many commits it saw, and how many are before its own, if it has
-- one; by how much the device's count of faults and its count of failed writes and syncs rose in
-- it; the count of faults and the clock of the device after its last call for the statement, which
-- of one that is stored is a moment at which its commit is flushed.
pub record Note : Type 0 where
  pub snapshot : ℕ
  pub commit : Option ℕ
  pub faults : ℕ
  pub writes : ℕ
  pub count : ℕ
  pub clock : ℕ

-- A statement with its reply. Its line, which its refusal may say, is one of its step's. `known` is
-- what is defined before it.
pub record Exchange : Type 0 where
  pub place : Place
  pub line : ℕ
  pub known : Known
  pub statement : Statement
  pub reply : Reply
  pub note : Note

-- the device's counts at the beginning and at the end of the run, of faults also just after the
-- opening
pub record Counts : Type 0 where
  pub faults : ℕ
  pub faults_opened : ℕ
  pub faults_after : ℕ
  pub writes : ℕ
  pub writes_after : ℕ

-- one ended before the other began
abbrev pub Before : Exchange → Exchange → Type 0
Before a b =
    (a.place.step < b.place.step)
    ⊎ ((a.place.step ≡ b.place.step)
    × (a.place.session ≡ b.place.session)
    × (a.place.turn < b.place.turn))

-- the statement has this commit in the history
abbrev pub HasOwn : History → Note → Commit → Type 0
HasOwn commits note c = (p : ℕ) × (note.commit ≡ Some p) × (slice_get commits p ≡ Some c)

-- the commit that a fault may have left: one of these
abbrev pub MayHaveOwn : History → Note → (Commit → Type 0) → Type 0
MayHaveOwn commits note Is =
    (note.commit ≡ None) ⊎ ((c : Commit) × Is c × HasOwn commits note c)

-- the commits of a statement: an insertion, an update, a deletion
abbrev pub IsInsertion : Vector → Commit → Type 0
IsInsertion v c = (name : Name) × (c ≡ insertion (document name v))

abbrev pub IsReplacement : Name → Vector → Commit → Type 0
IsReplacement old v c = (name : Name) × (c ≡ replacement old (document name v))

abbrev pub IsDeletion : Name → Commit → Type 0
IsDeletion name c = c ≡ deletion name

-- the document of a name was there for the statement
abbrev pub HasSeen : History → Note → Name → Type 0
HasSeen commits note name = IsInSnapshot commits note.snapshot name

-- the documents that a statement saw
abbrev pub seen_by : History → Note → List Document
seen_by commits note = docs (take note.snapshot commits)

-- the last value of a device's count
abbrev pub last_count : ℕ
last_count = 2 ^ 64 - 1

-- the device's count rose in the statement, or is at its last value
abbrev pub MetFault : Counts → Note → Type 0
MetFault counts note = (0 < note.faults) ⊎ (last_count ≤ counts.faults_after)

-- a count just after a fault of this run, and a write or a sync failed in it
abbrev pub IsDownSince : Counts → ℕ → Type 0
IsDownSince counts count =
    (counts.faults < count) × (count ≤ counts.faults_after) × (counts.writes < counts.writes_after)

-- What a statement whose commit is such a one is answered where it is refused, or not at all.
abbrev pub IsRefusedWork : Counts → History → (Commit → Type 0) → Reply → Note → Type 0
IsRefusedWork counts commits Is (refused transactions_spent) note = note.commit ≡ None
IsRefusedWork counts commits Is (refused store_full) note = note.commit ≡ None
IsRefusedWork counts commits Is (refused log_full) note = note.commit ≡ None
IsRefusedWork counts commits Is (refused (down count)) note =
    MayHaveOwn commits note Is × IsDownSince counts count
IsRefusedWork counts commits Is (refused device) note =
    MayHaveOwn commits note Is × MetFault counts note
IsRefusedWork counts commits Is (refused memory) note = note.commit ≡ None
IsRefusedWork counts commits Is reply note = ⊥

-- what an insertion of the vector is answered
abbrev pub IsInserted : Counts → History → Vector → Reply → Note → Type 0
IsInserted counts commits v (stored name) note = HasOwn commits note (insertion (document name v))
IsInserted counts commits v reply note = IsRefusedWork counts commits (IsInsertion v) reply note

-- what is asked of a name is answered: there is no such document, another deletes it, or more
abbrev pub IsOfName : History → Name → Reply → Note → Type 0 → Type 0
IsOfName commits name (refused no_document) note More =
    (note.commit ≡ None) × (HasSeen commits note name → ⊥)
IsOfName commits name (refused (conflict xid)) note More =
    (note.commit ≡ None) × HasSeen commits note name
IsOfName commits name (refused memory) note More = More
IsOfName commits name (refused (down count)) note More = More
IsOfName commits name (refused device) note More = More
IsOfName commits name reply note More = HasSeen commits note name × More

-- what an update to the vector is answered
abbrev pub IsUpdatedMore : Counts → History → Name → Vector → Reply → Note → Type 0
IsUpdatedMore counts commits old v (stored name) note =
    HasOwn commits note (replacement old (document name v))
IsUpdatedMore counts commits old v reply note =
    IsRefusedWork counts commits (IsReplacement old v) reply note

abbrev pub IsUpdated : Counts → History → Name → Vector → Reply → Note → Type 0
IsUpdated counts commits old v reply note =
    IsOfName commits old reply note (IsUpdatedMore counts commits old v reply note)

-- what a deletion is answered
abbrev pub IsDeletedMore : Counts → History → Name → Reply → Note → Type 0
IsDeletedMore counts commits name removed note = HasOwn commits note (deletion name)
IsDeletedMore counts commits name reply note =
    IsRefusedWork counts commits (IsDeletion name) reply note

abbrev pub IsDeleted : Counts → History → Name → Reply → Note → Type 0
IsDeleted counts commits name reply note =
    IsOfName commits name reply note (IsDeletedMore counts commits name reply note)

-- the line of a commit
abbrev pub line_for : Commit → CommitLine
line_for c = record { deleted = c.deleted; inserted = names c.inserted }

-- what a list of commits is answered
abbrev pub AreListed : Counts → History → Reply → Note → Type 0
AreListed counts commits (shows_commits ls) note =
    (note.commit ≡ None) × (ls ≡ map line_for (take note.snapshot commits))
AreListed counts commits (refused (down count)) note =
    (note.commit ≡ None) × IsDownSince counts count
AreListed counts commits (refused device) note = (note.commit ≡ None) × MetFault counts note
AreListed counts commits (refused memory) note = note.commit ≡ None
AreListed counts commits reply note = ⊥

-- what a search by the query is answered
abbrev pub IsSearched : Counts → History → Query → Reply → Note → Type 0
IsSearched counts commits q (lists names) note =
    (note.commit ≡ None) × IsFound (Holds q) (seen_by commits note) names
IsSearched counts commits q (refused (down count)) note =
    (note.commit ≡ None) × IsDownSince counts count
IsSearched counts commits q (refused device) note = (note.commit ≡ None) × MetFault counts note
IsSearched counts commits q (refused memory) note = note.commit ≡ None
IsSearched counts commits q reply note = ⊥

-- what a cleanup or a vacuum is answered, which has a snapshot and no commit
abbrev pub IsCleaned : Counts → Reply → Note → Type 0
IsCleaned counts maintained note = note.commit ≡ None
IsCleaned counts (refused store_full) note = note.commit ≡ None
IsCleaned counts (refused log_full) note = note.commit ≡ None
IsCleaned counts (refused (down count)) note = (note.commit ≡ None) × IsDownSince counts count
IsCleaned counts (refused device) note = (note.commit ≡ None) × MetFault counts note
IsCleaned counts (refused memory) note = note.commit ≡ None
IsCleaned counts reply note = ⊥

abbrev pub IsLineRefused : ℕ → Reply → Note → Type 0
IsLineRefused line (refused (no_statement at)) note = (note.commit ≡ None) × (at ≡ line)
IsLineRefused line reply note = ⊥

-- A statement's texts are refused, or it is answered by what they stand for. A definition is
-- answered by what is defined before it.
abbrev pub IsAnswered : Counts → History → Known → ℕ → Statement → Reply → Note → Type 0
IsAnswered counts commits known line (insert e) reply note =
    (IsRefusedBy (ExprFails known e) reply × (note.commit ≡ None))
    ⊎ ((v : Vector) × IsValueOf known e v × IsInserted counts commits v reply note)
IsAnswered counts commits known line (update d e) reply note =
    (IsRefusedBy (ExprFails known e) reply × (note.commit ≡ None))
    ⊎ ((v : Vector) × IsValueOf known e v × IsUpdated counts commits d.name v reply note)
IsAnswered counts commits known line (delete d) reply note =
    IsDeleted counts commits d.name reply note
IsAnswered counts commits known line (search s) reply note =
    (IsRefusedBy (QueryFails known s) reply × (note.commit ≡ None))
    ⊎ ((q : Query) × IsQueryOf known s q × IsSearched counts commits q reply note)
IsAnswered counts commits known line clean_up reply note = IsCleaned counts reply note
IsAnswered counts commits known line vacuum reply note = IsCleaned counts reply note
IsAnswered counts commits known line (show e) reply note =
    IsShown known e reply × (note.commit ≡ None)
IsAnswered counts commits known line (ask s) reply note =
    IsQueried known s reply × (note.commit ≡ None)
IsAnswered counts commits known line (parse text) reply note =
    IsParsed text reply × (note.commit ≡ None)
IsAnswered counts commits known line list_commits reply note = AreListed counts commits reply note
IsAnswered counts commits known line (define head ls) reply note =
    IsDefined known line head ls reply × (note.commit ≡ None)
IsAnswered counts commits known line invalid reply note = IsLineRefused line reply note

-- an answer Ok of the store
abbrev pub IsOkOfStore : Reply → Type 0
IsOkOfStore (stored name) = Unit {0}
IsOkOfStore removed = Unit {0}
IsOkOfStore maintained = Unit {0}
IsOkOfStore (lists found) = Unit {0}
IsOkOfStore (shows_commits ls) = Unit {0}
IsOkOfStore reply = ⊥

abbrev pub IsDownReply : Reply → Type 0
IsDownReply (refused (down count)) = Unit {0}
IsDownReply reply = ⊥

-- a statement of the store is answered that the store is down, if its texts are not refused before
abbrev pub FindsDown : Known → Statement → Reply → Type 0
FindsDown known (insert e) reply = IsDownReply reply ⊎ IsRefusedBy (ExprFails known e) reply
FindsDown known (update d e) reply = IsDownReply reply ⊎ IsRefusedBy (ExprFails known e) reply
FindsDown known (delete d) reply = IsDownReply reply
FindsDown known clean_up reply = IsDownReply reply
FindsDown known vacuum reply = IsDownReply reply
FindsDown known list_commits reply = IsDownReply reply
FindsDown known (search s) reply = IsDownReply reply ⊎ IsRefusedBy (QueryFails known s) reply
FindsDown known statement reply = Unit {0}

-- an answer Ok of one that changes documents
abbrev pub IsOkOfChange : Reply → Type 0
IsOkOfChange (stored name) = Unit {0}
IsOkOfChange removed = Unit {0}
IsOkOfChange reply = ⊥

-- A document was stored. After it a cleanup may come by itself, whose refusal is not the reply.
abbrev pub MayBeTidied : Reply → Type 0
MayBeTidied (stored name) = Unit {0}
MayBeTidied reply = ⊥

-- the statement is one of the store
abbrev pub IsOfStore : Statement → Type 0
IsOfStore (insert e) = Unit {0}
IsOfStore (update d e) = Unit {0}
IsOfStore (delete d) = Unit {0}
IsOfStore (search s) = Unit {0}
IsOfStore clean_up = Unit {0}
IsOfStore vacuum = Unit {0}
IsOfStore list_commits = Unit {0}
IsOfStore statement = ⊥

-- A statement of the store may call the device, if it comes to it: its texts aren't refused before, and
-- it doesn't find the store down.
abbrev pub MayCall : Statement → Reply → Type 0
MayCall statement (refused (down count)) = ⊥
MayCall statement (refused (text_refused fault)) = ⊥
MayCall statement (refused no_configuration) = ⊥
MayCall statement reply = IsOfStore statement

abbrev pub is_at : ℕ → Option ℕ → Bool
is_at k None = false
is_at k (Some p) = p == k

abbrev pub has_commit : ℕ → Exchange → Bool
has_commit k exchange = is_at k exchange.note.commit

-- what is known of the history where the one ended before the other began
pub record IsSeenBy (a b : Exchange) : Type 0 where
  -- what the one saw, and what it committed where it answered Ok, the other has seen
  pub snapshot : a.note.snapshot ≤ b.note.snapshot
  pub commit : IsOkOfStore a.reply → IfSome a.note.commit (λ p. p < b.note.snapshot)
  -- where a write or a sync failed in the one, the other has no commit
  pub no_commit : 0 < a.note.writes → b.note.commit ≡ None

-- what is known of the device
pub record IsAfter (a b : Exchange) : Type 0 where
  -- where a write or a sync failed in the one, the other finds the store down
  pub down : 0 < a.note.writes → FindsDown b.known b.statement b.reply
  pub count : a.note.count + b.note.faults ≤ b.note.count

-- The clocks of the exchanges: they are not before the end of the opening nor after the end of the run,
-- and never fall from a statement to one after it.
pub record AreTimed (opened last : ℕ) (exchanges : List Exchange) : Type 0 where
  pub later : opened ≤ last
  pub within : All (λ (r : Exchange). (opened ≤ r.note.clock) × (r.note.clock ≤ last)) exchanges
  pub order : All (λ (a : Exchange). All (λ (b : Exchange). Before a b → a.note.clock ≤ b.note.clock) exchanges)
      exchanges

-- A note that is within two lengths of the history, at the start and at the end of the run.
-- A statement's own commit comes after what it saw.
pub record IsWithin (low high : ℕ) (note : Note) : Type 0 where
  pub low_is : low ≤ note.snapshot
  pub high_is : note.snapshot ≤ high
  pub own : IfSome note.commit (λ p. (note.snapshot ≤ p) × (p < high))

-- what the notes say of the device, on every one
pub record AreNoted (counts : Counts) (exchanges : List Exchange) : Type 0 where
  pub order : All (λ (a : Exchange). All (λ (b : Exchange). Before a b → IsAfter a b) exchanges) exchanges
  -- A statement finds the store down only where a write or a sync failed in one that did not come
  -- after it. It says the device's count just after that one, and all say the same.
  pub owed : All (λ (b : Exchange). (n : ℕ) → b.reply ≡ refused (down n)
      → Any (λ (a : Exchange). (Before b a → ⊥) × (0 < a.note.writes) × (a.note.count ≡ n)) exchanges) exchanges
  pub one_count : All (λ (a : Exchange). All (λ (b : Exchange). (m n : ℕ) → a.reply ≡ refused (down m)
      → b.reply ≡ refused (down n) → m ≡ n) exchanges) exchanges
  -- a write or a sync failed in a statement that is answered so, and in no other but one that stored a document,
  -- in the cleanup that came by itself after it
  pub failed : All (λ (r : Exchange). r.reply ≡ refused device → 0 < r.note.writes) exchanges
  pub failed_only : All (λ (r : Exchange). 0 < r.note.writes → (r.reply ≡ refused device) ⊎ MayBeTidied r.reply)
      exchanges
  pub called : All (λ (r : Exchange). 0 < r.note.faults → MayCall r.statement r.reply) exchanges
  -- each rise of the counts was in the opening or in a statement
  pub counted : All (λ (r : Exchange). (counts.faults_opened + r.note.faults ≤ r.note.count)
      × (r.note.count ≤ counts.faults_after)) exchanges
  pub opening : counts.faults ≤ counts.faults_opened
  pub faults : counts.faults_opened + sum_by (λ (r : Exchange). r.note.faults) exchanges ≡ counts.faults_after
  pub writes : counts.writes + sum_by (λ (r : Exchange). r.note.writes) exchanges ≡ counts.writes_after

-- from the history `first` to `commits`, of a lawful device
pub record Run (counts : Counts) (first commits : History) (exchanges : List Exchange) : Type 0 where
  pub lawful : IsLawful commits
  pub begins : Begins first commits
  pub answers : All (λ (r : Exchange). IsAnswered counts commits r.known r.line r.statement r.reply r.note) exchanges
  pub within : All (λ (r : Exchange). IsWithin (length first) (length commits) r.note) exchanges
  -- each commit past the first is the commit of one statement
  pub own : (k : ℕ) → length first ≤ k → k < length commits → count_by (has_commit k) exchanges ≡ 1
  pub order : All (λ (a : Exchange). All (λ (b : Exchange). Before a b → IsSeenBy a b) exchanges) exchanges
