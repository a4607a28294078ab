-- Runs that no call leaves.
use Rattle.std.proofs.Common.{◌≡◌, ◌+◌, ◌<◌, ◌≤◌, ℕ, inl, inr, List, [], ◌∷◌, ◌++◌, length, length-append, arith, refl}
use Rattle.std.proofs.Common.{sym, ◌∙◌, ap, subst}
use Rattle.std.specs.Prelude.{Option, Some, None, IfSome, take}
use Rattle.std.proofs.lemmas.List.{length-map, length-take}
use Rattle.std.specs.List.{All}
use Rattle.std.specs.Io.KnownBytes.{Appends, IsAtEnd}
use Rattle.std.proofs.lemmas.List.Quantifiers.{Any-push}
use Rattle.std.proofs.lemmas.List.Concat.{length-flat_map}
use Rattle.std.proofs.lemmas.List.Sums.{sum_by-cons}
use Rattle.disk_trait.specs.declared.device.Disk.{Ghosts as Disk}
use Rattle.disk_trait.specs.declared.stream.Source.{Ghosts as Source}
use Rattle.disk_trait.specs.declared.stream.Sink.{Ghosts as Sink}
use Rattle.disk_trait.specs.Files.{Files}
use Rattle.ts_config.specs.Known.{Known, NamedRules, HasDictionary}
use Rattle.shell_script.specs.Lines.{Line}
use Rattle.shell_script.specs.OpeningLines.{Kind, dictionary_opening}
use Rattle.shell_script.specs.Grammar.{Expr, insert, update, define}
use Rattle.engine.specs.Finding.{Name}
use Rattle.engine.specs.Db.{disk_of, IsFlushed}
use Rattle.shell_run.specs.Caused.{IsTidied}
use Rattle.shell_run.specs.Defining.{Becomes}
use Rattle.shell_run.specs.Run.{Exchange, Note, Counts, AreNoted, Before, IsAnswered, stored, done, refused}
use Rattle.shell_run.specs.Run.{device, shows_commits, AreListed, line_for}
use Rattle.shell_run.specs.Run.{FindsDown, IsOkOfStore, IsOkOfChange}
use Rattle.engine.specs.Finding.{History}
use Rattle.shell_run.specs.Script.{printed_exchange, printed_exchanges}
use Rattle.shell_run.specs.declared.sending.TheConstants.{PIECE_BYTES}
use Rattle.shell_run.specs.Traces.{NoNameIsTakenTwice, NoneIsStoredAfterFailure, NoneIsCommittedAfterFailure}
use Rattle.shell_run.specs.Traces.{NoClockFalls, NoCommitIsEarly, NoCommitIsLate, NoFlushIsLate, NoFlushIsOwed}
use Rattle.shell_run.specs.Traces.{EachFailureIsNoted, OneCountIsTold, NothingIsPrintedWith4}
use Rattle.shell_run.specs.Traces.{NoneRunsAfterTheSinkFailed, NoHalfScriptIsRun, NoLogIsWiped, NoStrayFileIsWritten}
use Rattle.shell_run.specs.Traces.{NoStoreIsWrittenUnrun, NoPageIsWritten, NoCommitIsLeftOut, NoneIsReplacedUnseen}

-- a write failed in a statement that is answered so
has_failed : (counts : Counts) (a b : Exchange) → a.reply ≡ refused device → AreNoted counts (a ∷ b ∷ [])
    → 0 < a.note.writes
has_failed counts a b reply noted = noted.failed 0 a (omega arith) reply

pub none_stored_after_failure : NoneIsStoredAfterFailure
none_stored_after_failure counts a b e f n statement reply ask' reply' before noted =
    let failed : 0 < a.note.writes = has_failed counts a b reply noted in
    let finds : FindsDown b.known b.statement b.reply =
    (noted.order 0 a (omega arith) 1 b (omega arith) before).down failed in
    not_down b.known f n
    (subst (FindsDown b.known (insert f)) reply' (subst (λ q. FindsDown b.known q b.reply) ask' finds))
  where
    not_down : (known : Known) (f : Expr) (n : Name) → FindsDown known (insert f) (stored n) → ⊥
    not_down known f n (inl h) = h
    not_down known f n (inr h) = h

pub none_committed_after_failure : NoneIsCommittedAfterFailure
none_committed_after_failure counts first commits a b e n p statement reply reply' own before noted run =
    let failed : 0 < a.note.writes = has_failed counts a b reply noted in
    let none : b.note.commit ≡ None =
    (run.order 0 a (omega arith) 1 b (omega arith) before).no_commit failed in
    let x : None ≡ Some p = sym none ∙ own in cc

pub no_clock_falls : {D : Type 0} (disk : Disk D) → NoClockFalls disk
no_clock_falls disk settings first new a b before fell ran =
    omega (arith, fell, ran.timed.order 0 a (omega arith) 1 b (omega arith) before)

pub no_flush_is_late : {D : Type 0} (disk : Disk D) → NoFlushIsLate disk
no_flush_is_late disk settings first new a b n reply none late ran =
    let left_a = ran.caused.2 in
    let next = ran.caused.3 in
    let still : new ≡ disk_of ran.caused.0 =
    ran.closed ∙ ap (λ s. disk_of s) next.3 ∙ ap (λ s. disk_of s) (next.2.uncalled none) in
    omega (arith, late, left_a.clock, ap disk.clock still)

pub no_flush_is_owed : {D : Type 0} (disk : Disk D) → NoFlushIsOwed disk
no_flush_is_owed disk settings first new a b reply none ran owed =
    let ok : IsOkOfChange a.reply = subst IsOkOfChange (sym reply) tt in
    let next = ran.caused.3 in
    let done = ran.caused.2.flushed ok in
    let after : ran.caused.0 ≡ done.0 = subst (λ r. IsTidied disk r done.0 ran.caused.0) reply done.3 in
    owed (subst (λ s. IsFlushed s) (sym (next.3 ∙ next.2.uncalled none ∙ after)) done.2)

pub no_commit_is_early : NoCommitIsEarly
no_commit_is_early files m p first commits a b before early own r below =
    let all : IfSome b.note.commit (λ p. p < length r.kept → All (λ (x : Exchange). Before x b
    → x.note.clock ≤ m) (a ∷ b ∷ [])) = r.answered 1 b (omega arith) in
    let by : a.note.clock ≤ m = subst (λ o. IfSome o (λ p. p < length r.kept
    → All (λ (x : Exchange). Before x b → x.note.clock ≤ m) (a ∷ b ∷ []))) own all below 0 a (omega arith) before in
    omega (arith, by, early)

pub no_commit_is_late : NoCommitIsLate
no_commit_is_late files m p n first commits a reply own by r short =
    let ok : IsOkOfStore a.reply = subst IsOkOfStore (sym reply) tt in
    let below : p < length r.kept = subst (λ o. IfSome o (λ p. p < length r.kept)) own
    (r.known 0 a (omega arith) ok by).1 in
    omega (arith, below, short)

pub no_commit_is_left_out : NoCommitIsLeftOut
no_commit_is_left_out counts first commits a b n p ls reply own ask reply' short before run =
    let ok : IsOkOfStore a.reply = subst IsOkOfStore (sym reply) tt in
    let later : p < b.note.snapshot = subst (λ o. IfSome o (λ p. p < b.note.snapshot)) own
    ((run.order 0 a (omega arith) 1 b (omega arith) before).commit ok) in
    let high : b.note.snapshot ≤ length commits = (run.within 1 b (omega arith)).high_is in
    let listed : AreListed counts commits (shows_commits ls) b.note =
    subst (λ r. AreListed counts commits r b.note) reply'
    (subst (λ s. IsAnswered counts commits b.known b.line s b.reply b.note) ask (run.answers 1 b (omega arith))) in
    omega (
      arith,
      later,
      high,
      short,
      ap length listed.1,
      length-map (take b.note.snapshot commits) line_for,
      length-take b.note.snapshot commits,
    )

pub none_is_replaced_unseen : NoneIsReplacedUnseen
none_is_replaced_unseen counts first commits a d e n ask reply unseen run = by
    (subst (λ r. IsAnswered counts commits a.known a.line (update d e) r a.note) reply
    (subst (λ s. IsAnswered counts commits a.known a.line s a.reply a.note) ask (run.answers 0 a (omega arith))))
  where
    by : IsAnswered counts commits a.known a.line (update d e) (stored n) a.note → ⊥
    by (inl h) = absurd h.0
    by (inr h) = unseen h.2.0

pub each_failure_is_noted : EachFailureIsNoted
each_failure_is_noted counts a b e f rose run =
    omega (
      arith,
      run.writes,
      sum_by-cons (λ (r : Exchange). r.note.writes) a (b ∷ []),
      sum_by-cons (λ (r : Exchange). r.note.writes) b [],
    )

pub one_count_is_told : OneCountIsTold
one_count_is_told counts a b m n told told' other run =
    other (run.one_count 0 a (omega arith) 1 b (omega arith) m n told told')

pub nothing_is_printed_with_4 : NothingIsPrintedWith4
nothing_is_printed_with_4 text before after exchanges h = elim h.statuses [
  | inl e ↦ omega arith
  | inr (inl e) ↦ omega arith
  | inr (inr (inl e)) ↦ omega arith
  | inr (inr (inr (inl e))) ↦ omega arith
  | inr (inr (inr (inr e))) ↦ omega arith
]

-- what is defined after a dictionary that is done has its name
name_taken : (known next : Known) (name : List ℕ) (k : Kind) (ls : List Line)
    → Becomes known (define (dictionary_opening name k) ls) done next → HasDictionary next name
name_taken known next name k ls h =
    subst (λ n. HasDictionary n name) (sym h.2)
    (Any-push (λ (d : NamedRules). d.name ≡ name) known.dictionaries (record { name = name; rules = h.0 }) refl)

name_free : (counts : Counts) (commits : History) (known : Known) (line : ℕ) (name : List ℕ) (k : Kind) (ls : List Line)
    (note : Note) → IsAnswered counts commits known line (define (dictionary_opening name k) ls) done note
    → ¬ HasDictionary known name
name_free counts commits known line name k ls note h = h.0.1

first_is : {X : Type 0} (x y : X) (xs ys : List X) → x ∷ xs ≡ y ∷ ys → (x ≡ y) × (xs ≡ ys)
first_is x y xs ys e = (cc, cc)

pub no_name_is_taken_twice : NoNameIsTakenTwice
no_name_is_taken_twice counts first commits known last s t a b name j k ls ms asked replied asked' replied' exchanges
    run =
    let head : (a ≡ exchanges.0) × (b ∷ [] ≡ exchanges.1) = first_is a exchanges.0 (b ∷ []) exchanges.1 exchanges.3 in
    let becomes : Becomes known a.statement a.reply exchanges.2 =
    subst (λ (r : Exchange). Becomes known r.statement r.reply exchanges.2) (sym head.0) exchanges.5 in
    let taken : HasDictionary exchanges.2 name = name_taken known exchanges.2 name j ls
    (subst (λ r. Becomes known (define (dictionary_opening name j) ls) r exchanges.2) replied
    (subst (λ q. Becomes known q a.reply exchanges.2) asked becomes)) in
    let next = exchanges.6 in
    let tail : (b ≡ next.0) × ([] ≡ next.1) = first_is b next.0 [] next.1 (head.1 ∙ next.3) in
    let before : b.known ≡ exchanges.2 = subst (λ (r : Exchange). r.known ≡ exchanges.2) (sym tail.0) next.4.before in
    let answered : IsAnswered counts commits b.known b.line b.statement b.reply b.note =
    run.answers 1 b (omega arith) in
    let free : ¬ HasDictionary b.known name = name_free counts commits b.known b.line name k ms b.note
    (subst (λ r. IsAnswered counts commits b.known b.line (define (dictionary_opening name k) ms) r b.note) replied'
    (subst (λ q. IsAnswered counts commits b.known b.line q b.reply b.note) asked' answered)) in
    free (subst (λ n. HasDictionary n name) (sym before) taken)

-- a sink that took nothing did not take more
took_none : (before after : Option (List ℕ)) (xs ys : List ℕ) (c : ℕ) → before ≡ Some xs
    → after ≡ Some (xs ++ c ∷ ys) → Appends before after [] → ⊥
took_none before after xs ys c b a h =
    let k : xs ++ c ∷ ys ≡ xs ++ [] =
    subst (λ z. Appends z (Some (xs ++ c ∷ ys)) []) b (subst (λ z. Appends before z []) a h) in
    omega (arith, ap length k, length-append xs (c ∷ ys), length-append xs [])

pub none_runs_after_the_sink_failed : NoneRunsAfterTheSinkFailed
none_runs_after_the_sink_failed text before status a b long h =
    let so_far = h.so_far in
    let none : length so_far.sent ≡ 0 =
    omega (arith, ap length so_far.took, length-append before so_far.sent) in
    let all : length (printed_exchanges (a ∷ b ∷ [])) ≡ length (printed_exchange a) + length (printed_exchange b) =
    omega (
      arith,
      length-flat_map printed_exchange (a ∷ b ∷ []),
      sum_by-cons (λ (r : Exchange). length (printed_exchange r)) a (b ∷ []),
      sum_by-cons (λ (r : Exchange). length (printed_exchange r)) b [],
    ) in
    let few : length so_far.unsent < PIECE_BYTES + length (printed_exchange b) = so_far.few in
    omega (
      arith,
      none,
      all,
      long,
      few,
      ap length so_far.printed,
      length-append so_far.sent so_far.unsent,
    )

not_at_end : (left : Option (List ℕ)) (b : ℕ) (bytes : List ℕ) → left ≡ Some (b ∷ bytes)
    → IsAtEnd left → ⊥
not_at_end left b bytes is h =
    let k : b ∷ bytes ≡ [] = subst IsAtEnd is h in omega (arith, ap length k)

pub no_half_script_is_run : {S K D : Type 0} (source : Source S) (sink : Sink K) (disk : Disk D)
    → NoHalfScriptIsRun source sink disk
no_half_script_is_run source sink disk words script out d r b c bytes before text left took took' h = elim h [
  | inl n ↦ took_none (sink.taken out) (sink.taken r.out) before text c took took' n.nothing.sink
  | inr ran ↦ not_at_end (source.left r.script) b bytes left ran.4
]

module _ {K D : Type 0} (sink : Sink K) (disk : Disk D) where
  pub no_log_is_wiped : NoLogIsWiped sink disk
  no_log_is_wiped out out' d d' t other h = other (ap (λ (f : Files). f.log) ((h.keeps_4 refl).same t))

  pub no_stray_file_is_written : NoStrayFileIsWritten sink disk
  no_stray_file_is_written status out out' d d' t none other h = other ((h.keeps_no_store t none).same t)

  pub no_store_is_written_unrun : NoStoreIsWrittenUnrun sink disk
  no_store_is_written_unrun status out out' d d' t made other h = other ((h.only_read t made).same t)

  pub no_page_is_written : NoPageIsWritten sink disk
  no_page_is_written status out out' d d' t other h = other (h.pages t).now
