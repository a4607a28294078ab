-- What a statement did to the store, by how it was answered.
use Rattle.std.proofs.Common.{◌≡◌, ◌⊎◌, inl, inr, ℕ, ◌+◌, ◌≤◌, [], ◌∷◌, ◌++◌, length, length-append, arith, refl}
use Rattle.std.proofs.Common.{sym, ◌∙◌, ap, subst, map}
use Rattle.std.proofs.lemmas.List.{append-nil}
use Rattle.std.specs.Prelude.{Result, Ok, Err, Vec, IfErr, suc, None}
use Rattle.std.specs.declared.alloc.Global.{Global}
use Rattle.disk_trait.specs.declared.device.Disk.{Ghosts as Disk}
use Rattle.ts_base.specs.Vectors.{Vector}
use Rattle.ts_query.specs.Queries.{Query}
use Rattle.ts_match.specs.Meaning.{Holds}
use Rattle.ts_config.specs.Known.{Known}
use Rattle.engine.specs.Finding.{Name, Commit, History}
use Rattle.engine.specs.Db.{DbValue, flushed_of, IsUp}
use Rattle.engine.specs.Standing.{StandsFor, HasGrown, GoesOn}
use Rattle.engine.specs.Going.{FaultIsTold, MetFault, MetNoFault}
use Rattle.engine.specs.Work.{Work, inserting, updating, deleting, commit_of}
use Rattle.engine.specs.Answers.{HasCommitted, HasRefused, HasDeleted, HasFound, HasListed}
use Rattle.engine.specs.Cleaning.{HasMoved, HasCleaned, Tidies, StoresThenTidies}
use Rattle.engine.specs.Vacuuming.{HasWorked, HasVacuumed}
use Rattle.engine.specs.Answers.{IsRefused}
use Rattle.engine.specs.Coming.{ComesToBadPage}
use Rattle.engine.specs.Answers.{Refuses, IsLawfulRefusal, MeetsNoBadPage, OnlyReads, Pass}
use Rattle.engine.specs.declared.commit_names.CommitNames.{CommitNames}
use Rattle.engine.specs.declared.error.DbError.{DbError}
use Rattle.engine.specs.declared.error.DbError.TheVariants as errors
use Rattle.shell_script.specs.Grammar.{Statement, insert, update, delete, search as finding, clean_up, show, ask}
use Rattle.shell_script.specs.Grammar.{vacuum, parse, list_commits, define, invalid, Expr, QuerySource}
use Rattle.shell_script.specs.Docs.{Doc}
use Rattle.shell_run.specs.Run.{Note, Counts, Reply, stored, removed, maintained, lists, shows_commits, refused}
use Rattle.shell_run.specs.Run.{memory, down}
use Rattle.shell_run.specs.Run.{device as device_fault, no_statement, IsAnswered, IsInsertion, IsReplacement}
use Rattle.shell_run.specs.Run.{IsDeletion}
use Rattle.shell_run.specs.Run.{MayCall, IsOkOfChange}
use Rattle.shell_run.specs.Values.{IsValueOf, IsQueryOf}
use Rattle.shell_run.specs.Caused.{IsCaused, IsTidied}
use Rattle.shell_run.specs.Inner.Refusing.{stored_reply, removed_reply, cleaned_reply, found_reply, IsListReply}
use Rattle.shell_run.specs.Inner.Refusing.{names_line}
use Rattle.shell_run.specs.Inner.Answering.{HasAnswered}
use Rattle.shell_run.proofs.OfTexts.{expr_text, query_text_reply, shown_text, queried_text, parsed_text, defined_text}
use Rattle.shell_run.proofs.OfTexts.{line_text}
use Rattle.shell_run.proofs.Moving.{Moves, HasNote, Tells, own_is, none_is, work_up, read_up, clean_up as up_or_down}
use Rattle.shell_run.proofs.Moving.{vacuum_up, refuses_of, IsFaultOf, still_reaches, was_up, rested_at, rests_moves}
use Rattle.shell_run.proofs.Moving.{err_moves}
use Rattle.shell_run.proofs.Rows.{work_row, name_row, name_seen, search_row, search_done, clean_row, list_row}
use Rattle.shell_run.proofs.Rows.{vacuum_row, list_done}

-- a fault of the cleanup that came by itself after a document was stored
tidied_fault : {D T : Type 0} (device : Disk D) (old mid new : DbValue D) (name : Name) (answer : Result T DbError)
    → IsUp old → MetNoFault device old mid → GoesOn device old mid → FaultIsTold device mid new answer
    → IsFaultOf device old new (stored name)
tidied_fault {D} {T} device old mid new name answer up calm on told = by answer told
  where
    stays : MetNoFault device mid new → IsFaultOf device old new (stored name)
    stays f = inr (λ x. cc, record { writes = f.writes ∙ calm.writes; down = f.down ∙ calm.down })

    meets : MetFault device mid new → IsFaultOf device old new (stored name)
    meets f = inl (
      inr tt,
      record {
        up = up;
        rose = omega (arith, on.faults, f.rose);
        writes = omega (arith, calm.writes, f.writes);
        down = f.down;
      },
    )

    by : (a : Result T DbError) → FaultIsTold device mid new a → IsFaultOf device old new (stored name)
    by (Ok done) f = stays f
    by (Err errors.DiskFault) f = meets f
    by (Err e) f = stays f

module _ {D : Type 0} (device : Disk D) (old new : DbValue D) where
  -- all commits of a history are flushed, and one more
  reaches_one : (s : DbValue D) (w : Work) (name : Name) (H : History) → flushed_of s ≡ suc (length H)
      → length (H ++ commit_of w name ∷ []) ≤ flushed_of s
  reaches_one s w name H is =
      let b : length (H ++ commit_of w name ∷ []) ≡ length H + 1 = length-append H (commit_of w name ∷ []) in
      omega (arith, is, b)

  -- the work was done, and a cleanup may have come by itself after it
  stored_moves : (pass : Pass) (known : Known) (line : ℕ) (statement : Statement) (w : Work) (name : Name)
      (mid : DbValue D) → MayCall statement (stored name) → HasCommitted device old mid pass w name
      → MetNoFault device old mid → GoesOn device old mid → Tidies device mid new → GoesOn device old new
      → IsCaused device old new known line statement (stored name)
      → (device.tells → (found H : History) → StandsFor device found old H
      → (IsUp old → length H ≤ flushed_of old) → (k : Counts) (note : Note) → note.snapshot ≡ length H
      → HasNote (commit_of w name ∷ []) H note → Tells device old new k note
      → IsAnswered k (H ++ commit_of w name ∷ []) known line statement (stored name) note)
      → Moves device old new known line statement (stored name)
  stored_moves pass known line statement w name mid calls h none before tidies on caused answered = record {
    more = commit_of w name ∷ [];
    one = inr (commit_of w name, refl, h.up);
    caused = caused;
    ok_up = λ ok. h.up;
    finds = inr h.up;
    fell = λ n down. cc;
    fault = tidied_fault device old mid new name tidies.answer h.up none before tidies.told;
    flushed = λ ok. (mid, h.still_up, h.is_flushed, tidies);
    rested = λ ok. record {
      mid = mid;
      up = h.still_up;
      on = inr before;
      grown = h.grown;
      reaches = λ t found H s low. reaches_one mid w name H (h.flushed t found H s);
      then = inr tidies.goes_on;
    };
    called = inl calls;
    on = inr on;
    grown = λ t found H s. subst (StandsFor device found new) (append-nil (H ++ commit_of w name ∷ []))
        (tidies.moves.nothing t found (H ++ commit_of w name ∷ []) (h.grown t found H s));
    reaches = λ t found H s still low.
        let a : length (H ++ commit_of w name ∷ []) ≤ flushed_of mid =
        reaches_one mid w name H (h.flushed t found H s) in
        omega (arith, a, tidies.goes_on.flushed);
    answered = answered;
  }

  -- the work was done
  done_moves : (pass' : Pass) (known : Known) (line : ℕ) (statement : Statement) (w : Work) (name : Name)
      (reply : Reply) → IsTidied device reply new new
      → MayCall statement reply → ((n : ℕ) → reply ≡ refused (down n) → ⊥) → (reply ≡ refused device_fault → ⊥)
      → HasCommitted device old new pass' w name → MetNoFault device old new → GoesOn device old new
      → IsCaused device old new known line statement reply
      → (device.tells → (found H : History) → StandsFor device found old H
      → (IsUp old → length H ≤ flushed_of old) → (k : Counts) (note : Note) → note.snapshot ≡ length H
      → HasNote (commit_of w name ∷ []) H note → Tells device old new k note
      → IsAnswered k (H ++ commit_of w name ∷ []) known line statement reply note)
      → Moves device old new known line statement reply
  done_moves pass' known line statement w name reply same calls not_down not_fault h none on caused answered = record {
    more = commit_of w name ∷ [];
    one = inr (commit_of w name, refl, h.up);
    caused = caused;
    ok_up = λ ok. h.up;
    finds = inr h.up;
    fell = λ n down. absurd (not_down n down);
    fault = inr (not_fault, none);
    flushed = λ ok. (new, h.still_up, h.is_flushed, same);
    rested = λ ok. rested_at device old new (commit_of w name ∷ []) h.still_up (inr on) h.grown
        (λ t found H s low. reaches_one new w name H (h.flushed t found H s));
    called = inl calls;
    on = inr on;
    grown = h.grown;
    reaches = λ t found H s still low. reaches_one new w name H (h.flushed t found H s);
    answered = answered;
  }

  -- how work was refused: what it added, if anything
  record Refused (w : Work) (e : DbError) : Type 0 where
    more : History
    one : (more ≡ []) ⊎ ((c : Commit) × (more ≡ c ∷ []) × (e ≡ errors.DiskFault))
    by : (c : Commit) → more ≡ c ∷ [] → (name : Name) × (c ≡ commit_of w name)
    grown : device.tells → HasGrown device old new more

  no_more : (w : Work) (e : DbError) → IsRefused device old new w e → Refused w e
  no_more w e h = record {
    more = [];
    one = inl refl;
    by = λ c is. absurd (let x : ⊥ = omega (arith, ap length is) in x);
    grown = h.nothing;
  }

  refused_work : (w : Work) (e : DbError) → HasRefused device old new w e → Refused w e
  refused_work w errors.DiskFault h = elim h.1 [
    | inl r ↦ no_more w errors.DiskFault r
    | inr d ↦ record {
      more = commit_of w d.0 ∷ [];
      one = inr (commit_of w d.0, refl, refl);
      by = λ c is. (d.0, let same : commit_of w d.0 ≡ c = cc in sym same);
      grown = d.1.grown;
    }
  ]
  refused_work w e h = no_more w e h.1

  one_or : (w : Work) (e : DbError) (r : Refused w e) → (r.more ≡ []) ⊎ (e ≡ errors.DiskFault)
  one_or w e r = elim r.one [ inl n ↦ inl n | inr c ↦ inr c.2 ]

  -- ── work ──
  abbrev no_name : DbError → Result Name DbError
  no_name x = Err x

  -- a refusal is that of the work, after which nothing more is done
  refusal_then : (pass' : Pass) (w : Work) (x : DbError) → StoresThenTidies device old new pass' w (Err x)
      → HasRefused device old new w x × FaultIsTold device old new (no_name x)
  refusal_then pass' w x h = (
    subst (λ z. HasRefused device old z w x) (sym h.then) h.stored,
    subst (λ z. FaultIsTold device old z (no_name x)) (sym h.then) h.told,
  )

  inserts : (pass' : Pass) (known : Known) (line : ℕ) (e : Expr) (v : Vector) (answer : Result Name DbError)
      → IsValueOf known e v → StoresThenTidies device old new pass' (inserting v) answer
      → IfErr answer (IsLawfulRefusal device old (inserting v)) → GoesOn device old new
      → Moves device old new known line (insert e) (stored_reply answer)
  inserts pass' known line e v (Ok name) value h lawful on =
      stored_moves h.pass known line (insert e) (inserting v) name h.mid tt h.stored h.told h.goes_on h.then on
      (inr (v, value, (h.pass, h.mid, h.stored, h.then)))
      (λ t found H s low k note is own tells. inr (v, value, own_is (commit_of (inserting v) name) H note own))
  inserts pass' known line e v (Err x) value stores lawful on =
      let both = refusal_then pass' (inserting v) x stores in
      let h : HasRefused device old new (inserting v) x = both.0 in
      let told : FaultIsTold device old new (no_name x) = both.1 in
      let why : Refuses device old new (inserting v) x = refuses_of device old new (inserting v) x h in
      let r : Refused (inserting v) x = refused_work (inserting v) x h in
      err_moves device old new Name known line (insert e) x r.more tt (λ f. inl tt)
      (work_up device old new (inserting v) x why) told on r.one (inr (v, value, (x, refl, h))) r.grown
      (λ t found H s low k note is own tells. inr (
        v,
        value,
        work_row device old new found H r.more k note is own
            tells t s low (IsInsertion v) (inserting v) x why lawful refl (λ c m. r.by c m) (one_or (inserting v) x r),
      ))

  updates : (pass' : Pass) (known : Known) (line : ℕ) (d : Doc) (e : Expr) (v : Vector) (answer : Result Name DbError)
      → IsValueOf known e v → StoresThenTidies device old new pass' (updating d.name v) answer
      → IfErr answer (IsLawfulRefusal device old (updating d.name v))
      → GoesOn device old new → Moves device old new known line (update d e) (stored_reply answer)
  updates pass' known line d e v (Ok name) value h lawful on =
      stored_moves h.pass known line (update d e) (updating d.name v) name h.mid tt h.stored h.told h.goes_on
      h.then on (inr (v, value, (h.pass, h.mid, h.stored, h.then)))
      (λ t found H s low k note is own tells. inr (
        v,
        value,
        (
          name_seen device old new found H (commit_of (updating d.name v) name ∷ []) k note is own tells t s low
              (updating d.name v) d.name refl h.stored.up (h.stored.were_there t found H s),
          own_is (commit_of (updating d.name v) name) H note own,
        ),
      ))
  updates pass' known line d e v (Err x) value stores lawful on =
      let w : Work = updating d.name v in
      let both = refusal_then pass' w x stores in
      let h : HasRefused device old new w x = both.0 in
      let told : FaultIsTold device old new (no_name x) = both.1 in
      let why : Refuses device old new w x = refuses_of device old new w x h in
      let r : Refused w x = refused_work w x h in
      err_moves device old new Name known line (update d e) x r.more tt (λ f. inl tt)
      (work_up device old new w x why) told on r.one (inr (v, value, (x, refl, h))) r.grown
      (λ t found H s low k note is own tells. inr (
        v,
        value,
        name_row device old new found H r.more k note is own
            tells t s low (IsReplacement d.name v) w d.name x why lawful refl (λ c m. r.by c m) (one_or w x r),
      ))

  deletes : (pass' : Pass) (known : Known) (line : ℕ) (d : Doc) (answer : Result (Unit {0}) DbError)
      → HasDeleted device old new pass' (deleting d.name) answer → FaultIsTold device old new answer
      → IfErr answer (IsLawfulRefusal device old (deleting d.name)) → GoesOn device old new
      → Moves device old new known line (delete d) (removed_reply answer)
  deletes pass' known line d (Ok done) h told lawful on =
      done_moves pass' known line (delete d) (deleting d.name) h.0 removed refl tt (λ n x. cc) (λ x. cc) h.1 told on
      (pass', h.0, h.1)
      (λ t found H s low k note is own tells. (
        name_seen device old new found H (commit_of (deleting d.name) h.0 ∷ []) k note is own tells t s low
            (deleting d.name) d.name refl h.1.up (h.1.were_there t found H s),
        own_is (commit_of (deleting d.name) h.0) H note own,
      ))
  deletes pass' known line d (Err x) h told lawful on =
      let w : Work = deleting d.name in
      let why : Refuses device old new w x = refuses_of device old new w x h in
      let r : Refused w x = refused_work w x h in
      err_moves device old new (Unit {0}) known line (delete d) x r.more tt (λ f. tt)
      (work_up device old new w x why) told on r.one (x, refl, h) r.grown
      (λ t found H s low k note is own tells. name_row device old new found H r.more k note is own
      tells t s low (IsDeletion d.name) w d.name x why lawful refl (λ c m. (r.by c m).1) (one_or w x r))

  -- ── calls that only read ──
  read_moves : (known : Known) (line : ℕ) (statement : Statement) (reply : Reply) → IsUp old
      → MayCall statement reply → ((n : ℕ) → reply ≡ refused (down n) → ⊥) → (reply ≡ refused device_fault → ⊥)
      → (IsOkOfChange reply → ⊥) → OnlyReads device old new → MetNoFault device old new → GoesOn device old new
      → IsCaused device old new known line statement reply
      → (device.tells → (found H : History) → StandsFor device found old H
      → (IsUp old → length H ≤ flushed_of old) → (k : Counts) (note : Note) → note.snapshot ≡ length H
      → HasNote [] H note → Tells device old new k note → IsAnswered k (H ++ []) known line statement reply note)
      → Moves device old new known line statement reply
  read_moves known line statement reply up calls not_down not_fault not_done reads none on caused answered =
      let fault : IsFaultOf device old new reply = inr (not_fault, none) in
      record {
        more = [];
        one = inl refl;
        caused = caused;
        ok_up = λ ok. up;
        finds = inr up;
        fell = λ n down. absurd (not_down n down);
        fault = fault;
        flushed = λ done. absurd (not_done done);
        rested = λ ok. rested_at device old new [] (none.down ∙ up) (inr on) reads.nothing
            (λ t found H s low. still_reaches device old new H on.flushed (was_up device old new reply fault)
            (none.down ∙ up) low);
        called = inl calls;
        on = inr on;
        grown = reads.nothing;
        reaches = λ t found H s still low.
            still_reaches device old new H on.flushed (was_up device old new reply fault) still low;
        answered = answered;
      }

  searches : (known : Known) (line : ℕ) (s : QuerySource) (q : Query) (answer : Result (Vec Name Global) DbError)
      → IsQueryOf known s q → HasFound device old new (Holds q) answer × IfErr answer (ComesToBadPage device old q)
      → FaultIsTold device old new answer
      → IfErr answer (MeetsNoBadPage device old) → OnlyReads device old new → GoesOn device old new
      → Moves device old new known line (finding s) (found_reply answer)
  searches known line s q (Ok names) value h told lawful reads on =
      read_moves known line (finding s) (lists names.items) h.0.0 tt (λ n x. cc) (λ x. cc) (λ x. x) reads told on
      (inr (q, value, reads, h.0.0))
      (λ t found H stands low k note is own tells. inr (
        q,
        value,
        search_done device old new found H [] k note is own
            tells t stands low refl q names h.0.0 (h.0.1 t found H stands),
      ))
  searches known line s q (Err x) value h told lawful reads on =
      err_moves device old new (Vec Name Global) known line (finding s) x [] tt (λ f. inl tt)
      (read_up device old new x h.0) told on (inl refl) (inr (q, value, reads, (x, refl, h))) reads.nothing
      (λ t found H stands low k note is own tells. inr (
        q,
        value,
        search_row device old new found H [] k note is own
            tells t stands low refl q x h.0 lawful,
      ))

  lists_moves : (known : Known) (line : ℕ) (answer : Result (Vec CommitNames Global) DbError) (reply : Reply)
      → IsListReply answer reply → HasListed device old new answer → FaultIsTold device old new answer
      → IfErr answer (MeetsNoBadPage device old) → OnlyReads device old new → GoesOn device old new
      → Moves device old new known line list_commits reply
  lists_moves known line (Ok ns) reply (inl shown) h told lawful reads on =
      subst (λ z. Moves device old new known line list_commits z) (sym shown)
      (read_moves known line list_commits (shows_commits (map names_line ns.items)) h.0 tt (λ n x. cc) (λ x. cc)
      (λ x. x) reads told on (reads, h.0)
      (λ t found H stands low k note is own tells. list_done device old new found H [] k note is own
      tells t stands low refl ns h.0 (h.1 t found H stands)))
  lists_moves known line (Ok ns) reply (inr short) h told lawful reads on =
      subst (λ z. Moves device old new known line list_commits z) (sym short)
      (read_moves known line list_commits (refused memory) h.0 tt (λ n x. cc) (λ x. cc) (λ x. x) reads told on
      (reads, (errors.OutOfMemory, refl, h.0))
      (λ t found H stands low k note is own tells. none_is H note own))
  lists_moves known line (Err x) reply is h told lawful reads on =
      subst (λ z. Moves device old new known line list_commits z) (sym is)
      (err_moves device old new (Vec CommitNames Global) known line list_commits x [] tt (λ f. tt)
      (read_up device old new x h) told on (inl refl) (reads, (x, refl, h)) reads.nothing
      (λ t found H stands low k note e own tells. list_row device old new found H [] k note e own
      tells t stands low refl x h lawful))

  -- ── a cleanup, and a vacuum ──
  maintains : (known : Known) (line : ℕ) (statement : Statement) → IsUp old → MayCall statement maintained
      → MetNoFault device old new → GoesOn device old new → (device.tells → HasGrown device old new [])
      → IsCaused device old new known line statement maintained
      → ((k : Counts) (H : History) (note : Note) → note.commit ≡ None
      → IsAnswered k H known line statement maintained note)
      → Moves device old new known line statement maintained
  maintains known line statement up calls calm on nothing caused answered = record {
    more = [];
    one = inl refl;
    caused = caused;
    ok_up = λ ok. up;
    finds = inr up;
    fell = λ n down. cc;
    fault = inr (λ x. cc, calm);
    flushed = λ change. absurd change;
    rested = λ ok. rested_at device old new [] (calm.down ∙ up) (inr on) nothing
        (λ t found H s low. still_reaches device old new H on.flushed (λ z. up) (calm.down ∙ up) low);
    called = inl calls;
    on = inr on;
    grown = nothing;
    reaches = λ t found H s still low. still_reaches device old new H on.flushed (λ z. up) still low;
    answered = λ t found H s low k note is own tells. answered k (H ++ []) note (none_is H note own);
  }

  cleans : (known : Known) (line : ℕ) (answer : Result (Unit {0}) DbError) → HasMoved device old new
      → HasCleaned device old new answer → FaultIsTold device old new answer
      → IfErr answer (MeetsNoBadPage device old) → GoesOn device old new
      → Moves device old new known line clean_up (cleaned_reply answer)
  cleans known line (Ok done) moved h told lawful on =
      maintains known line clean_up h.0 tt told on moved.nothing (moved, h) (λ k H note n. n)
  cleans known line (Err x) moved h told lawful on =
      err_moves device old new (Unit {0}) known line clean_up x [] tt (λ f. tt)
      (up_or_down device old new x h) told on (inl refl) (moved, (x, refl, h)) moved.nothing
      (λ t found H stands low k note is own tells. clean_row device old new found H [] k note is own
      tells t stands low refl x h lawful)

  vacuums : (known : Known) (line : ℕ) (answer : Result (Unit {0}) DbError) → HasWorked device old new
      → HasVacuumed device old new answer → FaultIsTold device old new answer
      → IfErr answer (MeetsNoBadPage device old) → GoesOn device old new
      → Moves device old new known line vacuum (cleaned_reply answer)
  vacuums known line (Ok done) worked h told lawful on =
      maintains known line vacuum h.0 tt told on worked.nothing (worked, h) (λ k H note n. n)
  vacuums known line (Err x) worked h told lawful on =
      err_moves device old new (Unit {0}) known line vacuum x [] tt (λ f. tt)
      (vacuum_up device old new x h) told on (inl refl) (worked, (x, refl, h)) worked.nothing
      (λ t found H stands low k note is own tells. vacuum_row device old new found H [] k note is own
      tells t stands low refl x h lawful)

  -- ── all statements ──
  pub moves : (pass pass' : Pass) (known : Known) (line : ℕ) (statement : Statement) (reply : Reply)
      → HasAnswered device old new pass pass' known line statement reply
      → Moves device old new known line statement reply
  moves pass pass' known line (insert e) reply (inl i) =
      rests_moves device old new known line (insert e) reply i.0.0 (expr_text known e reply i.1) (inr i.1)
      (inl (i.1, i.0.0)) (λ k H note n. inl (i.1, n))
  moves pass pass' known line (insert e) reply (inr i) =
      let c = i.2 in
      subst (λ z. Moves device old new known line (insert e) z) (sym c.5)
      (inserts pass' known line e i.0 c.0 i.1 c.1 c.2 c.3)
  moves pass pass' known line (update d e) reply (inl i) =
      rests_moves device old new known line (update d e) reply i.0.0 (expr_text known e reply i.1) (inr i.1)
      (inl (i.1, i.0.0)) (λ k H note n. inl (i.1, n))
  moves pass pass' known line (update d e) reply (inr i) =
      let c = i.2 in
      subst (λ z. Moves device old new known line (update d e) z) (sym c.5)
      (updates pass' known line d e i.0 c.0 i.1 c.1 c.2 c.3)
  moves pass pass' known line (delete d) reply i =
      subst (λ z. Moves device old new known line (delete d) z) (sym i.6)
      (deletes pass' known line d i.0 i.1 i.2 i.3 i.4)
  moves pass pass' known line (finding s) reply (inl i) =
      rests_moves device old new known line (finding s) reply i.0.0 (query_text_reply known s reply i.1) (inr i.1)
      (inl (i.1, i.0.0)) (λ k H note n. inl (i.1, n))
  moves pass pass' known line (finding s) reply (inr i) =
      let c = i.2.1 in
      subst (λ z. Moves device old new known line (finding s) z) (sym c.6)
      (searches known line s i.0 c.0 i.1 c.1 c.2 c.3 i.2.0 c.4)
  moves pass pass' known line clean_up reply i =
      let c = i.1 in
      subst (λ z. Moves device old new known line clean_up z) (sym c.6)
      (cleans known line c.0 i.0 c.1 c.2 c.3 c.4)
  moves pass pass' known line vacuum reply i =
      let c = i.1 in
      subst (λ z. Moves device old new known line vacuum z) (sym c.6)
      (vacuums known line c.0 i.0 c.1 c.2 c.3 c.4)
  moves pass pass' known line list_commits reply i =
      let c = i.1 in lists_moves known line c.0 reply c.6 c.1 c.2 c.3 i.0 c.4
  moves pass pass' known line (show e) reply i =
      rests_moves device old new known line (show e) reply i.0.0 (shown_text known e reply i.1) tt (i.1, i.0.0)
      (λ k H note n. (i.1, n))
  moves pass pass' known line (ask s) reply i =
      rests_moves device old new known line (ask s) reply i.0.0 (queried_text known s reply i.1) tt (i.1, i.0.0)
      (λ k H note n. (i.1, n))
  moves pass pass' known line (parse text) reply i =
      rests_moves device old new known line (parse text) reply i.0.0 (parsed_text text reply i.1) tt (i.1, i.0.0)
      (λ k H note n. (i.1, n))
  moves pass pass' known line (define head ls) reply i =
      rests_moves device old new known line (define head ls) reply i.0.0 (defined_text known line head ls reply i.1) tt
      (i.1, i.0.0) (λ k H note n. (i.1, n))
  moves pass pass' known line invalid (refused (no_statement at)) i =
      rests_moves device old new known line invalid (refused (no_statement at)) i.0.0 (line_text at) tt (i.1, i.0.0)
      (λ k H note n. (n, i.1))
  moves pass pass' known line invalid reply i = absurd i
