-- What a statement is answered by a lawful store: its row of a run.
use Rattle.std.proofs.Common.{◌≡◌, ◌⊎◌, inl, inr, ◌≤◌, List, [], ◌∷◌, ◌++◌, length, sym, ◌∙◌, ap, subst, map}
use Rattle.std.specs.Prelude.{Some, None, Vec, take}
use Rattle.std.specs.declared.alloc.Global.{Global}
use Rattle.std.specs.List.{All}
use Rattle.std.proofs.lemmas.List.Elements.{All-head}
use Rattle.disk_trait.specs.declared.device.Disk.{Ghosts as Disk}
use Rattle.ts_query.specs.Queries.{Query}
use Rattle.ts_match.specs.Meaning.{Holds}
use Rattle.engine.specs.Finding.{Name, Commit, History, IsInSnapshot, IsFound, docs, AreCommitNames, names}
use Rattle.engine.specs.Db.{DbValue, flushed_of, IsUp}
use Rattle.engine.specs.Standing.{StandsFor}
use Rattle.engine.specs.Work.{Work, deleted_by}
use Rattle.engine.specs.Answers.{Refuses, CannotRead, IsLawfulRefusal, MeetsNoBadPage}
use Rattle.engine.specs.Cleaning.{CannotClean}
use Rattle.engine.specs.Vacuuming.{CannotVacuum}
use Rattle.engine.specs.declared.commit_names.CommitNames.{CommitNames}
use Rattle.engine.specs.declared.error.DbError.{DbError}
use Rattle.engine.specs.declared.error.DbError.TheVariants as errors
use Rattle.shell_run.specs.Run.{Note, Counts, lists, shows_commits, refused, CommitLine}
use Rattle.shell_run.specs.Run.{IsOfName, AreListed, line_for, IsSearched, IsCleaned, IsRefusedWork}
use Rattle.shell_run.specs.Run.{MayHaveOwn, HasOwn, HasSeen}
use Rattle.shell_run.specs.Refusing.{refusal_for}
use Rattle.shell_run.specs.Inner.Refusing.{names_line}
use Rattle.shell_run.proofs.Moving.{HasNote, Tells, none_is, own_is, seen_of, of_seen, all_taken, saw_taken}

-- the lines of commits are those of their names
lines_are : (ns : List CommitNames) (H : History) → AreCommitNames ns H → map names_line ns ≡ map line_for H
lines_are [] H h = ap (λ z. map line_for z) (sym h)
lines_are (n ∷ ns) [] h = absurd h
lines_are (n ∷ ns) (c ∷ cs) h =
    let first : names_line n ≡ line_for c =
    ap (λ z. let l : CommitLine = record { deleted = z; inserted = n.inserted.items } in l) h.0.deleted
    ∙ ap (λ z. let l : CommitLine = record { deleted = c.deleted; inserted = z } in l) h.0.inserted in
    ap (λ z. z ∷ map names_line ns) first ∙ ap (λ z. line_for c ∷ z) (lines_are ns cs h.1)

-- A statement found the store so, which stands for H, and left it so; it added these commits.
module _ {D : Type 0} (device : Disk D) (old new : DbValue D) (found H more : History) (k : Counts) (note : Note)
    (e : note.snapshot ≡ length H) (own : HasNote more H note) (tells : Tells device old new k note)
    (t : device.tells) (stands : StandsFor device found old H) (low : IsUp old → length H ≤ flushed_of old) where
  -- the commit that a refused statement may have left
  may_have : (Is : Commit → Type 0) → ((c : Commit) → more ≡ c ∷ [] → Is c) → MayHaveOwn (H ++ more) note Is
  may_have Is is = by own
    where
      by : HasNote more H note → MayHaveOwn (H ++ more) note Is
      by (inl n) = inl n.1
      by (inr c) = inr (
        c.0,
        is c.0 c.1,
        subst (λ z. HasOwn (H ++ z) note c.0) (sym c.1)
            (own_is c.0 H note (subst (λ z. HasNote z H note) c.1 own)),
      )

  no_commit : (x : DbError) → (more ≡ []) ⊎ (x ≡ errors.DiskFault) → (x ≡ errors.DiskFault → ⊥) → note.commit ≡ None
  no_commit x (inl n) other = none_is H note (subst (λ z. HasNote z H note) n own)
  no_commit x (inr is) other = absurd (other is)

  -- work that deletes nothing
  pub work_row : (Is : Commit → Type 0) (w : Work) (x : DbError) → Refuses device old new w x
      → IsLawfulRefusal device old w x → w.deletes ≡ None → ((c : Commit) → more ≡ c ∷ [] → Is c)
      → (more ≡ []) ⊎ (x ≡ errors.DiskFault) → IsRefusedWork k (H ++ more) Is (refused (refusal_for x)) note
  work_row Is w errors.NoDocument r lawful none is one =
      absurd (let y : None ≡ Some r.1.0 = sym none ∙ r.1.1 in let z : ⊥ = cc in z)
  work_row Is w (errors.Conflict y) r lawful none is one =
      absurd (let x : None ≡ Some r.1.0 = sym none ∙ r.1.1 in let z : ⊥ = cc in z)
  work_row Is w (errors.BadPage p) r lawful none is one = absurd (lawful t found H stands r.0)
  work_row Is w errors.DiskFault r lawful none is one = (may_have Is is, tells.met r)
  work_row Is w (errors.Down f) r lawful none is one = (may_have Is is, tells.since f r.0)
  work_row Is w errors.StoreFull r lawful none is one = no_commit errors.StoreFull one (λ z. cc)
  work_row Is w errors.LogFull r lawful none is one = no_commit errors.LogFull one (λ z. cc)
  work_row Is w errors.XidsSpent r lawful none is one = no_commit errors.XidsSpent one (λ z. cc)
  work_row Is w errors.OutOfMemory r lawful none is one = no_commit errors.OutOfMemory one (λ z. cc)

  -- the name that work deletes was seen, or not
  seen_one : (w : Work) (name : Name) → w.deletes ≡ Some name → IsUp old
      → All (IsInSnapshot H (flushed_of old)) (deleted_by w.deletes) → HasSeen (H ++ more) note name
  seen_one w name is up all = seen_of H more note (flushed_of old) e (low up) name
      (All-head (IsInSnapshot H (flushed_of old)) name []
      (subst (λ z. All (IsInSnapshot H (flushed_of old)) (deleted_by z)) is all))

  unseen_one : (w : Work) (name : Name) → w.deletes ≡ Some name → IsUp old
      → All (λ (n : Name). IsInSnapshot H (flushed_of old) n → ⊥) (deleted_by w.deletes)
      → HasSeen (H ++ more) note name → ⊥
  unseen_one w name is up all seen =
      All-head (λ (n : Name). IsInSnapshot H (flushed_of old) n → ⊥) name []
      (subst (λ z. All (λ (n : Name). IsInSnapshot H (flushed_of old) n → ⊥) (deleted_by z)) is all)
      (of_seen H more note (flushed_of old) e (low up) name seen)

  -- work that deletes a document
  pub name_row : (Is : Commit → Type 0) (w : Work) (name : Name) (x : DbError) → Refuses device old new w x
      → IsLawfulRefusal device old w x → w.deletes ≡ Some name → ((c : Commit) → more ≡ c ∷ [] → Is c)
      → (more ≡ []) ⊎ (x ≡ errors.DiskFault)
      → IsOfName (H ++ more) name (refused (refusal_for x)) note
      (IsRefusedWork k (H ++ more) Is (refused (refusal_for x)) note)
  name_row Is w name errors.NoDocument r lawful named is one = (
    no_commit errors.NoDocument one (λ z. cc),
    unseen_one w name named r.0 (lawful t found H stands r.0),
  )
  name_row Is w name (errors.Conflict y) r lawful named is one = (
    no_commit (errors.Conflict y) one (λ z. cc),
    seen_one w name named r.0.up (lawful t found H stands r.0.up),
  )
  name_row Is w name (errors.BadPage p) r lawful named is one = absurd (lawful t found H stands r.0)
  name_row Is w name errors.DiskFault r lawful named is one = (may_have Is is, tells.met r)
  name_row Is w name (errors.Down f) r lawful named is one = (may_have Is is, tells.since f r.0)
  name_row Is w name errors.StoreFull r lawful named is one = (
    seen_one w name named r.0.up (lawful t found H stands r.0.up),
    no_commit errors.StoreFull one (λ z. cc),
  )
  name_row Is w name errors.LogFull r lawful named is one = (
    seen_one w name named r.0.up (lawful t found H stands r.0.up),
    no_commit errors.LogFull one (λ z. cc),
  )
  name_row Is w name errors.XidsSpent r lawful named is one = (
    seen_one w name named r.0 (lawful t found H stands r.0),
    no_commit errors.XidsSpent one (λ z. cc),
  )
  name_row Is w name errors.OutOfMemory r lawful named is one = no_commit errors.OutOfMemory one (λ z. cc)

  -- the name that done work deletes was seen
  pub name_seen : (w : Work) (name : Name) → w.deletes ≡ Some name → IsUp old
      → All (IsInSnapshot H (flushed_of old)) (deleted_by w.deletes) → HasSeen (H ++ more) note name
  name_seen w name is up all = seen_one w name is up all

  -- calls that only read
  pub search_row : more ≡ [] → (q : Query) (x : DbError) → CannotRead device old new x → MeetsNoBadPage device old x
      → IsSearched k (H ++ more) q (refused (refusal_for x)) note
  search_row none q (errors.Down f) r lawful = (no_commit (errors.Down f) (inl none) (λ z. cc), tells.since f r.0)
  search_row none q errors.DiskFault r lawful = (none_is H note (subst (λ z. HasNote z H note) none own), tells.met r)
  search_row none q errors.OutOfMemory r lawful = no_commit errors.OutOfMemory (inl none) (λ z. cc)
  search_row none q (errors.BadPage p) r lawful = absurd (lawful t found H stands r.0)
  search_row none q x r lawful = absurd r

  pub search_done : more ≡ [] → (q : Query) (names : Vec Name Global) → IsUp old
      → IsFound (Holds q) (docs (take (flushed_of old) H)) names.items
      → IsSearched k (H ++ more) q (lists names.items) note
  search_done none q names up h = (
    none_is H note (subst (λ z. HasNote z H note) none own),
    subst (λ z. IsFound (Holds q) (docs z) names.items)
        (all_taken H (flushed_of old) (low up) ∙ sym (saw_taken H more note e)) h,
  )

  pub clean_row : more ≡ [] → (x : DbError) → CannotClean device old new x → MeetsNoBadPage device old x
      → IsCleaned k (refused (refusal_for x)) note
  clean_row none (errors.Down f) r lawful = (no_commit (errors.Down f) (inl none) (λ z. cc), tells.since f r.0)
  clean_row none errors.DiskFault r lawful = (none_is H note (subst (λ z. HasNote z H note) none own), tells.met r)
  clean_row none errors.StoreFull r lawful = no_commit errors.StoreFull (inl none) (λ z. cc)
  clean_row none errors.LogFull r lawful = no_commit errors.LogFull (inl none) (λ z. cc)
  clean_row none errors.OutOfMemory r lawful = no_commit errors.OutOfMemory (inl none) (λ z. cc)
  clean_row none (errors.BadPage p) r lawful = absurd (lawful t found H stands r.0)
  clean_row none x r lawful = absurd r

  pub vacuum_row : more ≡ [] → (x : DbError) → CannotVacuum device old new x → MeetsNoBadPage device old x
      → IsCleaned k (refused (refusal_for x)) note
  vacuum_row none (errors.Down f) r lawful = (no_commit (errors.Down f) (inl none) (λ z. cc), tells.since f r.0)
  vacuum_row none errors.DiskFault r lawful = (none_is H note (subst (λ z. HasNote z H note) none own), tells.met r)
  vacuum_row none errors.StoreFull r lawful = no_commit errors.StoreFull (inl none) (λ z. cc)
  vacuum_row none errors.LogFull r lawful = no_commit errors.LogFull (inl none) (λ z. cc)
  vacuum_row none errors.OutOfMemory r lawful = no_commit errors.OutOfMemory (inl none) (λ z. cc)
  vacuum_row none (errors.BadPage p) r lawful = absurd (lawful t found H stands r.0)
  vacuum_row none x r lawful = absurd r

  pub list_row : more ≡ [] → (x : DbError) → CannotRead device old new x → MeetsNoBadPage device old x
      → AreListed k (H ++ more) (refused (refusal_for x)) note
  list_row none (errors.Down f) r lawful = (no_commit (errors.Down f) (inl none) (λ z. cc), tells.since f r.0)
  list_row none errors.DiskFault r lawful = (none_is H note (subst (λ z. HasNote z H note) none own), tells.met r)
  list_row none errors.OutOfMemory r lawful = no_commit errors.OutOfMemory (inl none) (λ z. cc)
  list_row none (errors.BadPage p) r lawful = absurd (lawful t found H stands r.0)
  list_row none x r lawful = absurd r

  pub list_done : more ≡ [] → (ns : Vec CommitNames Global) → IsUp old
      → AreCommitNames ns.items (take (flushed_of old) H)
      → AreListed k (H ++ more) (shows_commits (map names_line ns.items)) note
  list_done none ns up h = (
    none_is H note (subst (λ z. HasNote z H note) none own),
    lines_are ns.items (take (flushed_of old) H) h
        ∙ ap (λ z. map line_for z) (all_taken H (flushed_of old) (low up) ∙ sym (saw_taken H more note e)),
  )
