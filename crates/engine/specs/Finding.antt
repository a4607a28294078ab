-- Documents, commits and histories, and what a search finds.
use Rattle.std.specs.Prelude.{◌≡◌, List, [], ◌∷◌}
use Rattle.ts_base.specs.Vectors.{Vector}
pub use Rattle.core_state.specs.States.{names}
use Rattle.engine.specs.declared.commit_names.CommitNames.{CommitNames}
pub use Rattle.page_types.specs.declared.page.Name.{Name}
pub use Rattle.core_state.specs.History.{Document, Commit, History, inserts, deletes, has_serial, with_document}
pub use Rattle.core_state.specs.History.{by_serial, stays, docs, Begins, serials, IsLawful, AreApart, inserted_names}
pub use Rattle.core_state.specs.Standing.{IsInSnapshot}
pub use Rattle.core_state.specs.Log.{In}
pub use Rattle.gin_scan.specs.Finding.{IsFound}

-- the document of this name and this vector
abbrev pub document : Name → Vector → Document
document name v = record { name = name; vector = v }

-- the commit that inserts a document
abbrev pub insertion : Document → Commit
insertion d = record { deleted = []; inserted = d ∷ [] }

-- the commit that deletes the document of a name, and inserts another
abbrev pub replacement : Name → Document → Commit
replacement name d = record { deleted = name ∷ []; inserted = d ∷ [] }

-- the commit that deletes the document of a name
abbrev pub deletion : Name → Commit
deletion name = record { deleted = name ∷ []; inserted = [] }

-- these are the names of a commit
pub record AreNamesOf (n : CommitNames) (c : Commit) : Type 0 where
  pub deleted : n.deleted.items ≡ c.deleted
  pub inserted : n.inserted.items ≡ names c.inserted

-- these are the names of the commits, in their order
abbrev pub AreCommitNames : List CommitNames → List Commit → Type 0
AreCommitNames [] H = H ≡ []
AreCommitNames (n ∷ ns) [] = ⊥
AreCommitNames (n ∷ ns) (c ∷ cs) = AreNamesOf n c × AreCommitNames ns cs
