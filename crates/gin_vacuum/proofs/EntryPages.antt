-- Leaves of the entry tree are pages of it.
use Rattle.std.proofs.Common.{◌≢◌, ℕ, List, [], sym, subst, inl, inr}
use Rattle.ts_base.specs.Keys.{Key}
use Rattle.page_types.specs.declared.page.Entry.{Entry}
use Rattle.page_types.specs.declared.page.Body.TheVariants as body
use Rattle.core_state.specs.Log.{Log, Pages}
use Rattle.core_state.specs.Index.{Below}
use Rattle.core_state.specs.Bullets.{PagePlace, StandsIn}
use Rattle.core_state.specs.Bullets.PagePlace.{meta, heap, entry_tree, posting_tree, overflow_of, private_of, line}
use Rattle.core_state.specs.PagesTold.{IsOfPlace, IsUsed, PagesTold, IsEntryLeaf}

used : (high : Key) (es : List Entry) → IsUsed (body.EntryLeaf high es)
used high es = record { not_free = λ e. cc; not_deleted = λ g e. cc }

-- no other place has one
in_tree : (P : Pages) (p : ℕ) (high : Key) (es : List Entry) (a : PagePlace) → IsOfPlace a (body.EntryLeaf high es)
    → StandsIn P p a → Below P 1 p
in_tree P p high es meta k s = absurd (let e = k.3 in let z : ⊥ = cc in z)
in_tree P p high es heap k s = absurd (let e = k.1 in let z : ⊥ = cc in z)
in_tree P p high es entry_tree k s = s
in_tree P p high es (posting_tree root) k s = absurd (elim k [
  | inl x ↦ let e = x.2 in let z : ⊥ = cc in z
  | inr x ↦ let e = x.1 in let z : ⊥ = cc in z
])
in_tree P p high es (overflow_of i) k s = absurd (let e = k.1 in let z : ⊥ = cc in z)
in_tree P p high es (private_of i) k s = absurd (let e = k.1 in let z : ⊥ = cc in z)
in_tree P p high es line k s = absurd (let e = k.1 in let z : ⊥ = cc in z)

pub leaf_below : (R : Log) (P : Pages) → PagesTold R P → R ≢ [] → (p : ℕ) → IsEntryLeaf P p → Below P 1 p
leaf_below R P told some p l =
    let stands = told.kinds.places p (subst IsUsed (sym l.2) (used l.0 l.1)) in
    in_tree P p l.0 l.1 stands.0 (subst (IsOfPlace stands.0) l.2 (told.kinds.kinds some p stands.0 stands.1)) stands.1
