-- The ways to the first leaves of the trees.
use Rattle.std.proofs.Common.{◌≡◌, ◌≢◌, ℕ, List, [], ◌∷◌, length, take, ◌-◌, refl, sym, ap, subst}
use Rattle.std.proofs.Common.{inl, inr, arith}
use Rattle.std.proofs.lemmas.List.{take-append-drop}
use Rattle.std.specs.Prelude.{Some}
use Rattle.disk_trait.specs.declared.device.Disk.{Ghosts as Disk}
use Rattle.ts_base.specs.Keys.{Key}
use Rattle.page_types.specs.declared.page.Page.{Page}
use Rattle.page_types.specs.declared.page.EntryChild.{EntryChild}
use Rattle.page_types.specs.declared.page.PostChild.{PostChild}
use Rattle.page_types.specs.declared.page.Body.{Body}
use Rattle.page_types.specs.declared.page.Body.TheVariants as body
use Rattle.core_state.specs.Log.{Log, Pages, Shows, cut}
use Rattle.core_state.specs.Changes.{UpTo}
use Rattle.core_state.specs.Legal.{IsLegal}
use Rattle.core_state.specs.TreeRules.{Toward, TowardItem}
use Rattle.core_state.proofs.Steps.Seen.{seen_shown}
use Rattle.entry_tree.specs.Adding as entry_leaves
use Rattle.entry_tree.specs.Reading as entries
use Rattle.posting_tree.specs.Adding as post_leaves
use Rattle.posting_tree.specs.Reading as posts
use Rattle.buffer_frames.specs.Frames.{FramesValue, Behind}
use Rattle.buffer_frames.specs.Passes.{IsPassOf, Seen, view_of}
use Rattle.buffer_frames.specs.declared.pass.Pass.{Pass}
use Rattle.buffer_frames.proofs.AtHand.{none_held, log_length, cut_length}
use Rattle.buffer_frames.proofs.HistoryParts.{legal_before}
use Rattle.gin_place.specs.Causes.{CannotUse}
use Rattle.gin_place.specs.Placing.{HasRight}
use Rattle.gin_place.proofs.Lawful.{usable}
use Rattle.gin_place.proofs.Owing.{right_of}
use Rattle.gin_vacuum.proofs.StaysOn.{StaysOn, stays_allowed}

-- ── the first child ──

pub entry_child : (b : Body) (child : ℕ) → entries.first_child_in b ≡ Some child
    → (c : EntryChild) × (cs : List EntryChild) × (b ≡ body.EntryInner (c ∷ cs)) × (c.page ≡ child)
entry_child (body.EntryInner (c ∷ cs)) child e = (c, cs, refl, let z : c.page ≡ child = cc in z)
entry_child (body.EntryInner []) child e = absurd (let z : ⊥ = cc in z)
entry_child _ child e = absurd (let z : ⊥ = cc in z)

pub post_child : (b : Body) (child : ℕ) → posts.first_child_in b ≡ Some child
    → (c : PostChild) × (cs : List PostChild) × (b ≡ body.PostInner (c ∷ cs)) × (c.page ≡ child)
post_child (body.PostInner (c ∷ cs)) child e = (c, cs, refl, let z : c.page ≡ child = cc in z)
post_child (body.PostInner []) child e = absurd (let z : ⊥ = cc in z)
post_child _ child e = absurd (let z : ⊥ = cc in z)

-- the key of no bytes is at most each
up_none : (b : Key) → UpTo [] b
up_none [] = inl refl
up_none (x ∷ xs) = inr (inl refl)

pub toward_child : (P : Pages) (p q : ℕ) (c : EntryChild) (cs : List EntryChild) → Toward P [] p q
    → (P q).body ≡ body.EntryInner (c ∷ cs) → Toward P [] p c.page
toward_child P p _ c cs Toward.here is = Toward.down [] cs c is (λ b i. absurd i) (up_none c.bound) Toward.here
toward_child P p q c cs (Toward.down front back d content below up rest) is =
    Toward.down front back d content below up (toward_child P d.page q c cs rest is)

pub item_child : (P : Pages) (p q : ℕ) (c : PostChild) (cs : List PostChild) → TowardItem P 0 p q
    → (P q).body ≡ body.PostInner (c ∷ cs) → TowardItem P 0 p c.page
item_child P p _ c cs TowardItem.here is =
    TowardItem.down [] cs c is (λ b i. absurd i) (omega arith) TowardItem.here
item_child P p q c cs (TowardItem.down front back d content below up rest) is =
    TowardItem.down front back d content below up (item_child P d.page q c cs rest is)

pub entry_leaf : (b : Body) → entry_leaves.IsEntryLeaf b → (high : Key) × (es : List _) × (b ≡ body.EntryLeaf high es)
entry_leaf _ (entry_leaves.IsEntryLeaf.leaf high es) = (high, es, refl)

pub post_leaf : (b : Body) → post_leaves.IsPostLeaf b → (high : ℕ) × (list : List ℕ) × (b ≡ body.PostLeaf high list)
post_leaf _ (post_leaves.IsPostLeaf.leaf high list) = (high, list, refl)

-- what a pass has seen is of a legal log that isn't empty
module _ {D : Type 0} (device : Disk D) (f : FramesValue D) (p : Pass) (of : IsPassOf f p) where
  pub seen_as : (X Y : Log → Pages → Type 0)
      → ((S : Log) (P : Pages) → S ≢ [] → IsLegal S → Shows S P → X S P → Y S P) → Seen device f p X
      → Seen device f p Y
  seen_as X Y to had t up R stands legal P shown =
      let long : f.journal.state.records ≡ length R = log_length device f.journal R stands.journal in
      let size : length (cut p.seen R) ≡ p.seen = cut_length p.seen R (omega (arith, of.seen, long)) in
      to (cut p.seen R) P (λ e. omega (arith, of.some, size, ap length e))
      (legal_before (take (length R - p.seen) R) (cut p.seen R)
      (subst IsLegal (sym (take-append-drop (length R - p.seen) R)) legal))
      shown (had t up R stands legal P shown)

  -- a page that can't be used is not so in a legal log, where it would be by what was seen
  pub never_used : HasRight p → p.held ≡ 0 → (X : Log → Pages → Type 0) (Is : Page → Type 0) (page : ℕ)
      → ((S S' : Log) (P Q : Pages) → StaysOn S S' P Q → X S P → Is (Q page) × ((Q page).body ≢ body.Free))
      → Seen device f p X → CannotUse f Is page → Behind device f (λ (R : Log). ⊥)
  never_used right none X Is page so had cannot t up R stands legal =
      let v = view_of f p R [] in
      let a = (none_held device f p of none).allowed t up R stands legal in
      let S = seen_shown v R a in
      let r = right_of device f p [] R of right stands in
      let now = stays_allowed v R a S.0 r S.1 in
      let here = so (cut p.seen R) R S.0 a.pages now (had t up R stands legal S.0 S.1) in
      usable device f R t up stands legal a.pages a.shown Is page here.0 here.1 cannot
