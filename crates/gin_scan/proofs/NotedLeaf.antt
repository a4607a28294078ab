-- What is noted of a leaf, by what a walk looks for.
use Rattle.std.proofs.Common.{◌≡◌, ℕ, Bool, true, false, cond, List, [], ◌∷◌, ◌++◌, Some, refl, sym, ap, ap₂, subst}
use Rattle.std.proofs.Common.{◌∙◌, slice_get}
use Rattle.ts_base.specs.Keys.{Key}
use Rattle.page_types.specs.Views.{entries_in, entries_of}
use Rattle.page_types.specs.declared.page.Page.{Page}
use Rattle.page_types.specs.declared.page.Entry.{Entry}
use Rattle.page_types.specs.declared.page.Postings.{Postings}
use Rattle.page_types.specs.declared.page.Postings.TheVariants.{Inline, Root}
use Rattle.page_types.specs.declared.page.Body.TheVariants as body
use Rattle.gin_opclass.specs.Class.{Asked}
use Rattle.gin_opclass.specs.declared.QueryKeys.{QueryKeys}
use Rattle.core_moments.specs.Walk as walk
use Rattle.core_moments.specs.Walk.{Sought, fits, first_key, sought_of}
use Rattle.core_moments.specs.Judging.{fits_asked}
use Rattle.core_moments.specs.OpenWalk.{NamedTree, tree_of, trees_on}
use Rattle.gin_hits.specs.Entries.{entries_with, AreNotedUnder}
use Rattle.gin_hits.specs.Trees.{trees_under}
use Rattle.gin_hits.specs.declared.hits.Hits.{Hits}
use Rattle.gin_scan.specs.Scanning.{sought_for, walked_by}
use Rattle.gin_scan.specs.Inner.Ways.{NotesEntries, NamesTrees}
use Rattle.gin_scan.proofs.SoughtFor.{IsFor, is_for}

-- the trees that entries name which fit are those of the entries that fit
trees_first : (w : Sought) (e : Entry) (es : List Entry) (b : Bool) (p : Postings) → fits w e.key ≡ b → e.postings ≡ p
    → trees_on w es ≡ trees_under (entries_with (fits w) es)
    → trees_on w (e ∷ es) ≡ trees_under (entries_with (fits w) (e ∷ es))
trees_first w e es true (Root r) f g tail =
    ap₂ (λ (c : Bool) (q : Postings). tree_of c e.key q (trees_on w es)) f g
    ∙ ap (λ (ts : List NamedTree). record { key = e.key; root = r } ∷ ts) tail
    ∙ ap (λ (q : Postings). tree_of true e.key q [] ++ trees_under (entries_with (fits w) es)) (sym g)
    ∙ ap (λ (c : Bool). trees_under (cond c (e ∷ entries_with (fits w) es) (entries_with (fits w) es))) (sym f)
trees_first w e es true (Inline bytes) f g tail =
    ap₂ (λ (c : Bool) (q : Postings). tree_of c e.key q (trees_on w es)) f g
    ∙ tail
    ∙ ap (λ (q : Postings). tree_of true e.key q [] ++ trees_under (entries_with (fits w) es)) (sym g)
    ∙ ap (λ (c : Bool). trees_under (cond c (e ∷ entries_with (fits w) es) (entries_with (fits w) es))) (sym f)
trees_first w e es false p f g tail =
    ap (λ (c : Bool). tree_of c e.key e.postings (trees_on w es)) f
    ∙ tail
    ∙ ap (λ (c : Bool). trees_under (cond c (e ∷ entries_with (fits w) es) (entries_with (fits w) es))) (sym f)

trees_fitting : (w : Sought) (es : List Entry) → trees_on w es ≡ trees_under (entries_with (fits w) es)
trees_fitting w [] = refl
trees_fitting w (e ∷ es) = trees_first w e es (fits w e.key) e.postings refl refl (trees_fitting w es)

-- the key that the code has is the one that the walk looks for
pub walks_for : (keys : QueryKeys) (order : List ℕ) (number : ℕ) (w : Sought) (b : Asked)
    → slice_get (sought_for keys order) number ≡ Some w
    → ((a : Asked) → slice_get (walked_by keys order) number ≡ Some a → b ≡ a) → IsFor w b
walks_for keys order number w b here told =
    let f = is_for keys order number w here in subst (IsFor w) (sym (told f.0 f.1)) f.2

module _ (w : Sought) (a : Asked) (for : IsFor w a) (c : Page) (high : Key) (es : List Entry)
    (is : c.body ≡ body.EntryLeaf high es) where
  -- the trees that they name
  pub names : (old new : List NamedTree) → new ≡ old ++ trees_under (entries_with (fits_asked a) es)
      → NamesTrees w c old new
  names old new told =
      told ∙ ap (λ (ds : List Entry). old ++ trees_under ds)
      (sym (for.entries es) ∙ ap (entries_with (fits w)) (sym (ap entries_in is)))
      ∙ ap (λ (ts : List NamedTree). old ++ ts) (sym (trees_fitting w (entries_of c)))

  pub notes : (asked : List Asked) (old new : Hits)
      → ((before : List Entry) → AreNotedUnder asked before old
      → AreNotedUnder asked (before ++ entries_with (fits_asked a) es) new) → NotesEntries asked w c old new
  notes asked old new told ds noted =
      subst (λ (more : List Entry). AreNotedUnder asked (ds ++ more) new)
      (sym (for.entries es) ∙ ap (entries_with (fits w)) (sym (ap entries_in is))) (told ds noted)

  pub goes_beyond : (n : ℕ) → n ≡ walk.beyond (sought_of a) c → n ≡ walk.beyond w c
  goes_beyond n told = told ∙ sym (for.beyond c)
