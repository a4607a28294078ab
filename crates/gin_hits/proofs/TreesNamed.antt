-- What is noted of entries that name posting trees.
use Rattle.std.proofs.Common.{◌≡◌, ℕ, Bool, true, false, cond, List, [], ◌∷◌, ◌++◌, map, refl, sym, ap, ap₂, ◌∙◌}
use Rattle.std.proofs.Common.{◌+◌, append_assoc, append-nil, slice_range}
use Rattle.std.proofs.lemmas.Grind.{flat_map-append}
use Rattle.std.proofs.lemmas.List.Elements.{filter-append}
use Rattle.page_types.specs.Items as lists
use Rattle.page_types.specs.Views.{list_in}
use Rattle.page_types.specs.declared.page.Entry.{Entry}
use Rattle.page_types.specs.declared.page.Postings.{Postings}
use Rattle.page_types.specs.declared.page.Postings.TheVariants.{Root}
use Rattle.core_state.proofs.Law.TreeViews.{no_items}
use Rattle.gin_opclass.specs.Class.{Asked}
use Rattle.core_moments.specs.Judging.{fits_asked}
use Rattle.core_moments.specs.OpenWalk.{NamedTree, tree_of}
use Rattle.gin_hits.specs.Entries.{listed, entries_with, items_under, AreNotedUnder}
use Rattle.gin_hits.specs.Trees.{named_tree, trees_under}
use Rattle.gin_hits.specs.declared.hits.Hits.{Hits}
use Rattle.gin_hits.proofs.FittingEntries.{range_none}

-- an entry that names a tree has no items itself
none_listed : (e : Entry) (r : ℕ) → e.postings ≡ Root r → items_under (e ∷ []) ≡ []
none_listed e r is =
    append-nil (listed e) ∙ ap (λ (p : Postings). lists.items_of (list_in p)) is ∙ no_items

none_for : (a : Asked) (e : Entry) (r : ℕ) → e.postings ≡ Root r
    → items_under (entries_with (fits_asked a) (e ∷ [])) ≡ []
none_for a e r is = by (fits_asked a e.key) refl
  where
    by : (b : Bool) → fits_asked a e.key ≡ b → items_under (entries_with (fits_asked a) (e ∷ [])) ≡ []
    by true f = ap (λ (b : Bool). items_under (cond b (e ∷ []) [])) f ∙ none_listed e r is
    by false f = ap (λ (b : Bool). items_under (cond b (e ∷ []) [])) f

same_for : (a : Asked) (es : List Entry) (e : Entry) (r : ℕ) → e.postings ≡ Root r
    → items_under (entries_with (fits_asked a) es) ≡ items_under (entries_with (fits_asked a) (es ++ e ∷ []))
same_for a es e r is =
    sym (append-nil (items_under (entries_with (fits_asked a) es)))
    ∙ ap (λ (xs : List ℕ). items_under (entries_with (fits_asked a) es) ++ xs) (sym (none_for a e r is))
    ∙ sym (flat_map-append listed (entries_with (fits_asked a) es) (entries_with (fits_asked a) (e ∷ [])))
    ∙ ap items_under (sym (filter-append (λ (d : Entry). fits_asked a d.key) es (e ∷ [])))

map_same : (f g : Asked → List ℕ) (as' : List Asked) → ((a : Asked) → f a ≡ g a) → map f as' ≡ map g as'
map_same f g [] e = refl
map_same f g (a ∷ as') e = ap₂ (λ (x : List ℕ) (xs : List (List ℕ)). x ∷ xs) (e a) (map_same f g as' e)

-- so it is noted where nothing is added
pub noted_tree : (asked : List Asked) (es : List Entry) (e : Entry) (r : ℕ) (h : Hits) → e.postings ≡ Root r
    → AreNotedUnder asked es h → AreNotedUnder asked (es ++ e ∷ []) h
noted_tree asked es e r h is noted = record {
  any = noted.any ∙ sym (append-nil (items_under es))
      ∙ ap (λ (xs : List ℕ). items_under es ++ xs) (sym (none_listed e r is))
      ∙ sym (flat_map-append listed es (e ∷ []));
  by_key = noted.by_key ∙ map_same (λ (a : Asked). items_under (entries_with (fits_asked a) es))
      (λ (a : Asked). items_under (entries_with (fits_asked a) (es ++ e ∷ []))) asked (λ a. same_for a es e r is);
}

-- the trees of entries from one on
pub trees_more : (es more : List Entry) → trees_under (es ++ more) ≡ trees_under es ++ trees_under more
trees_more es more = flat_map-append (λ (e : Entry). tree_of true e.key e.postings []) es more

pub one_tree : (e : Entry) (r : ℕ) → e.postings ≡ Root r → trees_under (e ∷ []) ≡ named_tree e.key r ∷ []
one_tree e r is = ap (λ (p : Postings). tree_of true e.key p [] ++ []) is

pub named_none : (old : List NamedTree) (es : List Entry) (from : ℕ)
    → old ≡ old ++ trees_under (slice_range es from from)
named_none old es from =
    sym (append-nil old) ∙ ap (λ (ds : List Entry). old ++ trees_under ds) (sym (range_none es from))

pub named_next : (old new mid : List NamedTree) (es : List Entry) (e : Entry) (from k : ℕ)
    → mid ≡ old ++ trees_under (slice_range es from k) → new ≡ mid ++ trees_under (e ∷ [])
    → slice_range es from k ++ e ∷ [] ≡ slice_range es from (k + 1)
    → new ≡ old ++ trees_under (slice_range es from (k + 1))
named_next old new mid es e from k before one more =
    one ∙ ap (λ (ts : List NamedTree). ts ++ trees_under (e ∷ [])) before
    ∙ append_assoc old (trees_under (slice_range es from k)) (trees_under (e ∷ []))
    ∙ ap (λ (ts : List NamedTree). old ++ ts) (sym (trees_more (slice_range es from k) (e ∷ []))
    ∙ ap trees_under more)

pub named_all : (old new : List NamedTree) (es found : List Entry) (from k end : ℕ) → k ≡ end
    → slice_range es from end ≡ found → new ≡ old ++ trees_under (slice_range es from k)
    → new ≡ old ++ trees_under found
named_all old new es found from k end last all named =
    named ∙ ap (λ (ds : List Entry). old ++ trees_under ds) (ap (λ (n : ℕ). slice_range es from n) last ∙ all)
