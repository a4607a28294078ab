-- What an entry adds to the items that are noted.
use Rattle.std.proofs.Common.{◌≡◌, ℕ, ◌+◌, ◌-◌, ◌≤◌, Bool, true, false, cond, List, [], ◌∷◌, ◌++◌, length, map, refl}
use Rattle.std.proofs.Common.{take, drop, arith, length-append}
use Rattle.std.proofs.Common.{sym, ap, ap₂, subst, ◌∙◌, Some, append_assoc, slice_get, slice_range}
use Rattle.std.proofs.Math.Seq.{drop-append_seam}
use Rattle.std.specs.Prelude.{Vec}
use Rattle.std.specs.declared.alloc.Global.{Global}
use Rattle.std.proofs.lemmas.List.{append-nil, take_all}
use Rattle.std.proofs.lemmas.Grind.{flat_map-append}
use Rattle.std.proofs.lemmas.List.Elements.{filter-append}
use Rattle.ts_base.specs.Keys.{Key}
use Rattle.page_types.specs.Items as lists
use Rattle.page_types.specs.Views.{list_in}
use Rattle.page_types.specs.declared.page.Entry.{Entry}
use Rattle.page_types.specs.declared.page.Postings.{Postings}
use Rattle.page_types.specs.declared.page.Postings.TheVariants.{Inline}
use Rattle.gin_opclass.specs.Class.{Asked}
use Rattle.core_moments.specs.Judging.{fits_asked}
use Rattle.gin_hits.specs.Rows.{asked_by, asked_for, lists_of}
use Rattle.gin_hits.specs.Entries.{listed, entries_with, items_under, AreNotedUnder}
use Rattle.gin_hits.specs.declared.hits.Hits.{Hits}
use Rattle.gin_hits.proofs.AddedLists.{added, all_added}
use Rattle.gin_hits.proofs.FittingEntries.{range_more, range_none}

-- ── entries more ──

pub under_more : (es more : List Entry) → items_under (es ++ more) ≡ items_under es ++ items_under more
under_more es more = flat_map-append listed es more

pub with_more : (test : Key → Bool) (es more : List Entry)
    → entries_with test (es ++ more) ≡ entries_with test es ++ entries_with test more
with_more test es more = filter-append (λ (e : Entry). test e.key) es more

-- what an entry adds for a key that is asked
abbrev pub adds_for : Entry → Asked → List ℕ
adds_for e a = items_under (entries_with (fits_asked a) (e ∷ []))

fitting_more : (es more : List Entry) (a : Asked)
    → items_under (entries_with (fits_asked a) es) ++ items_under (entries_with (fits_asked a) more)
    ≡ items_under (entries_with (fits_asked a) (es ++ more))
fitting_more es more a =
    sym (under_more (entries_with (fits_asked a) es) (entries_with (fits_asked a) more))
    ∙ ap items_under (sym (with_more (fits_asked a) es more))

map_same : (f g : Asked → List ℕ) (as' : List Asked) → ((a : Asked) → f a ≡ g a) → map f as' ≡ map g as'
map_same f g [] e = refl
map_same f g (a ∷ as') e = ap₂ (λ (x : List ℕ) (xs : List (List ℕ)). x ∷ xs) (e a) (map_same f g as' e)

-- ── one entry ──

one_listed : (e : Entry) (bytes : List ℕ) → e.postings ≡ Inline bytes → items_under (e ∷ []) ≡ lists.items_of bytes
one_listed e bytes g =
    append-nil (listed e) ∙ ap (λ (q : Postings). lists.items_of (list_in q)) g

module _ (e : Entry) (bytes : List ℕ) (g : e.postings ≡ Inline bytes) (a : Asked) where
  pub adds_fitting : fits_asked a e.key ≡ true → adds_for e a ≡ lists.items_of bytes
  adds_fitting f =
      ap (λ (b : Bool). items_under (cond b (e ∷ []) [])) f ∙ one_listed e bytes g

  pub adds_none : fits_asked a e.key ≡ false → adds_for e a ≡ []
  adds_none f = ap (λ (b : Bool). items_under (cond b (e ∷ []) [])) f

-- the test of a key that is asked, as it lies in its vector
pub fits_told : (key : Key) (a : Vec ℕ Global × Bool) (r : Bool) (bytes : List ℕ) → bytes ≡ a.0.items
    → r ≡ fits_asked (asked_for bytes a.1) key → fits_asked (asked_by a) key ≡ r
fits_told key a r bytes same told = sym (told ∙ ap (λ (x : List ℕ). fits_asked (asked_for x a.1) key) same)

-- what was added to a list comes after what it had
pub last_part : (all old is : List ℕ) (from : ℕ) → all ≡ old ++ is → from ≡ length old
    → take (length all - from) (drop from all) ≡ is
last_part all old is from e f =
    ap (λ (xs : List ℕ). take (length all - from) xs)
    (ap₂ (λ (n : ℕ) (xs : List ℕ). drop n xs) f e ∙ drop-append_seam old is)
    ∙ take_all (length all - from) is (omega (arith, length-append old is, ap length e, f))

-- an entry more is noted
pub noted_entry : (asked : List Asked) (es : List Entry) (e : Entry) (bytes : List ℕ) (old new : Hits)
    → e.postings ≡ Inline bytes → new.any.items ≡ old.any.items ++ lists.items_of bytes
    → lists_of new ≡ added (adds_for e) asked (lists_of old)
    → AreNotedUnder asked es old → AreNotedUnder asked (es ++ e ∷ []) new
noted_entry asked es e bytes old new g any by_key noted = record {
  any = any ∙ ap₂ (λ (xs ys : List ℕ). xs ++ ys) noted.any (sym (one_listed e bytes g)) ∙ sym (under_more es (e ∷ []));
  by_key = by_key ∙ ap (added (adds_for e) asked) noted.by_key
      ∙ all_added (adds_for e) (λ (a : Asked). items_under (entries_with (fits_asked a) es)) asked
      ∙ map_same (λ (a : Asked). items_under (entries_with (fits_asked a) es) ++ adds_for e a)
      (λ (a : Asked). items_under (entries_with (fits_asked a) (es ++ e ∷ []))) asked (fitting_more es (e ∷ []));
}

-- none of the entries of a leaf yet
pub noted_none : (asked : List Asked) (before es : List Entry) (from : ℕ) (h : Hits) → AreNotedUnder asked before h
    → AreNotedUnder asked (before ++ slice_range es from from) h
noted_none asked before es from h noted =
    subst (λ (ds : List Entry). AreNotedUnder asked ds h)
    (sym (append-nil before) ∙ ap (λ (ds : List Entry). before ++ ds) (sym (range_none es from))) noted

-- so of the entries of a leaf from one on
pub noted_next : (asked : List Asked) (before es : List Entry) (e : Entry) (from k : ℕ) (new : Hits) → from ≤ k
    → slice_get es k ≡ Some e → AreNotedUnder asked ((before ++ slice_range es from k) ++ e ∷ []) new
    → AreNotedUnder asked (before ++ slice_range es from (k + 1)) new
noted_next asked before es e from k new le at noted =
    subst (λ (ds : List Entry). AreNotedUnder asked ds new)
    (append_assoc before (slice_range es from k) (e ∷ [])
    ∙ ap (λ (ds : List Entry). before ++ ds) (sym (range_more es from k e le at)))
    noted

-- and of all that were sought
pub noted_all : (asked : List Asked) (before es found : List Entry) (from k end : ℕ) (h : Hits) → k ≡ end
    → slice_range es from end ≡ found → AreNotedUnder asked (before ++ slice_range es from k) h
    → AreNotedUnder asked (before ++ found) h
noted_all asked before es found from k end h last all noted =
    subst (λ (ds : List Entry). AreNotedUnder asked (before ++ ds) h)
    (ap (λ (n : ℕ). slice_range es from n) last ∙ all) noted
