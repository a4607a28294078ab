-- What records ask of the pages that are made here.
use Rattle.std.proofs.Common.{◌≡◌, ℕ, List, [], ◌∷◌, ◌++◌, refl, sym, ap, subst, ◌∙◌, inl, inr}
use Rattle.std.specs.List.{flat_map}
use Rattle.std.proofs.lemmas.List.{append-nil}
use Rattle.std.proofs.lemmas.List.Concat.{flat_map-append}
use Rattle.page_types.specs.Keys.{KeyLess, Rising}
use Rattle.page_types.specs.Views.{rows_of, rows_in}
use Rattle.page_types.specs.declared.page.Page.{Page}
use Rattle.page_types.specs.declared.page.Row.{Row}
use Rattle.page_types.specs.declared.page.Body.{Body}
use Rattle.page_types.specs.declared.page.Body.TheVariants as body
use Rattle.core_state.specs.Log.{In}
use Rattle.core_state.specs.Index.{keys_on, InRows}
use Rattle.core_state.specs.Changes.{made_with}
use Rattle.pending_list.specs.Packing.{row_of, page_of_row, ArePacked}
use Rattle.pending_list.specs.Logging.{AddedRowIsLogged, PackedPageIsLogged, PackedRowsHaveAll, PackedPagesFollow}
use Rattle.pending_list.proofs.RowLists.{rising_front, rising_back, in_front, in_back, in_either}

pub added_logged : AddedRowIsLogged
added_logged k r d p old keys is kind_is pages runs = record {
  doc = d;
  last = p;
  rows = is.0;
  row = row_of d.item keys;
  old = old;
  kind_is = kind_is;
  pages = pages;
  runs = runs;
  item = refl;
  before_is = refl;
  was = is.1;
  after_is = ap (λ (b : Body). made_with r old.right (body.Pending (rows_in b ++ row_of d.item keys ∷ [])) ∷ []) is.1;
}

-- a page of a packing is one of the item's, with keys that rise
abbrev IsOneOf : ℕ → Page → Type 0
IsOneOf item page = (keys : List (List ℕ)) × (page ≡ page_of_row item keys) × Rising KeyLess keys

one_of : (item : ℕ) (keys : List (List ℕ)) (pages : List Page) (page : Page) → ArePacked item keys pages
    → Rising KeyLess keys → In page pages → IsOneOf item page
one_of item _ _ page (ArePacked.last keys fits) rising (inl e) = (keys, e, rising)
one_of item _ _ page (ArePacked.last keys fits) rising (inr h) = absurd h
one_of item _ _ page (ArePacked.more front key back pages some fits over rest) rising (inl e) =
    (front, e, rising_front KeyLess front (key ∷ back) rising)
one_of item _ _ page (ArePacked.more front key back pages some fits over rest) rising (inr h) =
    one_of item (key ∷ back) pages page rest (rising_back KeyLess front (key ∷ back) rising) h

alone : (item : ℕ) (keys : List (List ℕ)) (w : Row) → In w (row_of item keys ∷ []) → w.item ≡ item
alone item keys w (inl e) = ap (λ (x : Row). x.item) e
alone item keys w (inr h) = absurd h

pub packed_logged : PackedPageIsLogged
packed_logged k r since d h new old was heap_then page keys pages packed are on kind_is changed_is own is_new
    head_after =
    let one = one_of d.item keys pages page packed are.rising on in
    record {
      doc = d;
      head = h;
      new = new;
      rows = row_of d.item one.0 ∷ [];
      old = old;
      was = was;
      heap_then = heap_then;
      kind_is = kind_is;
      pages = changed_is;
      own = own;
      is_new = is_new;
      some_row = λ e. absurd cc;
      items = alone d.item one.0;
      rising = subst (Rising KeyLess) (sym (append-nil one.0)) one.2;
      before_is = refl;
      head_after = head_after;
      after_is = ap (λ (p : Page). heap_then ∷ made_with r h.private p.body ∷ []) one.1;
    }

keys_told : (item : ℕ) (keys : List (List ℕ)) (pages : List Page) → ArePacked item keys pages
    → keys_on (flat_map rows_of pages) ≡ keys
keys_told item _ _ (ArePacked.last keys fits) = append-nil keys
keys_told item _ _ (ArePacked.more front key back pages some fits over rest) =
    ap (λ (ks : List (List ℕ)). front ++ ks) (keys_told item (key ∷ back) pages rest)

later : (rows : List Row) (r : Row) (k : List ℕ) (i : ℕ) → InRows rows k i → InRows (r ∷ rows) k i
later rows r k i w = (w.0, inr w.1, w.2, w.3)

each_told : (item : ℕ) (keys : List (List ℕ)) (pages : List Page) → ArePacked item keys pages
    → (k : List ℕ) → In k keys → InRows (flat_map rows_of pages) k item
each_told item _ _ (ArePacked.last keys fits) k on = (row_of item keys, inl refl, refl, on)
each_told item _ _ (ArePacked.more front key back pages some fits over rest) k on =
    elim (in_either k front (key ∷ back) on) [
      | inl f ↦ (row_of item front, inl refl, refl, f)
      | inr b ↦ later (flat_map rows_of pages) (row_of item front) k item (each_told item (key ∷ back) pages rest k b)
    ]

pub have_all : PackedRowsHaveAll
have_all item keys pages packed =
    record { keys_are = keys_told item keys pages packed; each = each_told item keys pages packed }

pub pages_follow : PackedPagesFollow
pages_follow item keys front page back packed are =
    let parts : keys_on (flat_map rows_of front) ++ keys_on (flat_map rows_of (page ∷ back)) ≡ keys =
    sym (flat_map-append (λ (w : Row). w.keys) (flat_map rows_of front) (flat_map rows_of (page ∷ back)))
    ∙ ap keys_on (sym (flat_map-append rows_of front (page ∷ back)))
    ∙ keys_told item keys (front ++ page ∷ back) packed in
    let here : keys_on (flat_map rows_of (page ∷ back)) ≡ keys_on (rows_of page) ++ keys_on (flat_map rows_of back) =
    flat_map-append (λ (w : Row). w.keys) (rows_of page) (flat_map rows_of back) in
    record {
      of_document = λ k on.
          subst (In k) parts (in_back k (keys_on (flat_map rows_of front)) (keys_on (flat_map rows_of (page ∷ back)))
          (subst (In k) (sym here) (in_front k (keys_on (rows_of page)) (keys_on (flat_map rows_of back)) on)));
      rising = rising_back KeyLess (keys_on (flat_map rows_of front)) (keys_on (flat_map rows_of (page ∷ back)))
          (subst (Rising KeyLess) (sym parts) are.rising);
    }
