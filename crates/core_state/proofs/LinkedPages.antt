-- What a record leaves of the pages of the pending list, in parts.
use Rattle.std.proofs.Common.{◌≡◌, ◌≢◌, ◌+◌, ◌-◌, ◌<◌, ℕ, List, [], ◌∷◌, ◌++◌, length, get_or, refl, sym, ap}
use Rattle.std.proofs.Common.{subst, subst₂, ◌∙◌, arith, length-append, append-nil}
use Rattle.std.specs.Prelude.{Some}
use Rattle.std.specs.List.{slice_get}
use Rattle.page_types.specs.declared.page.Page.{Page}
use Rattle.page_types.specs.declared.page.Row.{Row}
use Rattle.page_types.specs.declared.page.Body.{Body}
use Rattle.page_types.specs.declared.page.Body.TheVariants as body
use Rattle.page_types.specs.declared.record.Record.{Record}
use Rattle.core_state.specs.Log.{changed}
use Rattle.core_state.specs.Changes.{made_with}
use Rattle.core_state.specs.PendingRules.{IsLinkHere}
use Rattle.core_state.specs.Inner.PendingRows.{BeginWith, AddsRow, MetaGrows, LeadsOn, LinksList}

abbrev page_with : ℕ → ℕ → Body → Page
page_with right stamp content = record { right = right; stamp = stamp; body = content }

-- a page by its parts
pub left_as : (r : Record) (new : Page) (right : ℕ) (b : Body) → new.right ≡ right → new.stamp ≡ r.number
    → new.body ≡ b → new ≡ made_with r right b
left_as r new right b to stamp is =
    ap (page_with new.right new.stamp) is ∙ ap (λ (z : ℕ). page_with z new.stamp b) to
    ∙ ap (λ (z : ℕ). page_with right z b) stamp

pub same_pending : (xs ys : List Row) (b : Body) → b ≡ body.Pending xs → b ≡ body.Pending ys → xs ≡ ys
same_pending xs ys b e f = let both : body.Pending xs ≡ body.Pending ys = sym e ∙ f in cc

-- what is behind rows that others begin with
pub begin_size : (rows front back : List Row) → rows ≡ front ++ back → length rows ≡ length front → rows ≡ front
begin_size rows front [] e n = e ∙ append-nil front
begin_size rows front (w ∷ back) e n =
    absurd (omega (arith, n, ap length e, length-append front (w ∷ back)))

behind : (front : List Row) (w : Row) (back : List Row) → slice_get (front ++ w ∷ back) (length front) ≡ Some w
behind [] w back = refl
behind (x ∷ front) w back = behind front w back

begin_one : (rows front back : List Row) (row : Row) → rows ≡ front ++ back → length rows ≡ length front + 1
    → slice_get rows (length front) ≡ Some row → rows ≡ front ++ row ∷ []
begin_one rows front [] row e n at =
    absurd (omega (arith, n, ap length e, length-append front []))
begin_one rows front (w ∷ []) row e n at =
    let there : Some w ≡ Some row =
    sym (behind front w []) ∙ ap (λ (ws : List Row). slice_get ws (length front)) (sym e) ∙ at in
    let same : w ≡ row = cc in
    e ∙ ap (λ (z : Row). front ++ z ∷ []) same
begin_one rows front (w ∷ v ∷ back) row e n at =
    absurd (omega (arith, n, ap length e, length-append front (w ∷ v ∷ back)))

-- a page of rows with one more
pub added_told : (r : Record) (item : ℕ) (old new : Page) (rows new_rows : List Row) (row : Row)
    → old.body ≡ body.Pending rows → new.body ≡ body.Pending new_rows → new.right ≡ old.right → new.stamp ≡ r.number
    → row.item ≡ item → length new_rows ≡ length rows + 1 → slice_get new_rows (length rows) ≡ Some row
    → BeginWith new_rows rows → AddsRow r item old new
added_told r item old new rows new_rows row was is right stamp own n at w = record {
  rows = rows;
  row = row;
  item_is = own;
  was = was;
  after = left_as r new old.right _ right stamp (is ∙ ap body.Pending (begin_one new_rows rows w.0 row w.1 n at));
}

-- and back, of the rows that are found
pub record RowAdded (r : Record) (item : ℕ) (old new : Page) (rows new_rows : List Row) : Type 0 where
  pub row : Row
  pub right : new.right ≡ old.right
  pub stamp : new.stamp ≡ r.number
  pub own : row.item ≡ item
  pub rows_are : new_rows ≡ rows ++ row ∷ []

pub added_back : (r : Record) (item : ℕ) (old new : Page) (rows new_rows : List Row)
    → old.body ≡ body.Pending rows → new.body ≡ body.Pending new_rows → AddsRow r item old new
    → RowAdded r item old new rows new_rows
added_back r item old new rows new_rows was is a = record {
  row = a.row;
  right = ap (λ (p : Page). p.right) a.after;
  stamp = ap (λ (p : Page). p.stamp) a.after;
  own = a.item_is;
  rows_are = same_pending new_rows (a.rows ++ a.row ∷ []) new.body is (ap (λ (p : Page). p.body) a.after)
      ∙ ap (λ (ws : List Row). ws ++ a.row ∷ []) (same_pending a.rows rows old.body a.was was);
}

pub added_size : (rows : List Row) (row : Row) → length (rows ++ row ∷ []) ≡ length rows + 1
added_size rows row = omega (arith, length-append rows (row ∷ []))

pub added_at : (rows : List Row) (row : Row) → slice_get (rows ++ row ∷ []) (length rows) ≡ Some row
added_at rows row = behind rows row []

-- a pending page in front of others
pub leads_told : (r : Record) (to : ℕ) (old new : Page) (rows new_rows : List Row) → old.body ≡ body.Pending rows
    → new.body ≡ body.Pending new_rows → new.right ≡ to → new.stamp ≡ r.number → length new_rows ≡ length rows
    → BeginWith new_rows rows → LeadsOn r to old new
leads_told r to old new rows new_rows was is right stamp n w = record {
  rows = rows;
  was = was;
  after = left_as r new to _ right stamp (is ∙ ap body.Pending (begin_size new_rows rows w.0 w.1 n));
}

pub leads_rows : (r : Record) (to : ℕ) (old new : Page) (rows new_rows : List Row) → old.body ≡ body.Pending rows
    → new.body ≡ body.Pending new_rows → LeadsOn r to old new → new_rows ≡ rows
leads_rows r to old new rows new_rows was is l =
    same_pending new_rows l.rows new.body is (ap (λ (p : Page). p.body) l.after)
    ∙ same_pending l.rows rows old.body l.was was

pub begin_all : (rows front : List Row) → rows ≡ front → BeginWith rows front
begin_all rows front e = ([], e ∙ sym (append-nil front))

-- a metapage with more pages
pub meta_told : (r : Record) (first : ℕ) (old new : Page) (named last count first' end count' : ℕ)
    → old.body ≡ body.Meta named last count → new.body ≡ body.Meta first' end count' → new.right ≡ old.right
    → new.stamp ≡ r.number → first' ≡ first → count < count' → MetaGrows r first old new
meta_told r first old new named last count first' end count' was is right stamp same more = record {
  named = named;
  last = last;
  count = count;
  end = end;
  added = count' - count;
  was = was;
  some_added = λ e. omega (arith, e, more);
  after = left_as r new old.right _ right stamp (is ∙ ap (λ (z : ℕ). body.Meta z end count') same
      ∙ ap (body.Meta first end) (sum count count' more));
}
  where
    sum : (a b : ℕ) → a < b → b ≡ a + (b - a)
    sum a b lt = omega (arith, lt)

pub record MetaGrown (r : Record) (first : ℕ) (old new : Page) (count first' count' : ℕ) : Type 0 where
  pub right : new.right ≡ old.right
  pub stamp : new.stamp ≡ r.number
  pub same : first' ≡ first
  pub more : count < count'

pub same_meta : (a b c d e f : ℕ) (m : Body) → m ≡ body.Meta a b c → m ≡ body.Meta d e f
    → (a ≡ d) × (b ≡ e) × (c ≡ f)
same_meta a b c d e f m i j = let both : body.Meta a b c ≡ body.Meta d e f = sym i ∙ j in (cc, cc, cc)

pub meta_back : (r : Record) (first : ℕ) (old new : Page) (named last count first' end count' : ℕ)
    → old.body ≡ body.Meta named last count → new.body ≡ body.Meta first' end count' → MetaGrows r first old new
    → MetaGrown r first old new count first' count'
meta_back r first old new named last count first' end count' was is m =
    let before = same_meta named last count m.named m.last m.count old.body was m.was in
    let after = same_meta first' end count' first m.end (m.count + m.added) new.body is
    (ap (λ (p : Page). p.body) m.after) in
    record {
      right = ap (λ (p : Page). p.right) m.after;
      stamp = ap (λ (p : Page). p.stamp) m.after;
      same = after.0;
      more = grows count m.count count' m.added before.2 after.2 m.some_added;
    }
  where
    grows : (a b c d : ℕ) → a ≡ b → c ≡ b + d → d ≢ 0 → a < c
    grows a b c d e f off = grind (arith, e, f, off)

-- pages behind a list: the others that change, by what a link says of them
module _ (r : Record) (to end added : ℕ) (off : added ≢ 0) where
  -- where the metapage named none
  pub record NoneNamed (others : List ℕ) (meta meta_then : Page) : Type 0 where
    pub pages : others ≡ 0 ∷ []
    pub count : ℕ
    pub named : meta.body ≡ body.Meta 0 0 count
    pub grows : MetaGrows r to meta meta_then

  pub none_named : (others : List ℕ) (before after : List Page) → IsLinkHere r to end added others before after
      → (meta meta_then : Page) → before ≡ meta ∷ [] → after ≡ meta_then ∷ [] → NoneNamed others meta meta_then
  none_named _ _ _ (IsLinkHere.empty m count is) meta meta_then e f =
      let same : m ≡ meta = cc in
      let now : made_with r m.right (body.Meta to end (count + added)) ≡ meta_then = cc in
      let was : meta.body ≡ body.Meta 0 0 count = subst (λ (p : Page). p.body ≡ body.Meta 0 0 count) same is in
      record {
        pages = refl;
        count = count;
        named = was;
        grows = record {
          named = 0;
          last = 0;
          count = count;
          end = end;
          added = added;
          was = was;
          some_added = off;
          after = sym now ∙ ap (λ (p : Page). made_with r p.right (body.Meta to end (count + added))) same;
        };
      }
  none_named _ _ _ (IsLinkHere.behind m page first last count rows is some rows_is) meta meta_then e f =
      absurd (cc)

  -- where it named a last page
  pub record LastNamed (others : List ℕ) (meta page meta_then page_then : Page) : Type 0 where
    pub first : ℕ
    pub last : ℕ
    pub count : ℕ
    pub pages : others ≡ 0 ∷ last ∷ []
    pub named : meta.body ≡ body.Meta first last count
    pub some_first : first ≢ 0
    pub grows : MetaGrows r first meta meta_then
    pub leads : LeadsOn r to page page_then

  pub last_named : (others : List ℕ) (before after : List Page) → IsLinkHere r to end added others before after
      → (meta page meta_then page_then : Page) → before ≡ meta ∷ page ∷ [] → after ≡ meta_then ∷ page_then ∷ []
      → LastNamed others meta page meta_then page_then
  last_named _ _ _ (IsLinkHere.empty m count is) meta page meta_then page_then e f = absurd (cc)
  last_named _ _ _ (IsLinkHere.behind m p first last count rows is some rows_is) meta page meta_then page_then e f =
      let same : m ≡ meta = cc in
      let same_page : p ≡ page = cc in
      let now : made_with r m.right (body.Meta first end (count + added)) ≡ meta_then = cc in
      let now_page : made_with r to (body.Pending rows) ≡ page_then = cc in
      let was : meta.body ≡ body.Meta first last count =
      subst (λ (x : Page). x.body ≡ body.Meta first last count) same is in
      record {
        first = first;
        last = last;
        count = count;
        pages = refl;
        named = was;
        some_first = some;
        grows = record {
          named = first;
          last = last;
          count = count;
          end = end;
          added = added;
          was = was;
          some_added = off;
          after = sym now ∙ ap (λ (x : Page). made_with r x.right (body.Meta first end (count + added))) same;
        };
        leads = record {
          rows = rows;
          was = subst (λ (x : Page). x.body ≡ body.Pending rows) same_page rows_is;
          after = sym now_page;
        };
      }

-- lists of two and of three, by all but the first
pub two_behind : (xs : List Page) (y : Page) → length xs ≡ 2 → y ≡ get_or xs 1 y → xs ≡ get_or xs 0 y ∷ y ∷ []
two_behind [] y n f = absurd (omega (arith, n))
two_behind (a ∷ []) y n f = absurd (omega (arith, n))
two_behind (a ∷ b ∷ []) y n f = ap (λ (w : Page). a ∷ w ∷ []) (sym f)
two_behind (a ∷ b ∷ c ∷ xs) y n f = absurd (omega (arith, n))

pub three_behind : (xs : List Page) (y z : Page) → length xs ≡ 3 → y ≡ get_or xs 1 y → z ≡ get_or xs 2 z
    → xs ≡ get_or xs 0 y ∷ y ∷ z ∷ []
three_behind [] y z n f g = absurd (omega (arith, n))
three_behind (a ∷ []) y z n f g = absurd (omega (arith, n))
three_behind (a ∷ b ∷ []) y z n f g = absurd (omega (arith, n))
three_behind (a ∷ b ∷ c ∷ []) y z n f g =
    ap (λ (w : Page). a ∷ w ∷ c ∷ []) (sym f) ∙ ap (λ (w : Page). a ∷ y ∷ w ∷ []) (sym g)
three_behind (a ∷ b ∷ c ∷ d ∷ xs) y z n f g = absurd (omega (arith, n))

module _ (r : Record) (heap to : ℕ) (before after : List Page) where
  -- the list's pages before and after a link
  pub none_told : (old meta heap_then meta_then : Page) (first last count : ℕ) → before ≡ old ∷ meta ∷ []
      → after ≡ heap_then ∷ meta_then ∷ [] → meta.body ≡ body.Meta first last count → first ≡ 0 → last ≡ 0
      → changed r ≡ heap ∷ 0 ∷ [] → MetaGrows r to meta meta_then → LinksList r heap to before after
  none_told old meta heap_then meta_then first last count e f is none none' pages m =
      let count_is = same_meta m.named m.last m.count first last count meta.body m.was is in
      let named : meta.body ≡ body.Meta 0 0 m.count =
      m.was ∙ ap (λ (z : ℕ). body.Meta z m.last m.count) (count_is.0 ∙ none)
      ∙ ap (λ (z : ℕ). body.Meta 0 z m.count) (count_is.1 ∙ none') in
      record {
        end = m.end;
        added = m.added;
        old = old;
        heap_then = heap_then;
        others = 0 ∷ [];
        others_before = meta ∷ [];
        others_after = meta_then ∷ [];
        pages = pages;
        some_added = m.some_added;
        linked = subst (λ (x : Page). IsLinkHere r to m.end m.added (0 ∷ []) (meta ∷ []) (x ∷ [])) (sym m.after)
            (IsLinkHere.empty meta m.count named);
        before_is = e;
        after_is = f;
      }

  pub last_told : (old meta page heap_then meta_then page_then : Page) (first last count : ℕ)
      → before ≡ old ∷ meta ∷ page ∷ [] → after ≡ heap_then ∷ meta_then ∷ page_then ∷ []
      → meta.body ≡ body.Meta first last count → first ≢ 0 → changed r ≡ heap ∷ 0 ∷ last ∷ []
      → MetaGrows r first meta meta_then → LeadsOn r to page page_then → LinksList r heap to before after
  last_told old meta page heap_then meta_then page_then first last count e f is some pages m l =
      let count_is = same_meta m.named m.last m.count first last count meta.body m.was is in
      let named : meta.body ≡ body.Meta first last m.count =
      m.was ∙ ap (λ (z : ℕ). body.Meta z m.last m.count) count_is.0
      ∙ ap (λ (z : ℕ). body.Meta first z m.count) count_is.1 in
      record {
        end = m.end;
        added = m.added;
        old = old;
        heap_then = heap_then;
        others = 0 ∷ last ∷ [];
        others_before = meta ∷ page ∷ [];
        others_after = meta_then ∷ page_then ∷ [];
        pages = pages;
        some_added = m.some_added;
        linked = subst₂ (λ (x y : Page). IsLinkHere r to m.end m.added (0 ∷ last ∷ []) (meta ∷ page ∷ [])
            (x ∷ y ∷ [])) (sym m.after) (sym l.after) (IsLinkHere.behind meta page first last m.count l.rows named some
            l.was);
        before_is = e;
        after_is = f;
      }

  tail_is : (x y : Page) (xs ys zs : List Page) → zs ≡ x ∷ xs → zs ≡ y ∷ ys → xs ≡ ys
  tail_is x y xs ys zs e f = let both : x ∷ xs ≡ y ∷ ys = sym e ∙ f in cc

  pub none_back : (w : LinksList r heap to before after) (old meta heap_then meta_then : Page)
      → before ≡ old ∷ meta ∷ [] → after ≡ heap_then ∷ meta_then ∷ []
      → NoneNamed r to w.end w.added w.some_added w.others meta meta_then
  none_back w old meta heap_then meta_then e f =
      none_named r to w.end w.added w.some_added w.others w.others_before w.others_after w.linked meta meta_then
      (tail_is w.old old w.others_before (meta ∷ []) before w.before_is e)
      (tail_is w.heap_then heap_then w.others_after (meta_then ∷ []) after w.after_is f)

  pub last_back : (w : LinksList r heap to before after) (old meta page heap_then meta_then page_then : Page)
      → before ≡ old ∷ meta ∷ page ∷ [] → after ≡ heap_then ∷ meta_then ∷ page_then ∷ []
      → LastNamed r to w.end w.added w.some_added w.others meta page meta_then page_then
  last_back w old meta page heap_then meta_then page_then e f =
      last_named r to w.end w.added w.some_added w.others w.others_before w.others_after w.linked meta page meta_then
      page_then (tail_is w.old old w.others_before (meta ∷ page ∷ []) before w.before_is e)
      (tail_is w.heap_then heap_then w.others_after (meta_then ∷ page_then ∷ []) after w.after_is f)
