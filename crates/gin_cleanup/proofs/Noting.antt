-- The rows of a page that was read are noted.
use Rattle.std.proofs.Common.{◌≡◌, ◌⊎◌, ◌++◌, ◌∷◌, ℕ, List, [], length, map, refl, sym, ap, subst, ◌∙◌, inl, inr}
use Rattle.std.specs.Prelude.{◌<◌, Vec}
use Rattle.std.specs.declared.alloc.Global.{Global}
use Rattle.std.specs.List.{AllByRecursion}
use Rattle.disk_trait.specs.declared.device.Disk.{Ghosts as Disk}
use Rattle.page_types.specs.Keys.{IsKey}
use Rattle.page_types.specs.Numbers.{item_limit}
use Rattle.page_types.specs.Pages.{IsRow}
use Rattle.page_types.specs.Views.{rows_in, rows_of, first_of}
use Rattle.page_types.specs.declared.page.Page.{Page}
use Rattle.page_types.specs.declared.page.Row.{Row}
use Rattle.page_types.specs.declared.page.Body.TheVariants as body
use Rattle.ts_base.specs.Keys.{Key}
use Rattle.core_state.specs.Log.{Pages, In}
use Rattle.core_state.specs.Index.{InRows, Pending}
use Rattle.core_state.proofs.Histories.{chain_one}
use Rattle.core_state.proofs.PageLists.{in_front, in_back, in_either}
use Rattle.core_state.proofs.Trees.Members.{in_middle}
use Rattle.buffer_frames.specs.Frames.{FramesValue}
use Rattle.buffer_frames.specs.Passes.{Seen}
use Rattle.buffer_frames.specs.declared.pass.Pass.{Pass}
use Rattle.gin_cleanup.specs.Cleaning.{waits_under, waits_in, waits_of, ArePairs, IsReadingAt, IsAt, AreGone, IsKeyAt}
use Rattle.gin_cleanup.specs.Cleaning.{AreLeft, IsCleaning}
use Rattle.gin_cleanup.specs.Gathered.{KeyItems, Has}
use Rattle.gin_cleanup.specs.Gathering.{Wait, wait}
use Rattle.gin_cleanup.specs.NextPage.{IsNext, items_on}
use Rattle.gin_cleanup.specs.Inner.Noting.{AreOfDocuments, HasTaken, HasKept}
use Rattle.gin_cleanup.specs.declared.cleanup.Cleanup.{Cleanup}
use Rattle.gin_cleanup.specs.declared.cleanup.Stage.{Stage}
use Rattle.gin_cleanup.specs.declared.cleanup.Stage.TheVariants as stage
use Rattle.gin_cleanup.proofs.Reading.{read_more}
use Rattle.gin_cleanup.proofs.NextPages.{next_is_there, next_follows}

-- ── the pairs that wait ──

pub under_has : (k : Key) (items : List ℕ) (x : Wait) → In x (waits_under k items) → (x.key ≡ k) × In x.item items
under_has k [] x i = absurd i
under_has k (j ∷ items) x (inl e) = (ap (λ (w : Wait). w.key) e, inl (ap (λ (w : Wait). w.item) e))
under_has k (j ∷ items) x (inr i) = let r = under_has k items x i in (r.0, inr r.1)

pub has_under : (k : Key) (items : List ℕ) (j : ℕ) → In j items → In (wait k j) (waits_under k items)
has_under k [] j i = absurd i
has_under k (n ∷ items) j (inl e) = inl (ap (wait k) e)
has_under k (n ∷ items) j (inr i) = inr (has_under k items j i)

pub waits_has : (es : KeyItems) (x : Wait) → In x (waits_in es) → Has es x.key x.item
waits_has [] x i = absurd i
waits_has (e ∷ es) x i = elim (in_either x (waits_under e.0 e.1) (waits_in es) i) [
  | inl j ↦ let u = under_has e.0 e.1 x j in (e, inl refl, sym u.0, u.1)
  | inr j ↦ let h = waits_has es x j in (h.0, inr h.1, h.2, h.3)
]

pub has_waits : (es : KeyItems) (k : Key) (j : ℕ) → Has es k j → In (wait k j) (waits_in es)
has_waits [] k j h = absurd h.1
has_waits (e ∷ es) k j h = elim h.1 [
  | inl same ↦ in_front (wait k j) (waits_under e.0 e.1) (waits_in es)
      (subst (λ (z : Key). In (wait z j) (waits_under e.0 e.1)) (ap (λ (y : Key × List ℕ). y.0) (sym same) ∙ h.2)
      (has_under e.0 e.1 j (subst (λ (y : Key × List ℕ). In j y.1) same h.3)))
  | inr i ↦ in_back (wait k j) (waits_under e.0 e.1) (waits_in es) (has_waits es k j (h.0, i, h.2, h.3))
]

-- while pages are read no key is at work
pub reading_has : (es : KeyItems) (page : ℕ) (b : Vec ℕ Global) (x : Wait) → In x (waits_of es (stage.Reading page b))
    → Has es x.key x.item
reading_has es page b x i = elim (in_either x (waits_in es) [] i) [ inl j ↦ waits_has es x j | inr j ↦ absurd j ]

pub has_reading : (es : KeyItems) (page : ℕ) (b : Vec ℕ Global) (k : Key) (j : ℕ) → Has es k j
    → In (wait k j) (waits_of es (stage.Reading page b))
has_reading es page b k j h = in_front (wait k j) (waits_in es) [] (has_waits es k j h)

-- more pairs may wait
pub more_waits : (P : Pages) (left : ℕ) (ns : List ℕ) (W V : List Wait) → ((x : Wait) → In x W → In x V)
    → (before : List ℕ) (page : ℕ) → IsReadingAt P left ns W before page → IsReadingAt P left ns V before page
more_waits P left ns W V to before page x = (
  record {
    line = x.0.line;
    is_line = x.0.is_line;
    enough = x.0.enough;
    whole = x.0.whole;
    counted = x.0.counted;
    pairs = λ w i k on. elim (x.0.pairs w i k on) [ inl m ↦ inl m | inr j ↦ inr (to (wait k w.item) j) ];
    past = x.0.past;
  },
  x.1,
)

-- ── rows of a page ──

each_in : (T : Row → Type 0) (ws : List Row) (w : Row) → AllByRecursion T ws → In w ws → T w
each_in T [] w all i = absurd i
each_in T (v ∷ ws) w all (inl e) = subst T (sym e) all.0
each_in T (v ∷ ws) w all (inr i) = each_in T ws w all.1 i

key_in : (ks : List Key) (k : Key) → AllByRecursion IsKey ks → In k ks → IsKey k
key_in [] k all i = absurd i
key_in (j ∷ ks) k all (inl e) = subst IsKey (sym e) all.0
key_in (j ∷ ks) k all (inr i) = key_in ks k all.1 i

module _ {D : Type 0} (device : Disk D) (f : FramesValue D) (p : Pass) (from : ℕ) (old : Cleanup) (page : ℕ)
    (b : Vec ℕ Global) (at : old.stage ≡ stage.Reading page b) (rows : List Row) (content : Page)
    (is : content.body ≡ body.Pending rows) (each : AllByRecursion IsRow rows) (above : AreOfDocuments rows)
    (some : length old.counts.items < old.left) (seen : Seen device f p (λ S P. P page ≡ content))
    (was : IsCleaning device f p from old) where
  abbrev old_waits : List Wait
  old_waits = waits_of old.gathered (stage.Reading page b)

  was_at : Seen device f p (λ S P. IsReadingAt P old.left old.counts.items old_waits b.items page)
  was_at = subst (λ (s : Stage). Seen device f p (λ S P. IsAt P old s)) at was.at

  rows_are : (P : Pages) → P page ≡ content → rows_of (P page) ≡ rows
  rows_are P same = ap rows_of same ∙ ap rows_in is

  -- pairs that waited, or are of one of the rows
  module _ (V : List Wait) (from_where : (x : Wait) → In x V → In x old_waits ⊎ InRows rows x.key x.item) where
    linked : (x : Wait) → In x V → Seen device f p (λ S P. Pending P x.key x.item)
    linked x i = elim (from_where x i) [
      | inl j ↦ was.linked x (subst (λ (s : Stage). In x (waits_of old.gathered s)) (sym at) j)
      | inr r ↦ λ told up R stands legal P shown.
          let y = was_at told up R stands legal P shown in
          let there = next_is_there P old.left old.counts.items y.0.line b.items page y.1 some in
          record {
            row = r.0;
            linked = record {
              line = y.0.line;
              is_line = y.0.is_line;
              page = page;
              on = subst (In page) (sym there.2) (in_middle there.0 page there.1);
              there = subst (In r.0) (sym (rows_are P (seen told up R stands legal P shown))) r.1;
            };
            item = r.2;
            key = r.3;
          }
    ]

    pairs : ArePairs V
    pairs x i = elim (from_where x i) [
      | inl j ↦ was.pairs x (subst (λ (s : Stage). In x (waits_of old.gathered s)) (sym at) j)
      | inr r ↦
          let row = each_in IsRow rows r.0 each r.1 in (
            key_in (r.0).keys x.key row.keys r.3,
            subst (λ (n : ℕ). 0 < n) r.2 (above r.0 r.1),
            subst (λ (n : ℕ). n < item_limit) r.2 row.item,
          )
    ]

  -- all rows are noted
  module _ (new : Cleanup) (t : HasTaken rows content.right old new) where
    abbrev new_waits : List Wait
    new_waits = waits_of new.gathered (stage.Reading content.right t.before)

    -- each pair that waited waits still
    more : (x : Wait) → In x old_waits → In x new_waits
    more x i =
        has_reading new.gathered content.right t.before x.key x.item
        ((t.pairs x.key x.item).1 (inl (reading_has old.gathered page b x i)))

    -- and so do those of the rows
    come : (w : Row) → In w rows → (k : Key) → In k w.keys → In (wait k w.item) new_waits
    come w i k on =
        has_reading new.gathered content.right t.before k w.item
        ((t.pairs k w.item).1 (inr (w, i, refl, on)))

    from_where : (x : Wait) → In x new_waits → In x old_waits ⊎ InRows rows x.key x.item
    from_where x i = elim ((t.pairs x.key x.item).0 (reading_has new.gathered content.right t.before x i)) [
      | inl h ↦ inl (has_reading old.gathered page b x.key x.item h)
      | inr r ↦ inr r
    ]

    now_at : Seen device f p (λ S P. IsReadingAt P new.left new.counts.items new_waits (t.before).items content.right)
    now_at told up R stands legal P shown =
        let x = was_at told up R stands legal P shown in
        let same = seen told up R stands legal P shown in
        let on = rows_are P same in
        let there = next_is_there P old.left old.counts.items x.0.line b.items page x.1 some in
        let y = read_more P old.left old.counts.items old_waits new_waits x.0 there.0 there.1 page there.2 there.3 some
        more (λ w i k j. come w (subst (In w) on i) k j) in
        let n : ℕ = length (rows_of (P page)) in
        let next = next_follows P old.left n old.counts.items x.0.line b.items page x.1 x.0.is_line x.0.enough some in
        let line_is : y.line ≡ x.0.line = chain_one P (first_of (P 0)) y.line x.0.line y.is_line x.0.is_line in
        let counts : old.counts.items ++ n ∷ [] ≡ new.counts.items =
        ap (λ (ws : List Row). old.counts.items ++ length ws ∷ []) on ∙ sym t.counts in
        let items : items_on P page ≡ (t.before).items =
        ap (λ (ws : List Row). map (λ (w : Row). w.item) ws) on ∙ sym t.before_is in
        let pair : IsReadingAt P old.left (old.counts.items ++ n ∷ []) new_waits (items_on P page) (P page).right = (
          y,
          subst (λ (l : List ℕ). IsNext P old.left (old.counts.items ++ n ∷ []) l (items_on P page) (P page).right)
              (sym line_is) next,
        ) in
        subst (λ (m : ℕ). IsReadingAt P m new.counts.items new_waits (t.before).items content.right) (sym t.left)
        (subst (λ (r : ℕ). IsReadingAt P old.left new.counts.items new_waits (t.before).items r)
        (ap (λ (c : Page). c.right) same)
        (subst (λ (bs : List ℕ). IsReadingAt P old.left new.counts.items new_waits bs (P page).right) items
        (subst (λ (ns : List ℕ). IsReadingAt P old.left ns new_waits (items_on P page) (P page).right) counts pair)))

    -- the cleanup has gone on by this page
    pub taken : IsCleaning device f p from new
    taken = record {
      began = was.began;
      at = subst (λ (s : Stage). Seen device f p (λ S P. IsAt P new s)) (sym t.stage_is) now_at;
      gone = subst (AreGone new) (sym t.stage_is) (t.gone ∙ subst (AreGone old) at was.gone);
      linked = λ x i. linked new_waits from_where x
          (subst (λ (s : Stage). In x (waits_of new.gathered s)) t.stage_is i);
      pairs = λ x i. pairs new_waits from_where x
          (subst (λ (s : Stage). In x (waits_of new.gathered s)) t.stage_is i);
      placing = subst (IsKeyAt device f p) (sym t.stage_is) tt;
      left = subst (λ (n : ℕ). Seen device f p (λ S P. AreLeft from S P n)) (sym t.left) was.left;
    }

  -- some of their pairs are, and the page is still next
  module _ (new : Cleanup) (k : HasKept rows old new) where
    abbrev kept_waits : List Wait
    kept_waits = waits_of new.gathered (stage.Reading page b)

    still : (x : Wait) → In x old_waits → In x kept_waits
    still x i =
        has_reading new.gathered page b x.key x.item
        ((k.pairs).keeps x.key x.item (reading_has old.gathered page b x i))

    just : (x : Wait) → In x kept_waits → In x old_waits ⊎ InRows rows x.key x.item
    just x i = elim ((k.pairs).just x.key x.item (reading_has new.gathered page b x i)) [
      | inl h ↦ inl (has_reading old.gathered page b x.key x.item h)
      | inr r ↦ inr r
    ]

    stage_is : new.stage ≡ stage.Reading page b
    stage_is = k.stage_is ∙ at

    still_at : Seen device f p (λ S P. IsReadingAt P new.left new.counts.items kept_waits b.items page)
    still_at told up R stands legal P shown =
        subst (λ (m : ℕ). IsReadingAt P m new.counts.items kept_waits b.items page) (sym k.left)
        (subst (λ (ns : List ℕ). IsReadingAt P old.left ns kept_waits b.items page) (sym k.counts)
        (more_waits P old.left old.counts.items old_waits kept_waits still b.items page
        (was_at told up R stands legal P shown)))

    pub kept : IsCleaning device f p from new
    kept = record {
      began = was.began;
      at = subst (λ (s : Stage). Seen device f p (λ S P. IsAt P new s)) (sym stage_is) still_at;
      gone = subst (AreGone new) (sym stage_is) (k.gone ∙ subst (AreGone old) at was.gone);
      linked = λ x i. linked kept_waits just x (subst (λ (s : Stage). In x (waits_of new.gathered s)) stage_is i);
      pairs = λ x i. pairs kept_waits just x (subst (λ (s : Stage). In x (waits_of new.gathered s)) stage_is i);
      placing = subst (IsKeyAt device f p) (sym stage_is) tt;
      left = subst (λ (n : ℕ). Seen device f p (λ S P. AreLeft from S P n)) (sym k.left) was.left;
    }
