-- What a record Shift leaves of its two pages, in parts.
use Rattle.std.proofs.Common.{◌≡◌, ◌≢◌, ℕ, suc, List, [], ◌∷◌, length, get_or, refl, sym, ap, subst, subst₂, ◌∙◌}
use Rattle.std.proofs.Common.{arith}
use Rattle.page_types.specs.declared.page.Page.{Page}
use Rattle.page_types.specs.declared.page.Row.{Row}
use Rattle.page_types.specs.declared.page.Body.{Body}
use Rattle.page_types.specs.declared.page.Body.TheVariants as body
use Rattle.page_types.specs.declared.page.Gone.{Gone}
use Rattle.page_types.specs.declared.page.Gone.TheVariants as gone
use Rattle.page_types.specs.declared.record.Record.{Record}
use Rattle.page_types.specs.declared.record.Kind.TheVariants as kind
use Rattle.core_state.specs.Log.{changed}
use Rattle.core_state.specs.Known.{Known}
use Rattle.core_state.specs.Changes.{made_with}
use Rattle.core_state.specs.PendingRules.{IsLastAfter, IsShiftHere}
use Rattle.core_state.specs.Inner.PendingRows.{BeginWith}
use Rattle.core_state.specs.Inner.Shifting.{DropsFirst, KeepsRows}
use Rattle.core_state.proofs.LinkedPages.{left_as, same_pending, same_meta, begin_size}
use Rattle.core_state.proofs.HeadChanges.{same_second}

-- a deleted page with the rows of another
pub kept_told : (r : Record) (old new : Page) (rows kept : List Row) (g : Gone) → old.body ≡ body.Pending rows
    → new.body ≡ body.Deleted g → g ≡ gone.Pending kept → new.right ≡ old.right → new.stamp ≡ r.number
    → length kept ≡ length rows → BeginWith kept rows → KeepsRows r old new
kept_told r old new rows kept g was is those right stamp n w = record {
  rows = rows;
  was = was;
  after = left_as r new old.right _ right stamp (is ∙ ap body.Deleted (those
      ∙ ap gone.Pending (begin_size kept rows w.0 w.1 n)));
}

same_gone : (xs ys : List Row) (b : Body) → b ≡ body.Deleted (gone.Pending xs) → b ≡ body.Deleted (gone.Pending ys)
    → xs ≡ ys
same_gone xs ys b e f = let both : body.Deleted (gone.Pending xs) ≡ body.Deleted (gone.Pending ys) = sym e ∙ f in cc

pub kept_rows : (r : Record) (old new : Page) (rows kept : List Row) (g : Gone) → old.body ≡ body.Pending rows
    → new.body ≡ body.Deleted g → g ≡ gone.Pending kept → KeepsRows r old new → kept ≡ rows
kept_rows r old new rows kept g was is those k =
    same_gone kept k.rows new.body (is ∙ ap body.Deleted those) (ap (λ (p : Page). p.body) k.after)
    ∙ same_pending k.rows rows old.body k.was was

-- a metapage with one page less
pub dropped_told : (r : Record) (page right : ℕ) (old new : Page) (first last count next end left : ℕ)
    → old.body ≡ body.Meta first last count → new.body ≡ body.Meta next end left → new.right ≡ old.right
    → new.stamp ≡ r.number → first ≡ page → next ≡ right → count ≡ suc left → IsLastAfter right last end
    → DropsFirst r page right old new
dropped_told r page right old new first last count next end left was is to stamp named then less l = record {
  last = last;
  count = left;
  new_last = end;
  was = was ∙ ap (λ (z : ℕ). body.Meta z last count) named ∙ ap (body.Meta page last) less;
  last_is = l;
  after = left_as r new old.right _ to stamp (is ∙ ap (λ (z : ℕ). body.Meta z end left) then);
}

pub record Dropped (r : Record) (page right : ℕ) (old new : Page) (first last count next end left : ℕ) : Type 0 where
  pub to : new.right ≡ old.right
  pub stamp : new.stamp ≡ r.number
  pub named : first ≡ page
  pub then : next ≡ right
  pub less : count ≡ suc left
  pub last_is : IsLastAfter right last end

pub dropped_back : (r : Record) (page right : ℕ) (old new : Page) (first last count next end left : ℕ)
    → old.body ≡ body.Meta first last count → new.body ≡ body.Meta next end left → DropsFirst r page right old new
    → Dropped r page right old new first last count next end left
dropped_back r page right old new first last count next end left was is d =
    let before = same_meta first last count page d.last (suc d.count) old.body was d.was in
    let after = same_meta next end left right d.new_last d.count new.body is (ap (λ (p : Page). p.body) d.after) in
    record {
      to = ap (λ (p : Page). p.right) d.after;
      stamp = ap (λ (p : Page). p.stamp) d.after;
      named = before.0;
      then = after.0;
      less = before.2 ∙ ap suc (sym after.2);
      last_is = subst₂ (IsLastAfter right) (sym before.1) (sym after.1) d.last_is;
    }

pub last_of : (right last end : ℕ) → IsLastAfter right last end → right ≡ 0 → end ≡ 0
last_of right last _ (IsLastAfter.none e) none = refl
last_of right last _ (IsLastAfter.same off) none = absurd (off none)

pub last_same : (right last end : ℕ) → IsLastAfter right last end → right ≢ 0 → end ≡ last
last_same right last _ (IsLastAfter.none e) some = absurd (some e)
last_same right last _ (IsLastAfter.same off) some = refl

-- both pages
pub shift_told : (k : Known) (r : Record) (page : ℕ) (meta old meta_then new : Page) (before after : List Page)
    → r.kind ≡ kind.Shift → changed r ≡ 0 ∷ page ∷ [] → before ≡ meta ∷ old ∷ [] → after ≡ meta_then ∷ new ∷ []
    → KeepsRows r old new → DropsFirst r page old.right meta meta_then → IsShiftHere k r before after
shift_told k r page meta old meta_then new before after e pages before_is after_is kept d = record {
  page = page;
  last = d.last;
  count = d.count;
  new_last = d.new_last;
  rows = kept.rows;
  meta = meta;
  old = old;
  kind_is = e;
  pages = pages;
  before_is = before_is;
  first = d.was;
  was = kept.was;
  last_is = d.last_is;
  after_is = after_is ∙ ap (λ (z : Page). z ∷ new ∷ []) d.after
      ∙ ap (λ (z : Page). made_with r meta.right (body.Meta old.right d.new_last d.count) ∷ z ∷ []) kept.after;
}

pub record Shifted (r : Record) (page : ℕ) (meta old meta_then new : Page) : Type 0 where
  pub kept : KeepsRows r old new
  pub dropped : DropsFirst r page old.right meta meta_then

-- of the pages that are there
pub shift_back : (k : Known) (r : Record) (page : ℕ) (meta old meta_then new : Page) (before after : List Page)
    → changed r ≡ 0 ∷ page ∷ [] → before ≡ meta ∷ old ∷ [] → after ≡ meta_then ∷ new ∷ []
    → IsShiftHere k r before after → Shifted r page meta old meta_then new
shift_back k r page meta old meta_then new before after pages before_is after_is w =
    let same : w.page ≡ page = same_second r 0 w.page page w.pages pages in
    let was : w.meta ∷ w.old ∷ [] ≡ meta ∷ old ∷ [] = sym w.before_is ∙ before_is in
    let metas : w.meta ≡ meta = cc in
    let olds : w.old ≡ old = cc in
    let now : made_with r w.meta.right (body.Meta w.old.right w.new_last w.count)
    ∷ made_with r w.old.right (body.Deleted (gone.Pending w.rows)) ∷ [] ≡ meta_then ∷ new ∷ [] =
    sym w.after_is ∙ after_is in
    let first : made_with r w.meta.right (body.Meta w.old.right w.new_last w.count) ≡ meta_then = cc in
    let second : made_with r w.old.right (body.Deleted (gone.Pending w.rows)) ≡ new = cc in
    let one : Shifted r w.page w.meta w.old meta_then new = record {
      kept = record { rows = w.rows; was = w.was; after = sym second };
      dropped = record {
        last = w.last;
        count = w.count;
        new_last = w.new_last;
        was = w.first;
        last_is = w.last_is;
        after = sym first;
      };
    } in
    subst (λ (z : Page). Shifted r page z old meta_then new) metas
    (subst (λ (z : Page). Shifted r page w.meta z meta_then new) olds
    (subst (λ (z : ℕ). Shifted r z w.meta w.old meta_then new) same one))
