-- A page of a tree with a right link has a greatest key or item.
use Rattle.std.proofs.Common.{◌≢◌, ◌<◌, ℕ, List, [], ◌∷◌, inl, inr, arith}
use Rattle.std.specs.List.{AllByRecursion}
use Rattle.page_types.specs.ItemReading.{last_or}
use Rattle.page_types.specs.Keys.{IsKey}
use Rattle.page_types.specs.Numbers.{item_limit}
use Rattle.page_types.specs.Pages.{IsPage, IsBody, IsEntryChild, IsPostChild}
use Rattle.page_types.specs.declared.page.Page.{Page}
use Rattle.page_types.specs.declared.page.EntryChild.{EntryChild}
use Rattle.page_types.specs.declared.page.PostChild.{PostChild}
use Rattle.page_types.specs.declared.page.Body.{Body}
use Rattle.entry_tree.specs.Finding.{IsEntryBody}
use Rattle.entry_tree.specs.Reading.{last_bound, upper_in}
use Rattle.posting_tree.specs.Reading as posts
use Rattle.gin_place.specs.Trees.{IsTreeBody}
use Rattle.gin_place.specs.Inner.Dividing.{EndsWithin}
use Rattle.gin_place.specs.declared.sought.Sought.{Sought}
use Rattle.gin_place.specs.declared.sought.Sought.TheVariants as sought

last_key : (right : ℕ) (cs : List EntryChild) → cs ≢ [] → AllByRecursion (IsEntryChild right) cs → right ≢ 0
    → IsKey (last_bound cs)
last_key right [] some each off = absurd (some (cc))
last_key right (c ∷ []) some each off = elim each.0.bound [ inl k ↦ k | inr z ↦ absurd (off z.1) ]
last_key right (c ∷ d ∷ cs) some each off = last_key right (d ∷ cs) (λ e. cc) each.1 off

in_body : (right stamp : ℕ) (b : Body) → IsEntryBody b → IsBody right stamp b → right ≢ 0 → IsKey (upper_in b)
in_body right stamp _ (IsEntryBody.leaf high es) ok off = elim ok.0 [ inl z ↦ absurd (off z.0) | inr k ↦ k.1 ]
in_body right stamp _ (IsEntryBody.inner cs) ok off = last_key right cs ok.some ok.each off

pub upper_key : (p : Page) → IsEntryBody p.body → IsPage p → p.right ≢ 0 → IsKey (upper_in p.body)
upper_key p is ok off = in_body p.right p.stamp p.body is ok.body off

last_low : (right first : ℕ) (cs : List PostChild) → first < item_limit → AllByRecursion (IsPostChild right) cs
    → right ≢ 0 → last_or first (posts.bounds_of cs) < item_limit
last_low right first [] low each off = low
last_low right first (c ∷ cs) low each off =
    last_low right c.bound cs (elim each.0.bound [ inl k ↦ k | inr z ↦ absurd (off z.1) ]) each.1 off

in_posts : (right stamp : ℕ) (b : Body) → posts.IsPostBody b → IsBody right stamp b → right ≢ 0
    → posts.upper_in b < item_limit
in_posts right stamp _ (posts.IsPostBody.leaf high list) ok off = ok.0.item
in_posts right stamp _ (posts.IsPostBody.inner cs) ok off = last_low right 0 cs (omega arith) ok.each off

pub ends_within : (t : Sought) (p : Page) → IsTreeBody t p.body → IsPage p → p.right ≢ 0 → EndsWithin t p
ends_within sought.Key p is ok off = upper_key p is ok off
ends_within (sought.Item root item) p is ok off = in_posts p.right p.stamp p.body is ok.body off
