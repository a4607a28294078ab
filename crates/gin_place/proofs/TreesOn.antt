-- How a way goes on, in either tree.
use Rattle.std.proofs.Common.{◌≡◌, ◌∙◌, ℕ, suc, List, ◌∷◌, ◌++◌, refl, sym, subst}
use Rattle.ts_base.specs.Keys.{Key}
use Rattle.page_types.specs.declared.page.EntryChild.{EntryChild}
use Rattle.page_types.specs.declared.page.PostChild.{PostChild}
use Rattle.page_types.specs.declared.page.Body.TheVariants as body
use Rattle.core_state.specs.Log.{Pages, In}
use Rattle.core_state.specs.TreeRules.{Toward, TowardItem}
use Rattle.core_state.proofs.Trees.Members.{in_middle}
use Rattle.core_maintenance.specs.Leading.{IsHigh, IsHighPost}
use Rattle.entry_tree.specs.Finding as entries
use Rattle.entry_tree.specs.Logging as entry_laws
use Rattle.entry_tree.specs.declared.finding.Found.TheVariants as entry_found
use Rattle.posting_tree.specs.Finding as posts
use Rattle.posting_tree.specs.Logging as post_laws
use Rattle.posting_tree.specs.declared.finding.Found.TheVariants as post_found
use Rattle.gin_place.specs.Trees.{GoesDown, Leads, IsHighIn}
use Rattle.gin_place.specs.declared.sought.Sought.{Sought}
use Rattle.gin_place.specs.declared.sought.Sought.TheVariants as sought

toward_then : entry_laws.FoundLeadsDown → (P : Pages) (k : Key) (p page child : ℕ) → Toward P k p page
    → entries.IsFound (P page) k (entry_found.Down child) → Toward P k p child
toward_then law P k p page child Toward.here is = law P k page child child is Toward.here
toward_then law P k p page child (Toward.down front back c content below up rest) is =
    Toward.down front back c content below up (toward_then law P k c.page page child rest is)

item_then : post_laws.FoundLeadsDown → (P : Pages) (i p page child : ℕ) → TowardItem P i p page
    → posts.IsFound (P page) i (post_found.Down child) → TowardItem P i p child
item_then law P i p page child TowardItem.here is = law P i page child child is TowardItem.here
item_then law P i p page child (TowardItem.down front back c content below up rest) is =
    TowardItem.down front back c content below up (item_then law P i c.page page child rest is)

-- the way goes on to the child that is found
pub leads_on : entry_laws.FoundLeadsDown → post_laws.FoundLeadsDown → (P : Pages) (k : Key) (s : Sought)
    (page child : ℕ)
    → Leads P k s page → GoesDown k s (P page) child → Leads P k s child
leads_on e p P k sought.Key page child way is = toward_then e P k 1 page child way is
leads_on e p P k (sought.Item root item) page child way is = (way.0, item_then p P item root page child way.1 is)

pub same_children : (a b : List EntryChild) → body.EntryInner a ≡ body.EntryInner b → a ≡ b
same_children a b e = cc

same_posts : (a b : List PostChild) → body.PostInner a ≡ body.PostInner b → a ≡ b
same_posts a b e = cc

-- what is below a page that is high
pub child_high : (P : Pages) (h p : ℕ) (cs : List EntryChild) (c : EntryChild) → (P p).body ≡ body.EntryInner cs
    → IsHigh P h p → In c cs → (i : ℕ) × (h ≡ suc i) × IsHigh P i c.page
child_high P _ p cs c content (IsHigh.leaf high es is) on =
    let two : body.EntryLeaf high es ≡ body.EntryInner cs = sym is ∙ content in
    let z : ⊥ = cc in absurd z
child_high P _ p cs c content (IsHigh.inner {h} ds is each) on =
    (h, refl, each c (subst (In c) (same_children cs ds (sym content ∙ is)) on))

pub post_child_high : (P : Pages) (h p : ℕ) (cs : List PostChild) (c : PostChild) → (P p).body ≡ body.PostInner cs
    → IsHighPost P h p → In c cs → (i : ℕ) × (h ≡ suc i) × IsHighPost P i c.page
post_child_high P _ p cs c content (IsHighPost.leaf high items is) on =
    let two : body.PostLeaf high items ≡ body.PostInner cs = sym is ∙ content in
    let z : ⊥ = cc in absurd z
post_child_high P _ p cs c content (IsHighPost.inner {h} ds is each) on =
    (h, refl, each c (subst (In c) (same_posts cs ds (sym content ∙ is)) on))

-- the child that is found is lower
pub lower_on : (P : Pages) (k : Key) (s : Sought) (page child h : ℕ) → GoesDown k s (P page) child
    → IsHighIn P s h page → (i : ℕ) × (h ≡ suc i) × IsHighIn P s i child
lower_on P k sought.Key page child h (entries.IsFoundIn.down front back c content below within) high =
    child_high P h page (front ++ c ∷ back) c content high (in_middle front c back)
lower_on P k (sought.Item root item) page child h (posts.IsFoundIn.down front back c content below within) high =
    post_child_high P h page (front ++ c ∷ back) c content high (in_middle front c back)
