-- In a legal log the pages of a way have a place for what is sought.
use Rattle.std.proofs.Common.{◌<◌, ℕ, ◌∷◌, ◌++◌, sym, subst, inl, inr, arith}
use Rattle.std.specs.Prelude.{⊤}
use Rattle.std.proofs.lemmas.Cmp.{nat_list_cmp_total}
use Rattle.ts_base.specs.Keys.{Key}
use Rattle.page_types.specs.Keys.{KeyLess}
use Rattle.page_types.specs.Numbers.{item_limit}
use Rattle.core_state.specs.Log.{Pages}
use Rattle.core_state.specs.Changes.{UpTo}
use Rattle.core_state.specs.TreeRules.{Toward, TowardItem}
use Rattle.core_state.specs.Index.{IsNamed}
use Rattle.core_state.proofs.Trees.Members.{in_middle}
use Rattle.core_state.proofs.Trees.Orders.{key_irrefl}
use Rattle.core_maintenance.specs.Leading.{IsHigh, IsHighPost, IsWithin, WaysLead}
use Rattle.entry_tree.specs.Finding as entries
use Rattle.entry_tree.specs.declared.finding.Found.TheVariants as entry_found
use Rattle.posting_tree.specs.Finding as posts
use Rattle.posting_tree.specs.Reading.{IsPostBody}
use Rattle.posting_tree.specs.declared.finding.Found.TheVariants as post_found
use Rattle.gin_place.specs.Causes.{HasPlace}
use Rattle.gin_place.specs.Trees.{root_of, Leads, IsHighIn}
use Rattle.gin_place.specs.declared.sought.Sought.{Sought}
use Rattle.gin_place.specs.declared.sought.Sought.TheVariants as sought
use Rattle.gin_place.proofs.TreesOn.{child_high, post_child_high}

-- ── the entry tree ──

toward_high : (P : Pages) (k : Key) (p q h : ℕ) → Toward P k p q → IsHigh P h p → (i : ℕ) × IsHigh P i q
toward_high P k p q h Toward.here high = (h, high)
toward_high P k p q h (Toward.down front back c content below within rest) high =
    let low = child_high P h p (front ++ c ∷ back) c content high (in_middle front c back) in
    toward_high P k c.page q low.0 rest low.2

high_entries : (P : Pages) (h p : ℕ) → IsHigh P h p → entries.IsEntryBody (P p).body
high_entries P _ p (IsHigh.leaf high es is) = subst entries.IsEntryBody (sym is) (entries.IsEntryBody.leaf high es)
high_entries P _ p (IsHigh.inner cs is each) = subst entries.IsEntryBody (sym is) (entries.IsEntryBody.inner cs)

pub not_both : (k b : Key) → UpTo k b → entries.IsBelow b k → ⊥
not_both k b (inl none) below = below.0 none
not_both k b (inr (inl less)) below = key_irrefl k (nat_list_cmp_total.trans k b k less below.1)
not_both k b (inr (inr same)) below = key_irrefl k (subst (λ (x : Key). KeyLess x k) (sym same) below.1)

key_not_past : (P : Pages) (k : Key) (p : ℕ) → WaysLead P → Toward P k 1 p → (q : ℕ)
    → entries.IsFound (P p) k (entry_found.Right q) → ⊥
key_not_past P k p lead way q (entries.IsFoundIn.past_leaf high es content below) =
    not_both k high (lead.leaf k p high es way content) below
key_not_past P k p lead way q (entries.IsFoundIn.past_inner cs content below) =
    let c = lead.child k p cs way content in
    not_both k c.0.bound c.2 (below c.0 c.1)

-- ── the posting trees ──

item_high : (P : Pages) (i p q h : ℕ) → TowardItem P i p q → IsHighPost P h p → (j : ℕ) × IsHighPost P j q
item_high P i p q h TowardItem.here high = (h, high)
item_high P i p q h (TowardItem.down front back c content below within rest) high =
    let low = post_child_high P h p (front ++ c ∷ back) c content high (in_middle front c back) in
    item_high P i c.page q low.0 rest low.2

high_posts : (P : Pages) (h p : ℕ) → IsHighPost P h p → IsPostBody (P p).body
high_posts P _ p (IsHighPost.leaf high items is) = subst IsPostBody (sym is) (IsPostBody.leaf high items)
high_posts P _ p (IsHighPost.inner cs is each) = subst IsPostBody (sym is) (IsPostBody.inner cs)

item_not_past : (P : Pages) (k : Key) (root i p : ℕ) → WaysLead P → IsNamed P k root → i < item_limit
    → TowardItem P i root p → (q : ℕ) → posts.IsFound (P p) i (post_found.Right q) → ⊥
item_not_past P k root i p lead named small way q (posts.IsFoundIn.past_leaf high list content over) =
    over (lead.post_leaf k root i p high list named way content)
item_not_past P k root i p lead named small way q (posts.IsFoundIn.past_inner cs content below) =
    let c = lead.post_child k root i p cs named small way content in
    let under = below c.0 c.1 in omega (arith, under, c.2)

-- ── both ──

-- what is sought is an item, where it is not the key
abbrev pub IsSmall : Sought → Type 0
IsSmall sought.Key = ⊤
IsSmall (sought.Item root item) = item < item_limit

pub has_place : (P : Pages) (k : Key) (t : Sought) (p : ℕ) → WaysLead P → IsSmall t → Leads P k t p
    → HasPlace k t (P p)
has_place P k sought.Key p lead small way =
    let high = toward_high P k 1 p lead.height.0 way lead.height.1 in
    record { on_tree = high_entries P high.0 p high.1; not_past = key_not_past P k p lead way }
has_place P k (sought.Item root i) p lead small way =
    let top = lead.post_height k root way.0 in
    let high = item_high P i root p top.0 way.1 top.1 in
    record { on_tree = high_posts P high.0 p high.1; not_past = item_not_past P k root i p lead way.0 small way.1 }

-- the root is as high as its tree, which has fewer levels than there are pages
pub root_high : (P : Pages) (k : Key) (t : Sought) → WaysLead P → Leads P k t (root_of t)
    → (h : ℕ) × IsHighIn P t h (root_of t) × IsWithin P h
root_high P k sought.Key lead way = lead.height
root_high P k (sought.Item root i) lead way = lead.post_height k root way.0
