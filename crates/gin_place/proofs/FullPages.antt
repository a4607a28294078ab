-- A page of a tree that takes no more has a large body, and two members at least.
use Rattle.std.proofs.Common.{◌≡◌, ◌+◌, ◌<◌, ◌≤◌, ℕ, zero, suc, List, [], ◌∷◌, ◌++◌, length, take, sym, ap, subst, inl}
use Rattle.std.proofs.Common.{◌∙◌, inr, arith}
use Rattle.std.specs.List.{flat_map}
use Rattle.std.proofs.lemmas.List.{length-append}
use Rattle.std.proofs.lemmas.List.Concat.{flat_map-append}
use Rattle.page_types.specs.Numbers.{most_inline, most_body}
use Rattle.page_types.specs.Items.{AreItems}
use Rattle.page_types.specs.Keys.{IsKey}
use Rattle.page_types.specs.Pages.{IsPage, IsBody, IsHighKey, ArePostings, IsEntry, AreEntries, IsEntryChild}
use Rattle.page_types.specs.Pages.{AreEntryChildren}
use Rattle.page_types.specs.Encoding.{entry_bytes, entry_child_bytes, postings_bytes, high_key_bytes, body_bytes}
use Rattle.page_types.specs.Encoding.{count_of}
use Rattle.page_types.specs.Views.{entries_in}
use Rattle.page_types.specs.declared.page.Page.{Page}
use Rattle.page_types.specs.declared.page.Entry.{Entry}
use Rattle.page_types.specs.declared.page.EntryChild.{EntryChild}
use Rattle.page_types.specs.declared.page.Postings.{Postings}
use Rattle.page_types.specs.declared.page.Postings.TheVariants.{Inline, Root}
use Rattle.page_types.specs.declared.page.Body.{Body}
use Rattle.page_types.specs.declared.page.Body.TheVariants as body
use Rattle.page_types.proofs.BodySizes.{length-key_field, length-entry_bytes, length-entry_child_bytes, length-inline}
use Rattle.page_types.proofs.BodySizes.{length-root}
use Rattle.core_state.specs.TreeRules.{IsEntryBetween, half_body}
use Rattle.entry_tree.specs.Adding.{IsEntryLeaf, list_entry, IsAnswer, IsAdded}
use Rattle.entry_tree.specs.Finding.{IsEntryBody, IsFoundIn}
use Rattle.entry_tree.specs.Reading.{upper_in, HasRoomForChild}
use Rattle.entry_tree.specs.declared.adding.Added.TheVariants as added
use Rattle.posting_code.proofs.Places.{AreItemsFrom-front}
use Rattle.posting_tree.specs.Finding as posts_found
use Rattle.posting_tree.specs.Full as posts
use Rattle.posting_tree.specs.Reading.{IsPostBody}
use Rattle.gin_place.specs.Causes.{CanDivide}
use Rattle.gin_place.specs.Inner.Reading.{IsReading}
use Rattle.gin_place.specs.Inner.ReadingItems.{IsReadingOf, IsReadingIn}
use Rattle.gin_place.specs.declared.reading.Reading.TheVariants as reading
use Rattle.gin_place.specs.declared.sought.Sought.{Sought}
use Rattle.gin_place.specs.declared.sought.Sought.TheVariants as sought

-- what a page has that may be divided
abbrev pub IsLarge : Body → Type 0
IsLarge b = (half_body < length (body_bytes b)) × (2 ≤ count_of b)

-- ── how many bytes the members have ──

key_length : (key : List ℕ) → IsKey key → length key ≤ 2047
key_length [] is = absurd is
key_length (zero ∷ text) is = omega (arith, is.most)
key_length (suc zero ∷ rest) is = omega (arith, ap length is)
key_length (suc (suc b) ∷ rest) is = absurd is

postings_size : (p : Postings) → ArePostings p → length (postings_bytes p) ≤ 1003
postings_size (Inline items) is = let short = is.0 in omega (arith, length-inline items, short)
postings_size (Root root) is = omega (arith, length-root root)

entry_size : (e : Entry) → IsEntry e → length (entry_bytes e) ≤ 3052
entry_size e is =
    omega (arith, length-entry_bytes e, key_length e.key is.key, postings_size e.postings is.postings)

high_size : (right : ℕ) (high : List ℕ) → IsHighKey right high → length (high_key_bytes high) ≤ 2049
high_size right [] is = omega arith
high_size right (b ∷ bs) (inl none) = absurd (let z : ⊥ = cc in z)
high_size right (b ∷ bs) (inr some) = omega (arith, length-key_field (b ∷ bs), key_length (b ∷ bs) some.1)

child_size : (right : ℕ) (c : EntryChild) → IsEntryChild right c → length (entry_child_bytes c) ≤ 2053
child_size right c is = elim is.bound [
  | inl key ↦ omega (arith, length-entry_child_bytes c, key_length c.bound key)
  | inr none ↦ omega (arith, length-entry_child_bytes c, ap length none.0)
]

-- ── a leaf ──

fields_both : (front back : List Entry)
    → length (flat_map entry_bytes (front ++ back))
    ≡ length (flat_map entry_bytes front) + length (flat_map entry_bytes back)
fields_both front back =
    ap length (flat_map-append entry_bytes front back)
    ∙ length-append (flat_map entry_bytes front) (flat_map entry_bytes back)

fields_with : (front back : List Entry) (e : Entry)
    → length (flat_map entry_bytes (front ++ e ∷ back))
    ≡ length (flat_map entry_bytes (front ++ back)) + length (entry_bytes e)
fields_with front back e = omega (
  arith,
  fields_both front (e ∷ back),
  fields_both front back,
  length-append (entry_bytes e) (flat_map entry_bytes back),
)

leaf_size : (high : List ℕ) (es : List Entry)
    → length (body_bytes (body.EntryLeaf high es)) ≡ length (high_key_bytes high) + length (flat_map entry_bytes es)
leaf_size high es = length-append (high_key_bytes high) (flat_map entry_bytes es)

-- the entries without the key's list are no more than those of the page
fewer : (es front back : List Entry) (key old : List ℕ) → IsEntryBetween es front back key old
    → length (flat_map entry_bytes (front ++ back)) ≤ length (flat_map entry_bytes es)
fewer es front back key old (inl here) =
    let same = ap (λ (xs : List Entry). length (flat_map entry_bytes xs)) here in
    omega (arith, same, fields_with front back (list_entry key old))
fewer es front back key old (inr none) =
    let same = ap (λ (xs : List Entry). length (flat_map entry_bytes xs)) none.0 in
    omega (arith, same)

-- a leaf that would be too long with a list more
leaf_long : (high : List ℕ) (es front back : List Entry) (key old list : List ℕ) → IsKey key
    → IsEntryBetween es front back key old → length list ≤ most_inline
    → most_body < length (body_bytes (body.EntryLeaf high (front ++ list_entry key list ∷ back)))
    → 5117 ≤ length (body_bytes (body.EntryLeaf high es))
leaf_long high es front back key old list is between short over =
    omega (
      arith,
      short,
      over,
      leaf_size high (front ++ list_entry key list ∷ back),
      leaf_size high es,
      fields_with front back (list_entry key list),
      fewer es front back key old between,
      length-entry_bytes (list_entry key list),
      length-inline list,
      key_length key is,
    )

many_entries : (right : ℕ) (high : List ℕ) (es : List Entry) → IsHighKey right high → AreEntries es
    → 5117 ≤ length (body_bytes (body.EntryLeaf high es)) → 2 ≤ length es
many_entries right high [] is are long = absurd (omega (arith, long, leaf_size high [], high_size right high is))
many_entries right high (e ∷ []) is are long =
    let each = are.each in
    absurd (omega (
      arith,
      long,
      leaf_size high (e ∷ []),
      length-append (entry_bytes e) [],
      entry_size e each.0,
      high_size right high is,
    ))
many_entries right high (d ∷ e ∷ es) is are long = omega arith

leaf_large : (right stamp : ℕ) (b : Body) (key items list : List ℕ) (front back : List Entry) (old : List ℕ)
    → IsEntryLeaf b → IsBody right stamp b → IsKey key → IsEntryBetween (entries_in b) front back key old
    → length list ≤ most_inline
    → most_body < length (body_bytes (body.EntryLeaf (upper_in b) (front ++ list_entry key list ∷ back)))
    → IsLarge b
leaf_large right stamp _ key items list front back old (IsEntryLeaf.leaf high es) on is between short over =
    let long = leaf_long high es front back key old list is between short over in
    (omega (arith, long), many_entries right high es on.0 on.1 long)

full_answer : (c : Page) (list : List ℕ) (content : Body) → IsAnswer c list content added.Full
    → (length list ≤ most_inline) × (most_body < length (body_bytes content))
full_answer c list content (IsAnswer.full short over) = (short, over)

-- a leaf that has no room for the items is large
pub full_leaf : (c : Page) (key items : List ℕ) → IsPage c → IsKey key → IsEntryLeaf c.body
    → IsAdded c key items added.Full → IsLarge c.body
full_leaf c key items page is is_leaf full =
    let u = full.under in
    let a = full_answer c u.list _ full.is in
    leaf_large c.right c.stamp c.body key items u.list u.front u.back u.old is_leaf page.body is u.entry a.0 a.1

-- ── an inner page ──

over : (a b : ℕ) → (a ≤ b → ⊥) → b < a
over a b off = grind (arith, off)

many_children : (right : ℕ) (cs : List EntryChild) → AreEntryChildren right cs
    → 6116 ≤ length (body_bytes (body.EntryInner cs)) → 2 ≤ length cs
many_children right [] are long = absurd (omega (arith, long))
many_children right (c ∷ []) are long =
    let each = are.each in
    absurd (omega (arith, long, length-append (entry_child_bytes c) [], child_size right c each.0))
many_children right (c ∷ d ∷ cs) are long = omega arith

-- one without room for a child more is, too
pub full_inner : (c : Page) (cs : List EntryChild) → IsPage c → c.body ≡ body.EntryInner cs
    → (HasRoomForChild c → ⊥) → IsLarge c.body
full_inner c cs page is none =
    let on = subst (IsBody c.right c.stamp) is page.body in
    let much = over (length (body_bytes c.body) + 2053) most_body none in
    let same = ap (λ (b : Body). length (body_bytes b)) is in
    let long : 6116 ≤ length (body_bytes (body.EntryInner cs)) = omega (arith, much, same) in
    subst IsLarge (sym is) (omega (arith, long), many_children c.right cs on long)

-- ── in either tree ──

leaf_body : (b : Body) → IsEntryLeaf b → IsEntryBody b
leaf_body _ (IsEntryLeaf.leaf high es) = IsEntryBody.leaf high es

entries_divide : (c : Page) (k items : List ℕ) → IsPage c → IsKey k → IsReading c k items reading.Full
    → CanDivide sought.Key c
entries_divide c k items page is (IsReading.full_leaf n is_leaf full fresh none) =
    let large = full_leaf c k (take n items) page is is_leaf full in
    (leaf_body c.body is_leaf, large.0, large.1)
entries_divide c k items page is (IsReading.full_inner child (IsFoundIn.down front back e content low up) none) =
    let large = full_inner c (front ++ e ∷ back) page content none in
    (subst IsEntryBody (sym content) (IsEntryBody.inner _), large.0, large.1)

posts_divide : posts.FullLeafIsLarge → posts.FullInnerIsLarge → (root item : ℕ) (c : Page) (items : List ℕ) → IsPage c
    → AreItems items → IsReadingOf c items reading.Full → CanDivide (sought.Item root item) c
posts_divide leaf inner root item c items page rise (IsReadingOf.full_inner first _ rest is
    (posts_found.IsFoundIn.down front back e content low up) none) =
    let large = inner c (front ++ e ∷ back) content none in
    (subst IsPostBody (sym content) (IsPostBody.inner _), large.bytes, large.members)
posts_divide leaf inner root item c items page rise (IsReadingOf.full_leaf high list within rest content parts some
    takes fresh) =
    let are = (AreItemsFrom-front 0 within rest (subst AreItems parts rise)).0 in
    let large = leaf c high list within page content are some takes in
    (subst IsPostBody (sym content) (IsPostBody.leaf high list), large.bytes, large.members)

-- a page that is read as full can be divided
pub full_divides_in : posts.FullLeafIsLarge → posts.FullInnerIsLarge → (t : Sought) (c : Page) (k items : List ℕ)
    → IsPage c → IsKey k → AreItems items → IsReadingIn t c k items reading.Full → CanDivide t c
full_divides_in leaf inner sought.Key c k items page is rise full = entries_divide c k items page is full
full_divides_in leaf inner (sought.Item root item) c k items page is rise full =
    posts_divide leaf inner root item c items page rise full
