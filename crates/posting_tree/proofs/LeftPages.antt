-- Leaves whose lists lack some items: entry by entry, what they had, and that they have an encoding.
use Rattle.std.proofs.Common.{◌≡◌, ◌↔◌, ℕ, zero, suc, ◌+◌, ◌≤◌, List, [], ◌∷◌, ◌++◌, length, take, refl, sym, ap}
use Rattle.std.proofs.Common.{subst, inl, inr, arith}
use Rattle.std.specs.Prelude.{Option, Some, None, Bool, true, IsTrue}
use Rattle.std.specs.List.{AllByRecursion, Contains, slice_get, flat_map}
use Rattle.std.proofs.lemmas.List.{length-append, take_all}
use Rattle.page_types.specs.Items.{items_of}
use Rattle.page_types.specs.Keys.{KeyLess, Rising}
use Rattle.page_types.specs.Views.{list_in}
use Rattle.page_types.specs.Encoding.{entry_bytes, body_bytes, count_of, high_key_bytes}
use Rattle.page_types.specs.Pages.{IsPage, IsBody, IsEntry}
use Rattle.page_types.specs.declared.page.Page.{Page}
use Rattle.page_types.specs.declared.page.Entry.{Entry}
use Rattle.page_types.specs.declared.page.Postings.{Postings}
use Rattle.page_types.specs.declared.page.Postings.TheVariants.{Inline, Root}
use Rattle.page_types.specs.declared.page.Body.{Body}
use Rattle.page_types.specs.declared.page.Body.TheVariants as body
use Rattle.page_types.proofs.BodySizes.{length-entry_bytes, length-inline, length-posting}
use Rattle.page_types.proofs.Cutting.{take_get}
use Rattle.core_state.specs.Log.{In}
use Rattle.posting_code.specs.Uniting.{IsLeft}
use Rattle.entry_tree.specs.Adding.{list_entry}
use Rattle.posting_tree.specs.Removing.{IsEntryLeft, AreEntriesLeft, IsLeafLeft, IsListed, HasNone}
use Rattle.posting_tree.proofs.LeafPages.{page_with}

-- ---- entry by entry

-- no list of an entry has one of these items
abbrev pub HaveNone : List ℕ → List Entry → Type 0
HaveNone dead entries = AllByRecursion (λ (e : Entry). HasNone dead (list_in e.postings)) entries

left_more : (dead : List ℕ) (es fs : List Entry) (e f : Entry) → AreEntriesLeft dead es fs → IsEntryLeft dead e f
    → AreEntriesLeft dead (es ++ e ∷ []) (fs ++ f ∷ [])
left_more dead [] [] e f h one = (one, tt)
left_more dead [] (g ∷ fs) e f h one = absurd h
left_more dead (d ∷ es) [] e f h one = absurd h
left_more dead (d ∷ es) (g ∷ fs) e f h one = (h.0, left_more dead es fs e f h.1 one)

all_more : {A : Type 0} (P : A → Type 0) (xs : List A) (x : A) → AllByRecursion P xs → P x
    → AllByRecursion P (xs ++ x ∷ [])
all_more P [] x h p = (p, tt)
all_more P (y ∷ ys) x h p = (h.0, all_more P ys x h.1 p)

all_but : {A : Type 0} (P : A → Type 0) (xs : List A) (x : A) → AllByRecursion P (xs ++ x ∷ [])
    → AllByRecursion P xs × P x
all_but P [] x h = (tt, h.0)
all_but P (y ∷ ys) x h = let r = all_but P ys x h.1 in ((h.0, r.0), r.1)

-- the first entries are left, and whether they had none of the items
pub record IsLeftUpTo (dead : List ℕ) (entries : List Entry) (k : ℕ) (left : List Entry) (same : Bool) : Type 0 where
  pub left_are : AreEntriesLeft dead (take k entries) left
  pub same_is : IsTrue same ↔ HaveNone dead (take k entries)

pub left_starts : (dead : List ℕ) (entries : List Entry) → IsLeftUpTo dead entries 0 [] true
left_starts dead entries = record { left_are = tt; same_is = (λ e. tt, λ h. refl) }

-- all entries
pub left_ends : (dead : List ℕ) (entries : List Entry) (k : ℕ) (left : List Entry) (same : Bool) → length entries ≤ k
    → IsLeftUpTo dead entries k left same → AreEntriesLeft dead entries left × (IsTrue same ↔ HaveNone dead entries)
left_ends dead entries k left same le h =
    let all = take_all k entries le in (
      subst (λ (es : List Entry). AreEntriesLeft dead es left) all h.left_are,
      subst (λ (es : List Entry). IsTrue same ↔ HaveNone dead es) all h.same_is,
    )

-- one entry more, with the two tests at once
pub left_next : (dead : List ℕ) (entries : List Entry) (k : ℕ) (left more : List Entry) (same one both : Bool)
    (e f : Entry) → IsLeftUpTo dead entries k left same → slice_get entries k ≡ Some e → more ≡ left ++ f ∷ []
    → IsEntryLeft dead e f → IsTrue one ↔ HasNone dead (list_in e.postings)
    → (IsTrue both ↔ (IsTrue one × IsTrue same)) → IsLeftUpTo dead entries (k + 1) more both
left_next dead entries k left more same one both e f h at made is tested joined = record {
  left_are = subst (AreEntriesLeft dead (take (k + 1) entries)) (sym made)
      (subst (λ (es : List Entry). AreEntriesLeft dead es (left ++ f ∷ [])) (sym (take_get entries k e at))
      (left_more dead (take k entries) left e f h.left_are is));
  same_is = (
    λ b. let w = joined.0 b in
        subst (HaveNone dead) (sym (take_get entries k e at))
        (all_more (λ (d : Entry). HasNone dead (list_in d.postings)) (take k entries) e (h.same_is.0 w.1)
        (tested.0 w.0)),
    λ all. let w = all_but (λ (d : Entry). HasNone dead (list_in d.postings)) (take k entries) e
        (subst (HaveNone dead) (take_get entries k e at) all) in
        joined.1 (tested.1 w.1, h.same_is.1 w.0),
  );
}

pub entry_there : (entries : List Entry) (k : ℕ) (e : Entry) → AllByRecursion IsEntry entries
    → slice_get entries k ≡ Some e → IsEntry e
entry_there [] k e h at = absurd cc
entry_there (d ∷ entries) zero e h at = let same : d ≡ e = cc in subst IsEntry same h.0
entry_there (d ∷ entries) (suc k) e h at = entry_there entries k e h.1 at

-- ---- what is in the lists

pub none_there : {A : Type 0} (o : Option A) → ((x : A) → o ≡ Some x → ⊥) → o ≡ None
none_there None off = refl
none_there (Some x) off = absurd (off x refl)

all_there : (P : Entry → Type 0) (entries : List Entry) (e : Entry) → AllByRecursion P entries → In e entries → P e
all_there P [] e h on = absurd on
all_there P (d ∷ entries) e h (inl same) = subst P (sym same) h.0
all_there P (d ∷ entries) e h (inr on) = all_there P entries e h.1 on

all_from : (P : Entry → Type 0) (entries : List Entry) → ((e : Entry) → In e entries → P e) → AllByRecursion P entries
all_from P [] h = tt
all_from P (e ∷ entries) h = (h e (inl refl), all_from P entries (λ d on. h d (inr on)))

pub no_items : (i : ℕ) (is : List ℕ) → is ≡ [] → Contains is i → ⊥
no_items i is e c = let lt = c.1 in absurd (omega (arith, ap length e, lt))

-- an entry that is shown with its list, or with the root of its tree
pub shown_left : (dead key old new : List ℕ) (p : Postings) → p ≡ Inline old → IsLeft old dead new
    → IsEntryLeft dead (record { key = key; postings = p }) (list_entry key new)
shown_left dead key old new p e left =
    subst (λ (q : Postings). IsEntryLeft dead (record { key = key; postings = q }) (list_entry key new)) (sym e)
    (IsEntryLeft.listed key old new left)

pub shown_same : (dead key : List ℕ) (root : ℕ) (p : Postings) → p ≡ Root root
    → IsEntryLeft dead (record { key = key; postings = p }) (record { key = key; postings = p })
shown_same dead key root p e =
    let P : Postings → Entry = λ q. record { key = key; postings = q } in
    subst (λ (q : Postings). IsEntryLeft dead (P q) (P q)) (sym e) (IsEntryLeft.tree key root)

pub root_none : (dead : List ℕ) (root : ℕ) (p : Postings) → p ≡ Root root → HasNone dead (list_in p)
unfolding items_of
root_none dead root p e i c g = no_items i (items_of (list_in p)) (ap (λ (q : Postings). items_of (list_in q)) e) c

-- no item of the page is one of these
abbrev pub NoneListed : List ℕ → Body → Type 0
NoneListed dead content = (i : ℕ) → IsListed content i → Contains dead i → ⊥

pub entries_none : (dead high : List ℕ) (entries : List Entry)
    → HaveNone dead entries ↔ NoneListed dead (body.EntryLeaf high entries)
entries_none dead high entries = (λ h. to h, λ h. from h)
  where
    to : HaveNone dead entries → NoneListed dead (body.EntryLeaf high entries)
    to h i (inl (e, on, c)) g = all_there (λ (d : Entry). HasNone dead (list_in d.postings)) entries e h on i c g
    to h i (inr c) g = no_items i [] refl c

    from : NoneListed dead (body.EntryLeaf high entries) → HaveNone dead entries
    from h = all_from (λ (d : Entry). HasNone dead (list_in d.postings)) entries (λ e on i c. h i (inl (e, on, c)))

pub postings_none : (dead : List ℕ) (high : ℕ) (list : List ℕ)
    → HasNone dead list ↔ NoneListed dead (body.PostLeaf high list)
postings_none dead high list = (λ h. to h, λ h i c. h i (inr c))
  where
    to : HasNone dead list → NoneListed dead (body.PostLeaf high list)
    to h i (inl (e, on, c)) g = absurd on
    to h i (inr c) g = h i c g

-- ---- the leaf that is left has an encoding

same_key : (dead : List ℕ) (e f : Entry) → IsEntryLeft dead e f → e.key ≡ f.key
same_key dead _ _ (IsEntryLeft.listed key old new left) = refl
same_key dead _ _ (IsEntryLeft.tree key root) = refl

entry_left : (dead : List ℕ) (e f : Entry) → IsEntryLeft dead e f → IsEntry e → IsEntry f
entry_left dead _ _ (IsEntryLeft.listed key old new left) is =
    record { key = is.key; postings = (omega (arith, left.short, is.postings.0), left.is_list) }
entry_left dead _ _ (IsEntryLeft.tree key root) is = is

entry_shorter : (dead : List ℕ) (e f : Entry) → IsEntryLeft dead e f → length (entry_bytes f) ≤ length (entry_bytes e)
entry_shorter dead e f (IsEntryLeft.listed key old new left) = omega (
  arith,
  length-entry_bytes e,
  length-entry_bytes f,
  length-inline old,
  length-inline new,
  left.short,
)
entry_shorter dead _ _ (IsEntryLeft.tree key root) = omega arith

pub left_each : (dead : List ℕ) (es fs : List Entry) → AreEntriesLeft dead es fs → AllByRecursion IsEntry es
    → AllByRecursion IsEntry fs
left_each dead [] [] h is = tt
left_each dead [] (f ∷ fs) h is = absurd h
left_each dead (e ∷ es) [] h is = absurd h
left_each dead (e ∷ es) (f ∷ fs) h is = (entry_left dead e f h.0 is.0, left_each dead es fs h.1 is.1)

left_above : (dead key : List ℕ) (es fs : List Entry) → AreEntriesLeft dead es fs
    → AllByRecursion (λ (e : Entry). KeyLess key e.key) es → AllByRecursion (λ (e : Entry). KeyLess key e.key) fs
left_above dead key [] [] h up = tt
left_above dead key [] (f ∷ fs) h up = absurd h
left_above dead key (e ∷ es) [] h up = absurd h
left_above dead key (e ∷ es) (f ∷ fs) h up =
    (subst (KeyLess key) (same_key dead e f h.0) up.0, left_above dead key es fs h.1 up.1)

left_rising : (dead : List ℕ) (es fs : List Entry) → AreEntriesLeft dead es fs
    → Rising (λ (d e : Entry). KeyLess d.key e.key) es → Rising (λ (d e : Entry). KeyLess d.key e.key) fs
left_rising dead [] [] h up = tt
left_rising dead [] (f ∷ fs) h up = absurd h
left_rising dead (e ∷ es) [] h up = absurd h
left_rising dead (e ∷ es) (f ∷ fs) h up = (
  subst (λ (key : List ℕ). AllByRecursion (λ (d : Entry). KeyLess key d.key) fs) (same_key dead e f h.0)
      (left_above dead e.key es fs h.1 up.0),
  left_rising dead es fs h.1 up.1,
)

left_count : (dead : List ℕ) (es fs : List Entry) → AreEntriesLeft dead es fs → length es ≡ length fs
left_count dead [] [] h = refl
left_count dead [] (f ∷ fs) h = absurd h
left_count dead (e ∷ es) [] h = absurd h
left_count dead (e ∷ es) (f ∷ fs) h = ap suc (left_count dead es fs h.1)

left_shorter : (dead : List ℕ) (es fs : List Entry) → AreEntriesLeft dead es fs
    → length (flat_map entry_bytes fs) ≤ length (flat_map entry_bytes es)
left_shorter dead [] [] h = omega arith
left_shorter dead [] (f ∷ fs) h = absurd h
left_shorter dead (e ∷ es) [] h = absurd h
left_shorter dead (e ∷ es) (f ∷ fs) h = omega (
  arith,
  length-append (entry_bytes e) (flat_map entry_bytes es),
  length-append (entry_bytes f) (flat_map entry_bytes fs),
  entry_shorter dead e f h.0,
  left_shorter dead es fs h.1,
)

pub left_page : (p : Page) (dead : List ℕ) (old new : Body) → IsPage p → p.body ≡ old → IsLeafLeft dead old new
    → IsPage (record p { body = new })
left_page p dead _ _ is was (IsLeafLeft.entries high es fs h) =
    let on = subst (IsBody p.right p.stamp) was is.body in
    let size = ap (λ (b : Body). length (body_bytes b)) was in
    record {
      right = is.right;
      stamp = is.stamp;
      body = (
        on.0,
        record {
          each = left_each dead es fs h on.1.each;
          rising = left_rising dead es fs h on.1.rising;
        },
      );
      count = omega (arith, is.count, ap count_of was, left_count dead es fs h);
      fits = omega (
        arith,
        is.fits,
        size,
        length-append (high_key_bytes high) (flat_map entry_bytes es),
        length-append (high_key_bytes high) (flat_map entry_bytes fs),
        left_shorter dead es fs h,
      );
    }
left_page p dead _ _ is was (IsLeafLeft.postings high old new left) =
    page_with p high old new is was left.is_list (omega (
      arith,
      is.fits,
      ap (λ (b : Body). length (body_bytes b)) was,
      length-posting high old,
      length-posting high new,
      left.short,
    ))
