-- Steps of trees at worked pages: each may be shown, and a condition that isn't met refuses.
use Rattle.std.proofs.Common.{◌≡◌, ◌≢◌, ◌⊎◌, ℕ, zero, suc, ◌*◌, ◌<◌, List, [], ◌∷◌, ◌++◌, length, replicate, refl}
use Rattle.std.proofs.Common.{sym, ap, subst, ◌∙◌, inl, inr, arith}
use Rattle.std.specs.Prelude.{Some, None}
use Rattle.std.specs.List.{flat_map}
use Rattle.std.proofs.lemmas.List.{length-append, length-replicate}
use Rattle.ts_base.specs.Keys.{Key}
use Rattle.page_types.specs.Numbers.{u16_bytes, u32_bytes, no_bound}
use Rattle.page_types.specs.Keys.{KeyLess}
use Rattle.page_types.specs.Encoding.{key_field, entry_bytes, post_child_bytes}
use Rattle.page_types.specs.Views.{free_page, entries_of}
use Rattle.page_types.specs.declared.page.Page.{Page}
use Rattle.page_types.specs.declared.page.Entry.{Entry}
use Rattle.page_types.specs.declared.page.EntryChild.{EntryChild}
use Rattle.page_types.specs.declared.page.PostChild.{PostChild}
use Rattle.page_types.specs.declared.page.Postings.TheVariants.{Inline, Root}
use Rattle.page_types.specs.declared.page.Body.{Body}
use Rattle.page_types.specs.declared.page.Body.TheVariants as body
use Rattle.page_types.specs.declared.record.Kind.TheVariants as kind
use Rattle.page_types.proofs.Framing.{length-u16_bytes, length-u32_bytes}
use Rattle.core_state.specs.Log.{Log, Pages, In}
use Rattle.core_state.specs.Known.{use_in}
use Rattle.core_state.specs.TreeRules.{EntryHalves, PostHalves, IsDivided, IsSplitPlace, OneChild, IsRoot}
use Rattle.core_state.specs.Allowed.{Sheet, View, Step}
use Rattle.core_state.specs.Steps.{sheet, IsNewSheet}
use Rattle.core_state.specs.declared.answers.PageUse.TheVariants as usage
use Rattle.core_state.proofs.Worked.{meta_page}
use Rattle.core_maintenance.specs.TreeSteps.{CanSplit, CanGrowRoot, CanMakeTree}

-- a session with the right of maintenance that has seen this log and holds these pages
abbrev worker : Log → List Sheet → View
worker seen held = record {
  seen = seen;
  pin = None;
  floor = 0;
  since = 0;
  from = 0;
  readings = [];
  held = held;
  xids = [];
  begun = [];
  work = Some 0;
}

-- two entries of 2,052 bytes each
abbrev text : ℕ → Key
text byte = 0 ∷ replicate 1046 byte

abbrev ones : List ℕ
ones = replicate 1000 1

abbrev entry : ℕ → Entry
entry byte = record { key = text byte; postings = Inline ones }

bytes_are : (n byte : ℕ) → length (replicate n byte) ≡ n
bytes_are n byte = length-replicate n byte

entry_size : (byte : ℕ) → length (entry_bytes (entry byte)) ≡ 2052
unfolding entry_bytes key_field
entry_size byte = omega (
  arith,
  length-append (u16_bytes (length (text byte)) ++ text byte) (0 ∷ (u16_bytes (length ones) ++ ones)),
  length-append (u16_bytes (length (text byte))) (text byte),
  length-append (u16_bytes (length ones)) ones,
  length-u16_bytes (length (text byte)),
  length-u16_bytes (length ones),
  bytes_are 1046 byte,
  bytes_are 1000 1,
)

none_listed : length (flat_map entry_bytes []) ≡ 0
none_listed = refl

one_listed : (byte : ℕ) → length (flat_map entry_bytes (entry byte ∷ [])) ≡ 2052
one_listed byte = omega (
  arith,
  length-append (entry_bytes (entry byte)) (flat_map entry_bytes []),
  none_listed,
  entry_size byte,
)

both_listed : length (flat_map entry_bytes (entry 97 ∷ entry 98 ∷ [])) ≡ 4104
both_listed = omega (
  arith,
  length-append (entry_bytes (entry 97)) (flat_map entry_bytes (entry 98 ∷ [])),
  entry_size 97,
  one_listed 98,
)

abbrev both : Body
both = body.EntryLeaf [] (entry 97 ∷ entry 98 ∷ [])

abbrev page_with : ℕ → Body → Page
page_with right content = record { right = right; stamp = 8; body = content }

abbrev child : ℕ → Key → EntryChild
child page bound = record { page = page; bound = bound }

abbrev over_two : Page
over_two = page_with 0 (body.EntryInner (child 2 [] ∷ []))

-- a leaf below the root is split; page 3 is the lowest that is free
abbrev before_split : Pages
before_split zero = meta_page
before_split (suc zero) = over_two
before_split (suc (suc zero)) = page_with 0 both
before_split (suc (suc (suc p))) = free_page

used_below : (q : ℕ) → q < 3 → use_in before_split q ≢ usage.Unused
used_below zero lt e = cc
used_below (suc zero) lt e = cc
used_below (suc (suc zero)) lt e = cc
used_below (suc (suc (suc q))) lt e = omega (arith, lt)

abbrev splitting : Log → View
splitting seen = worker seen (sheet 1 over_two ∷ sheet 2 (page_with 0 both) ∷ sheet 3 free_page ∷ [])

abbrev split_step : Step
split_step = record {
  kind = kind.Split;
  xid = 0;
  after = sheet 2 (page_with 3 (body.EntryLeaf (text 97) (entry 97 ∷ [])))
      ∷ sheet 3 (page_with 0 (body.EntryLeaf [] (entry 98 ∷ [])))
      ∷ sheet 1 (page_with 0 (body.EntryInner (child 2 (text 97) ∷ child 3 [] ∷ []))) ∷ [];
}

halves : EntryHalves (text 97) both (body.EntryLeaf (text 97) (entry 97 ∷ [])) (body.EntryLeaf [] (entry 98 ∷ []))
halves = EntryHalves.leaves [] (entry 97 ∷ []) (entry 98 ∷ []) (λ e. cc) (λ e. cc) up above
  where
    up : (e : Entry) → In e (entry 97 ∷ []) → (KeyLess e.key (text 97)) ⊎ (e.key ≡ text 97)
    up e (inl f) = inr (ap (λ (x : Entry). x.key) f)
    up e (inr f) = absurd f

    above : (e : Entry) → In e (entry 98 ∷ []) → KeyLess (text 97) e.key
    above e (inl f) = subst (λ (x : Entry). KeyLess (text 97) x.key) (sym f) refl
    above e (inr f) = absurd f

can_split : (seen : Log) → CanSplit (splitting seen) before_split split_step
can_split seen = record {
  page = 2;
  new = 3;
  parent = 1;
  old = page_with 0 both;
  old_new = free_page;
  old_parent = over_two;
  left = page_with 3 (body.EntryLeaf (text 97) (entry 97 ∷ []));
  right = page_with 0 (body.EntryLeaf [] (entry 98 ∷ []));
  adopted = page_with 0 (body.EntryInner (child 2 (text 97) ∷ child 3 [] ∷ []));
  kind_is = refl;
  after_is = refl;
  held = inr (inl refl);
  held_new = inr (inr (inl refl));
  held_parent = inl refl;
  is_new = IsNewSheet.unused refl used_below;
  large = omega (arith, both_listed);
  divided = IsDivided.in_entries (text 97) halves
      (record { bound = []; front = []; back = []; before = refl; after = refl });
  split_place = IsSplitPlace.half (omega (arith, both_listed, one_listed 97));
  left_link = refl;
  right_link = refl;
  parent_link = refl;
}

-- but not to page 4, below which page 3 is free
abbrev to_four : Log → View
to_four seen = worker seen (sheet 1 over_two ∷ sheet 2 (page_with 0 both) ∷ sheet 4 free_page ∷ [])

not_lowest : (seen : Log) (c : CanSplit (to_four seen) before_split split_step) → c.new ≡ 4 → ⊥
not_lowest seen c four = by c.old_new c.is_new (held_four c.held_new)
  where
    other : (p q : ℕ) (x y : Page) → sheet p x ≡ sheet q y → p ≡ q
    other p q x y e = ap (λ (s : Sheet). s.page) e

    held_four : In (sheet c.new c.old_new) (to_four seen).held → c.old_new ≡ free_page
    held_four (inl e) = absurd (omega (arith, four, other c.new 1 c.old_new over_two e))
    held_four (inr (inl e)) = absurd (omega (arith, four, other c.new 2 c.old_new (page_with 0 both) e))
    held_four (inr (inr (inl e))) = ap (λ (s : Sheet). s.content) e
    held_four (inr (inr (inr e))) = absurd e

    by : (old : Page) → IsNewSheet before_split 0 c.new old → old ≡ free_page → ⊥
    by old (IsNewSheet.unused free low) is = low 3 (omega (arith, four)) refl
    by old (IsNewSheet.deleted g gone le) is = let f = ap (λ (p : Page). p.body) (sym is) ∙ gone in cc

-- the root, with the same entries, grows
abbrev before_growth : Pages
before_growth zero = meta_page
before_growth (suc zero) = page_with 0 both
before_growth (suc (suc p)) = free_page

used_first : (q : ℕ) → q < 2 → use_in before_growth q ≢ usage.Unused
used_first zero lt e = cc
used_first (suc zero) lt e = cc
used_first (suc (suc q)) lt e = omega (arith, lt)

abbrev growth_step : Step
growth_step = record {
  kind = kind.GrowRoot;
  xid = 0;
  after = sheet 1 over_two ∷ sheet 2 (page_with 0 both) ∷ [];
}

can_grow : (seen : Log)
    → CanGrowRoot (worker seen (sheet 1 (page_with 0 both) ∷ sheet 2 free_page ∷ [])) before_growth growth_step
can_grow seen = record {
  root = 1;
  new = 2;
  old = page_with 0 both;
  old_new = free_page;
  inner = over_two;
  moved = page_with 0 both;
  kind_is = refl;
  after_is = refl;
  held = inl refl;
  held_new = inr (inl refl);
  is_new = IsNewSheet.unused refl used_first;
  is_root = IsRoot.of_entries;
  large = omega (arith, both_listed);
  one_child = OneChild.of_leaf [] (entry 97 ∷ entry 98 ∷ []);
  root_link = refl;
  new_link = refl;
  content = refl;
}

-- and a posting tree's root, which an entry names, with 600 children
abbrev named : Page
named = page_with 0 (body.EntryLeaf [] (record { key = text 97; postings = Root 2 } ∷ []))

abbrev posts : ℕ → List PostChild
posts n = replicate n (record { page = 3; bound = 9 })

posts_size : (n : ℕ) → length (flat_map post_child_bytes (posts n)) ≡ n * 8
unfolding post_child_bytes
posts_size zero = refl
posts_size (suc n) = omega (
  arith,
  length-append (u32_bytes 3 ++ u32_bytes 9) (flat_map post_child_bytes (posts n)),
  length-append (u32_bytes 3) (u32_bytes 9),
  length-u32_bytes 3,
  length-u32_bytes 9,
  posts_size n,
)

abbrev six_hundred : Body
six_hundred = body.PostInner (posts 600)

abbrev before_posting : Pages
before_posting zero = meta_page
before_posting (suc zero) = named
before_posting (suc (suc zero)) = page_with 0 six_hundred
before_posting (suc (suc (suc zero))) = page_with 0 (body.PostLeaf 0 [])
before_posting (suc (suc (suc (suc p)))) = free_page

used_with_leaf : (q : ℕ) → q < 4 → use_in before_posting q ≢ usage.Unused
used_with_leaf zero lt e = cc
used_with_leaf (suc zero) lt e = cc
used_with_leaf (suc (suc zero)) lt e = cc
used_with_leaf (suc (suc (suc zero))) lt e = cc
used_with_leaf (suc (suc (suc (suc q)))) lt e = omega (arith, lt)

abbrev over_four : Page
over_four = page_with 0 (body.PostInner (record { page = 4; bound = no_bound } ∷ []))

can_grow_posting : (seen : Log)
    → CanGrowRoot (worker seen (sheet 2 (page_with 0 six_hundred) ∷ sheet 4 free_page ∷ [])) before_posting
    (record {
      kind = kind.GrowRoot;
      xid = 0;
      after = sheet 2 over_four ∷ sheet 4 (page_with 0 six_hundred) ∷ [];
    })
can_grow_posting seen = record {
  root = 2;
  new = 4;
  old = page_with 0 six_hundred;
  old_new = free_page;
  inner = over_four;
  moved = page_with 0 six_hundred;
  kind_is = refl;
  after_is = refl;
  held = inl refl;
  held_new = inr (inl refl);
  is_new = IsNewSheet.unused refl used_with_leaf;
  is_root = IsRoot.of_postings (text 97) (record {
    page = 1;
    entry = record { key = text 97; postings = Root 2 };
    on = inl refl;
    key = refl;
    names = refl;
  });
  large = omega (arith, posts_size 600);
  one_child = OneChild.of_post_inner (posts 600);
  root_link = refl;
  new_link = refl;
  content = refl;
}

-- which are divided then
abbrev grown_posting : Pages
grown_posting zero = meta_page
grown_posting (suc zero) = named
grown_posting (suc (suc zero)) = over_four
grown_posting (suc (suc (suc zero))) = page_with 0 (body.PostLeaf 0 [])
grown_posting (suc (suc (suc (suc zero)))) = page_with 0 six_hundred
grown_posting (suc (suc (suc (suc (suc p))))) = free_page

used_with_child : (q : ℕ) → q < 5 → use_in grown_posting q ≢ usage.Unused
used_with_child zero lt e = cc
used_with_child (suc zero) lt e = cc
used_with_child (suc (suc zero)) lt e = cc
used_with_child (suc (suc (suc zero))) lt e = cc
used_with_child (suc (suc (suc (suc zero)))) lt e = cc
used_with_child (suc (suc (suc (suc (suc q))))) lt e = omega (arith, lt)

abbrev over_both : Page
over_both = page_with 0
    (body.PostInner (record { page = 4; bound = 9 } ∷ record { page = 5; bound = no_bound } ∷ []))

some_posts : (n : ℕ) → posts (suc n) ≢ []
some_posts n e = cc

can_split_posting : (seen : Log)
    → CanSplit (worker seen (sheet 2 over_four ∷ sheet 4 (page_with 0 six_hundred) ∷ sheet 5 free_page ∷ []))
    grown_posting (record {
      kind = kind.Split;
      xid = 0;
      after = sheet 4 (page_with 5 (body.PostInner (posts 300))) ∷ sheet 5 (page_with 0 (body.PostInner (posts 300)))
          ∷ sheet 2 over_both ∷ [];
    })
can_split_posting seen = record {
  page = 4;
  new = 5;
  parent = 2;
  old = page_with 0 six_hundred;
  old_new = free_page;
  old_parent = over_four;
  left = page_with 5 (body.PostInner (posts 300));
  right = page_with 0 (body.PostInner (posts 300));
  adopted = over_both;
  kind_is = refl;
  after_is = refl;
  held = inr (inl refl);
  held_new = inr (inr (inl refl));
  held_parent = inl refl;
  is_new = IsNewSheet.unused refl used_with_child;
  large = omega (arith, posts_size 600);
  divided = IsDivided.in_postings 9
      (PostHalves.inners (record { page = 3; bound = 9 }) (posts 299) (posts 300) (some_posts 299) refl)
      (record { bound = no_bound; front = []; back = []; before = refl; after = refl });
  split_place = IsSplitPlace.half (omega (arith, posts_size 600, posts_size 300));
  left_link = refl;
  right_link = refl;
  parent_link = refl;
}

-- a page that no entry names isn't a root
not_root : IsRoot before_posting 3 → ⊥
not_root r = by 3 r refl
  where
    another : (a b : ℕ) → Root a ≡ Root b → a ≡ b
    another a b e = cc

    none : (p : ℕ) (e : Entry) → In e (entries_of (before_posting p)) → e.postings ≡ Root 3 → ⊥
    none zero e i is = i
    none (suc zero) e (inl f) is = omega (arith, another 2 3 (ap (λ (x : Entry). x.postings) (sym f) ∙ is))
    none (suc zero) e (inr i) is = i
    none (suc (suc zero)) e i is = i
    none (suc (suc (suc zero))) e i is = i
    none (suc (suc (suc (suc p)))) e i is = i

    by : (root : ℕ) → IsRoot before_posting root → root ≡ 3 → ⊥
    by _ IsRoot.of_entries e = omega (arith, e)
    by root (IsRoot.of_postings k n) e = none n.page n.entry n.on (n.names ∙ ap Root e)

-- the list of a key becomes a tree
abbrev listing : Body
listing = body.EntryLeaf [] (entry 97 ∷ record { key = text 98; postings = Inline (128 ∷ 32 ∷ []) } ∷ [])

abbrev naming : Body
naming = body.EntryLeaf [] (entry 97 ∷ record { key = text 98; postings = Root 2 } ∷ [])

abbrev before_tree : Pages
before_tree zero = meta_page
before_tree (suc zero) = page_with 0 listing
before_tree (suc (suc p)) = free_page

used_with_list : (q : ℕ) → q < 2 → use_in before_tree q ≢ usage.Unused
used_with_list zero lt e = cc
used_with_list (suc zero) lt e = cc
used_with_list (suc (suc q)) lt e = omega (arith, lt)

can_make_tree : (seen : Log)
    → CanMakeTree (worker seen (sheet 1 (page_with 0 listing) ∷ sheet 2 free_page ∷ [])) before_tree (record {
      kind = kind.MakeTree;
      xid = 0;
      after = sheet 1 (page_with 0 naming) ∷ sheet 2 (page_with 0 (body.PostLeaf 0 (128 ∷ 32 ∷ []))) ∷ [];
    })
can_make_tree seen = record {
  page = 1;
  new = 2;
  key = text 98;
  high = [];
  items = 128 ∷ 32 ∷ [];
  front = entry 97 ∷ [];
  back = [];
  old = page_with 0 listing;
  old_new = free_page;
  leaf = page_with 0 naming;
  tree = page_with 0 (body.PostLeaf 0 (128 ∷ 32 ∷ []));
  kind_is = refl;
  after_is = refl;
  held = inl refl;
  held_new = inr (inl refl);
  is_new = IsNewSheet.unused refl used_with_list;
  was = refl;
  leaf_link = refl;
  named = refl;
  tree_link = refl;
  content = refl;
}
