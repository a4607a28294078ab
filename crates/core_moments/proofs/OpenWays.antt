-- A walk through the entry tree that is open at its end reads no page twice; its pages stay in the tree, so does the
-- one that is next, and so its reads are few.
use Rattle.std.proofs.Common.{◌≡◌, ◌≢◌, ◌<◌, ◌≤◌, ℕ, List, [], ◌∷◌, ◌++◌, map, length, refl, sym}
use Rattle.std.proofs.Common.{ap, subst, ◌∙◌, inl, inr, arith}
use Rattle.ts_base.specs.Keys.{Key}
use Rattle.page_types.specs.Views.{free_page}
use Rattle.page_types.specs.declared.page.Page.{Page}
use Rattle.page_types.specs.declared.page.Body.TheVariants as body
use Rattle.core_state.specs.Legal.{IsLegal, Pin, Keeps}
use Rattle.core_state.specs.Log.{Log, Pages, In, Shows, cut}
use Rattle.core_state.specs.Readings.{Read, AreReads}
use Rattle.core_state.specs.Trees.TreeNodes.{entry_node}
use Rattle.core_state.specs.Trees.Nodes.TreePlace.{tree}
use Rattle.core_state.specs.Inner.Ghosts.{entry_ghost}
use Rattle.core_state.proofs.Moments.Apart.{Linked}
use Rattle.core_state.proofs.Moments.Links.{Links, BeginsAt, links}
use Rattle.core_state.proofs.Moments.Timeline.{cut_all}
use Rattle.core_state.proofs.PageLists.{in_front, in_back}
use Rattle.core_state.proofs.Showing.{shown_one}
use Rattle.core_state.proofs.Trees.Forward.{LinksTo}
use Rattle.core_state.proofs.Trees.Walk as w
use Rattle.core_moments.specs.Walk.{KeyWalk, LeafRead, Sought, LeadTo, toward, beyond, first_key}
use Rattle.core_moments.specs.Law.{ReadOnce, path_of}
use Rattle.core_moments.specs.OpenWalk.{LeavesLead, IsAmongLeaves, WayLeads, last_length}
use Rattle.core_moments.specs.OpenLaws.{IsLeaf, IsOfTree, AreAllBelow, OpenWay, WaysAreOpen}
use Rattle.core_moments.proofs.Moments.{reads_at}
use Rattle.core_moments.proofs.Once.{once_of, rise, toward_link, beyond_link}
use Rattle.core_moments.proofs.OpenLists.{reads_fewer}
use Rattle.core_moments.proofs.Parts.{reads_back, reads_end}
use Rattle.core_moments.proofs.ReadLists.{last_reads, last_join, reads_then, read_between, leaves_in}
use Rattle.core_moments.proofs.TreeMoments as moments
use Rattle.core_moments.proofs.TreeMoments.{none_or_some}
use Rattle.core_moments.proofs.Views.{tr}
use Rattle.core_moments.proofs.Walks.{Reads, Shown, reads_shown}

-- ── links ──

-- the reads begin at page p, each links to the next, and q is next: 0, or one that the last links to
abbrev Way : ℕ → List Read → ℕ → Type 0
Way p [] q = p ≡ q
Way p (x ∷ xs) q =
    (p ≢ 0) × (x.page ≡ p) × (n : ℕ) × (n ≢ 0 → LinksTo (entry_node x.content) n) × Way n xs q

way_join : (p q r : ℕ) (xs ys : List Read) → Way p xs q → Way q ys r → Way p (xs ++ ys) r
way_join p q r [] ys a b = subst (λ (z : ℕ). Way z ys r) (sym a) b
way_join p q r (x ∷ xs) ys a b = (a.0, a.1, a.2, a.3, way_join a.2 q r xs ys a.4 b)

down_way : (k : Key) (p q : ℕ) (xs : List Read) → p ≢ 0 → LeadTo (toward k) p xs q → Way p xs q
down_way k p q [] off d = d
down_way k p q (x ∷ xs) off d = (
  off,
  d.0,
  toward k x.content,
  (λ n. toward_link k x.content (toward k x.content) refl n),
  down_way k (toward k x.content) q xs d.1 d.2,
)

leaves_way : (Is : ℕ → List Read → Type 0) (s : Sought) (p q : ℕ) (ls : List LeafRead) → LeavesLead Is s p ls q
    → Way p (leaves_in ls) q
leaves_way Is s p q [] d = d
leaves_way Is s p q (l ∷ ls) d = (
  d.0,
  d.1,
  beyond s l.leaf.content,
  (λ n. beyond_link s l.leaf.content (beyond s l.leaf.content) refl n),
  leaves_way Is s (beyond s l.leaf.content) q ls d.3,
)

way_of : (Is : ℕ → List Read → Type 0) (k : KeyWalk) (q : ℕ) → WayLeads Is k q → Way 1 (path_of k) q
way_of Is k q (WayLeads.down d) =
    way_join 1 q q k.down (leaves_in k.leaves)
    (down_way (first_key k.sought) 1 q k.down (λ z. omega (arith, z)) d.down)
    (subst (λ (ls : List LeafRead). Way q (leaves_in ls) q) (sym d.none) refl)
way_of Is k q (WayLeads.along d) =
    way_join 1 k.leaf q k.down (leaves_in k.leaves)
    (down_way (first_key k.sought) 1 k.leaf k.down (λ z. omega (arith, z)) d.come_down.down)
    (leaves_way Is k.sought k.leaf q k.leaves d.leaves)

way_pages : (p q : ℕ) (xs : List Read) → Way p xs q → (x : Read) → In x xs → x.page ≢ 0
way_pages p q [] d x i = absurd i
way_pages p q (y ∷ ys) d x (inl e) = λ z. d.0 (sym d.1 ∙ sym (ap (λ (r : Read). r.page) e) ∙ z)
way_pages p q (y ∷ ys) d x (inr i) = way_pages d.2 q ys d.4 x i

linked : (P : ℕ → Pages) (p q : ℕ) (xs : List Read) → Shown P xs → Way p xs q
    → Linked (λ (t z : ℕ). entry_node (P t z)) (map tr xs)
linked P p q [] s d = tt
linked P p q (x ∷ []) s d = tt
linked P p q (x ∷ y ∷ ys) s d = (
  subst (λ (c : Page). LinksTo (entry_node c) y.page) (sym (s x (inl refl)))
      (subst (λ (z : ℕ). LinksTo (entry_node x.content) z) (sym d.4.1) (d.3 d.4.0)),
  (λ z. d.4.0 (sym d.4.1 ∙ z)),
  linked P d.2 q (y ∷ ys) (λ z i. s z (inr i)) d.4,
)

begins : (p q : ℕ) (xs : List Read) → Way p xs q → BeginsAt p (map tr xs)
begins p q [] d y ys e = absurd (let z : ⊥ = cc in z)
begins p q (x ∷ xs) d y ys e =
    ap (λ (c : w.Read). c.page) (sym (same_head (tr x) y (map tr xs) ys e)) ∙ d.1
  where
    same_head : (a b : w.Read) (cs ds : List w.Read) → a ∷ cs ≡ b ∷ ds → a ≡ b
    same_head a b cs ds h = cc

once_front : (xs ys : List Read) → ReadOnce (xs ++ ys) → ReadOnce xs
once_front [] ys o = tt
once_front (x ∷ xs) ys o = ((λ y i. o.0 y (in_front y xs ys i)), once_front xs ys o.1)

pub once_last : (xs : List Read) (y : Read) → ReadOnce (xs ++ y ∷ []) → (x : Read) → In x xs → x.page ≢ y.page
once_last [] y o x i = absurd i
once_last (z ∷ zs) y o x (inl e) =
    λ f. o.0 y (in_back y zs (y ∷ []) (inl refl)) (sym (ap (λ (r : Read). r.page) e) ∙ f)
once_last (z ∷ zs) y o x (inr i) = once_last zs y o.1 x i

used : (c : Page) → IsOfTree c → c.body ≢ body.Free
used c (inl l) f = let z : body.EntryLeaf l.0 l.1 ≡ body.Free = sym l.2 ∙ f in (let y : ⊥ = cc in y)
used c (inr l) f = let z : body.EntryInner l.0 ≡ body.Free = sym l.1 ∙ f in (let y : ⊥ = cc in y)

-- ── walks from a pin ──

module _ (R : Log) (pin : Pin) (legal : IsLegal R) (keeps : Keeps R pin) where
  abbrev P : ℕ → Pages
  P = moments.P R pin legal keeps

  abbrev OnTree : ℕ → ℕ → Type 0
  OnTree = moments.OnTree R pin legal keeps

  abbrev OnLeaf : ℕ → ℕ → Type 0
  OnLeaf = moments.OnLeaf R pin legal keeps

  shown : (t : ℕ) → pin.length ≤ t → t ≤ length R → Shows (cut t R) (P t)
  shown t a b = (moments.T R pin legal keeps).shown t a b

  L : Links R pin
  L = links R pin legal keeps

  -- no page is read twice
  way_once : (xs : List Read) (q : ℕ) → Way 1 xs q → AreReads R pin.length xs → ReadOnce xs
  way_once xs q d r =
      let at = reads_at R pin.length L.pages L.shown keeps.within xs pin.length (omega arith) keeps.within r in
      once_of xs (L.entries pin.length (map tr xs) (omega arith) (rise L.pages (length R) pin.length xs at)
      (linked L.pages 1 q xs (reads_shown L.pages pin.length (length R) xs at) d) (begins 1 q xs d))

  -- the page is in the tree from a length of the log on, while there is a record
  abbrev Stays : ℕ → ℕ → Type 0
  Stays from p = (t : ℕ) → from ≤ t → 1 ≤ t → t ≤ length R → OnTree t p

  no_link : (c : Page) (n : ℕ) → c ≡ free_page → LinksTo (entry_node c) n → ⊥
  no_link c n e l = subst (λ (z : Page). LinksTo (entry_node z) n) e l

  link_stays : (y : Read) (n : ℕ) → pin.length ≤ y.length → y.length ≤ length R → P y.length y.page ≡ y.content
      → Stays y.length y.page → LinksTo (entry_node y.content) n → n ≢ 0 → Stays y.length n
  link_stays y n since within is on l off t a some b = elim (none_or_some y.length) [
    | inl z ↦ absurd (no_link y.content n
        (sym is ∙ moments.all_free R pin legal keeps y.length y.page since within z) l)
    | inr there ↦ moments.tree_to R pin legal keeps y.length t n since a b
        (moments.tree_link R pin legal keeps y.length y.page since within n (on y.length (omega arith) there within)
        (subst (λ (c : Page). LinksTo (entry_node c) n) (sym is) l) off)
  ]

  -- and so are those that are read
  reads_stay : (from p q : ℕ) (xs : List Read) → pin.length ≤ from → Reads P from (length R) xs → Way p xs q
      → (p ≢ 0 → Stays from p) → (x : Read) → In x xs → Stays x.length x.page
  reads_stay from p q [] since r d on x i = absurd i
  reads_stay from p q (y ∷ ys) since r d on x i =
      let here : Stays y.length y.page = λ t a some b.
      subst (OnTree t) (sym d.1) (on d.0 t (omega (arith, r.0, a)) some b) in
      elim i [
        | inl e ↦ subst (λ (z : Read). Stays z.length z.page) (sym e) here
        | inr j ↦ reads_stay y.length d.2 q ys (omega (arith, since, r.0)) r.2 d.4
            (λ off. link_stays y d.2 (omega (arith, since, r.0)) (reads_end P y.length (length R) ys r.2) r.1 here
            (d.3 off) off) x j
      ]

  reads_here : (xs : List Read) → AreReads R pin.length xs → Reads P pin.length (length R) xs
  reads_here xs r = reads_at R pin.length P shown keeps.within xs pin.length (omega arith) keeps.within r

  way_stays : (xs : List Read) (q : ℕ) → Way 1 xs q → AreReads R pin.length xs → (x : Read) → In x xs
      → Stays x.length x.page
  way_stays xs q d r =
      reads_stay pin.length 1 q xs (omega arith) (reads_here xs r) d
      (λ off t a some b. moments.root_on R pin legal keeps t a some b)

  -- as any pages show it
  of_tree_at : (from p : ℕ) → pin.length ≤ from → Stays from p → (t : ℕ) (Q : Pages) → from ≤ t → 1 ≤ t → t ≤ length R
      → Shows (cut t R) Q → IsOfTree (Q p)
  of_tree_at from p since on t Q a some b is =
      let late : pin.length ≤ t = omega (arith, since, a) in
      subst (λ (S : Pages). IsOfTree (S p)) (shown_one (cut t R) (P t) Q (shown t late b) is)
      (moments.is_of_tree R pin legal keeps t p late b (on t a some b))

  -- ── leaves ──

  abbrev StaysLeaf : ℕ → ℕ → Type 0
  StaysLeaf from p = (t : ℕ) → from ≤ t → 1 ≤ t → t ≤ length R → OnLeaf t p

  leaf_stays : (y : Read) (n : ℕ) → pin.length ≤ y.length → y.length ≤ length R → P y.length y.page ≡ y.content
      → (1 ≤ y.length → (entry_ghost (moments.g R pin legal keeps y.length)).place y.page ≡ tree 1 0)
      → LinksTo (entry_node y.content) n → n ≢ 0 → StaysLeaf y.length n
  leaf_stays y n since within is on l off t a some b = elim (none_or_some y.length) [
    | inl z ↦ absurd (no_link y.content n
        (sym is ∙ moments.all_free R pin legal keeps y.length y.page since within z) l)
    | inr there ↦ moments.leaf_to R pin legal keeps y.length t n since a b
        (moments.leaf_link R pin legal keeps y.length y.page since within n (on there)
        (subst (λ (c : Page). LinksTo (entry_node c) n) (sym is) l) off)
  ]

  -- the page after leaves stays a leaf
  leaves_stay : (Is : ℕ → List Read → Type 0) (s : Sought) (from p q : ℕ) (ls : List LeafRead) → pin.length ≤ from
      → Reads P from (length R) (leaves_in ls) → LeavesLead Is s p ls q → (p ≢ 0 → StaysLeaf from p) → q ≢ 0
      → StaysLeaf (last_length from (leaves_in ls)) q
  leaves_stay Is s from p q [] since r d on off = subst (StaysLeaf from) d (on (λ z. off (sym d ∙ z)))
  leaves_stay Is s from p q (l ∷ ls) since r d on off =
      leaves_stay Is s l.leaf.length (beyond s l.leaf.content) q ls (omega (arith, since, r.0)) r.2 d.3
      (λ some. leaf_stays l.leaf (beyond s l.leaf.content) (omega (arith, since, r.0))
      (reads_end P l.leaf.length (length R) (leaves_in ls) r.2) r.1
      (λ there. subst (λ (z : ℕ). (entry_ghost (moments.g R pin legal keeps l.leaf.length)).place z ≡ tree 1 0)
      (sym d.1)
      (on d.0 l.leaf.length r.0 there (reads_end P l.leaf.length (length R) (leaves_in ls) r.2)).at)
      (beyond_link s l.leaf.content (beyond s l.leaf.content) refl some) some) off

  -- so it does after the key's leaf
  after_leaf : (Is : ℕ → List Read → Type 0) (s : Sought) (k : Key) (from p q : ℕ) (l : LeafRead) (ls : List LeafRead)
      → pin.length ≤ from → Reads P from (length R) (leaves_in (l ∷ ls)) → LeavesLead Is s p (l ∷ ls) q
      → toward k l.leaf.content ≡ 0 → Stays l.leaf.length l.leaf.page → q ≢ 0
      → StaysLeaf (last_length l.leaf.length (leaves_in ls)) q
  after_leaf Is s k from p q l ls since r d is on off =
      let late : pin.length ≤ l.leaf.length = omega (arith, since, r.0) in
      let within = reads_end P l.leaf.length (length R) (leaves_in ls) r.2 in
      leaves_stay Is s l.leaf.length (beyond s l.leaf.content) q ls late r.2 d.3
      (λ some. leaf_stays l.leaf (beyond s l.leaf.content) late within r.1
      (λ there. moments.leaf_here R pin legal keeps l.leaf.length l.leaf.page late within k
      (on l.leaf.length (omega arith) there within) (ap (toward k) r.1 ∙ is))
      (beyond_link s l.leaf.content (beyond s l.leaf.content) refl some) some) off

  leaf_next : (Is : ℕ → List Read → Type 0) (s : Sought) (down : List Read) (p q : ℕ) (ls : List LeafRead)
      → LeadTo (toward (first_key s)) 1 down p → LeavesLead Is s p ls q
      → (l : LeafRead) × (rest : List LeafRead) × (ls ≡ l ∷ rest) × (toward (first_key s) l.leaf.content ≡ 0)
      → AreReads R pin.length (down ++ leaves_in ls) → q ≢ 0
      → StaysLeaf (last_length pin.length (down ++ leaves_in ls)) q
  leaf_next Is s down p q ls lead leaves first r off =
      let l = first.0 in
      let rest = first.1 in
      let r' = subst (λ (zs : List LeafRead). AreReads R pin.length (down ++ leaves_in zs)) first.2 r in
      let lead' = subst (λ (zs : List LeafRead). LeavesLead Is s p zs q) first.2 leaves in
      let path = way_join 1 p q down (leaves_in (l ∷ rest))
      (down_way (first_key s) 1 p down (λ z. omega (arith, z)) lead) (leaves_way Is s p q (l ∷ rest) lead') in
      let at = reads_back P pin.length (length R) down (leaves_in (l ∷ rest)) (reads_here _ r') in
      subst (λ (n : ℕ). StaysLeaf n q)
      (sym (ap (λ (zs : List LeafRead). last_length pin.length (down ++ leaves_in zs)) first.2
      ∙ last_join pin.length down (leaves_in (l ∷ rest))))
      (after_leaf Is s (first_key s) pin.length p q l rest (omega arith) at lead' first.3
      (way_stays (down ++ leaves_in (l ∷ rest)) q path r' l.leaf
      (in_back l.leaf down (leaves_in (l ∷ rest)) (inl refl))) off)

  -- ── the law ──

  module _ (Is : ℕ → List Read → Type 0) (k : KeyWalk) (q : ℕ) (leads : WayLeads Is k q)
      (reads : AreReads R pin.length (path_of k)) where
    path : Way 1 (path_of k) q
    path = way_of Is k q leads

    between : (pin.length ≤ last_length pin.length (path_of k)) × (last_length pin.length (path_of k) ≤ length R)
    between = last_reads R pin.length (path_of k) keeps.within reads

    -- the page that is next, as it lies when the last was read
    abbrev next : Read
    next = record {
      length = last_length pin.length (path_of k);
      page = q;
      content = P (last_length pin.length (path_of k)) q;
    }

    abbrev more : List Read
    more = path_of k ++ next ∷ []

    more_path : q ≢ 0 → Way 1 more 0
    more_path off = way_join 1 q 0 (path_of k) (next ∷ []) path (off, refl, 0, (λ z. absurd (z refl)), refl)

    more_reads : AreReads R pin.length more
    more_reads = reads_then R pin.length (path_of k) next reads (omega arith) between.1
        (P next.length, shown next.length between.0 between.1, refl)

    new : q ≢ 0 → (x : Read) → In x (path_of k) → x.page ≢ q
    new off = once_last (path_of k) next (way_once more 0 (more_path off) more_reads)

    next_stays : q ≢ 0 → Stays next.length q
    next_stays off = way_stays more 0 (more_path off) more_reads next (in_back next (path_of k) (next ∷ []) (inl refl))

    since : (x : Read) → In x (path_of k) → pin.length ≤ x.length
    since x i = (read_between R pin.length (path_of k) reads x i).0

    leaf_is : IsAmongLeaves Is k q → q ≢ 0 → (t : ℕ) (Q : Pages)
        → last_length pin.length (path_of k) ≤ t → 1 ≤ t → t ≤ length R → Shows (cut t R) Q → IsLeaf (Q q)
    leaf_is along off t Q a some b is =
        let late : pin.length ≤ t = omega (arith, between.0, a) in
        subst (λ (S : Pages). IsLeaf (S q)) (shown_one (cut t R) (P t) Q (shown t late b) is)
        (moments.is_leaf R pin legal keeps t q late b
        (leaf_next Is k.sought k.down k.leaf q k.leaves along.come_down.down along.leaves along.come_down.at_leaf reads
        off t a some b).at)

    few : R ≢ [] → (Q : Pages) (n : ℕ) → Shows R Q → AreAllBelow Q n → length (path_of k) < n
    few some Q n is below =
        let there : 1 ≤ length R = long R some in
        let now : Shows (cut (length R) R) Q = subst (λ (S : Log). Shows S Q) (sym (cut_all R (length R) refl)) is in
        let all : (p from : ℕ) → pin.length ≤ from → from ≤ length R → Stays from p → p < n =
        (λ p from low high on.
        below p (used (Q p) (of_tree_at from p low on (length R) Q high there (omega arith) now))) in
        reads_fewer n (path_of k)
        (let one = all 1 pin.length (omega arith) keeps.within
        (λ t a s b. moments.root_on R pin legal keeps t a s b) in omega (arith, one))
        (way_once (path_of k) q path reads)
        (λ x i. (
          way_pages 1 q (path_of k) path x i,
          all x.page x.length (since x i) (read_between R pin.length (path_of k) reads x i).1
              (way_stays (path_of k) q path reads x i),
        ))
      where
        long : (S : Log) → S ≢ [] → 1 ≤ length S
        long [] off = absurd (off refl)
        long (r ∷ S) off = omega arith

    open_way : OpenWay R pin.length Is k q
    open_way = record {
      once = way_once (path_of k) q path reads;
      next_new = new;
      next_is = λ off t Q a some b is. of_tree_at next.length q between.0 (next_stays off) t Q a some b is;
      next_leaf = leaf_is;
      stay = λ x i t Q a some b is.
          of_tree_at x.length x.page (since x i) (way_stays (path_of k) q path reads x i) t Q a some b is;
      fewer = few;
    }

pub ways_open : (Is : ℕ → List Read → Type 0) → WaysAreOpen Is
ways_open Is R pin k q legal keeps leads reads = open_way R pin legal keeps Is k q leads reads
