-- Reads of a posting tree, which an entry of a leaf named, read no page twice; its pages stay in the tree, or are
-- deleted from it, so does the one that is next, and so its reads are few.
use Rattle.std.proofs.Common.{◌≡◌, ◌≢◌, ◌<◌, ◌≤◌, ℕ, List, [], ◌∷◌, ◌++◌, map, length, refl, sym}
use Rattle.std.proofs.Common.{ap, subst, ◌∙◌, inl, inr, arith}
use Rattle.page_types.specs.Views.{entries_of}
use Rattle.page_types.specs.declared.page.Page.{Page}
use Rattle.page_types.specs.declared.page.Entry.{Entry}
use Rattle.page_types.specs.declared.page.Postings.TheVariants.{Root}
use Rattle.page_types.specs.declared.page.Body.TheVariants as body
use Rattle.page_types.specs.declared.page.Gone.TheVariants as gone
use Rattle.core_state.specs.Legal.{IsLegal, Pin, Keeps}
use Rattle.core_state.specs.Log.{Log, Pages, In, Shows, cut}
use Rattle.core_state.specs.Readings.{Read, AreReads}
use Rattle.core_state.specs.Trees.TreeNodes.{post_node}
use Rattle.core_state.proofs.Moments.Apart.{Linked}
use Rattle.core_state.proofs.Moments.Links.{Links, BeginsAt, links}
use Rattle.core_state.proofs.Moments.Timeline.{cut_all}
use Rattle.core_state.proofs.PageLists.{in_back}
use Rattle.core_state.proofs.Showing.{shown_one}
use Rattle.core_state.proofs.Trees.Forward.{LinksTo}
use Rattle.core_state.proofs.Trees.Walk as w
use Rattle.core_moments.specs.Walk.{along}
use Rattle.core_moments.specs.Law.{ReadOnce}
use Rattle.core_moments.specs.OpenWalk.{LeadOn, last_length}
use Rattle.core_moments.specs.OpenLaws.{IsPostingPage, AreAllBelow, OpenTree, TreesAreOpen}
use Rattle.core_moments.proofs.Moments.{reads_at}
use Rattle.core_moments.proofs.Once.{once_of, rise, along_link}
use Rattle.core_moments.proofs.OpenLists.{reads_fewer}
use Rattle.core_moments.proofs.OpenWays.{once_last}
use Rattle.core_moments.proofs.Parts.{reads_end}
use Rattle.core_moments.proofs.PostMoments as moments
use Rattle.core_moments.proofs.ReadLists.{last_reads, reads_then, read_between}
use Rattle.core_moments.proofs.Views.{tr}
use Rattle.core_moments.proofs.Walks.{Reads, Shown, reads_shown}

-- ── chains ──

-- a page more was read
pub lead_then : (next : Page → ℕ) (p q : ℕ) (xs : List Read) (y : Read) → LeadOn next p xs q → q ≢ 0 → y.page ≡ q
    → LeadOn next p (xs ++ y ∷ []) (next y.content)
lead_then next p q [] y d off at = ((λ z. off (sym d ∙ z)), at ∙ sym d, refl)
lead_then next p q (x ∷ xs) y d off at = (d.0, d.1, lead_then next (next x.content) q xs y d.2 off at)

lead_pages : (next : Page → ℕ) (p q : ℕ) (xs : List Read) → LeadOn next p xs q → (x : Read) → In x xs → x.page ≢ 0
lead_pages next p q [] d x i = absurd i
lead_pages next p q (y ∷ ys) d x (inl e) = λ z. d.0 (sym d.1 ∙ sym (ap (λ (r : Read). r.page) e) ∙ z)
lead_pages next p q (y ∷ ys) d x (inr i) = lead_pages next (next y.content) q ys d.2 x i

linked : (P : ℕ → Pages) (p q : ℕ) (xs : List Read) → Shown P xs → LeadOn along p xs q
    → Linked (λ (t z : ℕ). post_node (P t z)) (map tr xs)
linked P p q [] s d = tt
linked P p q (x ∷ []) s d = tt
linked P p q (x ∷ y ∷ ys) s d = (
  subst (λ (c : Page). LinksTo (post_node c) y.page) (sym (s x (inl refl)))
      (along_link x.content y.page d.2.1 (λ z. d.2.0 (sym d.2.1 ∙ z))),
  (λ z. d.2.0 (sym d.2.1 ∙ z)),
  linked P (along x.content) q (y ∷ ys) (λ z i. s z (inr i)) d.2,
)

begins : (r q : ℕ) (xs : List Read) → LeadOn along r xs q → BeginsAt r (map tr xs)
begins r q [] d y ys e = absurd (let z : ⊥ = cc in z)
begins r q (x ∷ xs) d y ys e = ap (λ (c : w.Read). c.page) (sym (same_head (tr x) y (map tr xs) ys e)) ∙ d.1
  where
    same_head : (a b : w.Read) (cs ds : List w.Read) → a ∷ cs ≡ b ∷ ds → a ≡ b
    same_head a b cs ds h = cc

used : (c : Page) → IsPostingPage c → c.body ≢ body.Free
used c (inl (high, items, inl e)) f =
    let z : body.PostLeaf high items ≡ body.Free = sym e ∙ f in (let y : ⊥ = cc in y)
used c (inl (high, items, inr e)) f =
    let z : body.Deleted (gone.PostLeaf high items) ≡ body.Free = sym e ∙ f in (let y : ⊥ = cc in y)
used c (inr l) f = let z : body.PostInner l.0 ≡ body.Free = sym l.1 ∙ f in (let y : ⊥ = cc in y)

-- ── trees that were read since a pin ──

module _ (R : Log) (pin : Pin) (leaf : Read) (e : Entry) (r : ℕ) (legal : IsLegal R) (keeps : Keeps R pin)
    (named : In e (entries_of leaf.content)) (root : e.postings ≡ Root r) where
  abbrev P : ℕ → Pages
  P = moments.P R pin legal keeps

  abbrev InTree : ℕ → ℕ → ℕ → Type 0
  InTree = moments.InTree R pin legal keeps

  shown : (t : ℕ) → pin.length ≤ t → t ≤ length R → Shows (cut t R) (P t)
  shown t a b = (moments.T R pin legal keeps).shown t a b

  L : Links R pin
  L = links R pin legal keeps

  module _ (xs : List Read) (q : ℕ) (leads : LeadOn along r xs q) (reads : AreReads R pin.length (leaf ∷ xs)) where
    -- no page is read twice
    tree_once : ReadOnce xs
    tree_once =
        let all = reads_at R pin.length L.pages L.shown keeps.within (leaf ∷ xs) pin.length (omega arith) keeps.within
        reads in
        once_of xs (L.posts leaf.length leaf.page e r (map tr xs) reads.0 reads.1
        (subst (λ (c : Page). In e (entries_of c)) (sym all.1) named) root
        (rise L.pages (length R) leaf.length xs all.2)
        (linked L.pages r q xs (reads_shown L.pages leaf.length (length R) xs all.2) leads) (begins r q xs leads))

    here : Reads P pin.length (length R) (leaf ∷ xs)
    here = reads_at R pin.length P shown keeps.within (leaf ∷ xs) pin.length (omega arith) keeps.within reads

    root_there : InTree leaf.length r r
    root_there = moments.root_in R pin legal keeps leaf.length leaf.page r e reads.0 reads.1
        (subst (λ (c : Page). In e (entries_of c)) (sym here.1) named) root

    -- its pages are in the tree
    reads_in : (from p n : ℕ) (ys : List Read) → pin.length ≤ from → Reads P from (length R) ys → LeadOn along p ys n
        → (p ≢ 0 → InTree from r p) → (x : Read) → In x ys → InTree x.length r x.page
    reads_in from p n [] since s d on x i = absurd i
    reads_in from p n (y ∷ ys) since s d on x i =
        let late : pin.length ≤ y.length = omega (arith, since, s.0) in
        let within = reads_end P y.length (length R) ys s.2 in
        let now : InTree y.length r y.page = subst (InTree y.length r) (sym d.1)
        (moments.in_to R pin legal keeps from y.length r p since s.0 within (on d.0)) in
        elim i [
          | inl f ↦ subst (λ (z : Read). InTree z.length r z.page) (sym f) now
          | inr j ↦ reads_in y.length (along y.content) n ys late s.2 d.2
              (λ off. moments.post_link R pin legal keeps y.length r y.page late within (along y.content) now
              (subst (λ (c : Page). LinksTo (post_node c) (along y.content)) (sym s.1)
              (along_link y.content (along y.content) refl off)) off) x j
        ]

    all_in : (x : Read) → In x xs → InTree x.length r x.page
    all_in = reads_in leaf.length r q xs reads.0 here.2 leads (λ off. root_there)

    -- as any pages show it
    posting_at : (from p : ℕ) → pin.length ≤ from → InTree from r p → (n : ℕ) (Q : Pages) → from ≤ n → n ≤ length R
        → Shows (cut n R) Q → IsPostingPage (Q p)
    posting_at from p since on n Q a b is =
        let late : pin.length ≤ n = omega (arith, since, a) in
        subst (λ (S : Pages). IsPostingPage (S p)) (shown_one (cut n R) (P n) Q (shown n late b) is)
        (moments.is_posting R pin legal keeps n r p late b (moments.in_to R pin legal keeps from n r p since a b on))

    since_pin : (x : Read) → In x xs → (pin.length ≤ x.length) × (x.length ≤ length R)
    since_pin x i =
        let b = read_between R leaf.length xs reads.3 x i in (omega (arith, reads.0, b.0), b.1)

    stays : (x : Read) → In x xs → (n : ℕ) (Q : Pages) → x.length ≤ n → n ≤ length R → Shows (cut n R) Q
        → IsPostingPage (Q x.page)
    stays x i = posting_at x.length x.page (since_pin x i).0 (all_in x i)

    few : (Q : Pages) (n : ℕ) → Shows R Q → AreAllBelow Q n → length xs < n
    few Q n is below =
        let now : Shows (cut (length R) R) Q = subst (λ (S : Log). Shows S Q) (sym (cut_all R (length R) refl)) is in
        let first : r < n = below r (used (Q r)
        (posting_at leaf.length r reads.0 root_there (length R) Q reads.1 (omega arith) now)) in
        reads_fewer n xs (omega (arith, first)) tree_once
        (λ x i. (
          lead_pages along r q xs leads x i,
          below x.page (used (Q x.page) (stays x i (length R) Q (since_pin x i).1 (omega arith) now)),
        ))

  module _ (xs : List Read) (q : ℕ) (leads : LeadOn along r xs q) (reads : AreReads R pin.length (leaf ∷ xs)) where
    between : (leaf.length ≤ last_length leaf.length xs) × (last_length leaf.length xs ≤ length R)
    between = last_reads R leaf.length xs reads.1 reads.3

    -- the page that is next, as it lies when the last was read
    abbrev next : Read
    next = record {
      length = last_length leaf.length xs;
      page = q;
      content = P (last_length leaf.length xs) q;
    }

    abbrev more : List Read
    more = xs ++ next ∷ []

    more_leads : q ≢ 0 → LeadOn along r more (along next.content)
    more_leads off = lead_then along r q xs next leads off refl

    more_reads : AreReads R pin.length (leaf ∷ more)
    more_reads = (
      reads.0,
      reads.1,
      reads.2,
      reads_then R leaf.length xs next reads.3 (omega arith) between.1
          (P next.length, shown next.length (omega (arith, reads.0, between.0)) between.1, refl),
    )

    new : q ≢ 0 → (x : Read) → In x xs → x.page ≢ q
    new off = once_last xs next (tree_once more (along next.content) (more_leads off) more_reads)

    next_is : q ≢ 0 → (n : ℕ) (Q : Pages) → last_length leaf.length xs ≤ n → n ≤ length R → Shows (cut n R) Q
        → IsPostingPage (Q q)
    next_is off = stays more (along next.content) (more_leads off) more_reads next (in_back next xs (next ∷ [])
        (inl refl))

    open_tree : OpenTree R leaf xs q
    open_tree = record {
      once = tree_once xs q leads reads;
      next_new = new;
      next_is = next_is;
      stay = stays xs q leads reads;
      fewer = few xs q leads reads;
    }

pub trees_open : TreesAreOpen
trees_open R pin leaf e r t q legal keeps named root leads reads =
    open_tree R pin leaf e r legal keeps named root t q leads reads
