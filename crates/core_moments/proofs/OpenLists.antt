-- A walk along the pending list reads no page twice, also where it is open at its end; so its reads are few.
use Rattle.std.proofs.Common.{◌≡◌, ◌≢◌, ◌<◌, ◌≤◌, ℕ, List, [], ◌∷◌, ◌++◌, map, length, refl, sym, ap, subst}
use Rattle.std.proofs.Common.{◌∙◌, inl, inr, arith, append_assoc}
use Rattle.std.proofs.lemmas.List.{length-map}
use Rattle.page_types.specs.Numbers.{page_limit}
use Rattle.page_types.specs.Pages.{IsPage, IsBody}
use Rattle.page_types.specs.Views.{first_in, first_of}
use Rattle.page_types.specs.declared.page.Page.{Page}
use Rattle.page_types.specs.declared.page.Body.{Body}
use Rattle.page_types.specs.declared.page.Body.TheVariants as body
use Rattle.page_types.specs.declared.page.Gone.TheVariants as gone
use Rattle.core_state.specs.Log.{Log, Pages, In, Shows, cut}
use Rattle.core_state.specs.Legal.{IsLegal, Pin, Keeps}
use Rattle.core_state.specs.Readings.{Read, WasShown, AreReads}
use Rattle.core_state.proofs.ChainLengths.{few_below}
use Rattle.core_state.proofs.ChangedPages.{IsChangedBy, changed_then}
use Rattle.core_state.proofs.Moments.Links.{IsListPage, OpenLine, Links, links}
use Rattle.core_state.proofs.PageLists.{in_front, in_back}
use Rattle.core_state.proofs.Showing.{shown_one}
use Rattle.core_state.proofs.Trees.Behind.{Once}
use Rattle.core_state.proofs.Trees.PendWalk as pend
use Rattle.core_state.proofs.Trees.Walk.{Rising}
use Rattle.core_moments.specs.Law.{ReadOnce}
use Rattle.core_moments.specs.OpenWalk.{LeadOn, last_length}
use Rattle.core_moments.specs.Walk.{Follows, rightward}
use Rattle.core_moments.proofs.Moments.{reads_at}
use Rattle.core_moments.proofs.Once.{once_pages, chain_once, rise}
use Rattle.core_moments.proofs.Views.{tr}
use Rattle.core_moments.proofs.Walks.{Reads}

-- ── lists of reads ──

-- a walk up to its end is one where none is next
pub lead_on : (next : Page → ℕ) (p : ℕ) (xs : List Read) → Follows next p xs → LeadOn next p xs 0
lead_on next p [] f = f
lead_on next p (x ∷ xs) f = (f.0, f.1, lead_on next (next x.content) xs f.2)

pub followed : (next : Page → ℕ) (p : ℕ) (xs : List Read) → LeadOn next p xs 0 → Follows next p xs
followed next p [] f = f
followed next p (x ∷ xs) f = (f.0, f.1, followed next (next x.content) xs f.2)

pub first_reads : (R : Log) (from : ℕ) (xs ys : List Read) → AreReads R from (xs ++ ys) → AreReads R from xs
first_reads R from [] ys r = tt
first_reads R from (x ∷ xs) ys r = (r.0, r.1, r.2, first_reads R x.length xs ys r.3)

pub once_front : (xs ys : List ℕ) → Once (xs ++ ys) → Once xs
once_front [] ys o = tt
once_front (x ∷ xs) ys o = ((λ i. o.0 (in_front x xs ys i)), once_front xs ys o.1)

abbrev pub pages_in : List Read → List ℕ
pages_in xs = map (λ (x : Read). x.page) xs

in_pages : (p : ℕ) (xs : List Read) → In p (pages_in xs) → (x : Read) × In x xs × (p ≡ x.page)
in_pages p [] i = absurd i
in_pages p (x ∷ xs) (inl e) = (x, inl refl, e)
in_pages p (x ∷ xs) (inr i) = let r = in_pages p xs i in (r.0, inr r.1, r.2)

pages_once : (xs : List Read) → ReadOnce xs → Once (pages_in xs)
pages_once [] o = tt
pages_once (x ∷ xs) o = (
  λ i. let r = in_pages x.page xs i in o.0 r.0 r.1 r.2,
  pages_once xs o.1,
)

-- pages that are below n, and none read twice, are n at most
pub reads_few : (n : ℕ) (xs : List Read) → ReadOnce xs → ((x : Read) → In x xs → x.page < n) → length xs ≤ n
reads_few n xs once below =
    let few = few_below n (pages_in xs) (pages_once xs once)
    (λ p i. let r = in_pages p xs i in omega (arith, r.2, below r.0 r.1)) in
    omega (arith, few, length-map xs (λ (x : Read). x.page))

-- and fewer, where page 0 isn't read
pub reads_fewer : (n : ℕ) (xs : List Read) → 0 < n → ReadOnce xs
    → ((x : Read) → In x xs → (x.page ≢ 0) × (x.page < n)) → length xs < n
reads_fewer n xs some once each =
    let few = few_below n (0 ∷ pages_in xs)
    ((λ i. let r = in_pages 0 xs i in (each r.0 r.1).0 (sym r.2)), pages_once xs once)
    (λ p i. elim i [
      | inl e ↦ omega (arith, e, some)
      | inr j ↦ let r = in_pages p xs j in omega (arith, r.2, (each r.0 r.1).1)
    ]) in
    omega (arith, few, length-map xs (λ (x : Read). x.page))

-- ── pages as they were read ──

pub was_shown : (R : Log) (from : ℕ) (xs : List Read) → AreReads R from xs → (x : Read) → In x xs → WasShown R x
was_shown R from [] r x i = absurd i
was_shown R from (y ∷ ys) r x (inl e) = subst (WasShown R) (sym e) r.2
was_shown R from (y ∷ ys) r x (inr i) = was_shown R y.length ys r.3 x i

pub read_page : (R : Log) (x : Read) → WasShown R x → IsPage x.content
read_page R x s = subst IsPage s.2 (s.1 x.page).0

first_below : (c : Page) → IsPage c → first_of c < page_limit
first_below c is = by c.body is.body
  where
    by : (b : Body) → IsBody c.right c.stamp b → first_in b < page_limit
    by (body.Meta first last pages) i = i.first_page
    by _ i = omega arith

-- a walk along right links reads pages that a store may have
pub walk_pages : (R : Log) (from p : ℕ) (xs : List Read) (q : ℕ) → p < page_limit → AreReads R from xs
    → LeadOn rightward p xs q → (x : Read) → In x xs → (x.page ≢ 0) × (x.page < page_limit)
walk_pages R from p [] q low r d x i = absurd i
walk_pages R from p (y ∷ ys) q low r d x (inl e) =
    let page : x.page ≡ p = ap (λ (z : Read). z.page) e ∙ d.1 in
    ((λ z. d.0 (sym page ∙ z)), omega (arith, page, low))
walk_pages R from p (y ∷ ys) q low r d x (inr i) =
    walk_pages R y.length (rightward y.content) ys q (read_page R y r.2).right r.3 d.2 x i

pub last_same : (t : ℕ) (xs : List Read) → pend.last_time t (map tr xs) ≡ last_length t xs
last_same t [] = refl
last_same t (x ∷ xs) = last_same x.length xs

-- a page that was read after others
pub read_behind : (R : Log) (from : ℕ) (front : List Read) (x : Read) (back : List Read)
    → AreReads R from (front ++ x ∷ back)
    → (last_length from front ≤ x.length) × (x.length ≤ length R) × WasShown R x
read_behind R from [] x back r = (r.0, r.1, r.2)
read_behind R from (y ∷ ys) x back r = read_behind R y.length ys x back r.3

pub lead_front : (next : Page → ℕ) (p : ℕ) (front : List Read) (x : Read) (back : List Read) (q : ℕ)
    → LeadOn next p (front ++ x ∷ back) q → LeadOn next p front x.page × (x.page ≢ 0)
lead_front next p [] x back q d = (sym d.1, λ e. d.0 (sym d.1 ∙ e))
lead_front next p (y ∷ ys) x back q d =
    let f = lead_front next (next y.content) ys x back q d.2 in ((d.0, d.1, f.0), f.1)

once_apart : (p : ℕ) (xs ys : List ℕ) → Once (xs ++ ys) → In p xs → In p ys → ⊥
once_apart p [] ys o i j = i
once_apart p (x ∷ xs) ys o (inl e) j = o.0 (in_back x xs ys (subst (λ (z : ℕ). In z ys) e j))
once_apart p (x ∷ xs) ys o (inr i) j = once_apart p xs ys o.1 i j

on_pages : (x : Read) (xs : List Read) → In x xs → In x.page (pend.pages (map tr xs))
on_pages x [] i = i
on_pages x (y ∷ ys) (inl e) = inl (ap (λ (z : Read). z.page) e)
on_pages x (y ∷ ys) (inr i) = inr (on_pages x ys i)

pub not_free : (p : Page) → IsListPage p → p.body ≢ body.Free
not_free p (rows, inl e) f = let z : body.Pending rows ≡ body.Free = sym e ∙ f in (let y : ⊥ = cc in y)
not_free p (rows, inr e) f =
    let z : body.Deleted (gone.Pending rows) ≡ body.Free = sym e ∙ f in (let y : ⊥ = cc in y)

-- as the pages of the moments show them
pub as_moments : (P : ℕ → Pages) (end s p : ℕ) (xs : List Read) (q : ℕ) → Reads P s end xs → LeadOn rightward p xs q
    → pend.Leads (λ t z. (P t z).right) p (map tr xs) q
as_moments P end s p [] q r d = d
as_moments P end s p (x ∷ xs) q r d = (
  d.0,
  d.1,
  subst (λ (z : ℕ). pend.Leads (λ t c. (P t c).right) z (map tr xs) q) (ap (λ (c : Page). c.right) (sym r.1))
      (as_moments P end x.length (rightward x.content) xs q r.2 d.2),
)

-- ── along the pending list from a pin ──

module _ (R : Log) (pin : Pin) (meta : Read) (pending : List Read) (q : ℕ) (legal : IsLegal R)
    (keeps : Keeps R pin) (meta_page : meta.page ≡ 0) (leads : LeadOn rightward (first_of meta.content) pending q)
    (reads : AreReads R pin.length (meta ∷ pending)) where
  L : Links R pin
  L = links R pin legal keeps

  abbrev P : ℕ → Pages
  P = L.pages

  since : pin.length ≤ meta.length
  since = reads.0

  within : meta.length ≤ length R
  within = reads.1

  all_reads : Reads P meta.length (length R) (meta ∷ pending)
  all_reads = reads_at R meta.length P (λ t a b. L.shown t (omega (arith, since, a)) b) within
      (meta ∷ pending) meta.length (omega arith) within (omega arith, reads.1, reads.2, reads.3)

  meta_is : P meta.length 0 ≡ meta.content
  meta_is = subst (λ (p : ℕ). P meta.length p ≡ meta.content) meta_page all_reads.1

  rises : Rising meta.length (length R) (map tr pending)
  rises = rise P (length R) meta.length pending all_reads.2

  line : OpenLine R L.pages meta.length (map tr pending) q
  line = L.line meta.length (map tr pending) q since within rises
      (subst (λ (p : ℕ). pend.Leads (λ t z. (P t z).right) p (map tr pending) q) (ap first_of (sym meta_is))
      (as_moments P (length R) meta.length (first_of meta.content) pending q all_reads.2 leads))

  all_once : Once (pend.pages (map tr pending) ++ line.more)
  all_once = chain_once (λ z. (P (pend.last_time meta.length (map tr pending)) z).right) (first_of (P meta.length 0))
      (pend.pages (map tr pending) ++ line.more) line.whole

  -- no page is read twice
  pub list_once : ReadOnce pending
  list_once = once_pages pending (once_front (pend.pages (map tr pending)) line.more all_once)

  -- nor was the page that is next
  pub next_new : q ≢ 0 → (x : Read) → In x pending → x.page ≢ q
  next_new off x i e =
      once_apart q (pend.pages (map tr pending)) line.more all_once
      (subst (λ (p : ℕ). In p (pend.pages (map tr pending))) e (on_pages x pending i)) (first line.more line.next)
    where
      first : (qs : List ℕ) → pend.IsChain (λ z. (P (pend.last_time meta.length (map tr pending)) z).right) q qs
          → In q qs
      first [] c = absurd (off c)
      first (p ∷ ps) c = inl c.0

  -- which has rows from then on, of the list or as it was when it was deleted
  pub next_is : q ≢ 0 → (t : ℕ) (Q : Pages) → last_length meta.length pending ≤ t → t ≤ length R → Shows (cut t R) Q
      → IsListPage (Q q)
  next_is off t Q low high shown =
      let between = pend.last_between meta.length (length R) (map tr pending) rises in
      let same = last_same meta.length pending in
      subst (λ (S : Pages). IsListPage (S q))
      (shown_one (cut t R) (P t) Q (L.shown t (omega (arith, since, between.0, same, low)) high) shown)
      (line.stays_on off t (omega (arith, same, low)) high)

  -- and a record has changed it
  pub next_changed : q ≢ 0 → IsChangedBy R q
  next_changed off =
      let between = pend.last_between meta.length (length R) (map tr pending) rises in
      let same = last_same meta.length pending in
      changed_then R (length R) (P (length R)) q legal.valid (L.shown (length R) keeps.within (omega arith))
      (not_free (P (length R) q)
      (next_is off (length R) (P (length R)) (omega (arith, between.1, same)) (omega arith)
      (L.shown (length R) keeps.within (omega arith))))

  -- each page that was read is one that a store may have, and not the metapage
  pub list_pages : (x : Read) → In x pending → (x.page ≢ 0) × (x.page < page_limit)
  list_pages =
      walk_pages R meta.length (first_of meta.content) pending q
      (first_below meta.content (read_page R meta reads.2)) reads.3 leads

  -- so they are fewer than a number that all are below
  pub list_fewer : (n : ℕ) → 0 < n → ((x : Read) → In x pending → x.page < n) → length pending < n
  list_fewer n some below = reads_fewer n pending some list_once (λ x i. ((list_pages x i).0, below x i))

  pub list_short : length pending < page_limit
  list_short = list_fewer page_limit (omega arith) (λ x i. (list_pages x i).1)

module _ (R : Log) (pin : Pin) (meta : Read) (q : ℕ) (legal : IsLegal R) (keeps : Keeps R pin)
    (meta_page : meta.page ≡ 0) where
  is_behind : (front back : List Read) → LeadOn rightward (first_of meta.content) (front ++ back) q
      → AreReads R pin.length (meta ∷ (front ++ back)) → (x : Read) → In x back → IsListPage x.content
  is_behind front [] leads reads x i = absurd i
  is_behind front (y ∷ ys) leads reads x (inl e) =
      let f = lead_front rightward (first_of meta.content) front y ys q leads in
      let b = read_behind R pin.length (meta ∷ front) y ys reads in
      let was = b.2 in
      subst IsListPage (was.2 ∙ ap (λ (z : Read). z.content) (sym e))
      (next_is R pin meta front y.page legal keeps meta_page f.0
      (first_reads R pin.length (meta ∷ front) (y ∷ ys) reads) f.1 y.length was.0 b.0 b.1 was.1)
  is_behind front (y ∷ ys) leads reads x (inr i) =
      let same = sym (append_assoc front (y ∷ []) ys) in
      is_behind (front ++ y ∷ []) ys
      (subst (λ (zs : List Read). LeadOn rightward (first_of meta.content) zs q) same leads)
      (subst (λ (zs : List Read). AreReads R pin.length (meta ∷ zs)) same reads) x i

  module _ (pending : List Read) (leads : LeadOn rightward (first_of meta.content) pending q)
      (reads : AreReads R pin.length (meta ∷ pending)) (x : Read) (on : In x pending) where
    -- a page that was read has rows
    pub list_is : IsListPage x.content
    list_is = is_behind [] pending leads reads x on

    -- and a record has changed it
    pub list_changed : IsChangedBy R x.page
    list_changed =
        let was = was_shown R meta.length pending reads.3 x on in
        changed_then R x.length was.0 x.page legal.valid was.1
        (not_free (was.0 x.page) (subst IsListPage (sym was.2) list_is))
