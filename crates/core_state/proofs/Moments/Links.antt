-- Over the moments past a pin a walk along links reads no page twice.
use Rattle.std.proofs.Common.{◌≡◌, ◌≢◌, ◌⊎◌, ◌<◌, ◌≤◌, ◌+◌, ◌-◌, ℕ, zero, suc, List, [], ◌∷◌, ◌++◌, length, refl, sym}
use Rattle.std.proofs.Common.{ap, subst, ◌∙◌, inl, inr, arith}
use Rattle.page_types.specs.Views.{entries_of, kept_rows_of, first_of, free_page}
use Rattle.page_types.specs.declared.page.Page.{Page}
use Rattle.page_types.specs.declared.page.Entry.{Entry}
use Rattle.page_types.specs.declared.page.Row.{Row}
use Rattle.page_types.specs.declared.page.Postings.TheVariants.{Root}
use Rattle.page_types.specs.declared.page.Body.TheVariants as body
use Rattle.page_types.specs.declared.page.Gone.TheVariants as gone
use Rattle.core_state.specs.Log.{Log, Pages, In, Shows, cut}
use Rattle.core_state.specs.Legal.{IsLegal, RecordsAreValid, Pin, Keeps}
use Rattle.core_state.specs.Trees.Ext.{Ext}
use Rattle.core_state.specs.Trees.Ext.Ext.{least, greatest}
use Rattle.core_state.specs.Trees.Nodes as nodes
use Rattle.core_state.specs.Trees.TreeNodes.{entry_node, entry_nodes, post_node, post_nodes}
use Rattle.core_state.specs.Inner.Ghosts.{Place, Ghost, entry_place, post_place, entry_ghost, post_ghost}
use Rattle.core_state.specs.Inner.Ghosts.Place.{line as lined, shifted}
use Rattle.core_state.specs.Inner.Kinds.{Fits}
use Rattle.core_state.proofs.Showing.{shown_one, none_yet, shown_none}
use Rattle.core_state.proofs.Law.Steps.{StepHolds}
use Rattle.core_state.proofs.Law.OneStep.{page_0}
use Rattle.core_state.proofs.Law.AllCases.{all_steps}
use Rattle.core_state.proofs.Trees.Order.{tree_not_none, left_not_none}
use Rattle.core_state.proofs.Trees.Orders.{keys, items, ext_top, nat_order}
use Rattle.core_state.proofs.Trees.Walk as w
use Rattle.core_state.proofs.Trees.Walk.{Read, Rising, rising_end}
use Rattle.core_state.proofs.Trees.PendWalk as pend
use Rattle.core_state.proofs.Trees.MainWalk.{Run, run_stays}
use Rattle.core_state.proofs.Trees.Forward.{Forward, GoesOn, LinksTo, grows_forward, step_forward}
use Rattle.core_state.proofs.Moments.Apart.{Apart, Linked, apart}
use Rattle.core_state.proofs.Moments.Listed.{ListedMoments, listed_moments}
use Rattle.core_state.proofs.Moments.Phases as phases
use Rattle.core_state.proofs.Moments.Timeline.{Timeline, from_later}

-- a walk begins at page p
abbrev pub BeginsAt : ℕ → List Read → Type 0
BeginsAt p xs = (x : Read) (ys : List Read) → xs ≡ x ∷ ys → x.page ≡ p

-- the page is one of the pending list, or was one when it was deleted
abbrev pub IsListPage : Page → Type 0
IsListPage p = (rows : List Row) × ((p.body ≡ body.Pending rows) ⊎ (p.body ≡ body.Deleted (gone.Pending rows)))

-- A walk along the pending list up to page q: the pages that were read are the first of a chain at the moment of the
-- last read, and q leads on along it; from then on q is a page of the list, or was one.
pub record OpenLine (R : Log) (pages : ℕ → Pages) (from : ℕ) (xs : List Read) (q : ℕ) : Type 0 where
  pub more : List ℕ
  pub whole : pend.IsChain (λ p. (pages (pend.last_time from xs) p).right) (first_of (pages from 0))
      (pend.pages xs ++ more)
  pub next : pend.IsChain (λ p. (pages (pend.last_time from xs) p).right) q more
  pub stays_on : q ≢ 0 → (t : ℕ) → pend.last_time from xs ≤ t → t ≤ length R → IsListPage (pages t q)

-- the pages of a log past a pin, and that walks over them, at rising moments, read no page twice: through the entry
-- tree from page 1, through a posting tree that an entry named, and along the pending list, also up to some page of it
pub record Links (R : Log) (pin : Pin) : Type 0 where
  pub pages : ℕ → Pages
  pub shown : (t : ℕ) → pin.length ≤ t → t ≤ length R → Shows (cut t R) (pages t)
  pub entries : (from : ℕ) (xs : List Read) → pin.length ≤ from → Rising from (length R) xs
      → Linked (λ t p. entry_node (pages t p)) xs → BeginsAt 1 xs → Apart xs
  pub posts : (s p : ℕ) (x : Entry) (r : ℕ) (xs : List Read) → pin.length ≤ s → s ≤ length R
      → In x (entries_of (pages s p)) → x.postings ≡ Root r → Rising s (length R) xs
      → Linked (λ t q. post_node (pages t q)) xs → BeginsAt r xs → Apart xs
  pub line : (from : ℕ) (xs : List Read) (q : ℕ) → pin.length ≤ from → from ≤ length R → Rising from (length R) xs
      → pend.Leads (λ t p. (pages t p).right) (first_of (pages from 0)) xs q → OpenLine R pages from xs q

some_pages : (R : Log) → RecordsAreValid R → (P : Pages) × Shows R P
some_pages [] v = (none_yet, shown_none)
some_pages (r ∷ R) v = (v.1.after, v.1.shown_after)

module _ (step : StepHolds) (R : Log) (pin : Pin) (legal : IsLegal R) (keeps : Keeps R pin) where
  pages_end : (P : Pages) × Shows R P
  pages_end = some_pages R legal.valid

  M : ListedMoments pin R pages_end.0
  M = listed_moments step pin R keeps.each keeps.within pages_end.0 pages_end.1

  abbrev P : ℕ → Pages
  P = M.moments.pages

  abbrev g : ℕ → Ghost
  g = M.moments.ghosts

  abbrev T : Timeline pin pin.length R M.moments.pages M.moments.ghosts
  T = M.moments.timeline

  zero_at : (t : ℕ) → pin.length ≤ t → t ≤ length R → ((entry_ghost (g t)).place 0 ≡ nodes.TreePlace.none)
      × ((post_ghost (g t)).place 0 ≡ nodes.TreePlace.none)
  zero_at t a b = elim (page_0 pin.commits pin.length (cut t R) (P t) (g t) (T.inv t a b) (T.shown t a b)) [
    | inl e ↦ (ap entry_place e, ap post_place e)
    | inr e ↦ (ap entry_place e, ap post_place e)
  ]

  entry_on : (t : ℕ) → pin.length ≤ t → t < length R → (L : List ℕ)
      → Forward (λ p. entry_node (P t p)) (entry_ghost (g t)) L
      → (K : List ℕ) × Forward (λ p. entry_node (P (t + 1) p)) (entry_ghost (g (t + 1))) K × GoesOn L K
  entry_on t a b L F =
      let le : t ≤ length R = omega (arith, b) in
      grows_forward keys least greatest (entry_nodes (P t)) (entry_nodes (P (t + 1))) (entry_ghost (g t))
      (zero_at t a le).0 L F (T.inv t a le).entries (entry_ghost (g (t + 1))) (T.case t a b).2.trees.entries.0

  post_on : (t : ℕ) → pin.length ≤ t → t < length R → (L : List ℕ)
      → Forward (λ p. post_node (P t p)) (post_ghost (g t)) L
      → (K : List ℕ) × Forward (λ p. post_node (P (t + 1) p)) (post_ghost (g (t + 1))) K × GoesOn L K
  post_on t a b L F =
      let le : t ≤ length R = omega (arith, b) in
      step_forward items least greatest (post_nodes (P t)) (post_nodes (P (t + 1))) (post_ghost (g t))
      (zero_at t a le).1 L F (T.inv t a le).posts (post_ghost (g (t + 1))) (T.case t a b).2.trees.posts.0

  -- page 1 is in the tree as soon as it links to another page
  page_1 : (t q : ℕ) → pin.length ≤ t → t ≤ length R → LinksTo (entry_node (P t 1)) q
      → (entry_ghost (g t)).place 1 ≢ nodes.TreePlace.none
  page_1 t q a b l = by (cut t R) refl
    where
      by : (S : Log) → cut t R ≡ S → (entry_ghost (g t)).place 1 ≢ nodes.TreePlace.none
      by [] e f =
          let free : P t 1 ≡ free_page = ap (λ (z : Pages). z 1)
          (shown_one [] (P t) none_yet (subst (λ z. Shows z (P t)) e (T.shown t a b)) shown_none) in
          subst (λ z. LinksTo (entry_node z) q) free l
      by (r ∷ S) e f =
          let k = (T.inv t a b).starts.page_1 (λ h. some r S (sym e ∙ h)) in
          tree_not_none 1 k.0 (sym (ap entry_place k.1) ∙ f)
        where
          some : (r : _) (S : Log) → r ∷ S ≡ [] → ⊥
          some r S h = cc

  entries_apart : (from : ℕ) (xs : List Read) → pin.length ≤ from → Rising from (length R) xs
      → Linked (λ t p. entry_node (P t p)) xs → BeginsAt 1 xs → Apart xs
  entries_apart from xs low rise linked begins = apart (λ t p. entry_node (P t p)) (λ t. entry_ghost (g t)) pin.length
      (length R) (M.listed.entry_list, M.listed.entries) entry_on from xs low rise linked placed
    where
      placed : (x y : Read) (ys : List Read) → xs ≡ x ∷ y ∷ ys → (entry_ghost (g x.time)).place x.page
          ≢ nodes.TreePlace.none
      placed x y ys e =
          let one = begins x (y ∷ ys) e in
          let q = subst (Rising from (length R)) e rise in
          let l : LinksTo (entry_node (P x.time x.page)) y.page =
          (subst (Linked (λ t p. entry_node (P t p))) e linked).0 in
          subst (λ c. (entry_ghost (g x.time)).place c ≢ nodes.TreePlace.none) (sym one)
          (page_1 x.time y.page (omega (arith, low, q.0)) (rising_end x.time (length R) (y ∷ ys) q.1)
          (subst (λ c. LinksTo (entry_node (P x.time c)) y.page) one l))

  -- a root stays in its tree
  posts_run : Run items least greatest (λ t p. post_node (P t p)) (λ t. post_ghost (g t)) pin.length (length R)
  posts_run = record {
    first = (T.inv pin.length (omega arith) keeps.within).posts;
    zero_page = (zero_at pin.length (omega arith) keeps.within).1;
    steps = λ t a b. (T.case t a b).2.trees.posts.0;
  }

  stays_in : (n t r : ℕ) → pin.length ≤ t → t + n ≤ length R → w.IsIn (post_ghost (g t)) r r
      → w.IsIn (post_ghost (g (t + n))) r r
  stays_in zero t r a b i = subst (λ z. w.IsIn (post_ghost (g z)) r r) (let e : t ≡ t + 0 = omega arith in e) i
  stays_in (suc n) t r a b i =
      let next = (run_stays items least greatest (ext_top nat_order) tt (λ u p. post_node (P u p))
      (λ u. post_ghost (g u)) pin.length (length R) posts_run r t r a (omega (arith, b)) i).0 in
      subst (λ z. w.IsIn (post_ghost (g z)) r r) (let e : t + 1 + n ≡ t + suc n = omega arith in e)
      (stays_in n (t + 1) r (omega (arith, a)) (omega (arith, b)) next)

  in_tree : (h : nodes.TreeGhost (Ext ℕ)) (r p : ℕ) → w.IsIn h r p → h.place p ≢ nodes.TreePlace.none
  in_tree h r p (inl live) e = tree_not_none r live.0 (sym live.1 ∙ e)
  in_tree h r p (inr was) e = left_not_none r (sym was ∙ e)

  posts_apart : (s p : ℕ) (x : Entry) (r : ℕ) (xs : List Read) → pin.length ≤ s → s ≤ length R
      → In x (entries_of (P s p)) → x.postings ≡ Root r → Rising s (length R) xs
      → Linked (λ t q. post_node (P t q)) xs → BeginsAt r xs → Apart xs
  posts_apart s p x r xs low high on is rise linked begins =
      apart (λ u q. post_node (P u q)) (λ u. post_ghost (g u)) pin.length (length R)
      (M.listed.post_list, M.listed.posts) post_on s xs low rise linked placed
    where
      placed : (y z : Read) (ys : List Read) → xs ≡ y ∷ z ∷ ys → (post_ghost (g y.time)).place y.page
          ≢ nodes.TreePlace.none
      placed y z ys e =
          let one = begins y (z ∷ ys) e in
          let q = subst (Rising s (length R)) e rise in
          let bound = rising_end y.time (length R) (z ∷ ys) q.1 in
          let named = (T.inv s low high).named.is_root p r x on is in
          let there =
          stays_in (y.time - s) s r low (omega (arith, q.0, bound)) (inl (named.0, ap post_place named.1)) in
          let now : w.IsIn (post_ghost (g y.time)) r r = subst (λ c. w.IsIn (post_ghost (g c)) r r)
          (let h : s + (y.time - s) ≡ y.time = omega (arith, q.0) in h) there in
          subst (λ c. (post_ghost (g y.time)).place c ≢ nodes.TreePlace.none) (sym one)
          (in_tree (post_ghost (g y.time)) r r now)

  -- the pending list
  abbrev Line : ℕ → List Read → ℕ → Type 0
  Line from xs q = OpenLine R M.moments.pages from xs q

  no_log : (S : Log) → length S ≡ 0 → S ≡ []
  no_log [] h = refl
  no_log (r ∷ S) h = absurd (omega (arith, h))

  -- what is on the line, or was shifted since the pin
  list_page : (t q : ℕ) → pin.length ≤ t → t ≤ length R → ((g t).place q ≡ shifted) ⊎ In q (g t).line
      → IsListPage (P t q)
  list_page t q a b (inl e) =
      let f : Fits pin.length shifted (P t q) =
      subst (λ (z : Place). Fits pin.length z (P t q)) e ((T.inv t a b).kinds q) in
      (f.0, inr f.1)
  list_page t q a b (inr i) =
      let e = ((T.inv t a b).lined.on q).0 i in
      let f : Fits pin.length lined (P t q) =
      subst (λ (z : Place). Fits pin.length z (P t q)) e ((T.inv t a b).kinds q) in
      (f.0, inl f.1)

  line_late : (from : ℕ) (xs : List Read) (q : ℕ) → pin.length ≤ from → from ≤ length R → 1 ≤ from
      → Rising from (length R) xs → pend.Leads (λ t p. (P t p).right) (first_of (P from 0)) xs q → Line from xs q
  line_late from xs q low within some rise leads =
      let S = from_later pin pin.length from R P g low T in
      let w = pend.reads_open (λ (row : Row). row.item) (λ j. ⊥) (λ u p. kept_rows_of (P u p))
      (λ u p. (P u p).right) (λ u. first_of (P u 0)) (λ u. (g u).line) (λ u p. (g u).place p ≡ shifted)
      from (length R)
      (λ t a b. phases.as_chain (P t) (first_of (P t 0)) (g t).line (S.inv t a b).lined.is_line)
      (λ t p a b e. (
        (S.case t a b).2.shifted_stays p e,
        ap kept_rows_of (phases.unchanged pin R P g from S some within legal.valid keeps.each
            (λ j. ⊥) (λ u c h j f n. f) t p a b e),
        ap (λ (z : Page). z.right)
            (phases.unchanged pin R P g from S some within legal.valid keeps.each (λ j. ⊥)
            (λ u c h j f n. f) t p a b e),
      ))
      (phases.steps pin R P g from S some within legal.valid keeps.each (λ j. ⊥) (λ u c h j f n. f))
      xs q within rise leads in
      let between = pend.last_between from (length R) xs rise in
      record {
        more = w.more;
        whole = w.whole;
        next = w.next;
        stays_on = λ off t a b. list_page t q (omega (arith, low, between.0, a)) b (w.stays_on off t a b);
      }

  free_first : (from : ℕ) → pin.length ≤ from → from ≤ length R → from ≡ 0 → first_of (P from 0) ≡ 0
  free_first from low within e = ap (λ (z : Pages). first_of (z 0)) (shown_one [] (P from) none_yet
      (subst (λ z. Shows z (P from)) (no_log (cut from R) (phases.cut_length R from within ∙ e))
      (T.shown from low within)) shown_none)

  line_early : (from : ℕ) (xs : List Read) (q : ℕ) → first_of (P from 0) ≡ 0
      → pend.Leads (λ t p. (P t p).right) (first_of (P from 0)) xs q → Line from xs q
  line_early from [] q e f =
      record { more = []; whole = e; next = sym f ∙ e; stays_on = λ off t a b. absurd (off (sym f ∙ e)) }
  line_early from (x ∷ xs) q e f = absurd (f.0 e)

  line_chain : (from : ℕ) (xs : List Read) (q : ℕ) → pin.length ≤ from → from ≤ length R
      → Rising from (length R) xs → pend.Leads (λ t p. (P t p).right) (first_of (P from 0)) xs q → Line from xs q
  line_chain from xs q low within rise leads = by from refl
    where
      by : (n : ℕ) → from ≡ n → Line from xs q
      by zero e = line_early from xs q (free_first from low within e) leads
      by (suc n) e = line_late from xs q low within (omega (arith, e)) rise leads

  links_by : Links R pin
  links_by = record {
    pages = P;
    shown = T.shown;
    entries = entries_apart;
    posts = posts_apart;
    line = line_chain;
  }

pub links : (R : Log) (pin : Pin) → IsLegal R → Keeps R pin → Links R pin
links R pin legal keeps = links_by all_steps R pin legal keeps
