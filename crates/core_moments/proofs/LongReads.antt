-- What is read of a long vector of a snapshot's document: the pages are the first of its chain, each as it was when
-- the head was read; so their parts are the first bytes of the vector, and all of them at the end of the chain.
use Rattle.std.proofs.Common.{◌≡◌, ◌≢◌, ◌<◌, ◌≤◌, ℕ, zero, suc, List, [], ◌∷◌, ◌++◌, length, take, refl, sym}
use Rattle.std.proofs.Common.{ap, subst, ◌∙◌, inl, inr, arith, append-nil, append_assoc, length-append}
use Rattle.std.specs.Prelude.{Option, Some}
use Rattle.std.specs.List.{flat_map, AllByRecursion}
use Rattle.ts_base.specs.Encoding.{IsEncoding}
use Rattle.ts_base.specs.Vectors.{Vector}
use Rattle.page_types.specs.Numbers.{page_limit, most_short}
use Rattle.page_types.specs.Pages.{IsBody, IsHead, IsSlot}
use Rattle.page_types.specs.Views.{part_of, slots_in, slot_at}
use Rattle.page_types.specs.declared.page.Page.{Page}
use Rattle.page_types.specs.declared.page.Head.{Head}
use Rattle.page_types.specs.declared.page.Body.{Body}
use Rattle.page_types.specs.declared.page.Body.TheVariants as body
use Rattle.core_state.specs.Bullets.PagePlace.{overflow_of}
use Rattle.core_state.specs.Documents.{Doc, Has, HasBytes, IsChain, IsWhole, name_of, page_of, slot_of, parts}
use Rattle.core_state.specs.History.{Document, History, IsHistory, docs}
use Rattle.core_state.specs.Legal.{IsLegal, Pin, Keeps}
use Rattle.core_state.specs.Log.{Log, Pages, In, Shows, cut}
use Rattle.core_state.specs.Readings.{Read, WasShown, AreReads}
use Rattle.core_state.proofs.ChainLengths.{chain_once}
use Rattle.core_state.proofs.LawsHold.{pages}
use Rattle.core_state.proofs.LongVectors.{KeepsLong, some_pages, stored_at, head_whole, long_kept}
use Rattle.core_state.proofs.Moments.Timeline.{cut_all}
use Rattle.core_state.proofs.PageLists.{in_back}
use Rattle.core_state.proofs.Trees.Behind.{Once}
use Rattle.core_moments.specs.Law.{ReadOnce}
use Rattle.core_moments.specs.OpenWalk.{LeadOn}
use Rattle.core_moments.specs.Walk.{rightward}
use Rattle.core_moments.proofs.OpenLists.{pages_in, reads_fewer, once_front, walk_pages}

-- the parts that were read, one after another
abbrev pub parts_in : List Read → List ℕ
parts_in xs = flat_map (λ (x : Read). part_of x.content) xs

-- these reads are the first of the chain of a long vector, and q is the page that is next
pub record ReadsLong (P : Pages) (h : Head) (v : Vector) (xs : List Read) (q : ℕ) : Type 0 where
  pub chain : List ℕ
  pub is_chain : IsChain P h.overflow chain
  pub rest : List ℕ
  pub are_first : chain ≡ pages_in xs ++ rest
  pub next : IsChain P q rest
  pub bytes : parts P chain ≡ parts_in xs ++ parts P rest
  pub encodes : IsEncoding (parts P chain) v
  pub size : length (parts P chain) ≡ h.bytes

-- ── what follows of such reads ──

reads_apart : (xs : List Read) → Once (pages_in xs) → ReadOnce xs
reads_apart [] o = tt
reads_apart (x ∷ xs) o = (λ y i e. o.0 (subst (λ (p : ℕ). In p (pages_in xs)) (sym e) (on y xs i)), reads_apart xs o.1)
  where
    on : (y : Read) (ys : List Read) → In y ys → In y.page (pages_in ys)
    on y [] i = i
    on y (z ∷ zs) (inl e) = inl (ap (λ (r : Read). r.page) e)
    on y (z ∷ zs) (inr i) = inr (on y zs i)

module _ (P : Pages) (h : Head) (v : Vector) (xs : List Read) (q : ℕ) (r : ReadsLong P h v xs q) where
  -- no page is read twice
  pub long_once : ReadOnce xs
  long_once = reads_apart xs (once_front (pages_in xs) r.rest (subst Once r.are_first (chain_once P h.overflow r.chain
      r.is_chain)))

  -- there are no more bytes than the vector has
  pub long_within : length (parts_in xs) ≤ h.bytes
  long_within = omega (arith, ap length r.bytes, length-append (parts_in xs) (parts P r.rest), r.size)

  -- a page that is next is on the chain
  pub next_on : q ≢ 0 → In q r.chain
  next_on off = subst (In q) (sym r.are_first) (in_back q (pages_in xs) r.rest (first r.rest r.next))
    where
      first : (qs : List ℕ) → IsChain P q qs → In q qs
      first [] c = absurd (off c)
      first (p ∷ ps) c = inl c.0

-- where none is next all of the vector was read
pub long_all : (P : Pages) (h : Head) (v : Vector) (xs : List Read) → ReadsLong P h v xs 0
    → IsEncoding (parts_in xs) v × (length (parts_in xs) ≡ h.bytes)
long_all P h v xs r =
    let all : parts P r.chain ≡ parts_in xs = r.bytes ∙ none r.rest r.next in
    (subst (λ (bs : List ℕ). IsEncoding bs v) all r.encodes, ap length (sym all) ∙ r.size)
  where
    none : (qs : List ℕ) → IsChain P 0 qs → parts_in xs ++ parts P qs ≡ parts_in xs
    none [] c = append-nil (parts_in xs)
    none (p ∷ ps) c = absurd (c.1 (sym c.0))

-- ── that they are ──

one_chain : (P : Pages) (h : Head) (v : Vector) → IsWhole P h v → most_short < h.bytes → (qs : List ℕ)
    × IsChain P h.overflow qs × IsEncoding (parts P qs) v × (length (parts P qs) ≡ h.bytes)
one_chain P h v w long = by w.bytes w.there w.encodes w.size
  where
    by : (bs : List ℕ) → HasBytes P h bs → IsEncoding bs v → length bs ≡ h.bytes → (qs : List ℕ)
        × IsChain P h.overflow qs × IsEncoding (parts P qs) v × (length (parts P qs) ≡ h.bytes)
    by bs (HasBytes.short s) e size = absurd (omega (arith, s, long))
    by bs (HasBytes.long l qs c) e size = (qs, c, e, size)

-- a head on a page that has an encoding
slot_head : (slots : List (Option Head)) (k : ℕ) (h : Head) → AllByRecursion IsSlot slots → slot_at slots k ≡ Some h
    → IsHead h
slot_head [] k h all e = absurd (let z : ⊥ = cc in z)
slot_head (s ∷ slots) zero h all e = subst IsSlot e all.0
slot_head (s ∷ slots) (suc k) h all e = slot_head slots k h all.1 e

head_is : (S : Log) (P : Pages) (d : Doc) (h : Head) → Shows S P → Has P d h → IsHead h
head_is S P d h shown has = by (P (page_of d.item)).body (shown (page_of d.item)).0.body has.at
  where
    by : (b : Body) → IsBody (P (page_of d.item)).right (P (page_of d.item)).stamp b
        → slot_at (slots_in b) (slot_of d.item) ≡ Some h → IsHead h
    by (body.Heap slots) is e = slot_head slots (slot_of d.item) h is.1 e
    by _ is e = absurd (let z : ⊥ = cc in z)

-- a log whose history has a document isn't empty
some_record : (R : Log) (H : History) (n : ℕ) (D : Document) → IsHistory R H → In D (docs (take n H)) → R ≢ []
some_record R H n D history there e =
    no_docs n (subst (λ (G : History). In D (docs (take n G))) (subst (λ (T : Log). IsHistory T H) e history) there)
  where
    no_docs : (n : ℕ) → In D (docs (take n [])) → ⊥
    no_docs zero i = i
    no_docs (suc n) i = i

module _ (R : Log) (pin : Pin) (H : History) (D : Document) (legal : IsLegal R) (keeps : Keeps R pin)
    (history : IsHistory R H) (there : In D (docs (take pin.commits H))) (at : ℕ) (P : Pages) (d : Doc) (h : Head)
    (since : pin.length ≤ at) (within : at ≤ length R) (shown : Shows (cut at R) P) (name : D.name ≡ name_of d)
    (has : Has P d h) (long : most_short < h.bytes) where
  -- the document at another length
  kept_at : (t : ℕ) (Q : Pages) → pin.length ≤ t → t ≤ length R → Shows (cut t R) Q
      → (e : Doc) × (k : Head) × Has Q e k × KeepsLong P Q h k
  kept_at t Q low high shown' =
      let s = stored_at R pin H D legal keeps history there t Q low high shown' in (
        s.doc,
        s.head,
        s.has,
        long_kept R pin H D legal keeps history there at t P Q d s.doc h s.head since within low high shown shown' name
            s.name has s.has long,
      )

  as_it_was : (qs : List ℕ) → IsChain P h.overflow qs → (x : Read) → pin.length ≤ x.length → x.length ≤ length R
      → WasShown R x → In x.page qs → x.content ≡ P x.page
  as_it_was qs c x low high was on =
      let k = kept_at x.length was.0 low high was.1 in
      sym was.2 ∙ (k.3.chain qs c).1 x.page on

  record FirstOf (xs : List Read) (q : ℕ) (qs : List ℕ) : Type 0 where
    pub rest : List ℕ
    pub are_first : qs ≡ pages_in xs ++ rest
    pub next : IsChain P q rest
    pub bytes : parts P qs ≡ parts_in xs ++ parts P rest

  first_of_chain : (all : List ℕ) → IsChain P h.overflow all → (xs : List Read) (from p q : ℕ) (qs : List ℕ)
      → ((z : ℕ) → In z qs → In z all) → IsChain P p qs → pin.length ≤ from → AreReads R from xs
      → LeadOn rightward p xs q → FirstOf xs q qs
  first_of_chain all c [] from p q qs sub chain low reads leads = record {
    rest = qs;
    are_first = refl;
    next = subst (λ (z : ℕ). IsChain P z qs) leads chain;
    bytes = refl;
  }
  first_of_chain all c (x ∷ xs) from p q [] sub chain low reads leads = absurd (leads.0 chain)
  first_of_chain all c (x ∷ xs) from p q (y ∷ ys) sub chain low reads leads =
      let page : x.page ≡ y = leads.1 ∙ chain.0 in
      let on : In x.page all = subst (λ (z : ℕ). In z all) (sym page) (sub y (inl refl)) in
      let was : x.content ≡ P x.page = as_it_was all c x (omega (arith, low, reads.0)) reads.1 reads.2 on in
      let content : x.content ≡ P y = was ∙ ap P page in
      let next : IsChain P (rightward x.content) ys =
      subst (λ (z : Page). IsChain P z.right ys) (sym content) chain.2 in
      let f = first_of_chain all c xs x.length (rightward x.content) q ys (λ z i. sub z (inr i)) next
      (omega (arith, low, reads.0)) reads.3 leads.2 in
      record {
        rest = f.rest;
        are_first = ap (λ (z : ℕ). z ∷ ys) (sym page) ∙ ap (λ (zs : List ℕ). x.page ∷ zs) f.are_first;
        next = f.next;
        bytes = ap (λ (z : Page). part_of z ++ parts P ys) (sym content)
            ∙ ap (λ (bs : List ℕ). part_of x.content ++ bs) f.bytes
            ∙ sym (append_assoc (part_of x.content) (parts_in xs) (parts P f.rest));
      }

  -- reads along right links from the head's first overflow page, at lengths from the pin's on
  pub long_read : (xs : List Read) (from q : ℕ) → pin.length ≤ from → AreReads R from xs
      → LeadOn rightward h.overflow xs q → ReadsLong P h D.vector xs q
  long_read xs from q low reads leads =
      let whole = head_whole R pin H D legal keeps history there at P d h since within shown name has in
      let c = one_chain P h D.vector whole long in
      let f = first_of_chain c.0 c.1 xs from h.overflow q c.0 (λ z i. i) c.1 low reads leads in
      record {
        chain = c.0;
        is_chain = c.1;
        rest = f.rest;
        are_first = f.are_first;
        next = f.next;
        bytes = f.bytes;
        encodes = c.2;
        size = c.3;
      }

  -- they are fewer than a number that all are below, and than all pages that a store may have
  pub long_fewer : (n : ℕ) (xs : List Read) (from q : ℕ) → 0 < n → pin.length ≤ from → AreReads R from xs
      → LeadOn rightward h.overflow xs q → ((x : Read) → In x xs → x.page < n) → length xs < n
  long_fewer n xs from q some low reads leads below =
      let each = walk_pages R from h.overflow xs q (head_is (cut at R) P d h shown has).overflow reads leads in
      reads_fewer n xs some (long_once P h D.vector xs q (long_read xs from q low reads leads))
      (λ x i. ((each x i).0, below x i))

  pub long_short : (xs : List Read) (from q : ℕ) → pin.length ≤ from → AreReads R from xs
      → LeadOn rightward h.overflow xs q → length xs < page_limit
  long_short xs from q low reads leads =
      long_fewer page_limit xs from q (omega arith) low reads leads
      (λ x i. (walk_pages R from h.overflow xs q (head_is (cut at R) P d h shown has).overflow reads leads x i).1)

  -- a page of the chain is an overflow page at each length from the pin's on
  pub part_there : (qs : List ℕ) → IsChain P h.overflow qs → (q t : ℕ) (Q : Pages) → In q qs → pin.length ≤ t
      → t ≤ length R → Shows (cut t R) Q → (bytes : List ℕ) × ((Q q).body ≡ body.Overflow bytes)
  part_there qs c q t Q i low high shown' =
      let S = some_pages R legal.valid in
      let last = kept_at (length R) S.0 keeps.within (omega arith)
      (subst (λ (T : Log). Shows T S.0) (sym (cut_all R (length R) refl)) S.1) in
      let then = kept_at t Q low high shown' in
      let kept = last.3.chain qs c in
      let is = (pages R S.0 legal S.1).kinds.kinds (some_record R H pin.commits D history there) q
      (overflow_of last.0.item)
      (last.0, last.1, qs, refl, last.2, subst (λ (z : ℕ). IsChain S.0 z qs) (sym last.3.overflow) kept.0, i) in
      let same : Q q ≡ S.0 q = (then.3.chain qs c).1 q i ∙ sym (kept.1 q i) in
      (is.0, ap (λ (z : Page). z.body) same ∙ is.1)
