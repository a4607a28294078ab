-- Which pages a scan has read.
use Rattle.std.proofs.Common.{◌≡◌, ◌≢◌, ◌⊎◌, ℕ, zero, suc, ◌+◌, ◌<◌, ◌≤◌, Bool, List, [], ◌∷◌, ◌++◌, length, map, take}
use Rattle.std.proofs.Common.{Some, refl, sym, ap, subst, ◌∙◌, inl, inr, arith, slice_get, AllPairs, length-append}
use Rattle.std.proofs.Common.{append-nil}
use Rattle.std.specs.List.{flat_map}
use Rattle.std.proofs.lemmas.List.Kept.{AllPairs-cons}
use Rattle.core_state.specs.Log.{Log, In}
use Rattle.core_state.specs.Documents.{page_of}
use Rattle.core_state.specs.Readings.{Read, AreReads}
use Rattle.core_state.proofs.PageLists.{in_either}
use Rattle.core_moments.specs.Walk.{Walk, reads_of}
use Rattle.gin_hits.proofs.JudgedScan.{in_all}
use Rattle.gin_scan.specs.Reading.{LeadOn}
use Rattle.gin_scan.specs.Taking.{first_items}
use Rattle.gin_scan.specs.Held.{AreChains, ArePages}
use Rattle.gin_scan.specs.declared.stage.LongVector.{LongVector}
use Rattle.gin_scan.proofs.Growing.{reads_since}

abbrev all_reads : List (List Read) → List Read
all_reads xs = flat_map (λ (x : List Read). x) xs

-- ── lists ──

-- one that is above all others comes last
last_above : (ps : List ℕ) (n : ℕ) → AllPairs (λ (p p' : ℕ). p < p') ps → ((p : ℕ) → In p ps → p < n)
    → AllPairs (λ (p p' : ℕ). p < p') (ps ++ n ∷ [])
last_above [] n rise above = λ i j d lt within. absurd (omega (arith, lt, within))
last_above (p ∷ ps) n rise above =
    AllPairs-cons (λ (p p' : ℕ). p < p') p (ps ++ n ∷ [])
    (in_all (λ (p' : ℕ). p < p') (ps ++ n ∷ []) (λ p' i. elim (in_either p' ps (n ∷ []) i) [
      | inl m ↦ head_below p ps rise p' m
      | inr (inl e) ↦ subst (λ (z : ℕ). p < z) (sym e) (above p (inl refl))
      | inr (inr m) ↦ absurd m
    ]))
    (last_above ps n (λ i j d lt within. rise (suc i) (suc j) d (omega (arith, lt)) (omega (arith, within)))
    (λ p' m. above p' (inr m)))
  where
    all_at : (p : ℕ) (ps : List ℕ) → ((k : ℕ) → (d : ℕ) → k < length ps → p < Rattle.std.proofs.Common.get_or ps k d)
        → (p' : ℕ) → In p' ps → p < p'
    all_at p [] h p' m = absurd m
    all_at p (x ∷ xs) h p' (inl e) = subst (λ (z : ℕ). p < z) (sym e) (h zero x (omega arith))
    all_at p (x ∷ xs) h p' (inr m) = all_at p xs (λ k d l. h (suc k) d (omega (arith, l))) p' m

    head_below : (p : ℕ) (ps : List ℕ) → AllPairs (λ (p p' : ℕ). p < p') (p ∷ ps) → (p' : ℕ) → In p' ps → p < p'
    head_below p ps rise = all_at p ps (λ k d l. rise zero (suc k) d (omega arith) (omega (arith, l)))

-- the first so many and one more
pub take_one : {A : Type 0} (xs : List A) (n : ℕ) (x : A) → slice_get xs n ≡ Some x
    → take (suc n) xs ≡ take n xs ++ x ∷ []
take_one [] n x at = absurd (let z : ⊥ = cc in z)
take_one {A} (y ∷ ys) zero x at = ap (λ (z : A). z ∷ []) (let z : y ≡ x = cc in z)
take_one {A} (y ∷ ys) (suc n) x at = ap (λ (zs : List A). y ∷ zs) (take_one ys n x at)

-- an item of the first so many has a number below that
item_number : (kept : List (ℕ × Bool)) (n i : ℕ) → In i (first_items n kept)
    → (m : ℕ) × (k : ℕ × Bool) × (m < n) × (slice_get kept m ≡ Some k) × (k.0 ≡ i)
item_number kept zero i m = absurd m
item_number [] (suc n) i m = absurd m
item_number (k ∷ ks) (suc n) i (inl e) = (zero, k, omega arith, refl, sym e)
item_number (k ∷ ks) (suc n) i (inr m) =
    let f = item_number ks n i m in (suc f.0, f.1, omega (arith, f.2), f.3, f.4)

number_item : (kept : List (ℕ × Bool)) (n m : ℕ) (k : ℕ × Bool) → m < n → slice_get kept m ≡ Some k
    → In k.0 (first_items n kept)
number_item kept zero m k l at = absurd (omega (arith, l))
number_item [] (suc n) m k l at = absurd (let z : ⊥ = cc in z)
number_item (x ∷ xs) (suc n) zero k l at = inl (ap (λ (z : ℕ × Bool). z.0) (let z : k ≡ x = cc in z))
number_item (x ∷ xs) (suc n) (suc m) k l at = inr (number_item xs n m k (omega (arith, l)) at)

first_more : (kept : List (ℕ × Bool)) (at end i : ℕ) → at ≤ end → In i (first_items at kept)
    → In i (first_items end kept)
first_more kept at end i le m =
    let f = item_number kept at i m in
    subst (λ (z : ℕ). In z (first_items end kept)) f.4
    (number_item kept end f.0 f.1 (omega (arith, f.2, le)) f.3)

-- an item with a greater number is greater
item_above : (kept : List (ℕ × Bool)) (m n : ℕ) (a b : ℕ × Bool) → AllPairs (λ (a b : ℕ × Bool). a.0 < b.0) kept
    → m < n → slice_get kept m ≡ Some a → slice_get kept n ≡ Some b → a.0 < b.0
item_above [] m n a b rise l e f = absurd (let z : ⊥ = cc in z)
item_above (x ∷ xs) m zero a b rise l e f = absurd (omega (arith, l))
item_above (x ∷ xs) zero (suc n) a b rise l e f =
    let same : x ≡ a = cc in
    subst (λ (z : ℕ × Bool). z.0 < b.0) same (below x xs n b rise f)
  where
    at_number : (x : ℕ × Bool) (xs : List (ℕ × Bool)) (n : ℕ) (b : ℕ × Bool)
        → ((k : ℕ) → (d : ℕ × Bool) → k < length xs → x.0 < (Rattle.std.proofs.Common.get_or xs k d).0)
        → slice_get xs n ≡ Some b → x.0 < b.0
    at_number x [] n b h f = absurd (let z : ⊥ = cc in z)
    at_number x (y ∷ ys) zero b h f =
        let same : y ≡ b = cc in subst (λ (z : ℕ × Bool). x.0 < z.0) same (h zero y (omega arith))
    at_number x (y ∷ ys) (suc n) b h f = at_number x ys n b (λ k d l. h (suc k) d (omega (arith, l))) f

    below : (x : ℕ × Bool) (xs : List (ℕ × Bool)) (n : ℕ) (b : ℕ × Bool)
        → AllPairs (λ (a b : ℕ × Bool). a.0 < b.0) (x ∷ xs) → slice_get xs n ≡ Some b → x.0 < b.0
    below x xs n b rise = at_number x xs n b (λ k d l. rise zero (suc k) d (omega arith) (omega (arith, l)))
item_above (x ∷ xs) (suc m) (suc n) a b rise l e f =
    item_above xs m n a b (λ i j d lt within. rise (suc i) (suc j) d (omega (arith, lt)) (omega (arith, within)))
    (omega (arith, l)) e f

page_rises : (i j : ℕ) → i < j → page_of i ≤ page_of j
page_rises i j l = omega (arith, l)

-- ── chains ──

chains_more : (R : Log) (from : ℕ) (ls : List LongVector) (xs : List (List Read)) (l : LongVector) (x : List Read)
    (next : ℕ) → AreChains R from ls xs → LeadOn l.first x next → AreReads R from x
    → AreChains R from (ls ++ l ∷ []) (xs ++ x ∷ [])
chains_more R from [] [] l x next cs leads reads = ((next, leads), reads, tt)
chains_more R from [] (y ∷ ys) l x next cs leads reads = absurd cs
chains_more R from (m ∷ ms) [] l x next cs leads reads = absurd cs
chains_more R from (m ∷ ms) (y ∷ ys) l x next cs leads reads =
    (cs.0, cs.1, chains_more R from ms ys l x next cs.2 leads reads)

chains_since : (R : Log) (a b : ℕ) (ls : List LongVector) (xs : List (List Read)) → a ≤ b → AreChains R b ls xs
    → AreChains R a ls xs
chains_since R a b [] [] le cs = tt
chains_since R a b [] (y ∷ ys) le cs = absurd cs
chains_since R a b (m ∷ ms) [] le cs = absurd cs
chains_since R a b (m ∷ ms) (y ∷ ys) le cs = (cs.0, reads_since R a b y le cs.1, chains_since R a b ms ys le cs.2)

reads_and : (xs : List (List Read)) (x : List Read)
    → length (all_reads (xs ++ x ∷ [])) ≡ length (all_reads xs) + length x
reads_and [] x = let e : length x ≡ 0 + length x = omega arith in ap length (append-nil x) ∙ e
reads_and (y ∷ ys) x =
    omega (arith, reads_and ys x, length-append y (all_reads (ys ++ x ∷ [])), length-append y (all_reads ys))

-- ── pages ──

module _ (R : Log) (from : ℕ) (w : Walk) where
  -- the pages of the walk alone
  pub walk_pages : (n : ℕ) → n ≤ length (reads_of w) → ArePages R from w [] [] n
  walk_pages n few = record {
    heap = [];
    heap_pages = record {
      rising = λ i j d lt within. absurd (omega (arith, lt, within));
      each = λ p m. absurd m;
    };
    parts = [];
    chains = tt;
    most = omega (arith, few);
  }

  pub fewer_pages : (items : List ℕ) (ls : List LongVector) (m n : ℕ) → n ≤ m → ArePages R from w items ls m
      → ArePages R from w items ls n
  fewer_pages items ls m n le a = record {
    heap = a.heap;
    heap_pages = a.heap_pages;
    parts = a.parts;
    chains = a.chains;
    most = omega (arith, le, a.most);
  }

  -- a heap page more
  pub heap_page : (kept : List (ℕ × Bool)) (at end number m n : ℕ) (k : ℕ × Bool) → at < end
      → slice_get kept at ≡ Some k → page_of k.0 ≡ number
      → ((i : ℕ) → In i (first_items at kept) → page_of i < number) → n ≤ suc m
      → ArePages R from w (first_items at kept) [] m → ArePages R from w (first_items end kept) [] n
  heap_page kept at end number m n k less there here below one a = record {
    heap = a.heap ++ number ∷ [];
    heap_pages = record {
      rising = last_above a.heap number a.heap_pages.rising (λ p i.
          let f = a.heap_pages.each p i in subst (λ (z : ℕ). z < number) f.2 (below f.0 f.1));
      each = λ p i. elim (in_either p a.heap (number ∷ []) i) [
        | inl j ↦
            let f = a.heap_pages.each p j in (f.0, first_more kept at end f.0 (omega (arith, less)) f.1, f.2)
        | inr (inl e) ↦ (k.0, number_item kept end at k less there, here ∙ sym e)
        | inr (inr j) ↦ absurd j
      ];
    };
    parts = a.parts;
    chains = a.chains;
    most = omega (arith, one, a.most, length-append a.heap (number ∷ []));
  }

  -- all pages of a vector more
  pub chain_pages : (items : List ℕ) (long : List LongVector) (at m n : ℕ) (l : LongVector) (x : List Read)
      (next : ℕ) → slice_get long at ≡ Some l → LeadOn l.first x next → AreReads R from x → n ≤ m + length x
      → ArePages R from w items (take at long) m → ArePages R from w items (take (suc at) long) n
  chain_pages items long at m n l x next there leads reads few a =
      subst (λ (ls : List LongVector). ArePages R from w items ls n) (sym (take_one long at l there)) (record {
        heap = a.heap;
        heap_pages = a.heap_pages;
        parts = a.parts ++ x ∷ [];
        chains = chains_more R from (take at long) a.parts l x next a.chains leads reads;
        most = omega (arith, few, a.most, reads_and a.parts x);
      })

  -- from an earlier length on
  pub pages_since : (since : ℕ) (items : List ℕ) (ls : List LongVector) (n : ℕ) → since ≤ from
      → ArePages R from w items ls n → ArePages R since w items ls n
  pages_since since items ls n le a = record {
    heap = a.heap;
    heap_pages = a.heap_pages;
    parts = a.parts;
    chains = chains_since R since from ls a.parts le a.chains;
    most = a.most;
  }

-- ── the order of pages ──

-- the kept items up to one that is on another page are on earlier pages than that
pub pages_before : (kept : List (ℕ × Bool)) (at end number : ℕ) → AllPairs (λ (a b : ℕ × Bool). a.0 < b.0) kept
    → ((k item : ℕ) (sure : Bool) → at ≤ k → k < end → slice_get kept k ≡ Some (item, sure) → page_of item ≡ number)
    → ((i : ℕ) → In i (first_items at kept) → page_of i < number)
    → ((k : ℕ × Bool) → slice_get kept end ≡ Some k → page_of k.0 ≡ number → ⊥)
    → (first : ℕ × Bool) → at < end → slice_get kept at ≡ Some first → page_of first.0 ≡ number
    → (i : ℕ) (k : ℕ × Bool) → In i (first_items end kept) → slice_get kept end ≡ Some k → page_of i < page_of k.0
pages_before kept at end number rise here below next first less there is i k m e =
    let f = item_number kept end i m in
    let above = page_rises first.0 k.0 (item_above kept at end first k rise less there e) in
    let off : page_of k.0 ≢ number = next k e in
    let up : number < page_of k.0 = strict number (page_of k.0) (omega (arith, above, is)) off in
    elim (before_or f.0 at) [
      | inl low ↦
          let b : page_of i < number = below i (subst (λ (z : ℕ). In z (first_items at kept)) f.4
          (number_item kept at f.0 f.1 low f.3)) in
          omega (arith, b, up)
      | inr high ↦
          let b : page_of f.1.0 ≡ number = here f.0 f.1.0 f.1.1 high f.2 f.3 in
          let same : page_of i ≡ number = ap page_of (sym f.4) ∙ b in
          omega (arith, same, up)
    ]
  where
    before_or : (m at : ℕ) → (m < at) ⊎ (at ≤ m)
    before_or m zero = inr (omega arith)
    before_or zero (suc at) = inl (omega arith)
    before_or (suc m) (suc at) = elim (before_or m at) [
      | inl l ↦ inl (omega (arith, l))
      | inr l ↦ inr (omega (arith, l))
    ]

    strict : (a b : ℕ) → a ≤ b → b ≢ a → a < b
    strict a b le off = elim (before_or a b) [
      | inl l ↦ l
      | inr l ↦ absurd (off (omega (arith, le, l)))
    ]
