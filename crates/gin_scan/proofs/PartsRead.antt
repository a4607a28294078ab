-- Parts of a long vector that were read are those of its document's chain.
use Rattle.std.proofs.Common.{◌≡◌, ◌≢◌, ◌↔◌, ℕ, zero, suc, ◌-◌, ◌<◌, ◌≤◌, IsTrue, List, [], ◌∷◌}
use Rattle.std.proofs.Common.{length, take, drop}
use Rattle.std.proofs.Common.{Some, refl, sym, ap, subst, ◌∙◌, inl, inr, arith, slice_get, length-append}
use Rattle.ts_base.specs.Vectors.{Vector}
use Rattle.ts_base.specs.Encoding.{IsEncoding}
use Rattle.page_types.specs.declared.page.Body.{Body}
use Rattle.page_types.specs.declared.page.Body.TheVariants as body
use Rattle.core_state.specs.Log.{Log, Pages, In, Shows, cut}
use Rattle.core_state.specs.Documents.{IsChain}
use Rattle.core_state.specs.History.{Document, History, IsHistory, docs}
use Rattle.core_state.specs.Legal.{IsLegal, Pin, Keeps}
use Rattle.core_state.specs.Readings.{Read}
use Rattle.core_state.proofs.ChainLengths.{few_below, chain_once}
use Rattle.core_state.proofs.Newest.{legal_less}
use Rattle.core_moments.proofs.LongReads.{ReadsLong, long_read, long_within, long_all, next_on, part_there}
use Rattle.core_moments.proofs.OpenLists.{pages_in}
use Rattle.buffer_frames.proofs.FirstLogs.{shown_by}
use Rattle.gin_scan.specs.Reading.{LeadOn, ReadsParts}
use Rattle.gin_scan.specs.Taking.{IsLongOf}
use Rattle.gin_scan.specs.Inner.Parts.{IsReadUp, AddsIfTold}
use Rattle.gin_scan.specs.declared.scan_core.ScanCore.{ScanCore}
use Rattle.gin_scan.specs.declared.stage.LongVector.{LongVector}

drop_legal : (n : ℕ) (R : Log) → IsLegal R → IsLegal (drop n R)
drop_legal zero R l = l
drop_legal (suc n) [] l = l
drop_legal (suc n) (r ∷ R) l = drop_legal n R (legal_less r R l)

overflow_used : (b : Body) (bytes : List ℕ) → b ≡ body.Overflow bytes → b ≢ body.Free
overflow_used b bytes is free = let z : ⊥ = cc in z

one_some : (a b : LongVector) → Some a ≡ Some b → a ≡ b
one_some a b e = cc

count_pages : (xs : List Read) → length (pages_in xs) ≡ length xs
count_pages [] = refl
count_pages (x ∷ xs) = ap suc (count_pages xs)

module _ (R : Log) (pin : Pin) (legal : IsLegal R) (keeps : Keeps R pin) (H : History) (history : IsHistory R H)
    (d : Document) (there : In d (docs (take pin.commits H))) (l : LongVector) (o : IsLongOf R pin d l) (s : ScanCore)
    (from page left : ℕ) (since : pin.length ≤ from) (r : ReadsParts R from s l page left) where
  long : ReadsLong o.pages o.head d.vector r.pages page
  long =
      long_read R pin H d legal keeps history there o.at o.pages o.doc o.head o.since o.within o.shown o.named o.has
      o.long r.pages from page since r.reads (subst (λ (p : ℕ). LeadOn p r.pages page) (sym o.first) r.leads)

  -- a page of its chain is an overflow page
  overflow_page : (q t : ℕ) (Q : Pages) → In q long.chain → pin.length ≤ t → t ≤ length R → Shows (cut t R) Q
      → (bytes : List ℕ) × ((Q q).body ≡ body.Overflow bytes)
  overflow_page =
      part_there R pin H d legal keeps history there o.at o.pages o.doc o.head o.since o.within o.shown o.named o.has
      o.long long.chain long.is_chain

  -- so is the page that is next
  pub next_overflow : page ≢ 0 → (t : ℕ) (Q : Pages) → pin.length ≤ t → t ≤ length R → Shows (cut t R) Q
      → (bytes : List ℕ) × ((Q page).body ≡ body.Overflow bytes)
  next_overflow some t Q low high shown =
      overflow_page page t Q (next_on o.pages o.head d.vector r.pages page long some) low high shown

  module _ (within : from ≤ length R)
      (below : (P : Pages) (p : ℕ) → Shows (cut from R) P → (P p).body ≢ body.Free → p < s.extent) where
    -- its chain has no more pages than the store had when the scan began
    few_pages : length long.chain ≤ s.extent
    few_pages =
        let P = shown_by (cut from R) (drop_legal (length R - from) R legal).valid in
        few_below s.extent long.chain (chain_once o.pages o.head.overflow long.chain long.is_chain) (λ q i.
        let is = overflow_page q from P.0 i since within P.1 in
        below P.0 q P.1 (overflow_used (P.0 q).body is.0 is.1))

    -- where none is left that may be read, all were read
    none_left : left ≡ 0 → page ≡ 0
    none_left none = by long.rest long.next (omega (
      arith,
      few_pages,
      ap length long.are_first,
      length-append (pages_in r.pages) long.rest,
      count_pages r.pages,
      r.left_is,
      none,
    ))
      where
        by : (rest : List ℕ) → IsChain o.pages page rest → length rest ≤ 0 → page ≡ 0
        by [] c n = c
        by (y ∷ rest) c n = absurd (omega (arith, n))

    -- all parts encode its vector
    all_parts : page ≡ 0 → IsEncoding s.bytes.items d.vector × (length s.bytes.items ≡ l.size)
    all_parts none =
        let all = long_all o.pages o.head d.vector r.pages
        (subst (ReadsLong o.pages o.head d.vector r.pages) none long) in
        (subst (λ (bs : List ℕ). IsEncoding bs d.vector) (sym r.bytes) all.0, ap length r.bytes ∙ all.1 ∙ o.size)

    read_up : (at : ℕ) → slice_get s.long.items at ≡ Some l → IsReadUp s at page left
        → IsEncoding s.bytes.items d.vector × (length s.bytes.items ≡ l.size)
    read_up at is (inl none) = all_parts none
    read_up at is (inr (inl none)) = all_parts (none_left none)
    read_up at is (inr (inr over)) =
        let same : over.0 ≡ l = one_some over.0 l (sym over.1 ∙ is) in
        absurd (omega (
          arith,
          long_within o.pages o.head d.vector r.pages page long,
          ap length r.bytes,
          over.2,
          ap (λ (v : LongVector). v.size) same,
          o.size,
        ))

    -- the answer is that of its vector
    pub answered : (P : Vector → Type 0) (s' : ScanCore) (at : ℕ) (t : AddsIfTold P s at s') → t.waits ≡ l
        → IsReadUp s at page left → IsTrue t.answer ↔ P d.vector
    answered P s' at t same up =
        let all = read_up at (t.is_there ∙ ap Some same) up in
        (t.told (all.1 ∙ ap (λ (v : LongVector). v.size) (sym same))).has d.vector all.0
