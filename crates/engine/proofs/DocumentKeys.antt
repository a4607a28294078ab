-- The keys of a vector as rows have them.
use Rattle.std.proofs.Common.{◌≡◌, ◌≢◌, ◌≤◌, ◌+◌, ◌*◌, ◌^◌, ℕ, suc, List, [], ◌∷◌, length, map, refl}
use Rattle.std.proofs.Common.{arith, length-append}
use Rattle.std.specs.Prelude.{All, AllPairs}
use Rattle.std.specs.List.{AllByRecursion}
use Rattle.std.proofs.lemmas.List.{length-map}
use Rattle.std.proofs.lemmas.List.Elements.{recursion_from_All}
use Rattle.std.proofs.lemmas.List.Sums.{sum_by-cons}
use Rattle.ts_base.specs.Keys as texts
use Rattle.ts_base.specs.Keys.{Key, keys_of, or_placeholder, lexeme_key}
use Rattle.ts_base.specs.Vectors.{Vector, Entry, IsEntry, IsNormal, content_size}
use Rattle.ts_base.specs.Encoding.{IsEncoding}
use Rattle.ts_base.proofs.KeyOrder.{keys_rise_at}
use Rattle.page_types.specs.Keys as pages
use Rattle.page_types.specs.Keys.{KeyLess, Rising}
use Rattle.page_types.specs.declared.page.Page.{Page}
use Rattle.pending_list.specs.Packing.{AreKeys, ArePacked}

to_pages : (k : Key) → texts.IsKey k → pages.IsKey k
to_pages k (texts.IsKey.of_lexeme text h) = record { some = h.some; most = h.most; utf8 = h.utf8 }
to_pages k texts.IsKey.of_none = refl

all_keys : (ks : List Key) → AllByRecursion texts.IsKey ks → AllByRecursion pages.IsKey ks
all_keys [] all = tt
all_keys (k ∷ ks) all = (to_pages k all.0, all_keys ks all.1)

rising : (ks : List Key) → AllPairs KeyLess ks → Rising KeyLess ks
rising [] pairs = tt
rising (k ∷ ks) pairs = (
  recursion_from_All (KeyLess k) ks (λ j d lt. pairs 0 (suc j) d (omega arith) (omega (arith, lt))),
  rising ks (λ i j d lt below. pairs (suc i) (suc j) d (omega (arith, lt)) (omega (arith, below))),
)

some_keys : (ks : List Key) → or_placeholder ks ≢ []
some_keys [] = λ e. cc
some_keys (k ∷ ks) = λ e. cc

-- they are one or more, in their order, each once
pub keys_are : (v : Vector) → IsNormal v → AreKeys (keys_of v)
keys_are v normal =
    let rise = keys_rise_at v normal in
    record {
      some = some_keys (map (λ (e : Entry). lexeme_key e.lexeme) v);
      each = all_keys (keys_of v) (recursion_from_All texts.IsKey (keys_of v) rise.0);
      rising = rising (keys_of v) rise.1;
    }

few_entries : (v : Vector) → All IsEntry v → length v ≤ content_size v
few_entries [] all = omega arith
few_entries (e ∷ v) all =
    let here : IsEntry e = all 0 e (omega arith) in
    let some : 1 ≤ length e.lexeme = (here.lexeme).some in
    omega (
      arith,
      some,
      few_entries v (λ k d lt. all (suc k) d (omega (arith, lt))),
      sum_by-cons (λ (d : Entry). length d.lexeme + 2 * length d.positions) e v,
    )

few_or_one : (ks : List Key) → length (or_placeholder ks) ≤ length ks + 1
few_or_one [] = omega arith
few_or_one (k ∷ ks) = omega arith

-- a page or more, no more than there are keys
pub packed_few : (item : ℕ) (keys : List Key) (pages : List Page) → ArePacked item keys pages → keys ≢ []
    → length pages ≤ length keys
packed_few item _ _ (ArePacked.last keys fits) some = by keys some
  where
    by : (ks : List Key) → ks ≢ [] → 1 ≤ length ks
    by [] off = absurd (off refl)
    by (k ∷ ks) off = omega arith
packed_few item _ _ (ArePacked.more front key back pages off fits most rest) some =
    let more : length pages ≤ length (key ∷ back) = packed_few item (key ∷ back) pages rest (λ e. cc) in
    let size = length-append front (key ∷ back) in
    omega (arith, more, size, by front off)
  where
    by : (ks : List Key) → ks ≢ [] → 1 ≤ length ks
    by [] off = absurd (off refl)
    by (k ∷ ks) off = omega arith

pub keys_few : (bytes : List ℕ) (v : Vector) → IsEncoding bytes v → length (keys_of v) ≤ 2 ^ 20
keys_few bytes v is =
    let ks : List Key = map (λ (e : Entry). lexeme_key e.lexeme) v in
    let most : length (keys_of v) ≤ length ks + 1 = few_or_one ks in
    let size : length ks ≡ length v = length-map v (λ (e : Entry). lexeme_key e.lexeme) in
    omega (arith, is.small, few_entries v (is.normal).entries, most, size)
