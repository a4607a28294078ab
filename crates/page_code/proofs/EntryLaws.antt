-- What is on the pages of the entry tree: what is read was encoded, and what is encoded is read.
use Rattle.std.proofs.Common.{◌≡◌, ℕ, zero, suc, ◌<◌, ◌≤◌, List, [], ◌∷◌, ◌++◌, length, take, Result, Ok, Err, refl, ap}
use Rattle.std.proofs.Common.{subst, ◌∙◌, append_assoc, arith}
use Rattle.std.specs.Prelude.{nat_le}
use Rattle.std.specs.List.{flat_map, AllByRecursion}
use Rattle.std.proofs.lemmas.Bool.{leb-true, le-leb}
use Rattle.std.proofs.lemmas.List.{take_at}
use Rattle.page_types.specs.Numbers.{u16_bytes, u32_bytes}
use Rattle.page_types.specs.Items.{IsItemList}
use Rattle.page_types.specs.Keys.{KeyLess}
use Rattle.page_types.specs.Encoding.{key_field, postings_bytes, entry_bytes}
use Rattle.page_types.specs.Pages.{ArePostings, IsEntry, AreEntries}
use Rattle.page_types.specs.Fields.{◌>>=◌, number_at, bytes_at, tested}
use Rattle.page_types.specs.declared.page.Entry.{Entry}
use Rattle.page_types.specs.declared.page.Postings.{Postings}
use Rattle.page_types.specs.declared.page.Postings.TheVariants.{Inline, Root}
use Rattle.page_types.proofs.FieldReading.{IsBytes, IsBytes-take, bind_ok, tested_ok, Takes, Takes-then, bytes_take}
use Rattle.page_types.proofs.FieldReading.{bytes_again, u16_takes, u16_again}
use Rattle.page_code.specs.Fields.{Read, below_at, key_at}
use Rattle.page_code.specs.Items.{list_at}
use Rattle.page_code.specs.Bodies.{in_part, inline_size_at, inline_at, root_at, postings_at, entry_at, entries_at}
use Rattle.page_code.proofs.Passing.{above_none, above_trans}
use Rattle.page_code.proofs.FieldLaws.{tested_again, below_takes, below_again, key_takes, key_again}
use Rattle.page_code.proofs.ItemReading.{list_takes, list_again}
use Rattle.page_code.proofs.Lists.{ok_is, IsReader, all_take, all_again, chain_above, above_chain}

size_takes : (bytes : List ℕ) (x : ℕ × List ℕ) → IsBytes bytes → inline_size_at bytes ≡ Ok x
    → Takes bytes (u16_bytes x.0) x.1 × (x.0 ≤ 1000)
unfolding inline_size_at
size_takes bytes x fits e =
    let a = bind_ok (number_at 2 bytes) (λ n. tested (nat_le n.0 1000) bytes n) x e in
    let g = tested_ok (nat_le a.0.0 1000) bytes a.0 x a.2 in
    let t = u16_takes bytes a.0.0 a.0.1 fits a.1 in
    subst (λ (y : ℕ × List ℕ). Takes bytes (u16_bytes y.0) y.1 × (y.0 ≤ 1000)) g.1 (t.0, leb-true _ _ g.0)

size_again : (n : ℕ) (rest : List ℕ) → n ≤ 1000 → inline_size_at (u16_bytes n ++ rest) ≡ Ok (n, rest)
unfolding inline_size_at
size_again n rest le =
    ap (λ (r : Read ℕ). r >>= λ m. tested (nat_le m.0 1000) (u16_bytes n ++ rest) m) (u16_again n rest (omega arith))
    ∙ tested_again (nat_le n 1000) (u16_bytes n ++ rest) (n, rest) (le-leb n 1000 le)

-- what a part gave
pub part_ok : {A : Type 0} (whole part : List ℕ) (r : Result A ℕ) (x : A) → in_part whole part r ≡ Ok x → r ≡ Ok x
part_ok whole part (Ok y) x e = e
part_ok whole part (Err left) x e = absurd cc

-- the bytes of a part are bytes
pub part_fits : (bytes x rest : List ℕ) → IsBytes bytes → bytes ≡ x ++ rest → IsBytes x
part_fits bytes x rest fits e =
    subst (λ (l : List ℕ). IsBytes l) (ap (take (length x)) e ∙ take_at x rest (length x) refl)
    (IsBytes-take (length x) bytes fits)

inline_encoded : (bytes b1 items rest : List ℕ) (size : ℕ) → Takes bytes (u16_bytes size) b1
    → size ≤ 1000 → Takes b1 items rest → length items ≡ size → IsItemList items
    → Takes (0 ∷ bytes) (postings_bytes (Inline items)) rest × ArePostings (Inline items)
inline_encoded bytes b1 items rest size t0 le t1 len is =
    let sized : Takes bytes (u16_bytes (length items)) b1 = rw len t0 in
    let both = Takes-then bytes (u16_bytes (length items)) b1 items rest sized t1 in
    (record { parts = ap (λ (l : List ℕ). 0 ∷ l) both.parts; rest_fits = both.rest_fits }, (omega (arith, len, le), is))

inline_takes : (bytes : List ℕ) (x : Postings × List ℕ) → IsBytes bytes → inline_at bytes ≡ Ok x
    → Takes (0 ∷ bytes) (postings_bytes x.0) x.1 × ArePostings x.0
unfolding inline_at
inline_takes bytes x fits e =
    let n = bind_ok (inline_size_at bytes)
    (λ n. bytes_at n.0 n.1 >>= λ i. in_part n.1 i.0 (list_at i.0) >>= λ r. Ok (Inline i.0, i.1)) x e in
    let i = bind_ok (bytes_at n.0.0 n.0.1) (λ i. in_part n.0.1 i.0 (list_at i.0) >>= λ r. Ok (Inline i.0, i.1)) x n.2 in
    let r = bind_ok (in_part n.0.1 i.0.0 (list_at i.0.0)) (λ r. Ok (Inline i.0.0, i.0.1)) x i.2 in
    let t0 = size_takes bytes n.0 fits n.1 in
    let t1 = bytes_take n.0.0 n.0.1 i.0.0 i.0.1 t0.0.rest_fits i.1 in
    let list = list_takes i.0.0 r.0 (part_fits n.0.1 i.0.0 i.0.1 t0.0.rest_fits t1.0.parts)
    (part_ok n.0.1 i.0.0 (list_at i.0.0) r.0 r.1) in
    let made : Postings × List ℕ = (Inline i.0.0, i.0.1) in
    subst (λ (y : Postings × List ℕ). Takes (0 ∷ bytes) (postings_bytes y.0) y.1 × ArePostings y.0) (ok_is made x r.2)
    (inline_encoded bytes n.0.1 i.0.0 i.0.1 n.0.0 t0.0 t0.1 t1.0 t1.1 list)

inline_again : (items rest : List ℕ) → length items ≤ 1000 → IsItemList items
    → inline_at ((u16_bytes (length items) ++ items) ++ rest) ≡ Ok (Inline items, rest)
unfolding inline_at
inline_again items rest le is =
    ap inline_at (append_assoc (u16_bytes (length items)) items rest)
    ∙ rw (size_again (length items) (items ++ rest) le, bytes_again (length items) items rest refl)
    (ap (λ (r : Result (List ℕ) ℕ). in_part (items ++ rest) items r >>= λ _. Ok (Inline items, rest))
    (list_again items is))

root_takes : (bytes : List ℕ) (x : Postings × List ℕ) → IsBytes bytes → root_at bytes ≡ Ok x
    → Takes (1 ∷ bytes) (postings_bytes x.0) x.1 × ArePostings x.0
unfolding root_at
root_takes bytes x fits e =
    let r = bind_ok (below_at 1048576 bytes) (λ r. Ok (Root r.0, r.1)) x e in
    let t = below_takes 1048576 bytes r.0 fits r.1 in
    let made : Postings × List ℕ = (Root r.0.0, r.0.1) in
    let whole : Takes (1 ∷ bytes) (postings_bytes (Root r.0.0)) r.0.1 =
    record { parts = ap (λ (l : List ℕ). 1 ∷ l) t.0.parts; rest_fits = t.0.rest_fits } in
    subst (λ (y : Postings × List ℕ). Takes (1 ∷ bytes) (postings_bytes y.0) y.1 × ArePostings y.0) (ok_is made x r.2)
    (whole, t.1)

root_again : (root : ℕ) (rest : List ℕ) → root < 1048576 → root_at (u32_bytes root ++ rest) ≡ Ok (Root root, rest)
unfolding root_at
root_again root rest lt =
    ap (λ (r : Read ℕ). r >>= λ r. Ok (Root r.0, r.1)) (below_again 1048576 root rest lt (omega arith))

postings_take : (bytes : List ℕ) (x : Postings × List ℕ) → IsBytes bytes → postings_at bytes ≡ Ok x
    → Takes bytes (postings_bytes x.0) x.1 × ArePostings x.0
postings_take [] x fits e = absurd cc
postings_take (zero ∷ bytes) x fits e = inline_takes bytes x (λ i. fits (suc i)) e
postings_take (suc zero ∷ bytes) x fits e = root_takes bytes x (λ i. fits (suc i)) e
postings_take (suc (suc b) ∷ bytes) x fits e = absurd cc

postings_again : (p : Postings) (rest : List ℕ) → ArePostings p → postings_at (postings_bytes p ++ rest) ≡ Ok (p, rest)
postings_again (Inline items) rest is = inline_again items rest is.0 is.1
postings_again (Root root) rest is = root_again root rest is

-- ---- entries

abbrev pub IsNextEntry : List ℕ → ℕ → Entry → Type 0
IsNextEntry last k e = IsEntry e × KeyLess last e.key

entry_takes : (last bytes : List ℕ) (x : Entry × List ℕ) → IsBytes bytes → entry_at last bytes ≡ Ok x
    → Takes bytes (entry_bytes x.0) x.1 × (IsEntry x.0 × KeyLess last x.0.key)
unfolding entry_at entry_bytes
entry_takes last bytes x fits e =
    let k = bind_ok (key_at last bytes) (λ k. postings_at k.1 >>= λ p. Ok (record { key = k.0; postings = p.0 }, p.1)) x
    e in
    let p = bind_ok (postings_at k.0.1) (λ p. Ok (record { key = k.0.0; postings = p.0 }, p.1)) x k.2 in
    let t0 = key_takes last bytes k.0 fits k.1 in
    let t1 = postings_take k.0.1 p.0 t0.0.rest_fits p.1 in
    let both = Takes-then bytes (key_field k.0.0) k.0.1 (postings_bytes p.0.0) p.0.1 t0.0 t1.0 in
    let made : Entry × List ℕ = (record { key = k.0.0; postings = p.0.0 }, p.0.1) in
    let whole : Takes bytes (entry_bytes made.0) made.1 × (IsEntry made.0 × KeyLess last made.0.key) =
    (both, (record { key = t0.1.0; postings = t1.1 }, t0.1.1)) in
    subst (λ (y : Entry × List ℕ). Takes bytes (entry_bytes y.0) y.1 × (IsEntry y.0 × KeyLess last y.0.key))
    (ok_is made x p.2) whole

entry_again : (last : List ℕ) (n : Entry) (rest : List ℕ) → IsEntry n → KeyLess last n.key
    → entry_at last (entry_bytes n ++ rest) ≡ Ok (n, rest)
unfolding entry_at entry_bytes
entry_again last n rest is less =
    ap (entry_at last) (append_assoc (key_field n.key) (postings_bytes n.postings) rest)
    ∙ rw (key_again last n.key (postings_bytes n.postings ++ rest) is.key less) (ap (λ (r : Read Postings). r
    >>= λ p. Ok (record { key = n.key; postings = p.0 }, p.1)) (postings_again n.postings rest is.postings))

entry_reader : IsReader (λ last _ rest. entry_at last rest) entry_bytes IsNextEntry
entry_reader = record {
  takes = λ last k bytes x fits e. entry_takes last bytes x fits e;
  again = λ last k x rest is. entry_again last x rest is.0 is.1;
}

-- so many entries that are read
pub record TakesEntries (count : ℕ) (bytes : List ℕ) (entries : List Entry) (rest : List ℕ) : Type 0 where
  pub takes : Takes bytes (flat_map entry_bytes entries) rest
  pub many : length entries ≡ count
  pub fit : AreEntries entries

pub entries_take : (count : ℕ) (bytes : List ℕ) (x : List Entry × List ℕ) → IsBytes bytes
    → entries_at count bytes ≡ Ok x → TakesEntries count bytes x.0 x.1
entries_take count bytes x fits e =
    let t = all_take (λ last _ rest. entry_at last rest) entry_bytes IsNextEntry
    (λ e. e.key) entry_reader [] count bytes x fits e in
    let c = chain_above IsEntry (λ last e. KeyLess last e.key) (λ e. e.key)
    (λ a b c p q. above_trans a b.key c.key p q) [] x.0 t.fit in
    record { takes = t.takes; many = t.count; fit = record { each = c.0; rising = c.2 } }

all_above_none : (entries : List Entry) → AllByRecursion IsEntry entries
    → AllByRecursion (λ e. KeyLess [] e.key) entries
all_above_none [] h = tt
all_above_none (e ∷ es) h = (above_none e.key h.0.key, all_above_none es h.1)

pub entries_again : (entries : List Entry) (rest : List ℕ) → AreEntries entries
    → entries_at (length entries) (flat_map entry_bytes entries ++ rest) ≡ Ok (entries, rest)
entries_again entries rest are =
    all_again (λ last _ rest. entry_at last rest) entry_bytes IsNextEntry (λ e. e.key) entry_reader [] entries rest
    (above_chain IsEntry (λ last e. KeyLess last e.key) (λ e. e.key) [] entries are.each
    (all_above_none entries are.each) are.rising)
