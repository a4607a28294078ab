-- The printed text of a vector is text, and it is read again.
use Rattle.std.proofs.Common.{◌≡◌, ◌≢◌, ℕ, suc, ◌+◌, ◌-◌, ◌/◌, ◌%◌, ◌<◌, ◌≤◌, inl, inr, List, [], ◌∷◌, ◌++◌, length}
use Rattle.std.proofs.Common.{take, map, refl, sym, ◌∙◌, ap, subst, arith, append_assoc}
use Rattle.std.specs.Prelude.{All, Any, Contains, AllPairs}
use Rattle.std.specs.List.{flat_map, join_with_byte}
use Rattle.std.specs.Fmt.{decimal}
use Rattle.std.proofs.lemmas.Fmt.{decimal_by_steps}
use Rattle.std.proofs.lemmas.List.{append-nil, take_all}
use Rattle.std.proofs.lemmas.List.Elements.{All-nil, All-cons, All-head, All-tail, All-contains}
use Rattle.std.proofs.Math.Seq.{append_snoc}
use Rattle.ts_base.specs.declared.Weight.{Weight}
use Rattle.ts_base.specs.declared.Weight.TheVariants.{A, B, C, D}
use Rattle.ts_base.specs.Vectors.{Position, Entry, Vector, IsPosition, IsEntry, IsNormal}
use Rattle.ts_base.specs.Encoding.{weight_number}
use Rattle.ts_vector.specs.Normal.{capped, Names, Places, IsHighest, IsPlaced, IsNormalFormOf}
use Rattle.ts_vector.specs.Text.{Written, written, position, IsParted, PositionNumber, BehindPosition, Items}
use Rattle.ts_vector.specs.Text.{LexemeTail, AllShort, entry_of, entries, digit, letter, bare, last, comma, done, space}
use Rattle.ts_vector.specs.Text.{quoted, alone, numbered}
use Rattle.ts_base.specs.Bytes.{IsDigit, BeginsWithQuote}
use Rattle.ts_base.specs.Digits.{with_digit}
use Rattle.ts_base.specs.Quoted.{doubled_byte}
use Rattle.ts_vector.specs.Printed.{weight_text, position_text, positions_text, entry_text, vector_text}
use Rattle.ts_vector.specs.Printed.{PrintedTextIsRead}
use Rattle.ts_vector.proofs.Rising.{any_of, of_any, contains_cases, contains_none, head_before, pairs_tail}
use Rattle.ts_vector.proofs.Merging.{all_of}
use Rattle.ts_vector.proofs.Settling.{capped_same, rising_one}
use Rattle.ts_base.proofs.QuotedTexts.{quoted_reads}
use Rattle.ts_base.specs.declared.TheConstants.{LAST_POSITION}

-- ── positions ──
-- the digits of n lead to n
abbrev LeadsTo : ℕ → List ℕ → Type 0
LeadsTo n ds = n ≤ 16383 → (a : List Position) (t : List ℕ) (ps : List Position) (r : List ℕ)
    → PositionNumber n a t ps r → PositionNumber 0 a (ds ++ t) ps r

one_digit : (n : ℕ) → n < 10 → LeadsTo n ((48 + n) ∷ [])
one_digit n lt le a t ps r k =
    let e : n ≡ with_digit LAST_POSITION 0 (48 + n) = omega arith in
    let d : IsDigit (48 + n) = omega arith in
    digit (48 + n) 0 a t ps r d (subst (λ m. PositionNumber m a t ps r) e k)

more_digits : (n : ℕ) (ds : List ℕ) → 10 ≤ n → LeadsTo (n / 10) ds → LeadsTo n (ds ++ (48 + n % 10) ∷ [])
more_digits n ds ge front le a t ps r k =
    let e : n ≡ with_digit LAST_POSITION (n / 10) (48 + n % 10) = omega arith in
    let d : IsDigit (48 + n % 10) = omega arith in
    subst (λ u. PositionNumber 0 a u ps r) (sym (append_snoc ds (48 + n % 10) t))
    (front (omega arith) a ((48 + n % 10) ∷ t) ps r
    (digit (48 + n % 10) (n / 10) a t ps r d (subst (λ m. PositionNumber m a t ps r) e k)))

decimal_leads : (n : ℕ) → n ≤ 16383 → LeadsTo n (decimal n)
decimal_leads n le = decimal_by_steps LeadsTo one_digit more_digits n (omega arith)

letter_leads : (n : ℕ) (w : Weight) (a : List Position) (t : List ℕ) (ps : List Position) (r : List ℕ) → 0 < n
    → BehindPosition (a ++ position n w ∷ []) t ps r → PositionNumber n a (weight_text w ++ t) ps r
letter_leads n D a t ps r p b = bare n a t ps r p b
letter_leads n C a t ps r p b = letter 67 n C a t ps r p (inl refl) b
letter_leads n B a t ps r p b = letter 66 n B a t ps r p (inl refl) b
letter_leads n A a t ps r p b = letter 65 n A a t ps r p (inl refl) b

position_leads : (p : Position) (a : List Position) (t : List ℕ) (ps : List Position) (r : List ℕ) → IsPosition p
    → BehindPosition (a ++ p ∷ []) t ps r → PositionNumber 0 a (position_text p ++ t) ps r
position_leads p a t ps r h b =
    subst (λ u. PositionNumber 0 a u ps r) (sym (append_assoc (decimal p.at) (weight_text p.weight) t))
    (decimal_leads p.at h.1 h.1 a (weight_text p.weight ++ t) ps r (letter_leads p.at p.weight a t ps r h.0 b))

positions_lead : (ps : List Position) (p : Position) (a : List Position) (r : List ℕ) → IsParted r
    → All IsPosition (p ∷ ps) → PositionNumber 0 a (join_with_byte 44 (map position_text (p ∷ ps)) ++ r) (a ++ p ∷ ps) r
positions_lead [] p a r e h = position_leads p a r (a ++ p ∷ []) r (All-head IsPosition p [] h) (last (a ++ p ∷ []) r e)
positions_lead (q ∷ ps) p a r e h =
    let rest = join_with_byte 44 (map position_text (q ∷ ps)) in
    let k : PositionNumber 0 (a ++ p ∷ []) (rest ++ r) (a ++ p ∷ q ∷ ps) r =
    subst (λ l. PositionNumber 0 (a ++ p ∷ []) (rest ++ r) l r) (append_snoc a p (q ∷ ps))
    (positions_lead ps q (a ++ p ∷ []) r e (All-tail IsPosition p (q ∷ ps) h)) in
    subst (λ u. PositionNumber 0 a u (a ++ p ∷ q ∷ ps) r) (sym (append_assoc (position_text p) (44 ∷ rest) r))
    (position_leads p a (44 ∷ (rest ++ r)) (a ++ p ∷ q ∷ ps) r (All-head IsPosition p (q ∷ ps) h)
    (comma (a ++ p ∷ []) (rest ++ r) (a ++ p ∷ q ∷ ps) r k))

-- ── entries ──
parted_no_quote : (r : List ℕ) → IsParted r → ¬ BeginsWithQuote r
parted_no_quote [] e b = b
parted_no_quote (c ∷ r) e b = grind arith

some_ne : (l : List ℕ) → 1 ≤ length l → l ≢ []
some_ne l h e = let n = ap length e in omega arith

-- after the lexeme are its positions
word_leads : (size s : ℕ) (a : List Written) (l : List ℕ) (ps : List Position) (r : List ℕ) (v : List Written)
    → IsParted r → All IsPosition ps
    → Items size (a ++ written s l ps ∷ []) r v → LexemeTail size s a l (positions_text ps ++ r) v
word_leads size s a l [] r v e h k = alone s a l r v k
word_leads size s a l (p ∷ ps) r v e h k =
    numbered s a l (join_with_byte 44 (map position_text (p ∷ ps)) ++ r) (p ∷ ps) r v (positions_lead ps p [] r e h) k

behind_no_quote : (ps : List Position) (r : List ℕ) → IsParted r → ¬ BeginsWithQuote (positions_text ps ++ r)
behind_no_quote [] r e b = parted_no_quote r e b
behind_no_quote (p ∷ ps) r e b = let z : ◌≡◌ {A = ℕ} 58 39 = b in omega arith

entry_leads : (size : ℕ) (e : Entry) (a : List Written) (r : List ℕ) → IsEntry e → IsParted r
    → (s : ℕ) × ((v : List Written) → Items size (a ++ written s e.lexeme e.positions ∷ []) r v
    → Items size a (entry_text e ++ r) v)
entry_leads size e a r h parted =
    let behind = positions_text e.positions ++ r in
    let u = flat_map doubled_byte e.lexeme ++ 39 ∷ behind in
    let s = size - suc (length u) in
    let same : u ≡ ((flat_map doubled_byte e.lexeme ++ 39 ∷ []) ++ positions_text e.positions) ++ r =
    sym (append_assoc (flat_map doubled_byte e.lexeme ++ 39 ∷ []) (positions_text e.positions) r
    ∙ append_snoc (flat_map doubled_byte e.lexeme) 39 behind) in (
      s,
      λ v k. subst (λ t. Items size a (39 ∷ t) v) same
          (quoted a u e.lexeme behind v (quoted_reads e.lexeme [] behind (behind_no_quote e.positions r parted))
          (some_ne e.lexeme h.lexeme.some)
          (word_leads size s a e.lexeme e.positions r v parted h.positions k)),
    )

vector_leads : (size : ℕ) (v : Vector) (a : List Written) → All IsEntry v
    → (items : List Written) × Items size a (vector_text v) (a ++ items) × (entries items ≡ v)
vector_leads size [] a h = ([], subst (Items size a []) (sym (append-nil a)) (done a), refl)
vector_leads size (e ∷ []) a h =
    let k = entry_leads size e a [] (All-head IsEntry e [] h) tt in
    let w = written k.0 e.lexeme e.positions in (
      w ∷ [],
      subst (λ t. Items size a t (a ++ w ∷ [])) (append-nil (entry_text e)) (k.1 (a ++ w ∷ []) (done (a ++ w ∷ []))),
      refl,
    )
vector_leads size (e ∷ f ∷ v) a h =
    let rest = vector_text (f ∷ v) in
    let k = entry_leads size e a (32 ∷ rest) (All-head IsEntry e (f ∷ v) h) (inl refl) in
    let w = written k.0 e.lexeme e.positions in
    let t = vector_leads size (f ∷ v) (a ++ w ∷ []) (All-tail IsEntry e (f ∷ v) h) in
    let more : Items size (a ++ w ∷ []) rest (a ++ w ∷ t.0) =
    subst (Items size (a ++ w ∷ []) rest) (append_snoc a w t.0) t.1 in
    (w ∷ t.0, k.1 (a ++ w ∷ t.0) (space 32 (a ++ w ∷ []) rest (a ++ w ∷ t.0) (inl refl) more), λ i. e ∷ t.2 i)

-- ── a vector in normal form is its own normal form ──
position_one : (ps : List Position) (p q : Position) → AllPairs (λ x y. x.at < y.at) ps → Contains ps p → Contains ps q
    → p.at ≡ q.at → p ≡ q
position_one [] p q h c k e = absurd (contains_none p c)
position_one (x ∷ ps) p q h c k e = elim (contains_cases x p ps c) [
  | inl s ↦ elim (contains_cases x q ps k) [
    | inl t ↦ sym s ∙ t
    | inr t ↦ absurd (let lt : x.at < q.at = head_before (λ x y. x.at < y.at) x q ps h t in
        let z : x.at ≡ p.at = ap (λ r. r.at) s in omega arith)
  ]
  | inr s ↦ elim (contains_cases x q ps k) [
    | inl t ↦ absurd (let lt : x.at < p.at = head_before (λ x y. x.at < y.at) x p ps h s in
        let z : x.at ≡ q.at = ap (λ r. r.at) t in omega arith)
    | inr t ↦ position_one ps p q (pairs_tail (λ x y. x.at < y.at) x ps h) s t e
  ]
]

module _ (v : Vector) (n : IsNormal v) (e : Entry) (there : Contains v e) where
  is_entry : (x : Entry) → Contains v x → IsEntry x
  is_entry x c = All-contains IsEntry v x n.entries c

  place : (p : Position) → Contains e.positions p → Places v e.lexeme p
  place p c =
      any_of (λ x. (x.lexeme ≡ e.lexeme) × Any (λ q. capped q ≡ p) x.positions) v e there (
        refl,
        any_of (λ q. capped q ≡ p) e.positions p c
            (capped_same p (All-contains IsPosition e.positions p (is_entry e there).positions c)),
      )

  unplace : (p : Position) → Places v e.lexeme p → Contains e.positions p
  unplace p h =
      let x = of_any (λ y. (y.lexeme ≡ e.lexeme) × Any (λ q. capped q ≡ p) y.positions) v h in
      let q = of_any (λ q. capped q ≡ p) x.0.positions x.2.1 in
      let s = rising_one v x.0 e n.rising x.1 there x.2.0 in
      let z : q.0 ≡ p =
      sym (capped_same q.0 (All-contains IsPosition x.0.positions q.0 (is_entry x.0 x.1).positions q.1)) ∙ q.2 in
      subst (λ w. Contains w.positions p) s (subst (λ w. Contains x.0.positions w) z q.1)

  highest_there : (p : Position) → Contains e.positions p → IsHighest v e.lexeme p
  highest_there p c = record {
    placed = place p c;
    highest = λ w h.
        let k = unplace (record { at = p.at; weight = w }) h in
        let s = position_one e.positions (record { at = p.at; weight = w }) p (is_entry e there).rising k c refl in
        let m : weight_number w ≡ weight_number p.weight = ap (λ q. weight_number q.weight) s in
        omega arith;
  }

  placed_itself : IsPlaced v e
  placed_itself = (
    e.positions,
    record {
      rising = (is_entry e there).rising;
      only = all_of (IsHighest v e.lexeme) e.positions highest_there;
      each = λ p h. unplace p h.placed;
    },
    sym (take_all 256 e.positions (is_entry e there).few),
  )

pub normal_itself : (v : Vector) → IsNormal v → IsNormalFormOf v v
normal_itself v n = record {
  rising = n.rising;
  only = all_of (λ e. Names v e.lexeme) v (λ e c. any_of (λ x. x.lexeme ≡ e.lexeme) v e c refl);
  each = λ l h. h;
  placed = all_of (IsPlaced v) v (placed_itself v n);
}

fit_entries : (items : List Written) → All IsEntry (entries items) → AllShort items
fit_entries [] h = All-nil (λ item. length item.lexeme ≤ 2046)
fit_entries (w ∷ items) h =
    All-cons (λ item. length item.lexeme ≤ 2046) w items (All-head IsEntry (entry_of w) (entries items) h).lexeme.most
    (fit_entries items (All-tail IsEntry (entry_of w) (entries items) h))

pub printed_text_is_read : PrintedTextIsRead
printed_text_is_read v n small =
    let k = vector_leads (length (vector_text v)) v [] n.entries in
    record {
      items = k.0;
      text_of = k.1;
      fit = fit_entries k.0 (subst (All IsEntry) (sym k.2) n.entries);
      form = subst (λ l. IsNormalFormOf l v) (sym k.2) (normal_itself v n);
      small = small;
    }

-- ── as they are printed one after another ──
pub join_is : {X : Type 0} (c : ℕ) (f : X → List ℕ) (x : X) (xs : List X)
    → join_with_byte c (map f (x ∷ xs)) ≡ f x ++ flat_map (λ y. c ∷ f y) xs
join_is c f x [] = sym (append-nil (f x))
join_is c f x (y ∷ xs) = ap (λ t. f x ++ c ∷ t) (join_is c f y xs)

pub positions_end : (old colon one out : List ℕ) (p : Position) (ps all : List Position) (k : ℕ) → all ≡ p ∷ ps
    → colon ≡ old ++ 58 ∷ [] → one ≡ colon ++ position_text p
    → out ≡ one ++ flat_map (λ q. 44 ∷ position_text q) (take k ps) → length ps ≤ k → out ≡ old ++ positions_text all
positions_end old colon one out p ps all k e a b h le =
    h ∙ ap (λ t. one ++ flat_map (λ q. 44 ∷ position_text q) t) (take_all k ps le)
    ∙ ap (λ t. t ++ flat_map (λ q. 44 ∷ position_text q) ps) (b ∙ ap (λ t. t ++ position_text p) a)
    ∙ append_assoc (old ++ 58 ∷ []) (position_text p) (flat_map (λ q. 44 ∷ position_text q) ps)
    ∙ append_snoc old 58 (position_text p ++ flat_map (λ q. 44 ∷ position_text q) ps)
    ∙ ap (λ t. old ++ 58 ∷ t) (sym (join_is 44 position_text p ps)) ∙ ap (λ t. old ++ positions_text t) (sym e)

pub entries_end : (old one out : List ℕ) (x : Entry) (xs all : Vector) → x ∷ xs ≡ all → one ≡ old ++ entry_text x
    → out ≡ one ++ flat_map (λ y. 32 ∷ entry_text y) xs → out ≡ old ++ vector_text all
entries_end old one out x xs all e b h =
    h ∙ ap (λ t. t ++ flat_map (λ y. 32 ∷ entry_text y) xs) b
    ∙ append_assoc old (entry_text x) (flat_map (λ y. 32 ∷ entry_text y) xs)
    ∙ ap (λ t. old ++ t) (sym (join_is 32 entry_text x xs)) ∙ ap (λ t. old ++ vector_text t) e

pub next_end : (old spaced new t rest : List ℕ) → spaced ≡ old ++ 32 ∷ [] → new ≡ spaced ++ t
    → new ++ rest ≡ old ++ (32 ∷ (t ++ rest))
next_end old spaced new t rest e h =
    ap (λ u. u ++ rest) (h ∙ ap (λ u. u ++ t) e) ∙ append_assoc (old ++ 32 ∷ []) t rest ∙ append_snoc old 32 (t ++ rest)
