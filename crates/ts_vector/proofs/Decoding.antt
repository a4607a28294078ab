-- Each field of a vector's bytes goes on, or spoils them.
use Rattle.std.proofs.Common.{◌≡◌, ◌≢◌, ℕ, zero, suc, ◌+◌, ◌-◌, ◌*◌, ◌/◌, ◌%◌, ◌^◌, ◌<◌, ◌≤◌, inl, inr, List, [], ◌∷◌}
use Rattle.std.proofs.Common.{◌++◌, length, refl, sym, ◌∙◌, ap, subst, arith, append_assoc, append-nil, length-append}
use Rattle.std.proofs.Common.{get_or, Bool, cond, true}
use Rattle.std.specs.Prelude.{All, AllPairs}
use Rattle.std.specs.List.{flat_map}
use Rattle.std.specs.Ordering.{nat_cmp, is_lt}
use Rattle.std.specs.declared.cmp.Ordering.{Ordering}
use Rattle.std.specs.declared.cmp.Ordering.TheVariants.{Less, Equal, Greater}
use Rattle.std.specs.Cmp.Lexicographic.{slice_cmp, nat_list_cmp_total}
use Rattle.std.specs.Str.{IsUtf8}
use Rattle.std.proofs.Math.Seq.{get_or-append_seam}
use Rattle.std.proofs.lemmas.List.{get_or_append_left}
use Rattle.std.proofs.lemmas.Bool.{cases_lt, lt-ltb, le-ltb}
use Rattle.std.proofs.lemmas.List.Concat.{flat_map-append, flat_map-cons}
use Rattle.std.proofs.lemmas.List.Elements.{All-nil, All-push, All-head, All-tail}
use Rattle.std.proofs.lemmas.List.Quantifiers.{Any-push, all_pairs_push}
use Rattle.ts_base.specs.Lexemes.{IsLexeme, IsBefore}
use Rattle.ts_base.specs.Vectors.{Position, Entry, Vector, IsPosition, IsEntry, IsNormal, content_size}
use Rattle.ts_base.specs.declared.Weight.{Weight}
use Rattle.ts_base.specs.declared.Weight.TheVariants.{D, C, B, A}
use Rattle.ts_base.specs.Endian.{little_bytes}
use Rattle.ts_base.specs.Encoding.{weight_number, position_number, position_bytes, entry_bytes, IsEncoding}
use Rattle.ts_base.proofs.LittleBytes.{same_fronts}
use Rattle.ts_vector.specs.Decoded.{DecodedPart, Next, Width, IsBeginning, IsBehind, AreRising, ReadsFields}
use Rattle.ts_vector.specs.Decoded.{BadBytesAreNoEncoding, entry_with, start, counted, measured, named, placed, count}
use Rattle.ts_vector.specs.Decoded.{measure, name, no_places, places, place, last_place, of_count, of_length, of_lexeme}
use Rattle.ts_vector.specs.Decoded.{of_number, of_place, begun, field}
use Rattle.ts_vector.specs.Inner.Fields.{Goes, Spoils, Stops, IsShort, BytesStop, behind, Lists, ListsSome, ListStops}
use Rattle.ts_vector.specs.Inner.Fields.{IsLast, IsLastLexeme, no_lexeme, last_lexeme, IsFront, Adds}
use Rattle.ts_vector.specs.declared.bytes.Stop.{Stop}
use Rattle.ts_vector.specs.declared.checker.Front.{Front}
use Rattle.ts_vector.proofs.Rising.{pairs_head, pairs_tail}
use Rattle.ts_vector.proofs.Merging.{size-append, size-cons}
use Rattle.ts_vector.proofs.Counts.{length-le-content}
use Rattle.ts_vector.proofs.Fields.{next_one, whole_not_bad}

-- ── what the fields so far say ──
abbrev pub Sound : DecodedPart → Type 0
Sound start = Unit {0}
Sound (counted n v) = IsNormal v × (content_size v < 1048576)
Sound (measured n v k) = IsNormal v × (content_size v + k < 1048576)
Sound (named n v l) = IsNormal v × IsLexeme l × IsBehind v l × (content_size v + length l < 1048576)
Sound (placed n v l m ps) =
    IsNormal v × IsLexeme l × IsBehind v l × (m ≤ 256) × (content_size v + length l + 2 * m < 1048576) × AreRising ps

sound_next : (p q : DecodedPart) (f : List ℕ) → Next p f q → IsBeginning q → Sound p → Sound q
sound_next p q f (count n h) b s = b
sound_next p q f (measure n k v lt h) b s = (s.0, b.2)
sound_next p q f (name n k v l e) b s = (s.0, b.0, b.1, omega (arith, e, s.1))
sound_next p q f (no_places n v l) b s = b
sound_next p q f (places n m v l h k) b s = (s.0, s.1, s.2, b.0, b.1, b.2)
sound_next p q f (place n m v l ps x h k) b s = (s.0, s.1, s.2, b.0, b.1, b.2)
sound_next p q f (last_place n m v l ps x h k) b s = b

pub sound : (bytes : List ℕ) (p : DecodedPart) (r : List ℕ) → ReadsFields bytes p r → Sound p
sound bytes p r begun = tt
sound bytes p r (field q _ f _ h n b) = sound_next q p f n b (sound bytes q (f ++ r) h)

pub rest_short : (bytes : List ℕ) (p : DecodedPart) (r : List ℕ) → ReadsFields bytes p r → length r ≤ length bytes
rest_short bytes p r begun = omega arith
rest_short bytes p r (field q _ f _ h n b) = omega (arith, rest_short bytes q (f ++ r) h, length-append f r)

-- ── a field ──
pub goes : (p q : DecodedPart) (f r s : List ℕ) → r ≡ f ++ s → Next p f q → (Sound p → IsBeginning q) → Goes p r q s
goes p q f r s e n b = record {
  shorter = omega (arith, ap length e, length-append f s);
  on = λ bytes h. field p q f s (subst (ReadsFields bytes p) e h) n (b (sound bytes p r h));
}

pub cut : (p : DecodedPart) (w : ℕ) (r : List ℕ) → Width p w → length r < w → Spoils p r 0
cut p w r width lt = record {
  within = omega arith;
  bad = λ bytes h. record { part = p; rest = r; reads = h; cause = inl ((w, width, lt), omega arith) };
}

at_left : (a b : ℕ) → a ≤ b → b - a + a ≡ b
at_left a b h = omega arith

pub wrong : (p q : DecodedPart) (f r s : List ℕ) → r ≡ f ++ s → Next p f q → Width p (length f)
    → (Sound p → ¬ IsBeginning q) → Spoils p r (length r)
wrong p q f r s e n width never = record {
  within = omega arith;
  bad = λ bytes h. record {
    part = p;
    rest = r;
    reads = h;
    cause = inr (
      inr (
        f,
        s,
        e,
        width,
        λ x k b. never (sound bytes p r h) (subst IsBeginning ((next_one p x q f f s s k n refl).0) b),
      ),
      at_left (length r) (length bytes) (rest_short bytes p r h),
    );
  };
}

pub surplus : (n : ℕ) (v : Vector) (r : List ℕ) → length v ≡ n → r ≢ [] → Spoils (counted n v) r (length r)
surplus n v r whole more = record {
  within = omega arith;
  bad = λ bytes h. record {
    part = counted n v;
    rest = r;
    reads = h;
    cause = inr (inl (n, v, refl, whole, more), at_left (length r) (length bytes) (rest_short bytes (counted n v) r h));
  };
}

pub goes_then : (p q x : DecodedPart) (r s t : List ℕ) → Goes p r q s → Goes q s x t → Goes p r x t
goes_then p q x r s t a b =
    record { shorter = omega (arith, a.shorter, b.shorter); on = λ bytes h. b.on bytes (a.on bytes h) }

pub spoils_then : (p q : DecodedPart) (r s : List ℕ) (left : ℕ) → Goes p r q s → Spoils q s left → Spoils p r left
spoils_then p q r s left a b =
    record { within = omega (arith, a.shorter, b.within); bad = λ bytes h. b.bad bytes (a.on bytes h) }

pub stops_then : (p q : DecodedPart) (r s : List ℕ) (e : Stop) → Goes p r q s → Stops q s e → Stops p r e
stops_then p q r s stop a b = spoils_then p q r s stop.left a b

-- ── one more entry ──
pub entry_size : (v : Vector) (e : Entry)
    → content_size (v ++ e ∷ []) ≡ content_size v + (length e.lexeme + 2 * length e.positions)
entry_size v e = omega (arith, size-append v (e ∷ []), size-cons e [])

pub entry_normal : (v : Vector) (e : Entry) → IsNormal v → IsEntry e → IsBehind v e.lexeme → IsNormal (v ++ e ∷ [])
entry_normal v e n h b = record {
  entries = All-push IsEntry v e n.entries h;
  rising = all_pairs_push (λ a c. IsBefore a.lexeme c.lexeme) v e n.rising (λ k d lt. b k d lt);
}

-- an entry at the end is valid
last_entry : (v : Vector) (e : Entry) → IsNormal (v ++ e ∷ []) → IsEntry e
last_entry v e n =
    subst IsEntry (get_or-append_seam v e [] e) (n.entries (length v) e (omega (arith, length-append v (e ∷ []))))

-- ── among the positions ──
pub behind_more : (n : ℕ) (v : Vector) (l : List ℕ) (m : ℕ) (ps : List Position) → length ps < m
    → behind n v l m ps ≡ placed n v l m ps
behind_more n v l m ps lt =
    ap (λ b. cond b (placed n v l m ps) (counted n (v ++ entry_with l ps ∷ []))) (lt-ltb (length ps) m lt)

pub behind_all : (n : ℕ) (v : Vector) (l : List ℕ) (m : ℕ) (ps : List Position) → m ≤ length ps
    → behind n v l m ps ≡ counted n (v ++ entry_with l ps ∷ [])
behind_all n v l m ps le =
    ap (λ b. cond b (placed n v l m ps) (counted n (v ++ entry_with l ps ∷ []))) (le-ltb (length ps) m le)

-- ── fields of an entry ──
module _ (n : ℕ) (v : Vector) where
  pub count_goes : (r s : List ℕ) → n < 2 ^ 32 → r ≡ little_bytes 4 n ++ s → Goes start r (counted n []) s
  count_goes r s h e = goes start (counted n []) (little_bytes 4 n) r s e (count n h)
      (λ _. (record { entries = All-nil IsEntry; rising = λ i j d lt le. absurd (omega arith) }, omega arith))

  pub length_goes : (k : ℕ) (r s : List ℕ) → length v < n → r ≡ little_bytes 2 k ++ s → 1 ≤ k → k ≤ 2046
      → content_size v + k < 1048576 → Goes (counted n v) r (measured n v k) s
  length_goes k r s lt e some most small = goes (counted n v) (measured n v k) (little_bytes 2 k) r s e
      (measure n k v lt (omega arith)) (λ _. (some, most, small))

  pub length_wrong : (k : ℕ) (r s : List ℕ) → length v < n → k < 65536 → r ≡ little_bytes 2 k ++ s
      → ((1 ≤ k) → (k ≤ 2046) → content_size v + k < 1048576 → ⊥) → Spoils (counted n v) r (length r)
  length_wrong k r s lt h e never = wrong (counted n v) (measured n v k) (little_bytes 2 k) r s e (measure n k v lt h)
      (of_length n v lt) (λ _ b. never b.0 b.1 b.2)

  module _ (l : List ℕ) where
    pub lexeme_goes : (k : ℕ) (r s : List ℕ) → r ≡ l ++ s → length l ≡ k → IsLexeme l → IsBehind v l
        → Goes (measured n v k) r (named n v l) s
    lexeme_goes k r s e len valid after =
        goes (measured n v k) (named n v l) l r s e (name n k v l len) (λ _. (valid, after))

    pub lexeme_wrong : (k : ℕ) (r s : List ℕ) → r ≡ l ++ s → length l ≡ k
        → (Sound (measured n v k) → IsLexeme l → IsBehind v l → ⊥) → Spoils (measured n v k) r (length r)
    lexeme_wrong k r s e len never = wrong (measured n v k) (named n v l) l r s e (name n k v l len)
        (subst (Width (measured n v k)) (sym len) (of_lexeme n k v)) (λ h b. never h b.0 b.1)

    pub number_goes : (m : ℕ) (r s : List ℕ) → r ≡ little_bytes 2 m ++ s → m ≤ 256
        → content_size v + length l + 2 * m < 1048576 → Goes (named n v l) r (behind n v l m []) s
    number_goes zero r s e few small =
        subst (λ q. Goes (named n v l) r q s) (sym (behind_all n v l 0 [] (omega arith))) (
        goes (named n v l) (counted n (v ++ entry_with l [] ∷ [])) (little_bytes 2 0) r s e (no_places n v l) (λ h. (
          entry_normal v (entry_with l []) h.0 (record {
            lexeme = h.1;
            positions = All-nil IsPosition;
            rising = λ i j d lt le. absurd (omega arith);
            few = omega arith;
          }) h.2,
          omega (arith, entry_size v (entry_with l []), h.3),
        )))
    number_goes (suc m) r s e few small =
        subst (λ q. Goes (named n v l) r q s) (sym (behind_more n v l (suc m) [] (omega arith))) (
        goes (named n v l) (placed n v l (suc m) []) (little_bytes 2 (suc m)) r s e
        (places n (suc m) v l (omega arith) (omega arith)) (λ h. (
          few,
          small,
          record { valid = All-nil IsPosition; rising = λ i j d lt le. absurd (omega arith) },
        )))

    pub number_wrong : (m : ℕ) (r s : List ℕ) → r ≡ little_bytes 2 m ++ s → m < 65536
        → ((m ≤ 256) → content_size v + length l + 2 * m < 1048576 → ⊥) → Spoils (named n v l) r (length r)
    number_wrong zero r s e h never =
        wrong (named n v l) (counted n (v ++ entry_with l [] ∷ [])) (little_bytes 2 0) r s e (no_places n v l)
        (of_number n v l) (λ h b. never (omega arith) (omega (arith, h.3)))
    number_wrong (suc m) r s e h never =
        wrong (named n v l) (placed n v l (suc m) []) (little_bytes 2 (suc m)) r s e
        (places n (suc m) v l (omega arith) h) (of_number n v l) (λ _ b. never b.0 b.1)

-- one more position that is greater than all before
pub none_rise : AreRising []
none_rise = record { valid = All-nil IsPosition; rising = λ i j d lt le. absurd (omega arith) }

pub rising_more : (ps : List Position) (last : ℕ) (p : Position) → IsLast ps last → AreRising ps → last < p.at
    → p.at ≤ 16383 → AreRising (ps ++ p ∷ [])
rising_more ps last p is up lt most = record {
  valid = All-push IsPosition ps p up.valid (omega arith, most);
  rising = all_pairs_push (λ a b. a.at < b.at) ps p up.rising (λ k d h. let b = is.bound k d h in omega arith);
}

-- a position that is no greater than the last is out of order
out_of_order : (ps : List Position) (last : ℕ) (p : Position) → IsLast ps last → p.at ≤ last
    → All IsPosition (ps ++ p ∷ []) → ¬ AllPairs (λ a b. a.at < b.at) (ps ++ p ∷ [])
out_of_order ps last p is le valid up = elim is.met [
  | inl e ↦ absurd (let h = subst IsPosition (get_or-append_seam ps p [] p)
      (valid (length ps) p (omega (arith, length-append ps (p ∷ [])))) in omega (arith, h.0, e))
  | inr a ↦ absurd (
      let lt = up a.0 (length ps) a.1 a.2 (omega (arith, length-append ps (p ∷ []))) in
      let low : (get_or (ps ++ p ∷ []) a.0 a.1).at ≡ last =
      ap (λ q. q.at) (get_or_append_left ps (p ∷ []) a.1 a.0 a.2 ∙ a.3) ∙ a.4 in
      let high : (get_or (ps ++ p ∷ []) (length ps) a.1).at ≡ p.at = ap (λ q. q.at) (get_or-append_seam ps p [] a.1) in
      omega (arith, lt, low, high)
      )
]

pub last_none : IsLast [] 0
last_none = record { bound = All-nil (λ p. p.at ≤ 0); met = inl refl }

pub last_more : (ps : List Position) (last : ℕ) (p : Position) → IsLast ps last → last < p.at
    → IsLast (ps ++ p ∷ []) p.at
last_more ps last p is lt = record {
  bound = All-push (λ q. q.at ≤ p.at) ps p (λ k d h. let b = is.bound k d h in omega arith) (omega arith);
  met = inr (Any-push (λ q. q.at ≡ p.at) ps p refl);
}

module _ (n : ℕ) (v : Vector) (l : List ℕ) (m : ℕ) (ps : List Position) (last : ℕ) (p : Position) (r s : List ℕ) where
  placed_goes : length ps < m → IsLast ps last → r ≡ position_bytes p ++ s → last < p.at → p.at ≤ 16383
      → Goes (placed n v l m ps) r (behind n v l m (ps ++ p ∷ [])) s
  placed_goes lt is e up most = elim (cases_lt (length ps + 1) m) [
    | inl more ↦ subst (λ q. Goes (placed n v l m ps) r q s)
        (sym (behind_more n v l m (ps ++ p ∷ []) (omega (arith, length-append ps (p ∷ [])))))
        (goes (placed n v l m ps) (placed n v l m (ps ++ p ∷ [])) (position_bytes p) r s e
        (place n m v l ps p (omega arith) more)
        (λ h. (h.3, h.4, rising_more ps last p is h.5 up most)))
    | inr all ↦ subst (λ q. Goes (placed n v l m ps) r q s)
        (sym (behind_all n v l m (ps ++ p ∷ []) (omega (arith, length-append ps (p ∷ [])))))
        (goes (placed n v l m ps) (counted n (v ++ entry_with l (ps ++ p ∷ []) ∷ [])) (position_bytes p) r s e
        (last_place n m v l ps p (omega arith) (omega arith))
        (λ h. let up = rising_more ps last p is h.5 up most in (
          entry_normal v (entry_with l (ps ++ p ∷ [])) h.0 (record {
            lexeme = h.1;
            positions = up.valid;
            rising = up.rising;
            few = omega (arith, length-append ps (p ∷ []), h.3);
          }) h.2,
          omega (arith, entry_size v (entry_with l (ps ++ p ∷ [])), length-append ps (p ∷ []), h.4),
        )))
  ]

  placed_wrong : length ps < m → IsLast ps last → r ≡ position_bytes p ++ s → p.at ≤ last → p.at < 16384
      → Spoils (placed n v l m ps) r (length r)
  placed_wrong lt is e low most = elim (cases_lt (length ps + 1) m) [
    | inl more ↦ wrong (placed n v l m ps) (placed n v l m (ps ++ p ∷ [])) (position_bytes p) r s e
        (place n m v l ps p most more) (of_place n m v l ps)
        (λ _ b. out_of_order ps last p is low b.2.valid b.2.rising)
    | inr all ↦ wrong (placed n v l m ps) (counted n (v ++ entry_with l (ps ++ p ∷ []) ∷ [])) (position_bytes p) r s e
        (last_place n m v l ps p most (omega arith)) (of_place n m v l ps)
        (λ _ b. let h = last_entry v (entry_with l (ps ++ p ∷ [])) b.0 in
        out_of_order ps last p is low h.positions h.rising)
  ]

-- ── all positions of an entry ──
weight_at : (k : ℕ) → k < 4 → (w : Weight) × (weight_number w ≡ k)
weight_at zero h = (D, refl)
weight_at (suc zero) h = (C, refl)
weight_at (suc (suc zero)) h = (B, refl)
weight_at (suc (suc (suc zero))) h = (A, refl)
weight_at (suc (suc (suc (suc k)))) h = absurd (omega arith)

-- any number below 65536 stands for some position, 0 included
place_of : (n : ℕ) → n < 65536 → (p : Position) × (n ≡ position_number p) × (p.at ≡ n % 16384)
place_of n h =
    let w = weight_at (n / 16384) (omega arith) in (record { at = n % 16384; weight = w.0 }, omega (arith, w.1), refl)

goes_nowhere : (p : DecodedPart) (r : List ℕ) → Goes p r p r
goes_nowhere p r = record { shorter = omega arith; on = λ bytes h. h }

pub lists_none : (m : ℕ) (r : List ℕ) → Lists m r [] r
lists_none m r = record { on = λ n v l. goes_nowhere (behind n v l m []) r }

pub lists_more : (m : ℕ) (r t s : List ℕ) (ps : List Position) (last : ℕ) (p : Position) → Lists m r ps t → length ps
    < m → IsLast ps last → t ≡ position_bytes p ++ s → last < p.at → p.at ≤ 16383 → Lists m r (ps ++ p ∷ []) s
lists_more m r t s ps last p a lt is e up most = record {
  on = λ n v l. goes_then (behind n v l m []) (behind n v l m ps) (behind n v l m (ps ++ p ∷ [])) r t s (a.on n v l)
      (subst (λ q. Goes q t (behind n v l m (ps ++ p ∷ [])) s) (sym (behind_more n v l m ps lt))
      (placed_goes n v l m ps last p t s lt is e up most));
}

-- the next position is cut off
pub lists_cut : (m : ℕ) (r t : List ℕ) (ps : List Position) → Lists m r ps t → length ps < m → length t < 2
    → (n : ℕ) (v : Vector) (l : List ℕ) → Spoils (behind n v l m []) r 0
lists_cut m r t ps a lt short n v l =
    spoils_then (behind n v l m []) (behind n v l m ps) r t 0 (a.on n v l)
    (subst (λ q. Spoils q t 0) (sym (behind_more n v l m ps lt))
    (cut (placed n v l m ps) 2 t (of_place n m v l ps) short))

-- it is there
pub lists_next : (m : ℕ) (r t s : List ℕ) (ps : List Position) (last number : ℕ) → Lists m r ps t → AreRising ps
    → length ps < m → IsLast ps last → t ≡ little_bytes 2 number ++ s → number < 65536 → last < number % 16384
    → (qs : List Position) × (length qs ≡ length ps + 1) × AreRising qs × Lists m r qs s × IsLast qs (number % 16384)
lists_next m r t s ps last number a up lt is e h more =
    let p = place_of number h in
    let at = p.2 in (
      ps ++ p.0 ∷ [],
      length-append ps (p.0 ∷ []),
      rising_more ps last p.0 is up (omega arith) (omega arith),
      lists_more m r t s ps last p.0 a lt is (e ∙ ap (λ k. little_bytes 2 k ++ s) p.1) (omega arith) (omega arith),
      subst (IsLast (ps ++ p.0 ∷ [])) at (last_more ps last p.0 is (omega arith)),
    )

-- or it is out of order
pub lists_wrong : (m : ℕ) (r t s : List ℕ) (ps : List Position) (last number : ℕ) → Lists m r ps t
    → length ps < m → IsLast ps last → t ≡ little_bytes 2 number ++ s → number < 65536 → number % 16384 ≤ last
    → (n : ℕ) (v : Vector) (l : List ℕ) → Spoils (behind n v l m []) r (length t)
lists_wrong m r t s ps last number a lt is e h low n v l =
    let p = place_of number h in
    spoils_then (behind n v l m []) (behind n v l m ps) r t (length t) (a.on n v l)
    (subst (λ q. Spoils q t (length t)) (sym (behind_more n v l m ps lt)) (placed_wrong n v l m ps last p.0 t s lt is
    (e ∙ ap (λ k. little_bytes 2 k ++ s) p.1) (omega (arith, p.2)) (omega (arith, p.2))))

-- ── the bytes of a whole vector ──
abbrev front : ℕ → Vector → List ℕ
front n v = little_bytes 4 n ++ flat_map entry_bytes v

abbrev encoded : DecodedPart → List ℕ
encoded start = []
encoded (counted n v) = front n v
encoded (measured n v k) = front n v ++ little_bytes 2 k
encoded (named n v l) = front n v ++ (little_bytes 2 (length l) ++ l)
encoded (placed n v l m ps) =
    front n v ++ (little_bytes 2 (length l) ++ (l ++ (little_bytes 2 m ++ flat_map position_bytes ps)))

front_more : (n : ℕ) (v : Vector) (e : Entry) → front n (v ++ e ∷ []) ≡ front n v ++ entry_bytes e
front_more n v e = ap (λ t. little_bytes 4 n ++ t)
    (flat_map-append entry_bytes v (e ∷ []) ∙ ap (λ t. flat_map entry_bytes v ++ t) (append-nil (entry_bytes e)))
    ∙ sym (append_assoc (little_bytes 4 n) (flat_map entry_bytes v) (entry_bytes e))

places_bytes : (ps : List Position) (p : Position)
    → flat_map position_bytes (ps ++ p ∷ []) ≡ flat_map position_bytes ps ++ position_bytes p
places_bytes ps p = flat_map-append position_bytes ps (p ∷ [])
    ∙ ap (λ t. flat_map position_bytes ps ++ t) (append-nil (position_bytes p))

entry_more : (n : ℕ) (v : Vector) (l : List ℕ) (m : ℕ) (ps : List Position) (p : Position)
    → front n v ++ (little_bytes 2 (length l) ++ (l ++ (little_bytes 2 m ++ flat_map position_bytes (ps ++ p ∷ []))))
    ≡ encoded (placed n v l m ps) ++ position_bytes p
entry_more n v l m ps p = rw (places_bytes ps p) (simp append_assoc)

encoded_next : (p q : DecodedPart) (f : List ℕ) → Next p f q → encoded q ≡ encoded p ++ f
encoded_next p q f (count n h) = append-nil (little_bytes 4 n)
encoded_next p q f (measure n k v lt h) = refl
encoded_next p q f (name n k v l e) =
    ap (λ j. front n v ++ (little_bytes 2 j ++ l)) e ∙ sym (append_assoc (front n v) (little_bytes 2 k) l)
encoded_next p q f (no_places n v l) = front_more n v (entry_with l []) ∙ simp (append_assoc, append-nil)
encoded_next p q f (places n m v l h k) = simp (append_assoc, append-nil)
encoded_next p q f (place n m v l ps x h k) = entry_more n v l m ps x
encoded_next p q f (last_place n m v l ps x h k) =
    front_more n v (entry_with l (ps ++ x ∷ []))
    ∙ ap (λ j. front n v ++ (little_bytes 2 (length l)
    ++ (l ++ (little_bytes 2 j ++ flat_map position_bytes (ps ++ x ∷ []))))) (length-append ps (x ∷ []) ∙ k)
    ∙ entry_more n v l m ps x

encoded_before : (bytes : List ℕ) (p : DecodedPart) (r : List ℕ) → ReadsFields bytes p r → bytes ≡ encoded p ++ r
encoded_before bytes p r begun = refl
encoded_before bytes p r (field q _ f _ h n b) =
    encoded_before bytes q (f ++ r) h ∙ sym (append_assoc (encoded q) f r)
    ∙ ap (λ t. t ++ r) (sym (encoded_next q p f n))

-- what was read to the end is the encoding
pub whole_encoding : (bytes : List ℕ) (n : ℕ) (v : Vector) → ReadsFields bytes (counted n v) [] → length v ≡ n
    → IsEncoding bytes v
whole_encoding bytes n v h e =
    let s = sound bytes (counted n v) [] h in
    record {
      normal = s.0;
      small = s.1;
      bytes_of = encoded_before bytes (counted n v) [] h ∙ append-nil (front n v) ∙ ap (λ k. front k v) (sym e);
    }

-- ── an encoding is read to its end ──
places_read : (n : ℕ) (v : Vector) (l : List ℕ) (m : ℕ) (ps qs : List Position) (last : ℕ) (s : List ℕ)
    → length ps + length qs ≡ m → IsLast ps last → All IsPosition qs → AllPairs (λ a b. a.at < b.at) qs
    → All (λ q. last < q.at) qs
    → Goes (behind n v l m ps) (flat_map position_bytes qs ++ s) (behind n v l m (ps ++ qs)) s
places_read n v l m ps [] last s e is valid up above = subst (λ t. Goes (behind n v l m ps) s (behind n v l m t) s)
    (sym (append-nil ps)) (goes_nowhere (behind n v l m ps) s)
places_read n v l m ps (q ∷ qs) last s e is valid up above =
    let lt : length ps < m = omega arith in
    let t = flat_map position_bytes qs ++ s in
    let most : q.at ≤ 16383 = (All-head IsPosition q qs valid).1 in
    let here : Goes (behind n v l m ps) (position_bytes q ++ t) (behind n v l m (ps ++ q ∷ [])) t =
    subst (λ x. Goes x (position_bytes q ++ t) (behind n v l m (ps ++ q ∷ [])) t)
    (sym (behind_more n v l m ps lt)) (placed_goes n v l m ps last q (position_bytes q ++ t) t lt is refl
    (All-head (λ p. last < p.at) q qs above) most) in
    let later = places_read n v l m (ps ++ q ∷ []) qs q.at s (omega (arith, length-append ps (q ∷ [])))
    (last_more ps last q is (All-head (λ p. last < p.at) q qs above))
    (All-tail IsPosition q qs valid) (pairs_tail (λ a b. a.at < b.at) q qs up)
    (pairs_head (λ a b. a.at < b.at) q qs up) in
    let both = goes_then (behind n v l m ps) (behind n v l m (ps ++ q ∷ [])) (behind n v l m ((ps ++ q ∷ []) ++ qs))
    (position_bytes q ++ t) t s here later in
    subst (λ x. Goes (behind n v l m ps) (position_bytes q ++ t) (behind n v l m x) s)
    (append_assoc ps (q ∷ []) qs) both

-- the front of a list in normal form is in normal form
normal_front : (v w : Vector) → IsNormal (v ++ w) → IsNormal v
normal_front v w h = record {
  entries = λ k d lt. subst IsEntry (get_or_append_left v w d k lt) (h.entries k d (omega (arith, length-append v w)));
  rising = λ i j d lt le.
      let a : get_or (v ++ w) i d ≡ get_or v i d = get_or_append_left v w d i (omega arith) in
      let b : get_or (v ++ w) j d ≡ get_or v j d = get_or_append_left v w d j le in
      subst (λ x. IsBefore x.lexeme (get_or v j d).lexeme) a (subst (λ x. IsBefore
      (get_or (v ++ w) i d).lexeme x.lexeme) b (h.rising i j d lt (omega (arith, length-append v w))));
}

-- the last entry of a normal form is after the others
last_behind : (v : Vector) (e : Entry) → IsNormal (v ++ e ∷ []) → IsBehind v e.lexeme
last_behind v e h k d lt =
    let a : get_or (v ++ e ∷ []) k d ≡ get_or v k d = get_or_append_left v (e ∷ []) d k lt in
    let b : get_or (v ++ e ∷ []) (length v) d ≡ e = get_or-append_seam v e [] d in
    subst (λ x. IsBefore x.lexeme e.lexeme) a (subst (λ x. IsBefore (get_or (v ++ e ∷ []) k d).lexeme x.lexeme) b
    (h.rising k (length v) d lt (omega (arith, length-append v (e ∷ [])))))

above_none : (ps : List Position) → All IsPosition ps → All (λ q. 0 < q.at) ps
above_none ps h k d lt = let x = h k d lt in omega (arith, x.0)

module _ (n : ℕ) (v : Vector) (e : Entry) (s : List ℕ) where
  entry_read : IsNormal (v ++ e ∷ []) → content_size (v ++ e ∷ []) < 1048576 → length v < n
      → Goes (counted n v) (entry_bytes e ++ s) (counted n (v ++ e ∷ [])) s
  entry_read normal small lt =
      let valid = last_entry v e normal in
      let size = entry_size v e in
      let l = e.lexeme in
      let ps = e.positions in
      let tail : List ℕ = little_bytes 2 (length ps) ++ (flat_map position_bytes ps ++ s) in
      let one : Goes (counted n v) (entry_bytes e ++ s) (measured n v (length l)) (l ++ tail) =
      length_goes n v (length l) (entry_bytes e ++ s) (l ++ tail) lt (ap (λ t. little_bytes 2 (length l) ++ t)
      (append_assoc l (little_bytes 2 (length ps) ++ flat_map position_bytes ps) s)) valid.lexeme.some
      valid.lexeme.most (omega arith) in
      let two : Goes (measured n v (length l)) (l ++ tail) (named n v l) tail =
      lexeme_goes n v l (length l) (l ++ tail) tail refl refl valid.lexeme (last_behind v e normal) in
      let three : Goes (named n v l) tail (behind n v l (length ps) []) (flat_map position_bytes ps ++ s) =
      number_goes n v l (length ps) tail (flat_map position_bytes ps ++ s) refl valid.few (omega arith) in
      let four : Goes (behind n v l (length ps) []) (flat_map position_bytes ps ++ s) (behind n v l (length ps) ps) s =
      places_read n v l (length ps) [] ps 0 s (omega arith) last_none valid.positions valid.rising
      (above_none ps valid.positions) in
      let five = goes_then (counted n v) (measured n v (length l)) (named n v l) (entry_bytes e ++ s)
      (l ++ tail) tail one two in
      let six = goes_then (counted n v) (named n v l) (behind n v l (length ps) []) (entry_bytes e ++ s) tail
      (flat_map position_bytes ps ++ s) five three in
      let seven = goes_then (counted n v) (behind n v l (length ps) []) (behind n v l (length ps) ps)
      (entry_bytes e ++ s) (flat_map position_bytes ps ++ s) s six four in
      subst (λ q. Goes (counted n v) (entry_bytes e ++ s) q s) (behind_all n v l (length ps) ps (omega arith)) seven

entries_read : (n : ℕ) (v w : Vector) → IsNormal (v ++ w) → content_size (v ++ w) < 1048576 → length v + length w ≤ n
    → Goes (counted n v) (flat_map entry_bytes w) (counted n (v ++ w)) []
entries_read n v [] normal small le =
    subst (λ t. Goes (counted n v) [] (counted n t) []) (sym (append-nil v)) (goes_nowhere (counted n v) [])
entries_read n v (e ∷ w) normal small le =
    let join : (v ++ e ∷ []) ++ w ≡ v ++ e ∷ w = append_assoc v (e ∷ []) w in
    let normal' : IsNormal ((v ++ e ∷ []) ++ w) = subst IsNormal (sym join) normal in
    let small' : content_size ((v ++ e ∷ []) ++ w) < 1048576 = subst (λ t. content_size t < 1048576) (sym join) small in
    let here = entry_read n v e (flat_map entry_bytes w) (normal_front (v ++ e ∷ []) w normal')
    (omega (arith, size-append (v ++ e ∷ []) w)) (omega arith) in
    let later = entries_read n (v ++ e ∷ []) w normal' small' (omega (arith, length-append v (e ∷ []))) in
    let both = goes_then (counted n v) (counted n (v ++ e ∷ [])) (counted n ((v ++ e ∷ []) ++ w))
    (entry_bytes e ++ flat_map entry_bytes w) (flat_map entry_bytes w) [] here later in
    subst (λ t. Goes (counted n v) (flat_map entry_bytes (e ∷ w)) (counted n t) []) join (subst
    (λ r. Goes (counted n v) r (counted n ((v ++ e ∷ []) ++ w)) []) (sym (flat_map-cons entry_bytes e w)) both)

encoding_read : (bytes : List ℕ) (v : Vector) → IsEncoding bytes v → ReadsFields bytes (counted (length v) v) []
encoding_read bytes v s =
    let few : length v < 2 ^ 32 = omega (arith, length-le-content v s.normal.entries, s.small) in
    let first = count_goes (length v) v bytes (flat_map entry_bytes v) few s.bytes_of in
    let others = entries_read (length v) [] v s.normal s.small (omega arith) in
    others.on bytes (first.on bytes begun)

pub bad_bytes_are_no_encoding : BadBytesAreNoEncoding
bad_bytes_are_no_encoding bytes n bad v s = whole_not_bad bytes v (encoding_read bytes v s) n bad

-- ── what a field that is not there does ──
pub stops_short : (p : DecodedPart) (w : ℕ) (r : List ℕ) → Width p w → (e : Stop) → IsShort w r e → Stops p r e
stops_short p w r width e k = subst (Spoils p r) (sym k.0) (cut p w r width k.1)

pub lists_short : (m : ℕ) (r t : List ℕ) (ps : List Position) (e : Stop) → Lists m r ps t → length ps < m
    → IsShort 2 t e → ListStops m r e
lists_short m r t ps e a lt k n v l = subst (Spoils (behind n v l m []) r) (sym k.0) (lists_cut m r t ps a lt k.1 n v l)

pub count_short : (r : List ℕ) (e : Stop) → IsShort 4 r e → Stops start r e
count_short r e k = stops_short start 4 r of_count e k

-- the bytes are bad after the part that was read
pub bytes_stop : (bytes : List ℕ) (p : DecodedPart) (r : List ℕ) → ReadsFields bytes p r → (e : Stop) → Stops p r e
    → BytesStop bytes e
bytes_stop bytes p r h e k = (omega (arith, k.within, rest_short bytes p r h), k.bad bytes h)

-- ── after the last lexeme is after all ──
none_behind : (l : List ℕ) → IsBehind [] l
none_behind l = All-nil (λ e. IsBefore e.lexeme l)

pub behind_last : (v : Vector) (last l : List ℕ) → IsNormal v → IsLastLexeme v last → IsBefore last l → IsBehind v l
behind_last v last l normal no_lexeme h = none_behind l
behind_last v last l normal (last_lexeme w e) h =
    All-push (λ d. IsBefore d.lexeme l) w e
    (λ k d lt. nat_list_cmp_total.trans (get_or w k d).lexeme e.lexeme l (last_behind w e normal k d lt) h) h

pub before_behind : (v : Vector) (last l : List ℕ) → 1 ≤ length l → IsLastLexeme v last → IsBehind v l → IsBefore last l
before_behind v last [] some no_lexeme h = absurd (omega arith)
before_behind v last (c ∷ l) some no_lexeme h = refl
before_behind v last l some (last_lexeme w e) h =
    subst (λ d. IsBefore d.lexeme l) (get_or-append_seam w e [] e)
    (h (length w) e (omega (arith, length-append w (e ∷ []))))

-- ── one entry ──
-- the lexeme that was read is no next one
pub not_next : (n : ℕ) (v : Vector) (front : Front) (k : ℕ) (l r s : List ℕ) → IsFront v front → r ≡ l ++ s
    → length l ≡ k → 1 ≤ k → ¬ (IsBefore front.last.now l × IsUtf8 l) → Spoils (measured n v k) r (length r)
not_next n v front k l r s is e len some deny =
    lexeme_wrong n v l k r s e len
    (λ _ valid after. deny (before_behind v front.last.now l (omega arith) is.last after, valid.utf8))

-- the bytes of an entry, field by field, after the entries v
module _ (n : ℕ) (v : Vector) (front : Front) (k : ℕ) (bytes r l after : List ℕ) where
  pub named_so : length v < n → IsFront v front → bytes ≡ little_bytes 2 k ++ r → 1 ≤ k → k ≤ 2046
      → front.size + k < 1048576
      → r ≡ l ++ after → length l ≡ k → IsBefore front.last.now l × IsUtf8 l
      → Goes (counted n v) bytes (named n v l) after
  named_so lt is e some most small whole len next =
      let size = is.size in
      goes_then (counted n v) (measured n v k) (named n v l) bytes r after
      (length_goes n v k bytes r lt e some most (omega arith))
      (lexeme_goes n v l k r after whole len (record {
        some = omega arith;
        most = omega arith;
        utf8 = next.1;
      }) (behind_last v front.last.now l is.normal is.last next.0))

  pub placed_so : (m : ℕ) (after_number : List ℕ) → IsFront v front → Goes (counted n v) bytes (named n v l) after
      → after ≡ little_bytes 2 m ++ after_number
      → m ≤ 256 → length l ≡ k → front.size + k + 2 * m < 1048576
      → Goes (counted n v) bytes (behind n v l m []) after_number
  placed_so m after_number is first e few len small =
      let size = is.size in
      goes_then (counted n v) (named n v l) (behind n v l m []) bytes after after_number first
      (number_goes n v l m after after_number e few (omega arith))

  pub adds : (m : ℕ) (after_number rest : List ℕ) (new : Front) → IsFront v front
      → Goes (counted n v) bytes (behind n v l m []) after_number → 1 ≤ k → k ≤ 2046 → length l ≡ k → m ≤ 256
      → IsBefore front.last.now l × IsUtf8 l → ListsSome m after_number rest → new.last.now ≡ l
      → new.size ≡ front.size + k + 2 * m → Adds n v bytes new rest
  adds m after_number rest new is first some most len few next (ps, many, up, lists) last size =
      let e = entry_with l ps in
      let whole = goes_then (counted n v) (behind n v l m []) (behind n v l m ps) bytes after_number rest first
      (lists.on n v l) in
      let valid : IsEntry e = record {
        lexeme = record { some = omega arith; most = omega arith; utf8 = next.1 };
        positions = up.valid;
        rising = up.rising;
        few = omega arith;
      } in
      let old = is.size in (
        e,
        subst (λ q. Goes (counted n v) bytes q rest) (behind_all n v l m ps (omega arith)) whole,
        record {
          normal = entry_normal v e is.normal valid (behind_last v front.last.now l is.normal is.last next.0);
          size = omega (arith, entry_size v e);
          last = subst (IsLastLexeme (v ++ e ∷ [])) (sym last) (last_lexeme v e);
        },
      )

-- ── whether one text is before another ──
is_before : (o : Ordering) → is_lt o ≡ true → o ≡ Less
is_before Less e = refl
is_before Equal e = absurd (cc)
is_before Greater e = absurd (cc)

pub before_tells : (a b : List ℕ) (answer : Bool) → answer ≡ is_lt (slice_cmp nat_cmp a b)
    → (answer ≡ true → IsBefore a b) × (IsBefore a b → answer ≡ true)
before_tells a b answer e = (λ yes. is_before (slice_cmp nat_cmp a b) (sym e ∙ yes), λ h. e ∙ ap is_lt h)

-- ── the whole ──
pub none_front : (front : Front) → front.last.now ≡ [] → front.size ≡ 0 → IsFront [] front
none_front front last size = record {
  normal = record { entries = All-nil IsEntry; rising = λ i j d lt le. absurd (omega arith) };
  size = size;
  last = subst (IsLastLexeme []) (sym last) no_lexeme;
}

pub same_entries : (bytes : List ℕ) (n : ℕ) (entries : List ℕ) (v : Vector) → length v ≡ n
    → bytes ≡ little_bytes 4 n ++ entries → IsEncoding bytes v → entries ≡ flat_map entry_bytes v
same_entries bytes n entries v many e is =
    (same_fronts (little_bytes 4 n) (little_bytes 4 (length v)) entries (flat_map entry_bytes v)
    (ap (λ k. length (little_bytes 4 k)) (sym many)) (sym e ∙ is.bytes_of)).1
