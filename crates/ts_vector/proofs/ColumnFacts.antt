-- Entries in columns.
use Rattle.std.proofs.Common.{◌≡◌, ℕ, zero, suc, ◌+◌, ◌-◌, ◌*◌, ◌<◌, ◌≤◌, List, [], ◌∷◌, ◌++◌, length, take, drop}
use Rattle.std.proofs.Common.{get_or, refl, sym, ◌∙◌, ap, subst, arith, length-append}
use Rattle.std.proofs.Math.Seq.{drop-append_seam}
use Rattle.std.proofs.lemmas.List.{take-append-le, drop-append-le, take_all, length-take-le, length-drop}
use Rattle.ts_base.specs.Vectors.{Position, Entry, content_size}
use Rattle.ts_vector.specs.declared.columns.Ends.{Ends}
use Rattle.ts_vector.specs.Inner.Columns.{piece, piece_entry, entries_from, origin, column_entries, start_from, AreEnds}
use Rattle.ts_vector.specs.Inner.Columns.{AreColumns, entry}
use Rattle.ts_vector.proofs.Merging.{size-cons}

-- ── pieces ──
module _ {X : Type 0} where
  piece_grown : (a b : ℕ) (xs ys : List X) → a ≤ b → b ≤ length xs → piece a b (xs ++ ys) ≡ piece a b xs
  piece_grown a b xs ys le most =
      ap (take (b - a)) (drop-append-le a xs ys (omega arith))
      ∙ take-append-le (b - a) (drop a xs) ys (omega (arith, length-drop a xs))

  piece_long : (a b : ℕ) (xs : List X) → a ≤ b → b ≤ length xs → length (piece a b xs) ≡ b - a
  piece_long a b xs le most = length-take-le (b - a) (drop a xs) (omega (arith, length-drop a xs))

  -- what was added last
  piece_last : (xs ys : List X) (n m : ℕ) → n ≡ length xs → m ≡ length xs + length ys → piece n m (xs ++ ys) ≡ ys
  piece_last xs ys n m e f =
      ap (λ k. take (m - k) (drop k (xs ++ ys))) e ∙ ap (take (m - length xs)) (drop-append_seam xs ys)
      ∙ take_all (m - length xs) ys (omega arith)

-- ── ends ──
pub ends_le : (s : Ends) (es : List Ends) (n m : ℕ) → AreEnds s es n m → (s.lexeme ≤ n) × (s.positions ≤ m)
ends_le s [] n m h = (omega (arith, h.0), omega (arith, h.1))
ends_le s (e ∷ es) n m h = let t = ends_le e es n m h.2 in (omega (arith, h.0, t.0), omega (arith, h.1, t.1))

pub ends_push : (s : Ends) (es : List Ends) (n m : ℕ) (e : Ends) → AreEnds s es n m → n ≤ e.lexeme → m ≤ e.positions
    → AreEnds s (es ++ e ∷ []) e.lexeme e.positions
ends_push s [] n m e h le lf = (omega (arith, h.0), omega (arith, h.1), (refl, refl))
ends_push s (d ∷ es) n m e h le lf = (h.0, h.1, ends_push d es n m e h.2 le lf)

pub first_within : (s e : Ends) (es fs : List Ends) (n m : ℕ) → es ≡ e ∷ fs → AreEnds s es n m
    → (e.lexeme ≤ n) × (e.positions ≤ m)
first_within s e es fs n m is h =
    let k : AreEnds s (e ∷ fs) n m = subst (λ t. AreEnds s t n m) is h in ends_le e fs n m k.2

-- ── entries ──
module _ (ls : List ℕ) (ps : List Position) where
  pub entries_long : (s : Ends) (es : List Ends) → length (entries_from s es ls ps) ≡ length es
  entries_long s [] = refl
  entries_long s (e ∷ es) = omega (arith, entries_long e es)

  pub entries_grown : (s : Ends) (es : List Ends) (n m : ℕ) (xs : List ℕ) (ys : List Position) → AreEnds s es n m
      → n ≤ length ls → m ≤ length ps
      → entries_from s es (ls ++ xs) (ps ++ ys) ≡ entries_from s es ls ps
  entries_grown s [] n m xs ys h le lf = refl
  entries_grown s (e ∷ es) n m xs ys h le lf =
      let t = ends_le e es n m h.2 in
      let lexeme = piece_grown s.lexeme e.lexeme ls xs h.0 (omega (arith, t.0)) in
      let positions = piece_grown s.positions e.positions ps ys h.1 (omega (arith, t.1)) in
      let others = entries_grown e es n m xs ys h.2 le lf in
      λ i. record { lexeme = lexeme i; positions = positions i } ∷ others i

  pub entries_more : (s : Ends) (es : List Ends) (n m : ℕ) (e l : Ends) → AreEnds s es n m → l.lexeme ≡ n
      → l.positions ≡ m
      → entries_from s (es ++ e ∷ []) ls ps ≡ entries_from s es ls ps ++ piece_entry l e ls ps ∷ []
  entries_more s [] n m e l h a b =
      let from : s.lexeme ≡ l.lexeme = h.0 ∙ sym a in
      let at : s.positions ≡ l.positions = h.1 ∙ sym b in
      λ i. record { lexeme = piece (from i) e.lexeme ls; positions = piece (at i) e.positions ps } ∷ []
  entries_more s (d ∷ es) n m e l h a b = ap (λ t. piece_entry s d ls ps ∷ t) (entries_more d es n m e l h.2 a b)

  pub entries_size : (s : Ends) (es : List Ends) (n m : ℕ) → AreEnds s es n m → n ≤ length ls → m ≤ length ps
      → content_size (entries_from s es ls ps) + s.lexeme + 2 * s.positions ≡ n + 2 * m
  entries_size s [] n m h le lf = omega (arith, h.0, h.1)
  entries_size s (e ∷ es) n m h le lf =
      let t = ends_le e es n m h.2 in
      omega (
        arith,
        size-cons (piece_entry s e ls ps) (entries_from e es ls ps),
        entries_size e es n m h.2 le lf,
        h.0,
        h.1,
        piece_long s.lexeme e.lexeme ls h.0 (omega (arith, t.0)),
        piece_long s.positions e.positions ps h.1 (omega (arith, t.1)),
      )

  pub entry_at : (s : Ends) (es : List Ends) (k : ℕ) (c : Ends) (d : Entry) → k < length es
      → get_or (entries_from s es ls ps) k d ≡ piece_entry (start_from s es k c) (get_or es k c) ls ps
  entry_at s [] k c d lt = absurd (omega arith)
  entry_at s (e ∷ es) zero c d lt = refl
  entry_at s (e ∷ es) (suc zero) c d lt = entry_at e es zero c d (omega arith)
  entry_at s (e ∷ es) (suc (suc k)) c d lt = entry_at e es (suc k) c d (omega arith)

pub bounds_at : (s : Ends) (es : List Ends) (n m k : ℕ) (c : Ends) → AreEnds s es n m → k < length es
    → ((start_from s es k c).lexeme ≤ (get_or es k c).lexeme) × ((get_or es k c).lexeme ≤ n)
    × ((start_from s es k c).positions ≤ (get_or es k c).positions) × ((get_or es k c).positions ≤ m)
bounds_at s [] n m k c h lt = absurd (omega arith)
bounds_at s (e ∷ es) n m zero c h lt = let t = ends_le e es n m h.2 in (h.0, t.0, h.1, t.1)
bounds_at s (e ∷ es) n m (suc zero) c h lt = bounds_at e es n m zero c h.2 (omega arith)
bounds_at s (e ∷ es) n m (suc (suc k)) c h lt = bounds_at e es n m (suc k) c h.2 (omega arith)

-- ── columns ──
module _ (ls : List ℕ) (ps : List Position) (es : List Ends) (are : AreColumns ls ps es) where
  pub columns_size : content_size (column_entries ls ps es) ≡ length ls + 2 * length ps
  columns_size = omega (arith, entries_size ls ps origin es (length ls) (length ps) are (omega arith) (omega arith))

  pub columns_push : (l : List ℕ) (qs : List Position) (e : Ends) → e.lexeme ≡ length ls + length l
      → e.positions ≡ length ps + length qs
      → column_entries (ls ++ l) (ps ++ qs) (es ++ e ∷ []) ≡ column_entries ls ps es ++ entry l qs ∷ []
  columns_push l qs e a b =
      let last : Ends = record { lexeme = length ls; positions = length ps } in
      let more = entries_more (ls ++ l) (ps ++ qs) origin es (length ls) (length ps) e last are refl refl in
      let old = entries_grown ls ps origin es (length ls) (length ps) l qs are (omega arith) (omega arith) in
      let lexeme = piece_last ls l (length ls) e.lexeme refl a in
      let positions = piece_last ps qs (length ps) e.positions refl b in
      more ∙ (λ i. old i ++ record { lexeme = lexeme i; positions = positions i } ∷ [])

  pub push_are : (l : List ℕ) (qs : List Position) (e : Ends) → e.lexeme ≡ length ls + length l
      → e.positions ≡ length ps + length qs → AreColumns (ls ++ l) (ps ++ qs) (es ++ e ∷ [])
  push_are l qs e a b =
      let t = ends_push origin es (length ls) (length ps) e are (omega (arith, a)) (omega (arith, b)) in
      subst (λ n. AreEnds origin (es ++ e ∷ []) n (length (ps ++ qs))) (a ∙ sym (length-append ls l))
      (subst (AreEnds origin (es ++ e ∷ []) e.lexeme) (b ∙ sym (length-append ps qs)) t)

-- the entry at k, as it is cut out
module _ (ls : List ℕ) (ps : List Position) (es : List Ends) (v : List Entry) (view : column_entries ls ps es ≡ v)
    (k : ℕ) (lt : k < length v) where
  pub within : k < length es
  within = omega (arith, lt, ap length view, entries_long ls ps origin es)

  module _ (s e : Ends) (from : (d : Ends) → s ≡ start_from origin es k d) (to : (d : Ends) → e ≡ get_or es k d) where
    pub cut_at : (d : Entry) → get_or v k d ≡ piece_entry s e ls ps
    cut_at d =
        ap (λ w. get_or w k d) (sym view) ∙ entry_at ls ps origin es k s d within ∙ ap
        (λ x. piece_entry x (get_or es k s) ls ps) (sym (from s)) ∙ ap (λ x. piece_entry s x ls ps) (sym (to s))

    pub cut_bounds : AreColumns ls ps es
        → (s.lexeme ≤ e.lexeme) × (e.lexeme ≤ length ls) × (s.positions ≤ e.positions) × (e.positions ≤ length ps)
    cut_bounds are =
        subst (λ x. (x.lexeme ≤ e.lexeme) × (e.lexeme ≤ length ls) × (x.positions ≤ e.positions)
        × (e.positions ≤ length ps)) (sym (from s))
        (subst (λ x. ((start_from origin es k s).lexeme ≤ x.lexeme) × (x.lexeme ≤ length ls)
        × ((start_from origin es k s).positions ≤ x.positions) × (x.positions ≤ length ps)) (sym (to s))
        (bounds_at origin es (length ls) (length ps) k s are within))
