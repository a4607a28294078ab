-- Entries are added one after another to those of a vector, each with a lexeme of its own.
use Rattle.std.proofs.Common.{◌≡◌, ℕ, ◌+◌, ◌*◌, ◌<◌, ◌≤◌, ◌⊎◌, inl, inr, List, [], ◌∷◌, ◌++◌, length, map, get_or, refl}
use Rattle.std.proofs.Common.{sym, ap, subst, ◌∙◌, arith, append-nil, length-append}
use Rattle.std.specs.Prelude.{All, AllPairs, Any, Contains, Vec}
use Rattle.std.specs.declared.alloc.Global.{Global}
use Rattle.std.proofs.Math.Seq.{get_or-append_seam}
use Rattle.std.proofs.lemmas.List.{get_or_append_left, map-append}
use Rattle.std.proofs.lemmas.List.Elements.{All-map, All-take, All-weaker, All-contains, Contains-append_left}
use Rattle.std.proofs.lemmas.List.Elements.{Contains-append_right, Contains-append_cases, Contains-push}
use Rattle.ts_base.specs.Lexemes.{IsLexeme, IsBefore}
use Rattle.ts_base.specs.Vectors.{Position, Entry, Vector, IsPosition, IsEntry, IsNormal, content_size}
use Rattle.ts_vector.specs.Changes.{IsGreatest}
use Rattle.ts_vector.specs.Normal.{capped, Names, Places, IsHighest, ListsPositions, IsPlaced, IsNormalFormOf}
use Rattle.ts_vector.specs.Pairs.{pair_of, pairs_of}
use Rattle.ts_vector.specs.Inner.CappedForm.{moved_within, shifted_within}
use Rattle.ts_vector.specs.Inner.Columns.{entry}
use Rattle.ts_vector.specs.Inner.Gathered.{IsAt, IsHeld, Puts, AreBehind}
use Rattle.ts_vector.specs.Inner.Steps.{IsWritten, IsTop, ListsTops, SettlesTo}
use Rattle.ts_vector.proofs.Rising.{contains_head, contains_cases, any_of, of_any, contains_none}
use Rattle.ts_vector.proofs.Merging.{Before, HasPlace, all_of, any_left, any_right, any_cases, size-append, size-cons}
use Rattle.ts_vector.proofs.Settling.{rising_one, capped_same, pairs_take, length_take}
use Rattle.ts_vector.proofs.Forms.{before_one_way, normal_form_one}
use Rattle.ts_vector.proofs.Changed.{any_map_from, unmoved}
use Rattle.ts_vector.proofs.Joining.{moved}
use Rattle.ts_vector.proofs.Inserting.{Pair, insert_there, insert_from, insert_to, insert_new, insert_over}
use Rattle.ts_vector.proofs.Inserting.{insert_rising, inserted}
use Rattle.ts_vector.proofs.Keeping.{stays, settled_itself}

-- ── one entry is put into a map ──
module _ (es new : List Pair) (k : List ℕ) (ps before : List Position) (held : ℕ) (v : Vec Position Global)
    (is : new ≡ inserted k v es)
    (normal : IsNormal (pairs_of es)) (at : IsHeld (pairs_of es) k before held)
    (settles : SettlesTo (before ++ ps) v.items) (fewer : length v.items ≤ length (before ++ ps)) where
  old_at : IsAt (pairs_of es) k before
  old_at = elim at [ inl (c, n) ↦ inl c | inr (none, e, n) ↦ inr (none, e) ]

  -- the content has so much more
  pub size_put : content_size (pairs_of new) + held ≡ content_size (pairs_of es) + (length k + 2 * length v.items)
  size_put =
      subst (λ t. content_size (pairs_of t) + held ≡ content_size (pairs_of es) + (length k + 2 * length v.items))
      (sym is) (elim at [
        | inl (c, n) ↦ let s = insert_over k v es before normal.rising c in omega arith
        | inr (none, e, n) ↦ let s = insert_new k v es normal.rising none in omega arith
      ])

  pub held_least : 2 * length before ≤ held
  held_least = elim at [ inl (c, n) ↦ omega arith | inr (none, e, n) ↦ let z = ap length e in omega arith ]

  pub puts : Puts (pairs_of es) (entry k ps) (pairs_of new)
  puts = record {
    put = pair_of (k, v);
    before = before;
    at = old_at;
    lexeme = refl;
    positions = settles;
    rising = subst (λ t. AllPairs Before (pairs_of t)) (sym is) (insert_rising k v es normal.rising);
    there = subst (λ t. Contains (pairs_of t) (pair_of (k, v))) (sym is) (insert_there k v es);
    from = λ x c. insert_from k v es x normal.rising (subst (λ t. Contains (pairs_of t) x) is c);
    to = λ x c. subst (λ t. (x.lexeme ≡ k) ⊎ Contains (pairs_of t) x) (sym is) (insert_to k v es x c);
    size = let s = size_put in let h = held_least in let f = fewer in omega (arith, length-append before ps);
  }

  module _ (lexeme : IsLexeme k) (valid : All IsPosition ps) where
    before_valid : All IsPosition before
    before_valid = elim at [
      | inl (c, n) ↦ (All-contains IsEntry (pairs_of es) (entry k before) normal.entries c).positions
      | inr (none, e, n) ↦ subst (All IsPosition) (sym e) (λ i d lt. absurd (omega arith))
    ]

    put_entry : IsEntry (pair_of (k, v))
    put_entry = record {
      lexeme = lexeme;
      positions = subst (All IsPosition) (sym settles.2) (All-take IsPosition 256 settles.0
          (All-weaker (IsTop (before ++ ps)) IsPosition (λ p t. elim (Contains-append_cases before ps p t.there) [
            | inl b ↦ All-contains IsPosition before p before_valid b
            | inr a ↦ All-contains IsPosition ps p valid a
          ]) settles.0 settles.1.only));
      rising = subst (AllPairs (λ p q. p.at < q.at)) (sym settles.2)
          (pairs_take (λ p q. p.at < q.at) 256 settles.0 settles.1.rising);
      few = subst (λ qs. length qs ≤ 256) (sym settles.2) (length_take 256 settles.0);
    }

    pub put_normal : IsNormal (pairs_of new)
    put_normal = subst (λ t. IsNormal (pairs_of t)) (sym is) (record {
      entries = all_of IsEntry (pairs_of (inserted k v es)) (λ x c. elim (insert_from k v es x normal.rising c) [
        | inl s ↦ subst IsEntry (sym s) put_entry
        | inr (ne, o) ↦ All-contains IsEntry (pairs_of es) x normal.entries o
      ]);
      rising = insert_rising k v es normal.rising;
    })

  module _ (g h : ℕ) (greatest : IsGreatest (pairs_of es) g) (behind : AreBehind (pairs_of es) k ps) (lower : g ≤ h)
      (bound : All (λ p. p.at ≤ h) v.items) (met : (h ≡ g) ⊎ Any (λ p. p.at ≡ h) v.items) where
    abbrev HasNumber : ℕ → Entry → Type 0
    HasNumber n e = Any (λ p. p.at ≡ n) e.positions

    -- the entry that has the greatest number has it still
    still : (y : Entry) → Contains (pairs_of es) y → y.lexeme ≡ k → HasNumber g y → Any (λ p. p.at ≡ g) v.items
    still y c l a = elim at [
      | inl (o, n) ↦
          let s : y ≡ entry k before = rising_one (pairs_of es) y (entry k before) normal.rising c o l in
          let q = of_any (λ p. p.at ≡ g) before (subst (HasNumber g) s a) in
          let e = All-contains IsEntry (pairs_of es) (entry k before) normal.entries o in
          subst (Any (λ p. p.at ≡ g)) (sym settles.2)
          (stays g before ps settles.0 settles.1 e.rising e.few (behind before o) q.0 q.1 q.2)
      | inr (none, e, n) ↦ absurd (none (any_of (λ x. x.lexeme ≡ k) (pairs_of es) y c l))
    ]

    greatest_inserted : IsGreatest (pairs_of (inserted k v es)) h
    greatest_inserted = record {
      bound = all_of (λ e. All (λ p. p.at ≤ h) e.positions) (pairs_of (inserted k v es))
          (λ x c. elim (insert_from k v es x normal.rising c) [
            | inl s ↦ subst (λ e. All (λ p. p.at ≤ h) e.positions) (sym s) bound
            | inr (ne, o) ↦ All-weaker (λ p. p.at ≤ g) (λ p. p.at ≤ h) (λ p le. omega arith) x.positions
                (All-contains (λ e. All (λ p. p.at ≤ g) e.positions) (pairs_of es) x greatest.bound o)
          ]);
      met = elim met [
        | inr a ↦ inr (any_of (HasNumber h) (pairs_of (inserted k v es)) (pair_of (k, v)) (insert_there k v es) a)
        | inl s ↦ elim greatest.met [
          | inl z ↦ inl (s ∙ z)
          | inr a ↦
              let y = of_any (HasNumber g) (pairs_of es) a in
              inr (subst (λ n. Any (HasNumber n) (pairs_of (inserted k v es))) (sym s)
              (elim (insert_to k v es y.0 y.1) [
                | inl l ↦ any_of (HasNumber g) (pairs_of (inserted k v es)) (pair_of (k, v)) (insert_there k v es)
                    (still y.0 y.1 l y.2)
                | inr c ↦ any_of (HasNumber g) (pairs_of (inserted k v es)) y.0 c y.2
              ]))
        ]
      ];
    }

    pub greatest_put : IsGreatest (pairs_of new) h
    greatest_put = subst (λ t. IsGreatest (pairs_of t) h) (sym is) greatest_inserted

-- ── what was added so far ──
-- an entry is the vector's own, or has the positions of both
abbrev pub IsMade : Vector → List Entry → Entry → Type 0
IsMade v done x =
    (Contains v x × ¬ Names done x.lexeme)
    ⊎ ((a : List Position) × (b : List Position) × IsAt v x.lexeme a × Contains done (entry x.lexeme b)
    × SettlesTo (a ++ b) x.positions)

pub record Gathers (v : Vector) (done cur : List Entry) : Type 0 where
  pub from : (x : Entry) → Contains cur x → IsMade v done x
  pub to : (l : List ℕ) → Names (v ++ done) l → Names cur l
  pub rising : AllPairs Before cur
  pub size : content_size cur ≤ content_size v + content_size done

abbrev Has : List ℕ → Entry → Type 0
Has l e = e.lexeme ≡ l

pub gather_start : (v : Vector) → AllPairs Before v → Gathers v [] v
gather_start v up = record {
  from = λ x c. inl (c, λ n. let y = of_any (Has x.lexeme) [] n in contains_none y.0 y.1);
  to = λ l n. subst (λ t. Names t l) (append-nil v) n;
  rising = up;
  size = omega arith;
}

module _ (v : Vector) (done cur new : List Entry) (e : Entry) (g : Gathers v done cur) (p : Puts cur e new)
    (fresh : ¬ Names done e.lexeme) where
  -- what the vector has at the lexeme of e
  own : IsAt cur e.lexeme p.before → IsAt v e.lexeme p.before
  own (inl c) = elim (g.from (entry e.lexeme p.before) c) [
    | inl (o, none) ↦ inl o
    | inr (a, b, x, d, s) ↦ absurd (fresh (any_of (Has e.lexeme) done (entry e.lexeme b) d refl))
  ]
  own (inr (none, is)) = inr (λ n. none (g.to e.lexeme (any_left (Has e.lexeme) v done n)), is)

  names_push : (l : List ℕ) → Names (done ++ e ∷ []) l → Names done l ⊎ (e.lexeme ≡ l)
  names_push l n = elim (any_cases (Has l) done (e ∷ []) n) [
    | inl d ↦ inl d
    | inr s ↦ let y = of_any (Has l) (e ∷ []) s in elim (contains_cases e y.0 [] y.1) [
      | inl z ↦ inr (ap (λ t. t.lexeme) z ∙ y.2)
      | inr z ↦ absurd (contains_none y.0 z)
    ]
  ]

  pub gather_step : Gathers v (done ++ e ∷ []) new
  gather_step = record {
    from = λ x c. elim (p.from x c) [
      | inl s ↦
          let l : p.put.lexeme ≡ x.lexeme = ap (λ y. y.lexeme) (sym s) in
          let m : x.lexeme ≡ e.lexeme = sym l ∙ p.lexeme in
          inr (
            p.before,
            e.positions,
            subst (λ t. IsAt v t p.before) (sym m) (own p.at),
            subst (λ t. Contains (done ++ e ∷ []) (entry t e.positions)) (sym m) (Contains-push done e),
            subst (λ t. SettlesTo (p.before ++ e.positions) t) (ap (λ y. y.positions) (sym s)) p.positions,
          )
      | inr (ne, o) ↦ elim (g.from x o) [
        | inl (c', none) ↦ inl (c', λ n. elim (names_push x.lexeme n) [ inl d ↦ none d | inr s ↦ ne (sym s) ])
        | inr (a, b, at, d, s) ↦ inr (a, b, at, Contains-append_left done (e ∷ []) (entry x.lexeme b) d, s)
      ]
    ];
    to = λ l n. elim (any_cases (Has l) v (done ++ e ∷ []) n) [
      | inl a ↦ kept l (g.to l (any_left (Has l) v done a))
      | inr b ↦ elim (names_push l b) [
        | inl d ↦ kept l (g.to l (any_right (Has l) v done d))
        | inr s ↦ any_of (Has l) new p.put p.there (p.lexeme ∙ s)
      ]
    ];
    rising = p.rising;
    size = let s = g.size in let t = p.size in omega (arith, size-append done (e ∷ []), size-cons e []);
  }
    where
      kept : (l : List ℕ) → Names cur l → Names new l
      kept l n = let y = of_any (Has l) cur n in elim (p.to y.0 y.1) [
        | inl s ↦ any_of (Has l) new p.put p.there (p.lexeme ∙ sym s ∙ y.2)
        | inr c ↦ any_of (Has l) new y.0 c y.2
      ]

-- ── the whole ──
module _ (v : Vector) (done cur : List Entry) (g : Gathers v done cur) (normal : IsNormal v)
    (rising : AllPairs Before done) (written : All IsWritten done) where
  -- the positions of one entry
  module _ (l : List ℕ) (a b : List Position) (at : IsAt v l a) (ad : IsAt done l b) where
    in_one : (w : List Entry) (ps : List Position) → AllPairs Before w → ((x : Entry) → Contains w x
        → All IsPosition x.positions) → IsAt w l ps → (p : Position) → Any (HasPlace l p) w → Contains ps p
    in_one w ps up ok (inl c) p h =
        let x = of_any (HasPlace l p) w h in
        let q = of_any (λ q. capped q ≡ p) x.0.positions x.2.1 in
        let s : x.0 ≡ entry l ps = rising_one w x.0 (entry l ps) up x.1 c x.2.0 in
        let z : q.0 ≡ p = sym (capped_same q.0 (All-contains IsPosition x.0.positions q.0 (ok x.0 x.1) q.1)) ∙ q.2 in
        subst (λ y. Contains y.positions p) s (subst (λ y. Contains x.0.positions y) z q.1)
    in_one w ps up ok (inr (none, is)) p h =
        let x = of_any (HasPlace l p) w h in absurd (none (any_of (Has l) w x.0 x.1 x.2.0))

    of_one : (w : List Entry) (ps : List Position) → ((x : Entry) → Contains w x → All IsPosition x.positions)
        → IsAt w l ps → (p : Position) → Contains ps p → Any (HasPlace l p) w
    of_one w ps ok (inl c) p h = any_of (HasPlace l p) w (entry l ps) c
        (refl, any_of (λ q. capped q ≡ p) ps p h (capped_same p (All-contains IsPosition ps p (ok (entry l ps) c) h)))
    of_one w ps ok (inr (none, is)) p h = absurd (contains_none p (subst (λ t. Contains t p) is h))

    own_valid : (x : Entry) → Contains v x → All IsPosition x.positions
    own_valid x c = (All-contains IsEntry v x normal.entries c).positions

    done_valid : (x : Entry) → Contains done x → All IsPosition x.positions
    done_valid x c = (All-contains IsWritten done x written c).positions

    place_to : (p : Position) → Places (v ++ done) l p → Contains (a ++ b) p
    place_to p h = elim (any_cases (HasPlace l p) v done h) [
      | inl y ↦ Contains-append_left a b p (in_one v a normal.rising own_valid at p y)
      | inr y ↦ Contains-append_right a b p (in_one done b rising done_valid ad p y)
    ]

    place_from : (p : Position) → Contains (a ++ b) p → Places (v ++ done) l p
    place_from p c = elim (Contains-append_cases a b p c) [
      | inl y ↦ any_left (HasPlace l p) v done (of_one v a own_valid at p y)
      | inr y ↦ any_right (HasPlace l p) v done (of_one done b done_valid ad p y)
    ]

    top_to : (p : Position) → IsTop (a ++ b) p → IsHighest (v ++ done) l p
    top_to p t = record {
      placed = place_from p t.there;
      highest = λ w h. t.highest w (place_to (record { at = p.at; weight = w }) h);
    }

    top_from : (p : Position) → IsHighest (v ++ done) l p → IsTop (a ++ b) p
    top_from p t = record {
      there = place_to p t.placed;
      highest = λ w h. t.highest w (place_from (record { at = p.at; weight = w }) h);
    }

    all_placed : (all : List Position) → ListsTops (a ++ b) all → ListsPositions (v ++ done) l all
    all_placed all h = record {
      rising = h.rising;
      only = All-weaker (IsTop (a ++ b)) (IsHighest (v ++ done) l) top_to all h.only;
      each = λ p t. h.each p (top_from p t);
    }

  placed : (x : Entry) → IsMade v done x → IsPlaced (v ++ done) x
  placed x (inl (c, none)) =
      let e = All-contains IsEntry v x normal.entries c in
      let s : SettlesTo (x.positions ++ []) x.positions = subst (λ t. SettlesTo t x.positions)
      (sym (append-nil x.positions)) (settled_itself x.positions e.rising e.few) in
      (s.0, all_placed x.lexeme x.positions [] (inl c) (inr (none, refl)) s.0 s.1, s.2)
  placed x (inr (a, b, at, d, s)) = (s.0, all_placed x.lexeme a b at (inl d) s.0 s.1, s.2)

  named : (x : Entry) → IsMade v done x → Names (v ++ done) x.lexeme
  named x (inl (c, none)) = any_left (Has x.lexeme) v done (any_of (Has x.lexeme) v x c refl)
  named x (inr (a, b, at, d, s)) =
      any_right (Has x.lexeme) v done (any_of (Has x.lexeme) done (entry x.lexeme b) d refl)

  pub gather_end : IsNormalFormOf (v ++ done) cur
  gather_end = record {
    rising = g.rising;
    only = all_of (λ x. Names (v ++ done) x.lexeme) cur (λ x c. named x (g.from x c));
    each = g.to;
    placed = all_of (IsPlaced (v ++ done)) cur (λ x c. placed x (g.from x c));
  }

-- a vector is its own normal form
pub normal_itself : (v : Vector) → IsNormal v → IsNormalFormOf v v
normal_itself v n = subst (λ t. IsNormalFormOf t v) (append-nil v) (gather_end v [] v (gather_start v n.rising) n
    (λ i j d lt le. absurd (omega arith)) (λ k d lt. absurd (omega arith)))

-- joined to nothing it stays as it is
pub joined_to_none : (v made : Vector) (n : ℕ) → IsNormal v → IsGreatest [] n → IsNormalFormOf (shifted_within n v) made
    → made ≡ v
joined_to_none v made n normal greatest form =
    let z : n ≡ 0 = elim greatest.met [
      | inl z ↦ z
      | inr a ↦ absurd (let x = of_any (λ e. Any (λ p. p.at ≡ n) e.positions) [] a in contains_none x.0 x.1)
    ] in
    let e : shifted_within n v ≡ v = ap (λ k. shifted_within k v) z ∙ unmoved v normal.entries in
    normal_form_one v made v (subst (λ t. IsNormalFormOf t made) e form) (normal_itself v normal)

-- ── one entry more of a vector w ──
module _ (w : Vector) (normal : IsNormal w) (done rest : Vector) (row : Entry) (is : done ++ row ∷ rest ≡ w)
    (by : ℕ) where
  pub row_entry : IsEntry row
  row_entry = All-contains IsEntry w row normal.entries
      (subst (λ t. Contains t row) is (Contains-append_right done (row ∷ rest) row (contains_head row rest)))

  pub row_size : content_size done + (length row.lexeme + 2 * length row.positions) ≤ content_size w
  row_size = let s = ap content_size is in omega (arith, size-append done (row ∷ rest), size-cons row rest)

  before_row : (x : Entry) → Contains done x → Before x row
  before_row x (k, lt, read) =
      let up : AllPairs Before (done ++ row ∷ rest) = subst (AllPairs Before) (sym is) normal.rising in
      let n = length-append done (row ∷ rest) in
      let p = up k (length done) x lt (omega arith) in
      subst (λ z. Before x z) (get_or-append_seam done row rest x)
      (subst (λ z. Before z (get_or (done ++ row ∷ rest) (length done) x))
      (get_or_append_left done (row ∷ rest) x k lt ∙ read) p)

  pub fresh : ¬ Names (shifted_within by done) row.lexeme
  fresh n =
      let x = of_any (λ e. (moved by e).lexeme ≡ row.lexeme) done (any_map_from (Has row.lexeme) (moved by) done n) in
      let b : Before x.0 row = before_row x.0 x.1 in
      let s : Before row row = subst (λ l. IsBefore l row.lexeme) x.2 b in
      before_one_way row.lexeme row.lexeme s s

  pub shifted_push : shifted_within by (done ++ row ∷ []) ≡ shifted_within by done ++ moved by row ∷ []
  shifted_push = map-append (moved by) done (row ∷ [])

  pub moved_valid : All IsPosition (map (moved_within by) row.positions)
  moved_valid = All-map IsPosition (moved_within by) row.positions (All-weaker IsPosition
      (λ p. IsPosition (moved_within by p)) (λ p h. (omega arith, omega arith)) row.positions row_entry.positions)

  pub moved_behind : (v cur : Vector) → by ≤ 16383 → IsGreatest v by → Gathers v (shifted_within by done) cur
      → AreBehind cur row.lexeme (map (moved_within by) row.positions)
  moved_behind v cur most greatest g qs c = elim (g.from (entry row.lexeme qs) c) [
    | inl (o, none) ↦
        All-weaker (λ q. q.at ≤ by) (λ q. All (λ p. q.at ≤ p.at) (map (moved_within by) row.positions))
        (λ q le. All-map (λ p. q.at ≤ p.at) (moved_within by) row.positions (λ k d lt. omega arith))
        qs (All-contains (λ e. All (λ p. p.at ≤ by) e.positions) v (entry row.lexeme qs) greatest.bound o)
    | inr (a, b, at, d, s) ↦ absurd
        (fresh (any_of (Has row.lexeme) (shifted_within by done) (entry row.lexeme b) d refl))
  ]
