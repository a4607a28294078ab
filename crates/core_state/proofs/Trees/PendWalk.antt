-- The pending phase over real steps: what was read of a document that is not being written are exactly its rows on the
-- line of the first moment.
use Rattle.std.proofs.Common.{◌≡◌, ◌≢◌, ◌⊎◌, ◌<◌, ◌≤◌, ◌+◌, ◌-◌, ℕ, zero, suc, List, [], ◌∷◌, ◌++◌, refl, sym, ap}
use Rattle.std.proofs.Common.{subst, subst₂, ◌∙◌, inl, inr, arith, append_assoc, append-nil}
use Rattle.core_state.specs.Log.{In}
use Rattle.core_state.proofs.PageLists.{in_either, in_front, in_back}
use Rattle.core_state.proofs.Trees.Walk.{Read, Rising, rising_end}

abbrev pub IsChain : (ℕ → ℕ) → ℕ → List ℕ → Type 0
IsChain right p [] = p ≡ 0
IsChain right p (q ∷ qs) = (p ≡ q) × (q ≢ 0) × IsChain right (right q) qs

-- the pages from p on along right links, up to q
abbrev pub Seg : (ℕ → ℕ) → ℕ → List ℕ → ℕ → Type 0
Seg right p [] q = p ≡ q
Seg right p (x ∷ xs) q = (p ≡ x) × (x ≢ 0) × Seg right (right x) xs q

abbrev pub Follows : (ℕ → ℕ → ℕ) → ℕ → List Read → Type 0
Follows right p [] = p ≡ 0
Follows right p (x ∷ xs) = (p ≢ 0) × (x.page ≡ p) × Follows right (right x.time x.page) xs

-- the same, where q is the page that is next: 0, or one to be read
abbrev pub Leads : (ℕ → ℕ → ℕ) → ℕ → List Read → ℕ → Type 0
Leads right p [] q = p ≡ q
Leads right p (x ∷ xs) q = (p ≢ 0) × (x.page ≡ p) × Leads right (right x.time x.page) xs q

-- when the last page was read
abbrev pub last_time : ℕ → List Read → ℕ
last_time t [] = t
last_time t (x ∷ xs) = last_time x.time xs

pub last_between : (t end : ℕ) (xs : List Read) → Rising t end xs → (t ≤ last_time t xs) × (last_time t xs ≤ end)
last_between t end [] r = (omega arith, r)
last_between t end (x ∷ xs) r = let l = last_between x.time end xs r.1 in (omega (arith, r.0, l.0), l.1)

abbrev pub pages : List Read → List ℕ
pages [] = []
pages (x ∷ xs) = x.page ∷ pages xs

join : (right : ℕ → ℕ) (p q : ℕ) (xs ys : List ℕ) → Seg right p xs q → IsChain right q ys → IsChain right p (xs ++ ys)
join right p q [] ys s c = subst (λ (z : ℕ). IsChain right z ys) (sym s) c
join right p q (x ∷ xs) ys s c = (s.0, s.1, join right (right x) q xs ys s.2 c)

seg_same : (a b : ℕ → ℕ) (p q : ℕ) (xs : List ℕ) → ((x : ℕ) → In x xs → b x ≡ a x) → Seg a p xs q → Seg b p xs q
seg_same a b p q [] same s = s
seg_same a b p q (x ∷ xs) same s = (
  s.0,
  s.1,
  subst (λ (z : ℕ). Seg b z xs q) (sym (same x (inl refl)))
      (seg_same a b (a x) q xs (λ y m. same y (inr m)) s.2),
)

chain_same : (a b : ℕ → ℕ) (p : ℕ) (xs : List ℕ) → ((x : ℕ) → In x xs → b x ≡ a x) → IsChain a p xs → IsChain b p xs
chain_same a b p [] same s = s
chain_same a b p (x ∷ xs) same s = (
  s.0,
  s.1,
  subst (λ (z : ℕ). IsChain b z xs) (sym (same x (inl refl)))
      (chain_same a b (a x) xs (λ y m. same y (inr m)) s.2),
)

seg_more : (a : ℕ → ℕ) (p q : ℕ) (xs : List ℕ) → q ≢ 0 → Seg a p xs q → Seg a p (xs ++ q ∷ []) (a q)
seg_more a p q [] n s = (s, n, refl)
seg_more a p q (x ∷ xs) n s = (s.0, s.1, seg_more a (a x) q xs n s.2)

chain_of_seg : (a : ℕ → ℕ) (p q : ℕ) (xs : List ℕ) → q ≡ 0 → Seg a p xs q → IsChain a p xs
chain_of_seg a p q [] z s = s ∙ z
chain_of_seg a p q (x ∷ xs) z s = (s.0, s.1, chain_of_seg a (a x) q xs z s.2)

behind : (a : ℕ → ℕ) (p q : ℕ) (xs ys : List ℕ) → IsChain a p (xs ++ q ∷ ys) → IsChain a (a q) ys
behind a p q [] ys c = c.2
behind a p q (x ∷ xs) ys c = behind a (a x) q xs ys c.2

-- V: the items of the documents that are looked for. Gone: a pending page that was deleted since the pin
module _ {W : Type 0} (item : W → ℕ) (V : ℕ → Type 0) (rows : ℕ → ℕ → List W) (right : ℕ → ℕ → ℕ) (first : ℕ → ℕ)
    (line : ℕ → List ℕ) (Gone : ℕ → ℕ → Type 0) where
  abbrev pub NoneOf : List W → Type 0
  NoneOf ws = (w : W) → In w ws → V (item w) → ⊥

  none_both : (xs ys : List W) → NoneOf xs → NoneOf ys → NoneOf (xs ++ ys)
  none_both xs ys a b w m v = elim (in_either w xs ys m) [ inl c ↦ a w c v | inr c ↦ b w c v ]

  -- what a record does to the line: it stays or grows at its end, it begins, or it loses its first page
  pub data PendStep (t : ℕ) : Type 0 where
    grow : (chain : List ℕ) → line (t + 1) ≡ line t ++ chain → first (t + 1) ≡ first t ⊎ (line t ≡ [])
        → ((q : ℕ) → In q chain → NoneOf (rows (t + 1) q))
        → ((q : ℕ) → In q (line t) → (extra : List W) × (rows (t + 1) q ≡ rows t q ++ extra) × NoneOf extra)
        → PendStep t
    shift : (p : ℕ) → line t ≡ p ∷ line (t + 1) → first (t + 1) ≡ right t p → Gone (t + 1) p
        → right (t + 1) p ≡ right t p
        → ((q : ℕ) → In q (line t) → rows (t + 1) q ≡ rows t q) → PendStep t

  module _ (start end : ℕ)
      (chain : (t : ℕ) → start ≤ t → t ≤ end → IsChain (right t) (first t) (line t))
      (stays : (t p : ℕ) → start ≤ t → t < end → Gone t p → Gone (t + 1) p × (rows (t + 1) p ≡ rows t p)
      × (right (t + 1) p ≡ right t p))
      (steps : (t : ℕ) → start ≤ t → t < end → PendStep t)
    where
      -- the pages that lie before a walk that began at the first moment
      pub data State (t : ℕ) (lane : List ℕ) : Type 0 where
        joined : (shifted : List ℕ) → lane ≡ shifted ++ line t → Seg (right t) (first start) shifted (first t)
            → ((p : ℕ) → In p shifted → Gone t p) → State t lane
        closed : IsChain (right t) (first start) lane → ((p : ℕ) → In p lane → Gone t p) → State t lane

      pub record Lane (t : ℕ) (lane : List ℕ) : Type 0 where
        pub begins : (more : List ℕ) × (lane ≡ line start ++ more)
        pub state : State t lane
        pub kept : (p : ℕ) → In p (line start) → (extra : List W) × (rows t p ≡ rows start p ++ extra) × NoneOf extra
        pub news : (p : ℕ) → In p lane → In p (line start) ⊎ NoneOf (rows t p)

      lane_chain : (t : ℕ) (lane : List ℕ) → start ≤ t → t ≤ end → Lane t lane → IsChain (right t) (first start) lane
      lane_chain t lane a b l = go l.state
        where
          go : State t lane → IsChain (right t) (first start) lane
          go (State.joined shifted e s gone) =
              subst (λ (z : List ℕ). IsChain (right t) (first start) z) (sym e)
              (join (right t) (first start) (first t) shifted (line t) s (chain t a b))
          go (State.closed c gone) = c

      where_is : (t : ℕ) (lane : List ℕ) (p : ℕ) → State t lane → In p lane → Gone t p ⊎ In p (line t)
      where_is t lane p (State.joined shifted e s gone) m =
          elim (in_either p shifted (line t) (subst (In p) e m)) [ inl a ↦ inl (gone p a) | inr b ↦ inr b ]
      where_is t lane p (State.closed c gone) m = inl (gone p m)

      first_on : (t : ℕ) (lane : List ℕ) (p : ℕ) → Lane t lane → In p (line start) → In p lane
      first_on t lane p l m = subst (In p) (sym l.begins.1) (in_front p (line start) l.begins.0 m)

      empty_first : (t : ℕ) → start ≤ t → t ≤ end → line t ≡ [] → first t ≡ 0
      empty_first t a b e = subst (λ (z : List ℕ). IsChain (right t) (first t) z) e (chain t a b)

      grow_rows : (t : ℕ) (p : ℕ) → start ≤ t → t < end → Gone t p ⊎ In p (line t)
          → ((q : ℕ) → In q (line t) → (extra : List W) × (rows (t + 1) q ≡ rows t q ++ extra) × NoneOf extra)
          → (extra : List W) × (rows (t + 1) p ≡ rows t p ++ extra) × NoneOf extra
      grow_rows t p a b (inl gone) more = ([], (stays t p a b gone).1 ∙ sym (append-nil (rows t p)), λ w m v. m)
      grow_rows t p a b (inr on) more = more p on

      rows_step : (t : ℕ) (lane : List ℕ) → start ≤ t → t < end → Lane t lane
          → ((q : ℕ) → In q (line t) → (extra : List W) × (rows (t + 1) q ≡ rows t q ++ extra) × NoneOf extra)
          → ((p : ℕ) → In p (line start) → (extra : List W) × (rows (t + 1) p ≡ rows start p ++ extra) × NoneOf extra)
          × ((p : ℕ) → In p lane → In p (line start) ⊎ NoneOf (rows (t + 1) p))
      rows_step t lane a b l more = (
        λ p m.
            let old = l.kept p m in
            let new = grow_rows t p a b (where_is t lane p l.state (first_on t lane p l m)) more in (
              old.0 ++ new.0,
              new.1 ∙ ap (λ (z : List W). z ++ new.0) old.1 ∙ append_assoc (rows start p) old.0 new.0,
              none_both old.0 new.0 old.2 new.2,
            ),
        λ p m. elim (l.news p m) [
          | inl on ↦ inl on
          | inr unmet ↦
              let new = grow_rows t p a b (where_is t lane p l.state m) more in
              inr (subst NoneOf (sym new.1) (none_both (rows t p) new.0 unmet new.2))
        ],
      )

      lane_step : (t : ℕ) (lane : List ℕ) → start ≤ t → t < end → Lane t lane → PendStep t → (more : List ℕ)
          × Lane (t + 1) (lane ++ more)
      lane_step t lane a b l (PendStep.shift p e f gone same rest) =
          let both = rows_step t lane a b l (λ q m. ([], rest q m ∙ sym (append-nil (rows t q)), λ w n v. n)) in (
            [],
            subst (Lane (t + 1)) (sym (append-nil lane))
                (record { begins = l.begins; state = go l.state; kept = both.0; news = both.1 }),
          )
        where
          go : State t lane → State (t + 1) lane
          go (State.closed c all) =
              State.closed (chain_same (right t) (right (t + 1)) (first start) lane
              (λ x m. (stays t x a b (all x m)).2) c) (λ x m. (stays t x a b (all x m)).0)
          go (State.joined shifted g s all) =
              let now = subst (λ (z : List ℕ). IsChain (right t) (first t) z) e (chain t a (omega arith)) in
              let longer : Seg (right t) (first start) (shifted ++ p ∷ []) (right t p) =
              seg_more (right t) (first start) p shifted now.1 (subst (Seg (right t) (first start) shifted) now.0 s)
              in
              let each : (x : ℕ) → In x (shifted ++ p ∷ []) → Gone (t + 1) x × (right (t + 1) x ≡ right t x) =
              λ x m. elim (in_either x shifted (p ∷ []) m) [
                | inl c ↦ let st = stays t x a b (all x c) in (st.0, st.2)
                | inr (inl c) ↦ subst (λ (z : ℕ). Gone (t + 1) z × (right (t + 1) z ≡ right t z)) (sym c) (gone, same)
                | inr (inr c) ↦ absurd c
              ] in
              State.joined (shifted ++ p ∷ []) (g ∙ ap (λ (z : List ℕ). shifted ++ z) e
              ∙ sym (append_assoc shifted (p ∷ []) (line (t + 1))))
              (subst (Seg (right (t + 1)) (first start) (shifted ++ p ∷ [])) (sym f)
              (seg_same (right t) (right (t + 1)) (first start) (right t p) (shifted ++ p ∷ [])
              (λ x m. (each x m).1) longer))
              (λ x m. (each x m).0)
      lane_step t lane a b l (PendStep.grow ch e f none more) = go l.state
        where
          news : (p : ℕ) → In p (lane ++ ch) → In p (line start) ⊎ NoneOf (rows (t + 1) p)
          news p m =
              elim (in_either p lane ch m) [ inl c ↦ (rows_step t lane a b l more).1 p c | inr c ↦ inr (none p c) ]

          shut : IsChain (right t) (first start) lane → ((p : ℕ) → In p lane → Gone t p) → (m : List ℕ)
              × Lane (t + 1) (lane ++ m)
          shut c all = (
            [],
            subst (Lane (t + 1)) (sym (append-nil lane)) (record {
              begins = l.begins;
              state = State.closed (chain_same (right t) (right (t + 1)) (first start) lane
                  (λ x m. (stays t x a b (all x m)).2) c) (λ x m. (stays t x a b (all x m)).0);
              kept = (rows_step t lane a b l more).0;
              news = (rows_step t lane a b l more).1;
            }),
          )

          go : State t lane → (m : List ℕ) × Lane (t + 1) (lane ++ m)
          go (State.closed c all) = shut c all
          go (State.joined shifted g s all) = elim f [
            | inr empty ↦
                let bare : lane ≡ shifted = g ∙ ap (λ (z : List ℕ). shifted ++ z) empty ∙ append-nil shifted in
                shut (subst (IsChain (right t) (first start)) (sym bare)
                (chain_of_seg (right t) (first start) (first t) shifted (empty_first t a (omega arith) empty) s))
                (λ x m. all x (subst (In x) bare m))
            | inl same ↦ (
              ch,
              record {
                begins = (
                  l.begins.0 ++ ch,
                  ap (λ (z : List ℕ). z ++ ch) l.begins.1
                      ∙ append_assoc (line start) l.begins.0 ch,
                );
                state = State.joined shifted (ap (λ (z : List ℕ). z ++ ch) g ∙ append_assoc shifted (line t) ch
                    ∙ ap (λ (z : List ℕ). shifted ++ z) (sym e))
                    (subst (Seg (right (t + 1)) (first start) shifted) (sym same)
                    (seg_same (right t) (right (t + 1)) (first start) (first t) shifted
                    (λ x m. (stays t x a b (all x m)).2) s))
                    (λ x m. (stays t x a b (all x m)).0);
                kept = (rows_step t lane a b l more).0;
                news = news;
              },
            )
          ]

      lane_first : start ≤ end → Lane start (line start)
      lane_first o = record {
        begins = ([], sym (append-nil (line start)));
        state = State.joined [] refl refl (λ p m. absurd m);
        kept = λ p m. ([], sym (append-nil (rows start p)), λ w n v. n);
        news = λ p m. inl m;
      }

      lane_on : (d t : ℕ) (lane : List ℕ) → start ≤ t → t + d ≤ end → Lane t lane → (more : List ℕ)
          × Lane (t + d) (lane ++ more)
      lane_on zero t lane a b l = ([], subst₂ Lane (back t) (sym (append-nil lane)) l)
        where
          back : (n : ℕ) → n ≡ n + 0
          back n = omega arith
      lane_on (suc d) t lane a b l =
          let once = lane_step t lane a (omega arith) l (steps t a (omega arith)) in
          let rest = lane_on d (t + 1) (lane ++ once.0) (omega arith) (omega arith) once.1 in
          (once.0 ++ rest.0, subst₂ Lane (shift_sum t d) (append_assoc lane once.0 rest.0) rest.1)
        where
          shift_sum : (n k : ℕ) → n + 1 + k ≡ n + suc k
          shift_sum n k = omega arith

      lane_to : (t s : ℕ) (lane : List ℕ) → start ≤ t → t ≤ s → s ≤ end → Lane t lane → (more : List ℕ)
          × Lane s (lane ++ more)
      lane_to t s lane a b c l = let r = lane_on (s - t) t lane a (omega arith) l in
          (r.0, subst (λ (z : ℕ). Lane z (lane ++ r.0)) (back t s b) r.1)
        where
          back : (n k : ℕ) → n ≤ k → n + (k - n) ≡ k
          back n k h = omega arith

      -- what a read of the page p says at s
      pub record Seen (x : Read) : Type 0 where
        pub kept : In x.page (line start) → (extra : List W) × (rows x.time x.page ≡ rows start x.page ++ extra)
            × NoneOf extra
        pub news : In x.page (line start) ⊎ NoneOf (rows x.time x.page)

      walk_from : (seen : List ℕ) (t p : ℕ) (rest : List ℕ) (lane : List ℕ) (xs : List Read) → start ≤ t → Lane t lane
          → lane ≡ seen ++ rest → IsChain (right t) p rest → Rising t end xs → Follows right p xs
          → ((more : List ℕ) × (seen ++ pages xs ≡ line start ++ more)) × ((x : Read) → In x xs → Seen x)
      walk_from seen t p [] lane [] a l g c r f = ((l.begins.0, g2 ∙ l.begins.1), λ x m. absurd m)
        where
          g2 : seen ++ [] ≡ lane
          g2 = sym g
      walk_from seen t p (q ∷ qs) lane [] a l g c r f = absurd (c.1 (sym c.0 ∙ f))
      walk_from seen t p [] lane (x ∷ xs) a l g c r f = absurd (f.0 c)
      walk_from seen t p (q ∷ qs) lane (x ∷ xs) a l g c r f =
          let s = x.time in
          let late : start ≤ s = omega (arith, r.0) in
          let early : s ≤ end = rising_end s end xs r.1 in
          let now = lane_to t s lane a r.0 early l in
          let page : x.page ≡ q = f.1 ∙ c.0 in
          let form : lane ++ now.0 ≡ seen ++ q ∷ (qs ++ now.0) = ap (λ (z : List ℕ). z ++ now.0) g
          ∙ append_assoc seen (q ∷ qs) now.0 in
          let next : IsChain (right s) (right s x.page) (qs ++ now.0) =
          subst (λ (z : ℕ). IsChain (right s) (right s z) (qs ++ now.0)) (sym page)
          (behind (right s) (first start) q seen (qs ++ now.0)
          (subst (IsChain (right s) (first start)) form (lane_chain s (lane ++ now.0) late early now.1))) in
          let done = walk_from (seen ++ q ∷ []) s (right s x.page) (qs ++ now.0) (lane ++ now.0) xs late now.1
          (form ∙ sym (append_assoc seen (q ∷ []) (qs ++ now.0))) next r.1 f.2 in
          let on : In x.page (lane ++ now.0) =
          subst (λ (z : List ℕ). In x.page z) (sym form)
          (subst (λ (z : ℕ). In z (seen ++ q ∷ (qs ++ now.0))) (sym page)
          (in_back q seen (q ∷ (qs ++ now.0)) (inl refl))) in
          let here : Seen x = record { kept = λ m. now.1.kept x.page m; news = now.1.news x.page on } in (
            (
              done.0.0,
              ap (λ (z : ℕ). seen ++ z ∷ pages xs) page ∙ sym (append_assoc seen (q ∷ []) (pages xs)) ∙ done.0.1,
            ),
            λ y m. elim m [ inl e ↦ subst Seen (sym e) here | inr n ↦ done.1 y n ],
          )

      -- the law of the pending phase
      pub reads_rows : (xs : List Read) → start ≤ end → Rising start end xs → Follows right (first start) xs
          → ((more : List ℕ) × (pages xs ≡ line start ++ more)) × ((x : Read) → In x xs → Seen x)
      reads_rows xs o r f = walk_from [] start (first start) (line start) (line start) xs (omega arith)
          (lane_first o) refl (chain start (omega arith) o) r f

      -- the pages that were read are the first of those that lie before the walk
      record Open (t : ℕ) (front : List ℕ) (q : ℕ) : Type 0 where
        pub more : List ℕ
        pub lane : Lane t (front ++ more)
        pub next : IsChain (right t) q more

      open_from : (seen : List ℕ) (t p : ℕ) (rest : List ℕ) (lane : List ℕ) (xs : List Read) (z : ℕ) → start ≤ t
          → t ≤ end → Lane t lane → lane ≡ seen ++ rest → IsChain (right t) p rest → Rising t end xs
          → Leads right p xs z → Open (last_time t xs) (seen ++ pages xs) z
      open_from seen t p rest lane [] z a b l g c r f = record {
        more = rest;
        lane = subst (Lane t) (g ∙ sym (append_assoc seen [] rest)) l;
        next = subst (λ (y : ℕ). IsChain (right t) y rest) f c;
      }
      open_from seen t p [] lane (x ∷ xs) z a b l g c r f = absurd (f.0 c)
      open_from seen t p (q ∷ qs) lane (x ∷ xs) z a b l g c r f =
          let s = x.time in
          let late : start ≤ s = omega (arith, a, r.0) in
          let early : s ≤ end = rising_end s end xs r.1 in
          let now = lane_to t s lane a r.0 early l in
          let page : x.page ≡ q = f.1 ∙ c.0 in
          let form : lane ++ now.0 ≡ seen ++ q ∷ (qs ++ now.0) = ap (λ (y : List ℕ). y ++ now.0) g
          ∙ append_assoc seen (q ∷ qs) now.0 in
          let next : IsChain (right s) (right s x.page) (qs ++ now.0) =
          subst (λ (y : ℕ). IsChain (right s) (right s y) (qs ++ now.0)) (sym page)
          (behind (right s) (first start) q seen (qs ++ now.0)
          (subst (IsChain (right s) (first start)) form (lane_chain s (lane ++ now.0) late early now.1))) in
          let done = open_from (seen ++ q ∷ []) s (right s x.page) (qs ++ now.0) (lane ++ now.0) xs z late early now.1
          (form ∙ sym (append_assoc seen (q ∷ []) (qs ++ now.0))) next r.1 f.2 in
          subst (λ (front : List ℕ). Open (last_time s xs) front z)
          (append_assoc seen (q ∷ []) (pages xs) ∙ ap (λ (y : ℕ). seen ++ y ∷ pages xs) (sym page)) done

      -- The pages that were read are the first of a chain at the moment of the last read, and q leads on along it;
      -- from then on q is on the line, or gone.
      pub record Ahead (xs : List Read) (q : ℕ) : Type 0 where
        pub more : List ℕ
        pub whole : IsChain (right (last_time start xs)) (first start) (pages xs ++ more)
        pub next : IsChain (right (last_time start xs)) q more
        pub stays_on : q ≢ 0 → (t : ℕ) → last_time start xs ≤ t → t ≤ end → Gone t q ⊎ In q (line t)

      chain_first : (t q : ℕ) (qs : List ℕ) → q ≢ 0 → IsChain (right t) q qs → In q qs
      chain_first t q [] off c = absurd (off c)
      chain_first t q (x ∷ xs) off c = inl c.0

      pub reads_open : (xs : List Read) (q : ℕ) → start ≤ end → Rising start end xs → Leads right (first start) xs q
          → Ahead xs q
      reads_open xs q o r f =
          let s = last_time start xs in
          let between = last_between start end xs r in
          let w = open_from [] start (first start) (line start) (line start) xs q (omega arith) o
          (lane_first o) refl (chain start (omega arith) o) r f in
          record {
            more = w.more;
            whole = lane_chain s (pages xs ++ w.more) between.0 between.1 w.lane;
            next = w.next;
            stays_on = λ off t a b.
                let now = lane_to s t (pages xs ++ w.more) between.0 a b w.lane in
                where_is t ((pages xs ++ w.more) ++ now.0) q now.1.state
                (in_front q (pages xs ++ w.more) now.0
                (in_back q (pages xs) w.more (chain_first s q w.more off w.next)));
          }
