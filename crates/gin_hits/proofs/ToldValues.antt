-- A value for each key, by the lists of items.
use Rattle.std.proofs.Common.{◌≡◌, ◌↔◌, ℕ, ◌+◌, ◌<◌, ◌≤◌, Bool, cond, IsTrue, List, [], ◌∷◌, ◌++◌, length, take, set}
use Rattle.std.proofs.Common.{get_or}
use Rattle.std.proofs.Common.{Some, refl, sym, ap, subst, ◌∙◌, arith, slice_get}
use Rattle.std.proofs.lemmas.List.{length-map, get_or-map, take_more, take_more_set, take_all}
use Rattle.std.specs.Prelude.{Vec, option_map}
use Rattle.std.specs.declared.alloc.Global.{Global}
use Rattle.std.proofs.lemmas.Option.{get_or_from_slice_get, slice_get_within, slice_get-map, slice_get_read}
use Rattle.ts_base.specs.declared.Tri.{Tri}
use Rattle.ts_base.specs.declared.Tri.TheVariants.{True}
use Rattle.core_state.specs.Log.{In}
use Rattle.gin_opclass.specs.Class.{Asked}
use Rattle.core_moments.specs.Judging.{values}
use Rattle.gin_hits.specs.Rows.{lists_of}
use Rattle.gin_hits.specs.Sides.{Side, TellOf}
use Rattle.gin_hits.specs.declared.hits.Hits.{Hits}
use Rattle.gin_hits.proofs.Searching.{same_bool}
use Rattle.gin_hits.proofs.ItemLists.{items_in}
use Rattle.gin_hits.proofs.JudgedScan.{element_at}
use Rattle.gin_hits.proofs.ToldHits.{lists_length}

-- the first so many values are right, on each side that the lists tell of
abbrev pub AreValues : Hits → ℕ → Tri → ℕ → List Tri → Type 0
AreValues h item absent n ts =
    (asked : List Asked) (side : Side) → TellOf asked side h
    → take n ts ≡ take n (values (side.has item) absent asked)

-- a list by its number
pub list_here : (h : Hits) (k : ℕ) (v : Vec ℕ Global) → k < length h.by_key.items → v ≡ get_or h.by_key.items k v
    → slice_get (lists_of h) k ≡ Some v.items
list_here h k v lt e =
    slice_get-map items_in h.by_key.items k
    ∙ ap (option_map items_in) (slice_get_read h.by_key.items (length h.by_key.items) k v refl lt e)

module _ (h : Hits) (item : ℕ) (absent : Tri) where
  value_at : (asked : List Asked) (side : Side) → TellOf asked side h → (k : ℕ) (items : List ℕ)
      → slice_get (lists_of h) k ≡ Some items → (b : Bool) → (IsTrue b ↔ In item items) → (d : Tri)
      → get_or (values (side.has item) absent asked) k d ≡ cond b True absent
  value_at asked side told k items e b has d =
      let within = slice_get_within (lists_of h) k items e in
      let short : k < length asked = omega (arith, within, lists_length h, told.count) in
      let a = element_at asked k short in
      let just = (told.by_key k a.0 items a.1 e).just item in
      let same : side.has item a.0 ≡ b =
      same_bool (side.has item a.0) b (λ f. has.1 (just.1 f)) (λ f. just.0 (has.0 f)) in
      get_or-map (λ (x : Asked). cond (side.has item x) True absent) asked k a.0 d short
      ∙ ap (λ (x : Asked). cond (side.has item x) True absent) (get_or_from_slice_get asked k a.0 a.0 a.1)
      ∙ ap (λ (c : Bool). cond c True absent) same

  count_of : (asked : List Asked) (side : Side) → TellOf asked side h
      → length (values (side.has item) absent asked) ≡ length (lists_of h)
  count_of asked side told =
      length-map asked (λ (x : Asked). cond (side.has item x) True absent) ∙ sym told.count ∙ sym (lists_length h)

  -- one value more
  pub value_more : (ts : List Tri) (k : ℕ) (items : List ℕ) (b : Bool) → k < length ts → AreValues h item absent k ts
      → slice_get (lists_of h) k ≡ Some items → (IsTrue b ↔ In item items)
      → AreValues h item absent (k + 1) (set ts k (cond b True absent))
  value_more ts k items b lt before e has asked side told =
      let within : k < length (values (side.has item) absent asked)
      = omega (arith, slice_get_within (lists_of h) k items e, count_of asked side told) in
      take_more_set ts k (cond b True absent) lt
      ∙ ap (λ (xs : List Tri). xs ++ cond b True absent ∷ []) (before asked side told)
      ∙ ap (λ (t : Tri). take k (values (side.has item) absent asked) ++ t ∷ [])
      (sym (value_at asked side told k items e b has absent))
      ∙ sym (take_more (values (side.has item) absent asked) k absent within)

  pub value_step : (ts : List Tri) (k : ℕ) (items : List ℕ) (b : Bool) (x : Tri) → x ≡ cond b True absent
      → k < length ts
      → AreValues h item absent k ts → slice_get (lists_of h) k ≡ Some items → (IsTrue b ↔ In item items)
      → AreValues h item absent (k + 1) (set ts k x)
  value_step ts k items b x is lt before e has =
      subst (λ (t : Tri). AreValues h item absent (k + 1) (set ts k t)) (sym is)
      (value_more ts k items b lt before e has)

  -- all values
  pub all_values : (ts : List Tri) (k : ℕ) → length ts ≤ k → length ts ≡ length h.by_key.items
      → AreValues h item absent k ts → (asked : List Asked) (side : Side) → TellOf asked side h
      → ts ≡ values (side.has item) absent asked
  all_values ts k le count are asked side told =
      sym (take_all k ts le) ∙ are asked side told
      ∙ take_all k (values (side.has item) absent asked)
      (omega (arith, count_of asked side told, lists_length h, le, count))
