-- Names in order that are just those of the documents with a property.
use Rattle.std.proofs.Common.{◌≡◌, ◌⊎◌, ℕ, ◌<◌, ◌≤◌, List, [], ◌∷◌, refl, sym, ap, subst, ◌∙◌, inl, inr, arith}
use Rattle.ts_base.specs.Vectors.{Vector}
use Rattle.page_types.specs.declared.page.Name.{Name}
use Rattle.core_state.specs.Log.{In}
use Rattle.core_state.specs.History.{Document}
use Rattle.core_state.proofs.SnapshotOrder.{RiseBy, serial_of}
use Rattle.gin_scan.specs.Finding.{IsFound}

abbrev pub of_name : Name → ℕ
of_name n = n.serial

module _ (P : Vector → Type 0) where
  -- the name is of one of the documents, which has the property
  abbrev pub IsOfOne : List Document → Name → Type 0
  IsOfOne ds n = (d : Document) × In d ds × (d.name ≡ n) × P d.vector

  abbrev pub IsDecided : List Name → Document → Type 0
  IsDecided ns d = In d.name ns ⊎ (P d.vector → ⊥)

  not_first : (d : Document) (ds : List Document) (n : Name) → (P d.vector → ⊥) → IsOfOne (d ∷ ds) n → IsOfOne ds n
  not_first d ds n off f = elim f.1 [
    | inl e ↦ absurd (off (subst (λ (z : Document). P z.vector) e f.3))
    | inr m ↦ (f.0, m, f.2, f.3)
  ]

  -- a name whose document is the first
  is_first : (d : Document) (ds : List Document) (n : Name) → RiseBy serial_of (d ∷ ds) → n.serial ≤ d.name.serial
      → IsOfOne (d ∷ ds) n → (d.name ≡ n) × P d.vector
  is_first d ds n rise least f = elim f.1 [
    | inl e ↦ (ap (λ (z : Document). z.name) (sym e) ∙ f.2, subst (λ (z : Document). P z.vector) e f.3)
    | inr m ↦ absurd (omega (arith, least, rise.0 f.0 m, ap of_name f.2))
  ]

  least_first : (n : Name) (ns : List Name) (name : Name) → RiseBy of_name (n ∷ ns) → In name (n ∷ ns)
      → n.serial ≤ name.serial
  least_first n ns name rise (inl e) = omega (arith, ap of_name e)
  least_first n ns name rise (inr m) = omega (arith, rise.0 name m)

  behind_first : (d : Document) (ds : List Document) (n m : Name) → d.name ≡ n → n.serial < m.serial
      → IsOfOne (d ∷ ds) m → IsOfOne ds m
  behind_first d ds n m same less f = elim f.1 [
    | inl e ↦ absurd (omega (arith, less, ap of_name same, ap of_name (ap (λ (z : Document). z.name) (sym e) ∙ f.2)))
    | inr i ↦ (f.0, i, f.2, f.3)
  ]

  still_decided : (d : Document) (n : Name) (ns : List Name) (e : Document) → d.name ≡ n
      → d.name.serial < e.name.serial → IsDecided (n ∷ ns) e → IsDecided ns e
  still_decided d n ns e same less (inl (inl f)) = absurd (omega (arith, less, ap of_name same, ap of_name f))
  still_decided d n ns e same less (inl (inr i)) = inl i
  still_decided d n ns e same less (inr off) = inr off

  pub found_of : (ds : List Document) (ns : List Name) → RiseBy serial_of ds → RiseBy of_name ns
      → ((n : Name) → In n ns → IsOfOne ds n) → ((d : Document) → In d ds → IsDecided ns d) → IsFound P ds ns
  found_of [] [] rd rn each all = refl
  found_of [] (n ∷ ns) rd rn each all = absurd ((each n (inl refl)).1)
  found_of (d ∷ ds) ns rd rn each all = elim (all d (inl refl)) [
    | inr off ↦ inr (
      off,
      found_of ds ns rd.1 rn (λ n i. not_first d ds n off (each n i)) (λ e i. all e (inr i)),
    )
    | inl i ↦ taken ns rn each all (λ ms. found_of ds ms rd.1) i
  ]
    where
      taken : (ns : List Name) → RiseBy of_name ns → ((n : Name) → In n ns → IsOfOne (d ∷ ds) n)
          → ((e : Document) → In e (d ∷ ds) → IsDecided ns e)
          → ((ms : List Name) → RiseBy of_name ms → ((n : Name) → In n ms → IsOfOne ds n)
          → ((e : Document) → In e ds → IsDecided ms e) → IsFound P ds ms)
          → In d.name ns → IsFound P (d ∷ ds) ns
      taken [] rn each all more i = absurd i
      taken (n ∷ ns) rn each all more i =
          let f = is_first d ds n rd (least_first n ns d.name rn i) (each n (inl refl)) in inl (
            f.1,
            (
              ns,
              ap (λ (z : Name). z ∷ ns) (sym f.0),
              more ns rn.1 (λ m j. behind_first d ds n m f.0 (rn.0 m j) (each m (inr j)))
                  (λ e j. still_decided d n ns e f.0 (rd.0 e j) (all e (inr j))),
            ),
          )
