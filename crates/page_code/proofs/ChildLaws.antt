-- The children of an inner page of the entry tree: what is read was encoded, and what is encoded is read.
use Rattle.std.proofs.Common.{◌≡◌, ◌≢◌, ℕ, ◌<◌, true, eqb, List, [], ◌∷◌, ◌++◌, length, Ok, refl, ap, subst, ◌∙◌}
use Rattle.std.proofs.Common.{append_assoc, arith, inl, inr}
use Rattle.std.specs.Prelude.{◌⊎◌}
use Rattle.std.specs.List.{flat_map, AllByRecursion}
use Rattle.std.proofs.lemmas.Bool.{eqb-true, eq-eqb}
use Rattle.page_types.specs.Numbers.{u32_bytes}
use Rattle.page_types.specs.Keys.{IsKey, KeyLess, BoundLess, Rising}
use Rattle.page_types.specs.Encoding.{key_field, entry_child_bytes}
use Rattle.page_types.specs.Pages.{IsEntryChild, AreEntryChildren}
use Rattle.page_types.specs.Fields.{◌>>=◌}
use Rattle.page_types.specs.declared.page.EntryChild.{EntryChild}
use Rattle.page_types.proofs.FieldReading.{IsBytes, bind_ok, Takes, Takes-then}
use Rattle.page_code.specs.Fields.{Read, below_at, bound_at}
use Rattle.page_code.specs.Bodies.{may_lack_bound, entry_child_at, entry_children_at}
use Rattle.page_code.proofs.Passing.{and_parts, and_both, above_none, above_trans}
use Rattle.page_code.proofs.FieldLaws.{below_takes, below_again, IsNextBound, bound_takes, bound_again}
use Rattle.page_code.proofs.Lists.{ok_is, IsReader, AllFit, all_take, all_again, all_above}

abbrev pub IsNextChild : ℕ → List ℕ → ℕ → EntryChild → Type 0
IsNextChild right last k c = (c.page < 1048576) × IsNextBound (may_lack_bound right k) last c.bound

child_takes : (right : ℕ) (last : List ℕ) (k : ℕ) (bytes : List ℕ) (x : EntryChild × List ℕ) → IsBytes bytes
    → entry_child_at right last k bytes ≡ Ok x → Takes bytes (entry_child_bytes x.0) x.1 × IsNextChild right last k x.0
unfolding entry_child_at entry_child_bytes
child_takes right last k bytes x fits e =
    let p = bind_ok (below_at 1048576 bytes)
    (λ p. bound_at (may_lack_bound right k) last p.1 >>= λ b. Ok (record { page = p.0; bound = b.0 }, b.1)) x e in
    let b = bind_ok (bound_at (may_lack_bound right k) last p.0.1)
    (λ b. Ok (record { page = p.0.0; bound = b.0 }, b.1)) x p.2 in
    let t0 = below_takes 1048576 bytes p.0 fits p.1 in
    let t1 = bound_takes (may_lack_bound right k) last p.0.1 b.0 t0.0.rest_fits b.1 in
    let both = Takes-then bytes (u32_bytes p.0.0) p.0.1 (key_field b.0.0) b.0.1 t0.0 t1.0 in
    let made : EntryChild × List ℕ = (record { page = p.0.0; bound = b.0.0 }, b.0.1) in
    let whole : Takes bytes (entry_child_bytes made.0) made.1 × IsNextChild right last k made.0 =
    (both, (t0.1, t1.1)) in
    subst (λ (y : EntryChild × List ℕ). Takes bytes (entry_child_bytes y.0) y.1 × IsNextChild right last k y.0)
    (ok_is made x b.2) whole

child_again : (right : ℕ) (last : List ℕ) (k : ℕ) (c : EntryChild) (rest : List ℕ) → IsNextChild right last k c
    → entry_child_at right last k (entry_child_bytes c ++ rest) ≡ Ok (c, rest)
unfolding entry_child_at entry_child_bytes
child_again right last k c rest is =
    ap (entry_child_at right last k) (append_assoc (u32_bytes c.page) (key_field c.bound) rest)
    ∙ rw (below_again 1048576 c.page (key_field c.bound ++ rest) is.0 (omega arith))
    (ap (λ (r : Read (List ℕ)). r >>= λ b. Ok (record { page = c.page; bound = b.0 }, b.1))
    (bound_again (may_lack_bound right k) last c.bound rest is.1))

child_reader : (right : ℕ)
    → IsReader (λ last behind rest. entry_child_at right last behind rest) entry_child_bytes (IsNextChild right)
child_reader right = record {
  takes = λ last k bytes x fits e. child_takes right last k bytes x fits e;
  again = λ last k x rest is. child_again right last k x rest is;
}

-- a bound above the last, or none
abbrev IsLater : List ℕ → EntryChild → Type 0
IsLater last c = (c.bound ≡ []) ⊎ KeyLess last c.bound

key_some : (key : List ℕ) → IsKey key → key ≢ []
key_some [] h = absurd h
key_some (b ∷ bs) h = λ e. absurd (cc e)

-- what a chain of children says
record AreChained (right : ℕ) (last : List ℕ) (children : List EntryChild) : Type 0 where
  each : AllByRecursion (IsEntryChild right) children
  later : AllByRecursion (IsLater last) children
  rising : Rising (λ c d. BoundLess c.bound d.bound) children

later_still : (a b : List ℕ) (c : EntryChild) → KeyLess a b → IsLater b c → IsLater a c
later_still a b c less (inl none) = inl none
later_still a b c less (inr more) = inr (above_trans a b c.bound less more)

above_bound : (b : List ℕ) (c : EntryChild) → IsKey b → IsLater b c → BoundLess b c.bound
above_bound b c is later = (key_some b is, later)

child_chained : (right : ℕ) (last : List ℕ) (c : EntryChild) (cs : List EntryChild) → IsNextBound (may_lack_bound right
    (length cs)) last c.bound → c.page < 1048576 → AreChained right c.bound cs → AreChained right last (c ∷ cs)
child_chained right last c cs (inl p) page rest = record {
  each = (record { page = page; bound = inl p.0 }, rest.each);
  later = (inr p.1, all_above (IsLater c.bound) (IsLater last) (λ d l. later_still last c.bound d p.1 l) cs rest.later);
  rising = (
    all_above (IsLater c.bound) (λ d. BoundLess c.bound d.bound) (λ d l. above_bound c.bound d p.0 l) cs rest.later,
    rest.rising,
  );
}
child_chained right last c [] (inr p) page rest =
    let both = and_parts (eqb right 0) true p.0 in
    record {
      each = (record { page = page; bound = inr (p.1, eqb-true _ _ both.0) }, tt);
      later = (inl p.1, tt);
      rising = (tt, tt);
    }
child_chained right last c (d ∷ ds) (inr p) page rest =
    let both = and_parts (eqb right 0) (eqb (length (d ∷ ds)) 0) p.0 in
    let none : length (d ∷ ds) ≡ 0 = eqb-true _ _ both.1 in
    absurd (omega (arith, none))

children_chained : (right : ℕ) (last : List ℕ) (children : List EntryChild)
    → AllFit (IsNextChild right) (λ c. c.bound) last children → AreChained right last children
children_chained right last [] h = record { each = tt; later = tt; rising = tt }
children_chained right last (c ∷ cs) h =
    child_chained right last c cs h.0.1 h.0.0 (children_chained right c.bound cs h.1)

-- and the other way
bound_fits : (right : ℕ) (last : List ℕ) (c : EntryChild) (cs : List EntryChild)
    → IsKey c.bound ⊎ ((c.bound ≡ []) × (right ≡ 0)) → IsLater last c
    → AllByRecursion (λ d. BoundLess c.bound d.bound) cs → IsNextBound (may_lack_bound right (length cs)) last c.bound
bound_fits right last c cs (inl key) (inl none) rising = absurd (key_some c.bound key none)
bound_fits right last c cs (inl key) (inr less) rising = inl (key, less)
bound_fits right last c [] (inr p) later rising = inr (and_both (eqb right 0) true (eq-eqb _ _ p.1) refl, p.0)
bound_fits right last c (d ∷ ds) (inr p) later rising = absurd (rising.0.0 p.0)

chained_children : (right : ℕ) (last : List ℕ) (children : List EntryChild)
    → AllByRecursion (IsEntryChild right) children → AllByRecursion (IsLater last) children
    → Rising (λ c d. BoundLess c.bound d.bound) children → AllFit (IsNextChild right) (λ c. c.bound) last children
chained_children right last [] each later rising = tt
chained_children right last (c ∷ cs) each later rising =
    let here : IsNextBound (may_lack_bound right (length cs)) last c.bound =
    bound_fits right last c cs each.0.bound later.0 rising.0 in
    let next : AllByRecursion (IsLater c.bound) cs =
    all_above (λ d. BoundLess c.bound d.bound) (IsLater c.bound) (λ d b. b.1) cs rising.0 in
    ((each.0.page, here), chained_children right c.bound cs each.1 next rising.1)

first_later : (right : ℕ) (c : EntryChild) → IsEntryChild right c → IsLater [] c
first_later right c is = elim is.bound [ inl key ↦ inr (above_none c.bound key) | inr none ↦ inl none.0 ]

-- so many children that are read
pub record TakesChildren (right count : ℕ) (bytes : List ℕ) (children : List EntryChild) (rest : List ℕ) : Type 0 where
  pub takes : Takes bytes (flat_map entry_child_bytes children) rest
  pub many : length children ≡ count
  pub each : AllByRecursion (IsEntryChild right) children
  pub rising : Rising (λ c d. BoundLess c.bound d.bound) children

pub children_take : (right count : ℕ) (bytes : List ℕ) (x : List EntryChild × List ℕ) → IsBytes bytes
    → entry_children_at right count bytes ≡ Ok x → TakesChildren right count bytes x.0 x.1
children_take right count bytes x fits e =
    let t = all_take (λ last behind rest. entry_child_at right last behind rest) entry_child_bytes (IsNextChild right)
    (λ c. c.bound) (child_reader right) [] count bytes x fits e in
    let c = children_chained right [] x.0 t.fit in
    record { takes = t.takes; many = t.count; each = c.each; rising = c.rising }

pub children_again : (right : ℕ) (children : List EntryChild) (rest : List ℕ) → AreEntryChildren right children
    → entry_children_at right (length children) (flat_map entry_child_bytes children ++ rest) ≡ Ok (children, rest)
children_again right children rest are =
    let later : AllByRecursion (IsLater []) children =
    all_above (IsEntryChild right) (IsLater []) (λ c is. first_later right c is) children are.each in
    all_again (λ last behind rest. entry_child_at right last behind rest) entry_child_bytes (IsNextChild right) (λ c.
    c.bound) (child_reader right) [] children rest (chained_children right [] children are.each later are.rising)
