-- What the tests of a record FreeSlots say.
use Rattle.std.proofs.Common.{◌≡◌, ◌≢◌, ◌⊎◌, ◌<◌, ◌≤◌, ◌+◌, ℕ, zero, suc, Bool, true, false, List, []}
use Rattle.std.proofs.Common.{◌∷◌, length, get_or}
use Rattle.std.proofs.Common.{refl, sym, ap, ap₂, subst, ◌∙◌, inl, inr, arith}
use Rattle.std.specs.Prelude.{Option, Some, None}
use Rattle.page_types.specs.Views.{slot_at}
use Rattle.page_types.specs.declared.page.Page.{Page}
use Rattle.page_types.specs.declared.page.Head.{Head}
use Rattle.page_types.specs.declared.page.Body.TheVariants as body
use Rattle.page_types.specs.declared.record.Change.{Change}
use Rattle.page_types.specs.declared.record.Record.{Record}
use Rattle.page_types.specs.declared.record.Kind.TheVariants as kind
use Rattle.core_state.specs.Log.{pages_of}
use Rattle.core_state.specs.Known.{Known}
use Rattle.core_state.specs.Changes.{made_with, IsDeadHead}
use Rattle.core_state.specs.VacuumRules.{MayFree, SlotLoses, IsFreeSlotsHere}
use Rattle.core_state.specs.declared.answers.Fate.{Fate}
use Rattle.core_state.specs.declared.answers.Fate.TheVariants.{Aborted, Committed}
use Rattle.core_vacuum.specs.Inner.Freeing.{BecomesFree, SlotsGo, LeavesSlots}

-- ---- one slot

none_some : {A : Type 0} (x : A) → None ≡ Some x → ⊥
none_some x e = cc

some_one : (h k : Head) → Some h ≡ Some k → h ≡ k
some_one h k e = cc

pub none_stays : (k : Known) (floor : ℕ) (h : Head) → SlotLoses k floor None (Some h) → ⊥
none_stays k floor h (SlotLoses.same e) = none_some h (sym e)
none_stays k floor h (SlotLoses.freed x e f may) = none_some x e

pub head_stays : (k : Known) (floor : ℕ) (a b : Head) → SlotLoses k floor (Some a) (Some b) → a ≡ b
head_stays k floor a b (SlotLoses.same e) = some_one a b (sym e)
head_stays k floor a b (SlotLoses.freed x e f may) = absurd (none_some b (sym f))

pub head_goes : (k : Known) (floor : ℕ) (a : Head) → SlotLoses k floor (Some a) None → MayFree k floor a
head_goes k floor a (SlotLoses.same e) = absurd (none_some a e)
head_goes k floor a (SlotLoses.freed x e f may) = subst (MayFree k floor) (some_one x a (sym e)) may

-- a head whose deleting transaction has committed
pub dead_by : (fates : ℕ → Fate) (floor n : ℕ) (h : Head) → (fates h.inserted_by ≡ Aborted → ⊥)
    → fates h.deleted_by ≡ Committed n → IsDeadHead fates floor h → n ≤ floor
dead_by fates floor n h off by (IsDeadHead.insert_aborted e) = absurd (off e)
dead_by fates floor n h off by (IsDeadHead.delete_counted m e le) =
    let same : n ≡ m = one_number n m (sym by ∙ e) in
    omega (arith, same, le)
  where
    one_number : (a b : ℕ) → Committed a ≡ Committed b → a ≡ b
    one_number a b f = cc

-- ---- the slots of a page

past : (slots : List (Option Head)) (k : ℕ) → length slots ≤ k → slot_at slots k ≡ None
past [] k le = refl
past (s ∷ slots) zero le = absurd (omega (arith, le))
past (s ∷ slots) (suc k) le = past slots k (omega (arith, le))

same_slots : (slots new : List (Option Head)) → length new ≡ length slots
    → ((k : ℕ) → k < length slots → slot_at new k ≡ slot_at slots k) → new ≡ slots
same_slots [] [] n each = refl
same_slots [] (t ∷ new) n each = absurd (omega (arith, n))
same_slots (s ∷ slots) [] n each = absurd (omega (arith, n))
same_slots (s ∷ slots) (t ∷ new) n each =
    ap₂ (λ (x : Option Head) (xs : List (Option Head)). x ∷ xs) (each zero (omega arith))
    (same_slots slots new (omega (arith, n)) (λ k lt. each (suc k) (omega (arith, lt))))

-- the slots below k go, and whether one of them became free
pub record GoUpTo (k : Known) (floor : ℕ) (slots new : List (Option Head)) (n : ℕ) (freed : Bool) : Type 0 where
  pub each : (slot : ℕ) → slot < n → SlotLoses k floor (slot_at slots slot) (slot_at new slot)
  pub some : freed ≡ true → new ≢ slots
  pub none : freed ≡ false → (slot : ℕ) → slot < n → slot_at new slot ≡ slot_at slots slot

pub none_goes : (k : Known) (floor : ℕ) (slots new : List (Option Head)) → GoUpTo k floor slots new 0 false
none_goes k floor slots new = record {
  each = λ slot lt. absurd (omega (arith, lt));
  some = λ e. absurd cc;
  none = λ e slot lt. absurd (omega (arith, lt));
}

stays_else : (k : Known) (floor : ℕ) (a b : Option Head) → SlotLoses k floor a b → (BecomesFree a b → ⊥) → b ≡ a
stays_else k floor a b (SlotLoses.same e) off = e
stays_else k floor a b (SlotLoses.freed h e f may) off =
    absurd (off ((λ none. none_some h (sym none ∙ e)), f))

pub below_or_at : (i n : ℕ) → i < n + 1 → (i < n) ⊎ (i ≡ n)
below_or_at i n lt = grind (arith, lt)

below_or_past : (i n : ℕ) → (i < n) ⊎ (n ≤ i)
below_or_past i n = grind arith

pub one_more : (k : Known) (floor : ℕ) (slots new : List (Option Head)) (n : ℕ) (freed then : Bool)
    → GoUpTo k floor slots new n freed → SlotLoses k floor (slot_at slots n) (slot_at new n)
    → (then ≡ true → (freed ≡ true) ⊎ BecomesFree (slot_at slots n) (slot_at new n))
    → (then ≡ false → (freed ≡ false) × (BecomesFree (slot_at slots n) (slot_at new n) → ⊥))
    → GoUpTo k floor slots new (n + 1) then
one_more k floor slots new n freed then so here came stays = record {
  each = λ i lt. elim (below_or_at i n lt) [
    | inl below ↦ so.each i below
    | inr e ↦ subst (λ (j : ℕ). SlotLoses k floor (slot_at slots j) (slot_at new j)) (sym e) here
  ];
  some = λ e same. elim (came e) [
    | inl old ↦ so.some old same
    | inr now ↦ now.0 (sym (ap (λ (xs : List (Option Head)). slot_at xs n) same) ∙ now.1)
  ];
  none = λ e i lt. elim (below_or_at i n lt) [
    | inl below ↦ so.none (stays e).0 i below
    | inr at ↦ subst (λ (j : ℕ). slot_at new j ≡ slot_at slots j) (sym at)
        (stays_else k floor (slot_at slots n) (slot_at new n) here (stays e).1)
  ];
}

pub all_go : (k : Known) (floor : ℕ) (slots new : List (Option Head)) (n : ℕ) (freed : Bool)
    → length new ≡ length slots → length slots ≤ n → GoUpTo k floor slots new n freed → freed ≡ true
    → SlotsGo k floor slots new
all_go k floor slots new n freed size end so e = record {
  same_length = size;
  each = λ slot. each slot (below_or_past slot n);
  some = so.some e;
}
  where
    each : (slot : ℕ) → (slot < n) ⊎ (n ≤ slot) → SlotLoses k floor (slot_at slots slot) (slot_at new slot)
    each slot (inl lt) = so.each slot lt
    each slot (inr le) = SlotLoses.same
        (past new slot (omega (arith, size, end, le)) ∙ sym (past slots slot (omega (arith, end, le))))

pub some_goes : (k : Known) (floor : ℕ) (slots new : List (Option Head)) (n : ℕ) (freed : Bool)
    → length slots ≤ n → GoUpTo k floor slots new n freed → SlotsGo k floor slots new → freed ≡ true
some_goes k floor slots new n true end so go = refl
some_goes k floor slots new n false end so go =
    absurd (go.some (same_slots slots new go.same_length (λ j lt. so.none refl j (omega (arith, lt, end)))))

-- ---- the record

pub one_told : (xs : List Page) (x : Page) → length xs ≡ 1 → x ≡ get_or xs 0 x → xs ≡ x ∷ []
one_told [] x n e = absurd (omega (arith, n))
one_told (y ∷ []) x n e = ap (λ (z : Page). z ∷ []) (sym e)
one_told (y ∷ z ∷ zs) x n e = absurd (omega (arith, n))

pub one_changed : (cs : List Change) → length cs ≡ 1 → (p : ℕ) × (pages_of cs ≡ p ∷ [])
one_changed [] n = absurd (omega (arith, n))
one_changed (c ∷ []) n = (c.page, refl)
one_changed (c ∷ d ∷ cs) n = absurd (omega (arith, n))

pub length_pages : (cs : List Change) → length (pages_of cs) ≡ length cs
length_pages [] = refl
length_pages (c ∷ cs) = ap suc (length_pages cs)

pub one_change : (cs : List Change) (p : ℕ) → pages_of cs ≡ p ∷ [] → length cs ≡ 1
one_change cs p e = sym (length_pages cs) ∙ ap length e

-- the two pages that a record changes, of which this is the first
pub second_told : (first : ℕ) (ds cs : List Change) (x y : Change) → ds ≡ cs → length ds ≡ 2
    → (get_or ds 0 x).page ≡ first → pages_of cs ≡ first ∷ (get_or ds 1 y).page ∷ []
second_told first ds cs x y same n e =
    subst (λ (zs : List Change). pages_of zs ≡ first ∷ (get_or ds 1 y).page ∷ []) same (go ds n e)
  where
    go : (zs : List Change) → length zs ≡ 2 → (get_or zs 0 x).page ≡ first
        → pages_of zs ≡ first ∷ (get_or zs 1 y).page ∷ []
    go [] n e = absurd (omega (arith, n))
    go (c ∷ []) n e = absurd (omega (arith, n))
    go (c ∷ d ∷ []) n e = ap (λ (p : ℕ). p ∷ d.page ∷ []) e
    go (c ∷ d ∷ b ∷ zs) n e = absurd (omega (arith, n))

pub two_changes : (first p : ℕ) (ds cs : List Change) → ds ≡ cs → pages_of cs ≡ first ∷ p ∷ [] → length ds ≡ 2
two_changes first p ds cs same e = ap length same ∙ sym (length_pages cs) ∙ ap length e

pub first_of_two : (first p : ℕ) (ds cs : List Change) (x : Change) → ds ≡ cs → pages_of cs ≡ first ∷ p ∷ []
    → (get_or ds 0 x).page ≡ first
first_of_two first p ds cs x same e =
    ap (λ (zs : List Change). (get_or zs 0 x).page) same ∙ go cs e
  where
    go : (zs : List Change) → pages_of zs ≡ first ∷ p ∷ [] → (get_or zs 0 x).page ≡ first
    go [] f = absurd cc
    go (c ∷ zs) f = ap (λ (qs : List ℕ). get_or qs 0 0) f

pub one_back : (xs : List Page) (x y : Page) → xs ≡ y ∷ [] → x ≡ get_or xs 0 x → y ≡ x
one_back xs x y e is = sym (is ∙ ap (λ (zs : List Page). get_or zs 0 x) e)

pub freed_told : (floor : ℕ) (k : Known) (r : Record) (old new : Page) (before after : List Page)
    → r.kind ≡ kind.FreeSlots → length r.changes ≡ 1 → length before ≡ 1 → length after ≡ 1
    → old ≡ get_or before 0 old → new ≡ get_or after 0 new → LeavesSlots k floor r old new
    → IsFreeSlotsHere floor k r before after
freed_told floor k r old new before after e n one one' old_is new_is a =
    let page = one_changed r.changes n in
    record {
      page = page.0;
      slots = a.slots;
      new_slots = a.new_slots;
      old = old;
      kind_is = e;
      pages = page.1;
      before_is = one_told before old one old_is;
      was = a.was;
      same_length = a.go.same_length;
      each = a.go.each;
      some = a.go.some;
      after_is = one_told after new one' new_is ∙ ap (λ (p : Page). p ∷ []) a.after;
    }

pub freed_back : (floor : ℕ) (k : Known) (r : Record) (old new : Page) (before after : List Page)
    → old ≡ get_or before 0 old → new ≡ get_or after 0 new → IsFreeSlotsHere floor k r before after
    → LeavesSlots k floor r old new
freed_back floor k r old new before after old_is new_is w =
    let was : w.old ≡ old = one_back before old w.old w.before_is old_is in
    let then : Page = made_with r w.old.right (body.Heap w.new_slots) in
    let now : then ≡ new = one_back after new then w.after_is new_is in
    let same : LeavesSlots k floor r w.old then = record {
      slots = w.slots;
      new_slots = w.new_slots;
      was = w.was;
      go = record { same_length = w.same_length; each = w.each; some = w.some };
      after = refl;
    } in
    subst (LeavesSlots k floor r old) now (subst (λ (p : Page). LeavesSlots k floor r p then) was same)
