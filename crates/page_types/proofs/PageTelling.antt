-- What is on a page is known by its bytes, its kind and its count.
use Rattle.std.proofs.Common.{◌≡◌, ℕ, zero, suc, ◌^◌, ◌<◌, List, [], ◌∷◌, ◌++◌, length, Option, Some, None, refl, sym}
use Rattle.std.proofs.Common.{ap, ◌∙◌, append_assoc, arith, inl, inr}
use Rattle.std.specs.List.{flat_map, AllByRecursion}
use Rattle.page_types.specs.Numbers.{u16_bytes, u32_bytes, u64_bytes}
use Rattle.page_types.specs.Keys.{IsKey}
use Rattle.page_types.specs.Encoding.{key_field, head_bytes, slot_bytes, row_bytes, postings_bytes, entry_bytes}
use Rattle.page_types.specs.Encoding.{entry_child_bytes, post_child_bytes, high_key_bytes}
use Rattle.page_types.specs.Pages.{IsHead, IsVectorIn, IsSlot, IsRow, ArePostings, IsEntry, IsHighKey, IsEntryChild}
use Rattle.page_types.specs.Pages.{IsPostChild}
use Rattle.page_types.specs.declared.page.Head.{Head}
use Rattle.page_types.specs.declared.page.Row.{Row}
use Rattle.page_types.specs.declared.page.Entry.{Entry}
use Rattle.page_types.specs.declared.page.Postings.{Postings}
use Rattle.page_types.specs.declared.page.Postings.TheVariants.{Inline, Root}
use Rattle.page_types.specs.declared.page.EntryChild.{EntryChild}
use Rattle.page_types.specs.declared.page.PostChild.{PostChild}
use Rattle.page_types.proofs.Telling.{Tells, parts_told, u16_told, u32_told, u64_told, sized_told, key_told, each_told}

-- a key has at most 2047 bytes
pub key_short : (key : List ℕ) → IsKey key → length key < 2 ^ 16
key_short [] k = absurd k
key_short (zero ∷ text) k = let most = k.most in omega arith
key_short (suc zero ∷ rest) k = omega (arith, ap length k)
key_short (suc (suc b) ∷ rest) k = absurd k

vectors_told : (n : ℕ) (v w a b : List ℕ) → IsVectorIn n v → IsVectorIn n w → v ++ a ≡ w ++ b → (v ≡ w) × (a ≡ b)
vectors_told n v w a b (inl p) (inl q) e = parts_told v w a b (p.1 ∙ sym q.1) e
vectors_told n v w a b (inl p) (inr q) e = absurd (omega arith)
vectors_told n v w a b (inr p) (inl q) e = absurd (omega arith)
vectors_told n v w a b (inr p) (inr q) e = parts_told v w a b (ap length (p.1 ∙ sym q.1)) e

head_of : ℕ → ℕ → ℕ → ℕ → ℕ → ℕ → List ℕ → Head
head_of serial inserted_by deleted_by overflow private bytes vector = record {
  serial = serial;
  inserted_by = inserted_by;
  deleted_by = deleted_by;
  overflow = overflow;
  private = private;
  bytes = bytes;
  vector = vector;
}

head_parts : (h : Head) → h ≡ head_of h.serial h.inserted_by h.deleted_by h.overflow h.private h.bytes h.vector
unfolding head_of
head_parts h = refl

head_regrouped : (a b c d e f v t : List ℕ)
    → (a ++ (b ++ (c ++ (d ++ (e ++ (f ++ v)))))) ++ t ≡ a ++ (b ++ (c ++ (d ++ (e ++ (f ++ (v ++ t))))))
head_regrouped a b c d e f v t = simp append_assoc

pub head_told : Tells head_bytes IsHead
unfolding head_bytes
head_told x y a b p q e =
    let opened = sym (head_regrouped (u64_bytes x.serial) (u32_bytes x.inserted_by) (u32_bytes x.deleted_by)
    (u32_bytes x.overflow) (u32_bytes x.private) (u32_bytes x.bytes) x.vector a) ∙ e
    ∙ head_regrouped (u64_bytes y.serial) (u32_bytes y.inserted_by) (u32_bytes y.deleted_by) (u32_bytes y.overflow)
    (u32_bytes y.private) (u32_bytes y.bytes) y.vector b in
    let t1 = u64_told x.serial y.serial _ _ p.serial q.serial opened in
    let t2 = u32_told x.inserted_by y.inserted_by _ _ p.inserted_by q.inserted_by t1.1 in
    let t3 = u32_told x.deleted_by y.deleted_by _ _ p.deleted_by q.deleted_by t2.1 in
    let t4 = u32_told x.overflow y.overflow _ _ (omega (arith, p.overflow)) (omega (arith, q.overflow)) t3.1 in
    let t5 = u32_told x.private y.private _ _ (omega (arith, p.private)) (omega (arith, q.private)) t4.1 in
    let t6 = u32_told x.bytes y.bytes _ _ p.bytes q.bytes t5.1 in
    let t7 = vectors_told y.bytes x.vector y.vector a b (rw (t6.0) at p.vector) q.vector t6.1 in
    (head_parts x ∙ cc (t1.0, t2.0, t3.0, t4.0, t5.0, t6.0, t7.0) ∙ sym (head_parts y), t7.1)

pub slot_told : Tells slot_bytes IsSlot
slot_told None None a b p q e = (refl, cc)
slot_told None (Some y) a b p q e = absurd cc
slot_told (Some x) None a b p q e = absurd cc
slot_told (Some x) (Some y) a b p q e =
    let tails : head_bytes x ++ a ≡ head_bytes y ++ b = cc in
    let told = head_told x y a b p q tails in
    let P : Head → Option Head = λ h. Some h in
    (ap P told.0, told.1)

row_of : ℕ → List (List ℕ) → Row
row_of item keys = record { item = item; keys = keys }

row_parts : (r : Row) → r ≡ row_of r.item r.keys
unfolding row_of
row_parts r = refl

three : (a b c t : List ℕ) → (a ++ (b ++ c)) ++ t ≡ a ++ (b ++ (c ++ t))
three a b c t = simp append_assoc

keys_short : (keys : List (List ℕ)) → AllByRecursion IsKey keys → AllByRecursion (λ key. length key < 2 ^ 16) keys
keys_short [] p = tt
keys_short (k ∷ ks) p = (key_short k p.0, keys_short ks p.1)

pub row_told : Tells row_bytes IsRow
unfolding row_bytes
row_told x y a b p q e =
    let opened = sym (three (u32_bytes x.item) (u16_bytes (length x.keys)) (flat_map key_field x.keys) a) ∙ e
    ∙ three (u32_bytes y.item) (u16_bytes (length y.keys)) (flat_map key_field y.keys) b in
    let t1 = u32_told x.item y.item _ _ (omega (arith, p.item)) (omega (arith, q.item)) opened in
    let t2 = u16_told (length x.keys) (length y.keys) _ _ p.count q.count t1.1 in
    let t3 = each_told key_field (λ key. length key < 2 ^ 16) key_told x.keys y.keys a b t2.0 (keys_short x.keys p.keys)
    (keys_short y.keys q.keys) t2.1 in
    (row_parts x ∙ cc (t1.0, t3.0) ∙ sym (row_parts y), t3.1)

pub postings_told : Tells postings_bytes ArePostings
postings_told (Inline x) (Inline y) a b p q e =
    let tails : (u16_bytes (length x) ++ x) ++ a ≡ (u16_bytes (length y) ++ y) ++ b = cc in
    let told = sized_told x y a b (omega (arith, p.0)) (omega (arith, q.0))
    (sym (append_assoc (u16_bytes (length x)) x a) ∙ tails ∙ append_assoc (u16_bytes (length y)) y b) in
    let P : List ℕ → Postings = λ t. Inline t in
    (ap P told.0, told.1)
postings_told (Inline x) (Root y) a b p q e = absurd cc
postings_told (Root x) (Inline y) a b p q e = absurd cc
postings_told (Root x) (Root y) a b p q e =
    let tails : u32_bytes x ++ a ≡ u32_bytes y ++ b = cc in
    let told = u32_told x y a b (omega (arith, p)) (omega (arith, q)) tails in
    let P : ℕ → Postings = λ t. Root t in
    (ap P told.0, told.1)

entry_of : List ℕ → Postings → Entry
entry_of key postings = record { key = key; postings = postings }

entry_parts : (x : Entry) → x ≡ entry_of x.key x.postings
unfolding entry_of
entry_parts x = refl

pub entry_told : Tells entry_bytes IsEntry
unfolding entry_bytes
entry_told x y a b p q e =
    let opened = sym (append_assoc (key_field x.key) (postings_bytes x.postings) a) ∙ e
    ∙ append_assoc (key_field y.key) (postings_bytes y.postings) b in
    let t1 = key_told x.key y.key _ _ (key_short x.key p.key) (key_short y.key q.key) opened in
    let t2 = postings_told x.postings y.postings a b p.postings q.postings t1.1 in
    (entry_parts x ∙ cc (t1.0, t2.0) ∙ sym (entry_parts y), t2.1)

child_of : ℕ → List ℕ → EntryChild
child_of page bound = record { page = page; bound = bound }

child_parts : (x : EntryChild) → x ≡ child_of x.page x.bound
unfolding child_of
child_parts x = refl

bound_short : (right : ℕ) (c : EntryChild) → IsEntryChild right c → length c.bound < 2 ^ 16
bound_short right c p = elim p.bound [ inl k ↦ key_short c.bound k | inr n ↦ omega (arith, ap length n.0) ]

pub entry_child_told : (right : ℕ) → Tells entry_child_bytes (IsEntryChild right)
unfolding entry_child_bytes
entry_child_told right x y a b p q e =
    let opened = sym (append_assoc (u32_bytes x.page) (key_field x.bound) a) ∙ e
    ∙ append_assoc (u32_bytes y.page) (key_field y.bound) b in
    let t1 = u32_told x.page y.page _ _ (omega (arith, p.page)) (omega (arith, q.page)) opened in
    let t2 = key_told x.bound y.bound a b (bound_short right x p) (bound_short right y q) t1.1 in
    (child_parts x ∙ cc (t1.0, t2.0) ∙ sym (child_parts y), t2.1)

leaf_of : ℕ → ℕ → PostChild
leaf_of page bound = record { page = page; bound = bound }

leaf_parts : (x : PostChild) → x ≡ leaf_of x.page x.bound
unfolding leaf_of
leaf_parts x = refl

item_short : (right : ℕ) (c : PostChild) → IsPostChild right c → c.bound < 2 ^ 32
item_short right c p = elim p.bound [ inl k ↦ omega arith | inr n ↦ omega (arith, n.0) ]

pub post_child_told : (right : ℕ) → Tells post_child_bytes (IsPostChild right)
unfolding post_child_bytes
post_child_told right x y a b p q e =
    let opened = sym (append_assoc (u32_bytes x.page) (u32_bytes x.bound) a) ∙ e
    ∙ append_assoc (u32_bytes y.page) (u32_bytes y.bound) b in
    let t1 = u32_told x.page y.page _ _ (omega (arith, p.page)) (omega (arith, q.page)) opened in
    let t2 = u32_told x.bound y.bound a b (item_short right x p) (item_short right y q) t1.1 in
    (leaf_parts x ∙ cc (t1.0, t2.0) ∙ sym (leaf_parts y), t2.1)

pub high_key_told : (right : ℕ) → Tells high_key_bytes (IsHighKey right)
high_key_told right [] [] a b p q e = (refl, e)
high_key_told right [] (y ∷ ys) a b (inl p) (inl q) e = absurd (cc q.1)
high_key_told right [] (y ∷ ys) a b (inl p) (inr q) e = absurd (q.0 p.0)
high_key_told right [] (y ∷ ys) a b (inr p) q e = absurd p.1
high_key_told right (x ∷ xs) [] a b (inl p) q e = absurd (cc p.1)
high_key_told right (x ∷ xs) [] a b (inr p) (inl q) e = absurd (p.0 q.0)
high_key_told right (x ∷ xs) [] a b (inr p) (inr q) e = absurd q.1
high_key_told right (x ∷ xs) (y ∷ ys) a b (inl p) q e = absurd (cc p.1)
high_key_told right (x ∷ xs) (y ∷ ys) a b (inr p) (inl q) e = absurd (cc q.1)
high_key_told right (x ∷ xs) (y ∷ ys) a b (inr p) (inr q) e =
    key_told (x ∷ xs) (y ∷ ys) a b (key_short (x ∷ xs) p.1) (key_short (y ∷ ys) q.1) e

leaf_told : (high high' : ℕ) (x y : List ℕ) → high < 2 ^ 32 → high' < 2 ^ 32
    → u32_bytes high ++ x ≡ u32_bytes high' ++ y → (high ≡ high') × (x ≡ y)
leaf_told high high' x y p q e = u32_told high high' x y p q e
