-- Parts of a page that are short, and parts that are written one after the other.
use Rattle.std.proofs.Common.{◌≡◌, ℕ, ◌+◌, ◌^◌, ◌<◌, ◌≤◌, ◌-◌, Bool, true, eqb, List, [], ◌∷◌, ◌++◌, length, take, drop}
use Rattle.std.proofs.Common.{refl, sym, ap, subst, ◌∙◌, append_assoc, arith, inl, inr}
use Rattle.std.specs.List.{flat_map, AllByRecursion}
use Rattle.std.proofs.lemmas.List.{length-append, take_at, drop_at, drop-drop, drop-append-le}
use Rattle.page_types.specs.Numbers.{u16_bytes, u32_bytes, u64_bytes, zeros}
use Rattle.page_types.specs.Writing.{overwritten}
use Rattle.page_types.specs.Keys.{IsKey}
use Rattle.page_types.specs.Encoding.{key_field, head_bytes, row_bytes, postings_bytes, entry_bytes, entry_child_bytes}
use Rattle.page_types.specs.Encoding.{post_child_bytes, high_key_bytes, body_bytes, kind_of, was_of, count_of}
use Rattle.page_types.specs.Encoding.{front_bytes, framed, page_bytes}
use Rattle.page_types.specs.Pages.{IsEntryChild, IsHighKey}
use Rattle.page_types.specs.declared.page.Page.{Page}
use Rattle.page_types.specs.declared.page.Head.{Head}
use Rattle.page_types.specs.declared.page.Row.{Row}
use Rattle.page_types.specs.declared.page.Entry.{Entry}
use Rattle.page_types.specs.declared.page.EntryChild.{EntryChild}
use Rattle.page_types.specs.declared.page.PostChild.{PostChild}
use Rattle.page_types.proofs.Framing.{length-u16_bytes, length-u64_bytes, length-zeros, drop-zeros, overwritten-later}
use Rattle.page_types.proofs.PageLaws.{length-front_bytes}
use Rattle.page_types.proofs.PageTelling.{key_short}
use Rattle.page_code.specs.Inner.Putting.{Puts}
use Rattle.page_code.proofs.Appending.{puts_none, puts_then}
use Rattle.page_code.proofs.Passing.{none_from}

-- ---- what is short

pub keys_short : (keys : List (List ℕ)) → AllByRecursion IsKey keys → AllByRecursion (λ key. length key < 2 ^ 16) keys
keys_short [] h = tt
keys_short (k ∷ ks) h = (key_short k h.0, keys_short ks h.1)

pub bounds_short : (right : ℕ) (children : List EntryChild) → AllByRecursion (IsEntryChild right) children
    → AllByRecursion (λ c. length c.bound < 2 ^ 16) children
bounds_short right [] h = tt
bounds_short right (c ∷ cs) h = (
  elim h.0.bound [ inl key ↦ key_short c.bound key | inr none ↦ omega (arith, ap length none.0) ],
  bounds_short right cs h.1,
)

pub high_short : (right : ℕ) (high : List ℕ) → IsHighKey right high → length high < 2 ^ 16
high_short right high (inl p) = omega (arith, ap length p.1)
high_short right high (inr p) = key_short high p.1

-- ---- parts

pub puts_key : (at r1 r2 n : ℕ) (key old mid new : List ℕ) → n ≡ length key → at ≤ length old
    → Puts at (u16_bytes n) old r1 mid → Puts r1 key mid r2 new → Puts at (key_field key) old r2 new
unfolding key_field
puts_key at r1 r2 n key old mid new is le p q =
    subst (λ m. Puts at (u16_bytes m ++ key) old r2 new) is (puts_then at r1 r2 (u16_bytes n) key old mid new le p q)

-- two parts, where there is room for the first
pub puts_two : (at r1 r2 : ℕ) (a b old mid new : List ℕ) → at + length a ≤ length old → length mid ≡ length old
    → Puts at a old r1 mid → Puts r1 b mid r2 new → Puts at (a ++ b) old r2 new
puts_two at r1 r2 a b old mid new le same p q = puts_then at r1 r2 a b old mid new (omega arith) p q

pub puts_head : (at r1 r2 r3 r4 r5 r6 r7 : ℕ) (h : Head) (old o1 o2 o3 o4 o5 o6 new : List ℕ) → at ≤ length old
    → r1 ≤ length o1 → r2 ≤ length o2 → r3 ≤ length o3 → r4 ≤ length o4 → r5 ≤ length o5
    → Puts at (u64_bytes h.serial) old r1 o1 → Puts r1 (u32_bytes h.inserted_by) o1 r2 o2
    → Puts r2 (u32_bytes h.deleted_by) o2 r3 o3 → Puts r3 (u32_bytes h.overflow) o3 r4 o4
    → Puts r4 (u32_bytes h.private) o4 r5 o5 → Puts r5 (u32_bytes h.bytes) o5 r6 o6 → Puts r6 h.vector o6 r7 new
    → Puts at (head_bytes h) old r7 new
unfolding head_bytes
puts_head at r1 r2 r3 r4 r5 r6 r7 h old o1 o2 o3 o4 o5 o6 new l0 l1 l2 l3 l4 l5 p1 p2 p3 p4 p5 p6 p7 =
    let q6 = puts_then r5 r6 r7 (u32_bytes h.bytes) h.vector o5 o6 new l5 p6 p7 in
    let q5 = puts_then r4 r5 r7 (u32_bytes h.private) (u32_bytes h.bytes ++ h.vector) o4 o5 new l4 p5 q6 in
    let q4 = puts_then r3 r4 r7 (u32_bytes h.overflow)
    (u32_bytes h.private ++ (u32_bytes h.bytes ++ h.vector)) o3 o4 new l3 p4 q5 in
    let q3 = puts_then r2 r3 r7 (u32_bytes h.deleted_by)
    (u32_bytes h.overflow ++ (u32_bytes h.private ++ (u32_bytes h.bytes ++ h.vector))) o2 o3 new l2 p3 q4 in
    let q2 = puts_then r1 r2 r7 (u32_bytes h.inserted_by) (u32_bytes h.deleted_by
    ++ (u32_bytes h.overflow ++ (u32_bytes h.private ++ (u32_bytes h.bytes ++ h.vector)))) o1 o2 new l1 p2 q3 in
    puts_then at r1 r7 (u64_bytes h.serial) (u32_bytes h.inserted_by ++ (u32_bytes h.deleted_by
    ++ (u32_bytes h.overflow ++ (u32_bytes h.private ++ (u32_bytes h.bytes ++ h.vector))))) old o1 new l0 p1 q2

pub puts_row : (at r1 r2 r3 n : ℕ) (r : Row) (old o1 o2 new : List ℕ) → n ≡ length r.keys → at ≤ length old
    → r1 ≤ length o1 → Puts at (u32_bytes r.item) old r1 o1 → Puts r1 (u16_bytes n) o1 r2 o2
    → Puts r2 (flat_map key_field r.keys) o2 r3 new → Puts at (row_bytes r) old r3 new
unfolding row_bytes
puts_row at r1 r2 r3 n r old o1 o2 new is l0 l1 p1 p2 p3 =
    let q2 = puts_then r1 r2 r3 (u16_bytes n) (flat_map key_field r.keys) o1 o2 new l1 p2 p3 in
    let q1 = puts_then at r1 r3 (u32_bytes r.item) (u16_bytes n ++ flat_map key_field r.keys) old o1 new l0 p1 q2 in
    subst (λ m. Puts at (u32_bytes r.item ++ (u16_bytes m ++ flat_map key_field r.keys)) old r3 new) is q1

pub puts_entry : (at r1 r2 : ℕ) (e : Entry) (old mid new : List ℕ) → at ≤ length old
    → Puts at (key_field e.key) old r1 mid → Puts r1 (postings_bytes e.postings) mid r2 new
    → Puts at (entry_bytes e) old r2 new
unfolding entry_bytes
puts_entry at r1 r2 e old mid new le p q =
    puts_then at r1 r2 (key_field e.key) (postings_bytes e.postings) old mid new le p q

pub puts_inline : (at r1 r2 : ℕ) (items old mid new : List ℕ) → at ≤ length old → Puts at (0 ∷ []) old r1 mid
    → Puts r1 (key_field items) mid r2 new → Puts at (0 ∷ (u16_bytes (length items) ++ items)) old r2 new
unfolding key_field
puts_inline at r1 r2 items old mid new le p q =
    puts_then at r1 r2 (0 ∷ []) (u16_bytes (length items) ++ items) old mid new le p q

pub puts_entry_child : (at r1 r2 : ℕ) (c : EntryChild) (old mid new : List ℕ) → at ≤ length old
    → Puts at (u32_bytes c.page) old r1 mid → Puts r1 (key_field c.bound) mid r2 new
    → Puts at (entry_child_bytes c) old r2 new
unfolding entry_child_bytes
puts_entry_child at r1 r2 c old mid new le p q =
    puts_then at r1 r2 (u32_bytes c.page) (key_field c.bound) old mid new le p q

pub puts_post_child : (at r1 r2 : ℕ) (c : PostChild) (old mid new : List ℕ) → at ≤ length old
    → Puts at (u32_bytes c.page) old r1 mid → Puts r1 (u32_bytes c.bound) mid r2 new
    → Puts at (post_child_bytes c) old r2 new
unfolding post_child_bytes
puts_post_child at r1 r2 c old mid new le p q =
    puts_then at r1 r2 (u32_bytes c.page) (u32_bytes c.bound) old mid new le p q

pub puts_meta : (at r1 r2 r3 first last pages : ℕ) (old o1 o2 new : List ℕ) → at ≤ length old → r1 ≤ length o1
    → Puts at (u32_bytes first) old r1 o1 → Puts r1 (u32_bytes last) o1 r2 o2 → Puts r2 (u32_bytes pages) o2 r3 new
    → Puts at (u32_bytes first ++ (u32_bytes last ++ u32_bytes pages)) old r3 new
puts_meta at r1 r2 r3 first last pages old o1 o2 new l0 l1 p1 p2 p3 =
    puts_then at r1 r3 (u32_bytes first) (u32_bytes last ++ u32_bytes pages) old o1 new l0 p1
    (puts_then r1 r2 r3 (u32_bytes last) (u32_bytes pages) o1 o2 new l1 p2 p3)

-- ---- the high key

pub high_none : (at : ℕ) (high old : List ℕ) (b : Bool) → b ≡ true → b ≡ eqb (length high) 0
    → Puts at (high_key_bytes high) old at old
high_none at high old b p q =
    subst (λ (l : List ℕ). Puts at (high_key_bytes l) old at old) (sym (none_from high b p q)) (puts_none at old)

-- ---- the front

front_put : (k w : ℕ) (count right : List ℕ) (r1 r2 r3 r4 : ℕ) (o0 o1 o2 o3 o4 : List ℕ) → 8 ≤ length o0
    → r1 ≤ length o1 → r2 ≤ length o2 → Puts 0 (k ∷ []) o0 r1 o1 → Puts r1 (w ∷ []) o1 r2 o2 → Puts r2 count o2 r3 o3
    → Puts r3 right o3 r4 o4
    → Puts 0 (k ∷ w ∷ (count ++ right)) o0 r4 o4
front_put k w count right r1 r2 r3 r4 o0 o1 o2 o3 o4 l0 l1 l2 p1 p2 p3 p4 =
    let q3 = puts_then r2 r3 r4 count right o2 o3 o4 l2 p3 p4 in
    let q2 = puts_then r1 r2 r4 (w ∷ []) (count ++ right) o1 o2 o4 l1 p2 q3 in
    puts_then 0 r1 r4 (k ∷ []) (w ∷ (count ++ right)) o0 o1 o4 (omega (arith, l0)) p1 q2

pub puts_front : (p : Page) (k w n r1 r2 r3 r4 : ℕ) (o0 o1 o2 o3 o4 : List ℕ) → k ≡ kind_of p.body → w ≡ was_of p.body
    → n ≡ count_of p.body → 8 ≤ length o0 → r1 ≤ length o1 → r2 ≤ length o2
    → Puts 0 (k ∷ []) o0 r1 o1 → Puts r1 (w ∷ []) o1 r2 o2 → Puts r2 (u16_bytes n) o2 r3 o3
    → Puts r3 (u32_bytes p.right) o3 r4 o4 → o4 ≡ overwritten 0 (front_bytes p) o0
unfolding front_bytes
puts_front p k w n r1 r2 r3 r4 o0 o1 o2 o3 o4 is was many l0 l1 l2 p1 p2 p3 p4 =
    let all = front_put k w (u16_bytes n) (u32_bytes p.right) r1 r2 r3 r4 o0 o1 o2 o3 o4 l0 l1 l2 p1 p2 p3 p4 in
    let P : ℕ → ℕ → ℕ → List ℕ = λ a b m. overwritten 0 (a ∷ b ∷ (u16_bytes m ++ u32_bytes p.right)) o0 in
    all.1 ∙ ap (λ a. P a w n) is ∙ ap (λ b. P (kind_of p.body) b n) was ∙ ap (P (kind_of p.body) (was_of p.body)) many

-- ---- a page

-- bytes over the first of zeros that are after others
over_gap : (front bytes behind : List ℕ) (at n : ℕ) → length front ≡ at → length bytes ≤ n
    → overwritten at bytes (front ++ (zeros n ++ behind)) ≡ (front ++ bytes) ++ (zeros (n - length bytes) ++ behind)
unfolding overwritten
over_gap front bytes behind at n is le =
    let kept : take at (front ++ (zeros n ++ behind)) ≡ front = take_at front (zeros n ++ behind) at is in
    let short : length bytes ≤ length (zeros n) = omega (arith, length-zeros n, le) in
    let left : drop (at + length bytes) (front ++ (zeros n ++ behind)) ≡ zeros (n - length bytes) ++ behind =
    sym (drop-drop (length bytes) at (front ++ (zeros n ++ behind)))
    ∙ ap (drop (length bytes)) (drop_at front (zeros n ++ behind) at is)
    ∙ drop-append-le (length bytes) (zeros n) behind short
    ∙ ap (λ (l : List ℕ). l ++ behind) (drop-zeros (length bytes) n) in
    let P : List ℕ → List ℕ → List ℕ = λ f d. f ++ (bytes ++ d) in
    ap (λ f. P f (drop (at + length bytes) (front ++ (zeros n ++ behind)))) kept ∙ ap (P front) left
    ∙ sym (append_assoc front bytes (zeros (n - length bytes) ++ behind))

grouped : (f s u z b e : List ℕ) → ((f ++ s) ++ u) ++ (z ++ (b ++ e)) ≡ f ++ (s ++ (u ++ (z ++ (b ++ e))))
grouped f s u z b e = simp append_assoc

pub page_put : (p : Page) (stamp used o0 o1 o2 o3 o4 : List ℕ) → length (body_bytes p.body) ≤ 8168
    → stamp ≡ u64_bytes p.stamp → used ≡ u16_bytes (length (body_bytes p.body)) → o0 ≡ zeros 8192
    → o1 ≡ overwritten 24 (body_bytes p.body) o0 → o2 ≡ overwritten 0 (front_bytes p) o1 → o3 ≡ overwritten 8 stamp o2
    → o4 ≡ overwritten 16 used o3 → o4 ≡ page_bytes p
unfolding page_bytes framed
page_put p stamp used o0 o1 o2 o3 o4 fits s u e0 e1 e2 e3 e4 =
    let body : List ℕ = body_bytes p.body in
    let rest : List ℕ = body_bytes p.body ++ zeros (8168 - length (body_bytes p.body)) in
    let f8 = length-front_bytes p in
    let s8 : length stamp ≡ 8 = ap length s ∙ length-u64_bytes p.stamp in
    let u2 : length used ≡ 2 = ap length u ∙ length-u16_bytes (length (body_bytes p.body)) in
    let d1 : o1 ≡ zeros 24 ++ (body_bytes p.body ++ zeros (8168 - length (body_bytes p.body))) =
    e1 ∙ ap (overwritten 24 (body_bytes p.body)) e0 ∙ overwritten-later [] (body_bytes p.body) 24 24 8168 refl
    ∙ append_assoc (zeros 24) (body_bytes p.body) (zeros (8168 - length (body_bytes p.body))) in
    let d2 : o2 ≡ front_bytes p ++ (zeros 16 ++ (body_bytes p.body ++ zeros (8168 - length (body_bytes p.body)))) =
    e2 ∙ ap (overwritten 0 (front_bytes p)) d1 ∙ over_gap [] (front_bytes p)
    (body_bytes p.body ++ zeros (8168 - length (body_bytes p.body))) 0 24 refl (omega (arith, f8))
    ∙ ap (λ n. front_bytes p ++ (zeros n ++ (body_bytes p.body ++ zeros (8168 - length (body_bytes p.body)))))
    (omega (arith, f8)) in
    let d3 : o3
    ≡ (front_bytes p ++ stamp) ++ (zeros 8 ++ (body_bytes p.body ++ zeros (8168 - length (body_bytes p.body)))) =
    e3 ∙ ap (overwritten 8 stamp) d2 ∙ over_gap (front_bytes p) stamp
    (body_bytes p.body ++ zeros (8168 - length (body_bytes p.body))) 8 16 f8 (omega (arith, s8))
    ∙ ap (λ n. (front_bytes p ++ stamp)
    ++ (zeros n ++ (body_bytes p.body ++ zeros (8168 - length (body_bytes p.body))))) (omega (arith, s8)) in
    let size : length (front_bytes p ++ stamp) ≡ 16 = omega (arith, length-append (front_bytes p) stamp, f8, s8) in
    let d4 : o4 ≡ ((front_bytes p ++ stamp) ++ used)
    ++ (zeros 6 ++ (body_bytes p.body ++ zeros (8168 - length (body_bytes p.body)))) =
    e4 ∙ ap (overwritten 16 used) d3 ∙ over_gap (front_bytes p ++ stamp) used
    (body_bytes p.body ++ zeros (8168 - length (body_bytes p.body))) 16 8 size (omega (arith, u2))
    ∙ ap (λ n. ((front_bytes p ++ stamp) ++ used)
    ++ (zeros n ++ (body_bytes p.body ++ zeros (8168 - length (body_bytes p.body))))) (omega (arith, u2)) in
    let P : List ℕ → List ℕ → List ℕ = λ a b. front_bytes p ++ (a
    ++ (b ++ (zeros 6 ++ (body_bytes p.body ++ zeros (8168 - length (body_bytes p.body)))))) in
    d4 ∙ grouped (front_bytes p) stamp used (zeros 6) (body_bytes p.body) (zeros (8168 - length (body_bytes p.body)))
    ∙ ap (λ a. P a used) s ∙ ap (P (u64_bytes p.stamp)) u
