-- What the loops of writing keep.
use Rattle.std.proofs.Common.{◌≡◌, ℕ, ◌+◌, ◌-◌, ◌/◌, ◌%◌, ◌^◌, ◌<◌, ◌≤◌, List, [], ◌∷◌, ◌++◌, length, take, drop}
use Rattle.std.proofs.Common.{get_or, refl, sym, ap, subst, ◌∙◌, append_assoc, arith}
use Rattle.std.proofs.lemmas.List.{take_at, length-append, drop_more, drop_all, take-take, append-nil}
use Rattle.page_types.specs.Items.{varbyte, item_list_from, item_list, AreItemsFrom, AreItems}
use Rattle.page_types.proofs.Varbytes.{varbyte-last, varbyte-more}

-- a number of which the low bits are written
pub record IsPutting (start out : List ℕ) (n high : ℕ) : Type 0 where
  pub written : List ℕ
  pub out_is : out ≡ start ++ written
  pub encoding : written ++ varbyte high ≡ varbyte n
  pub bound : high < 2 ^ 31

pub putting_starts : (start : List ℕ) (n : ℕ) → n < 2 ^ 31 → IsPutting start start n n
putting_starts start n lt = record { written = []; out_is = sym (append-nil start); encoding = refl; bound = lt }

pub putting_goes_on : (start out out' : List ℕ) (n high b : ℕ) → IsPutting start out n high → 128 ≤ high
    → b ≡ high % 128 + 128 → out' ≡ out ++ b ∷ [] → IsPutting start out' n (high / 128)
putting_goes_on start out out' n high b k le is e = record {
  written = k.written ++ b ∷ [];
  out_is = e ∙ ap (λ (t : List ℕ). t ++ b ∷ []) k.out_is ∙ append_assoc start k.written (b ∷ []);
  encoding = append_assoc k.written (b ∷ []) (varbyte (high / 128)) ∙ ap (λ x. k.written ++ (x ∷ varbyte (high / 128)))
      is ∙ ap (λ (t : List ℕ). k.written ++ t) (sym (varbyte-more high le k.bound)) ∙ k.encoding;
  bound = let lt = k.bound in omega arith;
}

pub putting_ends : (start out out' : List ℕ) (n high b : ℕ) → IsPutting start out n high → high < 128 → b ≡ high
    → out' ≡ out ++ b ∷ [] → out' ≡ start ++ varbyte n
putting_ends start out out' n high b k lt is e =
    e ∙ ap (λ (t : List ℕ). t ++ b ∷ []) k.out_is ∙ append_assoc start k.written (b ∷ [])
    ∙ ap (λ x. start ++ (k.written ++ x ∷ [])) is
    ∙ ap (λ (t : List ℕ). start ++ (k.written ++ t)) (sym (varbyte-last high lt))
    ∙ ap (λ (t : List ℕ). start ++ t) k.encoding

pub kept_front : (start written out : List ℕ) → out ≡ start ++ written → take (length start) out ≡ start
kept_front start written out e = ap (take (length start)) e ∙ take_at start written (length start) refl

-- a list of which the first items are written
pub record IsListing (start out items : List ℕ) (index last : ℕ) : Type 0 where
  pub written : List ℕ
  pub out_is : out ≡ start ++ written
  pub encoding : written ++ item_list_from last (drop index items) ≡ item_list items
  pub left : AreItemsFrom last (drop index items)

pub listing_starts : (start items : List ℕ) → AreItems items → IsListing start start items 0 0
listing_starts start items h = record { written = []; out_is = sym (append-nil start); encoding = refl; left = h }

-- the next item lies above the last
pub listing_next : (start out items : List ℕ) (index last item : ℕ)
    → IsListing start out items index last → index < length items → item ≡ get_or items index 0
    → (last < item) × (item < 2 ^ 31) × AreItemsFrom item (drop (index + 1) items)
listing_next start out items index last item k lt is =
    let here : drop index items ≡ item ∷ drop (index + 1) items =
    drop_more items index 0 lt ∙ ap (λ x. x ∷ drop (index + 1) items) (sym is) in
    subst (AreItemsFrom last) here k.left

pub listing_goes_on : (start out out' items : List ℕ) (index last item : ℕ) → IsListing start out items index last
    → index < length items → item ≡ get_or items index 0 → out' ≡ out ++ varbyte (item - last)
    → IsListing start out' items (index + 1) item
listing_goes_on start out out' items index last item k lt is e =
    let here : drop index items ≡ item ∷ drop (index + 1) items =
    drop_more items index 0 lt ∙ ap (λ x. x ∷ drop (index + 1) items) (sym is) in
    record {
      written = k.written ++ varbyte (item - last);
      out_is = e ∙ ap (λ (t : List ℕ). t ++ varbyte (item - last)) k.out_is
          ∙ append_assoc start k.written (varbyte (item - last));
      encoding = append_assoc k.written (varbyte (item - last)) (item_list_from item (drop (index + 1) items))
          ∙ ap (λ (t : List ℕ). k.written ++ item_list_from last t) (sym here) ∙ k.encoding;
      left = (listing_next start out items index last item k lt is).2;
    }

pub listing_ends : (start out items : List ℕ) (index last : ℕ) → IsListing start out items index last
    → length items ≤ index → out ≡ start ++ item_list items
listing_ends start out items index last k le =
    let none : drop index items ≡ [] = drop_all index items le in
    k.out_is ∙ ap (λ (t : List ℕ). start ++ t)
    (sym (append-nil k.written) ∙ ap (λ (t : List ℕ). k.written ++ item_list_from last t) (sym none) ∙ k.encoding)

-- where a varbyte is cut short, what was there stays
pub listing_cut : (start out out' items : List ℕ) (index last : ℕ) → IsListing start out items index last
    → take (length out) out' ≡ out → take (length start) out' ≡ start
listing_cut start out out' items index last k e =
    let size : length start ≤ length out = omega (arith, ap length k.out_is, length-append start k.written) in
    sym (take-take (length start) (length out) out' size) ∙ ap (take (length start)) e
    ∙ kept_front start k.written out k.out_is
