-- The first record of a store is encoded, in few bytes.
use Rattle.std.proofs.Common.{◌≡◌, ◌≤◌, ◌<◌, ◌+◌, ℕ, List, [], ◌∷◌, ◌++◌, length, arith, length-append}
use Rattle.page_types.specs.Numbers.{u32_bytes, u64_bytes, page_limit}
use Rattle.page_types.specs.Pages.{IsPage}
use Rattle.page_types.specs.Encoding.{page_bytes}
use Rattle.page_types.specs.Records.{IsChange, IsRecord, record_bytes, record_rest, change_bytes}
use Rattle.page_types.specs.declared.page.Page.{Page}
use Rattle.page_types.specs.declared.page.Body.TheVariants as body
use Rattle.page_types.specs.declared.record.Change.{Change}
use Rattle.page_types.proofs.Framing.{length-u32_bytes, length-u64_bytes}
use Rattle.page_types.proofs.PageLaws.{has_parts}
use Rattle.core_state.proofs.Worked.{meta_is, root_is}
use Rattle.buffer_frames.specs.First.{imaged, first_page, first_record}

image_fits : (page : ℕ) (content : Page) → page < page_limit → IsPage content
    → IsChange content.stamp (imaged page content)
image_fits page content small is = let parts = has_parts content is in
    record { page = small; edit = record { size = parts.size; stamp = parts.stamp } }

pub first_encoded : IsRecord first_record
first_encoded = record {
  number = omega arith;
  xid = omega arith;
  kind = tt;
  count = omega arith;
  changes = (
    image_fits 0 (first_page (body.Meta 0 0 0)) (omega arith) meta_is,
    (image_fits 1 (first_page (body.EntryLeaf [] [])) (omega arith) root_is, tt),
  );
  once = (((λ e. omega (arith, e)), tt), (tt, tt));
}

image_bytes : (page : ℕ) (content : Page) → IsPage content → length (change_bytes (imaged page content)) ≡ 8197
unfolding change_bytes
image_bytes page content is = omega
    (arith, length-append (u32_bytes page) (0 ∷ page_bytes content), length-u32_bytes page, (has_parts content is).size)

both_bytes : (a b : List ℕ) (m n : ℕ) → length a ≡ m → length b ≡ n → length (a ++ (b ++ [])) ≡ m + n
both_bytes a b m n la lb = omega (arith, length-append a (b ++ []), length-append b [], la, lb)

rest_bytes : (x n : ℕ) (tail : List ℕ)
    → length (1 ∷ (u32_bytes x ++ (u64_bytes n ++ ([] ++ (2 ∷ tail))))) ≡ 14 + length tail
rest_bytes x n tail = omega (
  arith,
  length-append (u32_bytes x) (u64_bytes n ++ (2 ∷ tail)),
  length-u32_bytes x,
  length-append (u64_bytes n) (2 ∷ tail),
  length-u64_bytes n,
)

pub first_short : length (record_bytes first_record) ≤ 4194304
unfolding record_bytes record_rest
first_short =
    let meta : Change = imaged 0 (first_page (body.Meta 0 0 0)) in
    let leaf : Change = imaged 1 (first_page (body.EntryLeaf [] [])) in
    let tail : List ℕ = change_bytes meta ++ (change_bytes leaf ++ []) in
    let long = both_bytes (change_bytes meta) (change_bytes leaf) 8197 8197 (image_bytes 0
    (first_page (body.Meta 0 0 0)) meta_is) (image_bytes 1 (first_page (body.EntryLeaf [] [])) root_is) in
    omega (
      arith,
      length-append (u32_bytes (length (record_rest first_record))) (record_rest first_record),
      length-u32_bytes (length (record_rest first_record)),
      rest_bytes 0 1 tail,
      long,
    )
