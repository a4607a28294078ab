-- A body is known by its kind, the kind before deletion, its count and its bytes.
use Rattle.std.proofs.Common.{◌≡◌, ℕ, List, [], ◌++◌, Option, refl, ap, ◌∙◌, arith}
use Rattle.std.specs.List.{flat_map}
use Rattle.page_types.specs.Numbers.{u32_bytes}
use Rattle.page_types.specs.Encoding.{slot_bytes, row_bytes, entry_bytes, entry_child_bytes, post_child_bytes}
use Rattle.page_types.specs.Encoding.{gone_bytes, body_bytes, kind_of, was_of, gone_kind, count_of, gone_count}
use Rattle.page_types.specs.Pages.{IsSlot, IsRow, IsEntry, IsEntryChild, IsPostChild, IsGone, IsBody}
use Rattle.page_types.specs.declared.page.Head.{Head}
use Rattle.page_types.specs.declared.page.Row.{Row}
use Rattle.page_types.specs.declared.page.Entry.{Entry}
use Rattle.page_types.specs.declared.page.EntryChild.{EntryChild}
use Rattle.page_types.specs.declared.page.PostChild.{PostChild}
use Rattle.page_types.specs.declared.page.Body.{Body}
use Rattle.page_types.specs.declared.page.Body.TheVariants.{Free, Meta, Heap, Overflow, Pending, EntryLeaf, EntryInner}
use Rattle.page_types.specs.declared.page.Body.TheVariants.{PostLeaf, PostInner, Deleted}
use Rattle.page_types.specs.declared.page.Gone.{Gone}
use Rattle.page_types.specs.declared.page.Gone.TheVariants as gone
use Rattle.page_types.proofs.Telling.{u32_told, all_told}
use Rattle.page_types.proofs.PageTelling.{slot_told, row_told, entry_told, entry_child_told, post_child_told}
use Rattle.page_types.proofs.PageTelling.{high_key_told}

gone_told : (right : ℕ) (x y : Gone) → gone_kind x ≡ gone_kind y → gone_count x ≡ gone_count y → IsGone right x
    → IsGone right y → gone_bytes x ≡ gone_bytes y → x ≡ y
gone_told right (gone.Overflow x) (gone.Overflow y) k n p q e = ap (λ (t : List ℕ). gone.Overflow t) e
gone_told right (gone.Pending x) (gone.Pending y) k n p q e =
    ap (λ (t : List Row). gone.Pending t) (all_told row_bytes IsRow row_told x y n p q e)
gone_told right (gone.PostLeaf h x) (gone.PostLeaf i y) k n p q e =
    let t = u32_told h i x y (omega (arith, p.0.item)) (omega (arith, q.0.item)) e in
    let P : ℕ → List ℕ → Gone = λ a b. gone.PostLeaf a b in
    ap (λ a. P a x) t.0 ∙ ap (P i) t.1
gone_told right _ _ k n p q e = absurd (omega (arith, k))

pub body_told : (right stamp stamp' : ℕ) (x y : Body) → kind_of x ≡ kind_of y → was_of x ≡ was_of y
    → count_of x ≡ count_of y → IsBody right stamp x → IsBody right stamp' y → body_bytes x ≡ body_bytes y → x ≡ y
body_told right stamp stamp' Free Free k w n p q e = refl
body_told right stamp stamp' (Meta a b c) (Meta d f g) k w n p q e =
    let t1 = u32_told a d (u32_bytes b ++ u32_bytes c) (u32_bytes f ++ u32_bytes g) (omega (arith, p.first_page))
    (omega (arith, q.first_page)) e in
    let t2 = u32_told b f (u32_bytes c) (u32_bytes g) (omega (arith, p.last_page)) (omega (arith, q.last_page)) t1.1 in
    let t3 = u32_told c g [] [] p.number q.number (ap (λ (t : List ℕ). t ++ []) t2.1) in
    let P : ℕ → ℕ → ℕ → Body = λ x y z. Meta x y z in
    ap (λ x. P x b c) t1.0 ∙ ap (λ x. P d x c) t2.0 ∙ ap (P d f) t3.0
body_told right stamp stamp' (Heap x) (Heap y) k w n p q e =
    ap (λ (t : List (Option Head)). Heap t) (all_told slot_bytes IsSlot slot_told x y n p.1 q.1 e)
body_told right stamp stamp' (Overflow x) (Overflow y) k w n p q e = ap (λ (t : List ℕ). Overflow t) e
body_told right stamp stamp' (Pending x) (Pending y) k w n p q e =
    ap (λ (t : List Row). Pending t) (all_told row_bytes IsRow row_told x y n p q e)
body_told right stamp stamp' (EntryLeaf h x) (EntryLeaf i y) k w n p q e =
    let t1 = high_key_told right h i (flat_map entry_bytes x) (flat_map entry_bytes y) p.0 q.0 e in
    let t2 = all_told entry_bytes IsEntry entry_told x y n p.1.each q.1.each t1.1 in
    let P : List ℕ → List Entry → Body = λ a b. EntryLeaf a b in
    ap (λ a. P a x) t1.0 ∙ ap (P i) t2
body_told right stamp stamp' (EntryInner x) (EntryInner y) k w n p q e = ap (λ (t : List EntryChild). EntryInner t)
    (all_told entry_child_bytes (IsEntryChild right) (entry_child_told right) x y n p.each q.each e)
body_told right stamp stamp' (PostLeaf h x) (PostLeaf i y) k w n p q e =
    let t = u32_told h i x y (omega (arith, p.0.item)) (omega (arith, q.0.item)) e in
    let P : ℕ → List ℕ → Body = λ a b. PostLeaf a b in
    ap (λ a. P a x) t.0 ∙ ap (P i) t.1
body_told right stamp stamp' (PostInner x) (PostInner y) k w n p q e = ap (λ (t : List PostChild). PostInner t)
    (all_told post_child_bytes (IsPostChild right) (post_child_told right) x y n p.each q.each e)
body_told right stamp stamp' (Deleted x) (Deleted y) k w n p q e =
    ap (λ (t : Gone). Deleted t) (gone_told right x y w n p q e)
body_told right stamp stamp' _ _ k w n p q e = absurd (omega (arith, k))
