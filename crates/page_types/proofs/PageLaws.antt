-- Two pages never share an encoding; where the parts of one are.
use Rattle.std.proofs.Common.{◌≡◌, ℕ, ◌-◌, ◌^◌, ◌<◌, ◌≤◌, List, [], ◌++◌, length, take, drop, refl, sym, ap, subst, ◌∙◌}
use Rattle.std.proofs.Common.{append_assoc, arith}
use Rattle.std.proofs.lemmas.List.{take_at, drop_at, drop-drop, length-append}
use Rattle.byteorder.specs.Endian.{little_number}
use Rattle.byteorder.specs.Numbers.{little_number-reads_back}
use Rattle.page_types.specs.Numbers.{u16_bytes, u32_bytes, u64_bytes, zeros}
use Rattle.page_types.specs.Encoding.{page_bytes, front_bytes, framed, body_bytes, kind_of, was_of, count_of}
use Rattle.page_types.specs.Pages.{IsPage, IsBody}
use Rattle.page_types.specs.Records.{stamp_in}
use Rattle.page_types.specs.Edits.{used_in, body_in, edited, spliced}
use Rattle.page_types.specs.Laws.{EncodingTellsPage, EncodingHasParts, DeltaLeadsToPage}
use Rattle.page_types.specs.declared.page.Page.{Page}
use Rattle.page_types.specs.declared.page.Body.{Body}
use Rattle.page_types.proofs.Framing.{length-u16_bytes, length-u32_bytes, length-u64_bytes, length-zeros}
use Rattle.page_types.proofs.Telling.{parts_told, u16_told, u32_told, u64_told}
use Rattle.page_types.proofs.BodyTelling.{body_told}

pub length-front_bytes : (p : Page) → length (front_bytes p) ≡ 8
unfolding front_bytes
length-front_bytes p = omega (
  arith,
  length-append (u16_bytes (count_of p.body)) (u32_bytes p.right),
  length-u16_bytes (count_of p.body),
  length-u32_bytes p.right,
)

pub length-framed : (front : List ℕ) (stamp : ℕ) (body : List ℕ) → length front ≡ 8 → length body ≤ 8168
    → length (framed front stamp body) ≡ 8192
unfolding framed
length-framed front stamp body f b =
    omega (
      arith,
      length-append front
          (u64_bytes stamp ++ (u16_bytes (length body) ++ (zeros 6 ++ (body ++ zeros (8168 - length body))))),
      length-append (u64_bytes stamp) (u16_bytes (length body) ++ (zeros 6 ++ (body ++ zeros (8168 - length body)))),
      length-append (u16_bytes (length body)) (zeros 6 ++ (body ++ zeros (8168 - length body))),
      length-append (zeros 6) (body ++ zeros (8168 - length body)),
      length-append body (zeros (8168 - length body)),
      length-u64_bytes stamp,
      length-u16_bytes (length body),
      length-zeros 6,
      length-zeros (8168 - length body),
      f,
      b,
    )

-- the stamp of bytes that are framed
pub framed-stamp : (front : List ℕ) (stamp : ℕ) (body : List ℕ) → length front ≡ 8
    → stamp_in (framed front stamp body) ≡ u64_bytes stamp
unfolding framed
framed-stamp front stamp body f =
    let rest : List ℕ = u16_bytes (length body) ++ (zeros 6 ++ (body ++ zeros (8168 - length body))) in
    ap (take 8) (drop_at front (u64_bytes stamp ++ rest) 8 f)
    ∙ take_at (u64_bytes stamp) rest 8 (length-u64_bytes stamp)

-- their used length
pub framed-used : (front : List ℕ) (stamp : ℕ) (body : List ℕ) → length front ≡ 8 → length body < 2 ^ 16
    → used_in (framed front stamp body) ≡ length body
unfolding framed used_in u16_bytes
framed-used front stamp body f b =
    let rest : List ℕ = zeros 6 ++ (body ++ zeros (8168 - length body)) in
    let there : drop 16 (framed front stamp body) ≡ u16_bytes (length body) ++ rest =
    sym (drop-drop 8 8 (framed front stamp body))
    ∙ ap (drop 8) (drop_at front (u64_bytes stamp ++ (u16_bytes (length body) ++ rest)) 8 f)
    ∙ drop_at (u64_bytes stamp) (u16_bytes (length body) ++ rest) 8 (length-u64_bytes stamp) in
    ap (little_number 2) there ∙ little_number-reads_back 2 (length body) rest b

-- and their body
pub framed-body : (front : List ℕ) (stamp : ℕ) (body : List ℕ) → length front ≡ 8 → length body ≤ 8168
    → body_in (framed front stamp body) ≡ body
unfolding framed body_in
framed-body front stamp body f b =
    let tail : List ℕ = body ++ zeros (8168 - length body) in
    let front16 : List ℕ = (front ++ u64_bytes stamp) ++ (u16_bytes (length body) ++ zeros 6) in
    let size : length ((front ++ u64_bytes stamp) ++ (u16_bytes (length body) ++ zeros 6)) ≡ 24 =
    omega (
      arith,
      length-append (front ++ u64_bytes stamp) (u16_bytes (length body) ++ zeros 6),
      length-append front (u64_bytes stamp),
      length-append (u16_bytes (length body)) (zeros 6),
      length-u64_bytes stamp,
      length-u16_bytes (length body),
      length-zeros 6,
      f,
    ) in
    let grouped : framed front stamp body ≡ ((front ++ u64_bytes stamp) ++ (u16_bytes (length body) ++ zeros 6))
    ++ (body ++ zeros (8168 - length body)) = simp append_assoc in
    let used = framed-used front stamp body f (omega arith) in
    let there : drop 24 (framed front stamp body) ≡ body ++ zeros (8168 - length body) =
    ap (drop 24) grouped ∙ drop_at ((front ++ u64_bytes stamp) ++ (u16_bytes (length body) ++ zeros 6))
    (body ++ zeros (8168 - length body)) 24 size in
    ap (λ n. take n (drop 24 (framed front stamp body))) used ∙ ap (take (length body)) there
    ∙ take_at body (zeros (8168 - length body)) (length body) refl

pub has_parts : EncodingHasParts
unfolding page_bytes
has_parts p h = record {
  size = length-framed (front_bytes p) p.stamp (body_bytes p.body) (length-front_bytes p) h.fits;
  stamp = framed-stamp (front_bytes p) p.stamp (body_bytes p.body) (length-front_bytes p);
  body = framed-body (front_bytes p) p.stamp (body_bytes p.body) (length-front_bytes p) h.fits;
}

pub delta_leads : DeltaLeadsToPage
unfolding edited page_bytes
delta_leads p q start cut bytes h is =
    let body = (has_parts p h).body in
    ap (λ (t : List ℕ). framed (front_bytes q) q.stamp (spliced start cut bytes t)) body
    ∙ ap (framed (front_bytes q) q.stamp) (sym is)

page_of : ℕ → ℕ → Body → Page
page_of right stamp body = record { right = right; stamp = stamp; body = body }

page_parts : (p : Page) → p ≡ page_of p.right p.stamp p.body
unfolding page_of
page_parts p = refl

-- the kind, the kind before deletion, the count and the right link
front_told : (p q : Page) → IsPage p → IsPage q → front_bytes p ≡ front_bytes q → (kind_of p.body ≡ kind_of q.body)
    × (was_of p.body ≡ was_of q.body) × (count_of p.body ≡ count_of q.body) × (p.right ≡ q.right)
unfolding front_bytes
front_told p q hp hq e =
    let kinds : kind_of p.body ≡ kind_of q.body = cc in
    let befores : was_of p.body ≡ was_of q.body = cc in
    let tails : u16_bytes (count_of p.body) ++ u32_bytes p.right ≡ u16_bytes (count_of q.body) ++ u32_bytes q.right =
    cc in
    let t1 =
    u16_told (count_of p.body) (count_of q.body) (u32_bytes p.right) (u32_bytes q.right) hp.count hq.count tails in
    let t2 = u32_told p.right q.right [] [] (omega (arith, hp.right)) (omega (arith, hq.right))
    (ap (λ (t : List ℕ). t ++ []) t1.1) in
    (kinds, befores, t1.0, t2.0)

-- the stamp and the body
rest_told : (front front' : List ℕ) (stamp stamp' : ℕ) (body body' : List ℕ) → length front ≡ 8 → length front' ≡ 8
    → stamp < 2 ^ 64 → stamp' < 2 ^ 64 → length body ≤ 8168 → length body' ≤ 8168
    → framed front stamp body ≡ framed front' stamp' body' → (front ≡ front') × (stamp ≡ stamp') × (body ≡ body')
unfolding framed
rest_told front front' stamp stamp' body body' f f' s s' b b' e =
    let fronts = parts_told front front' _ _ (f ∙ sym f') e in
    let stamps = u64_told stamp stamp' _ _ s s' fronts.1 in
    let bodies = ap (λ t. body_in t) e in
    (fronts.0, stamps.0, sym (framed-body front stamp body f b) ∙ bodies ∙ framed-body front' stamp' body' f' b')

pub page_told : EncodingTellsPage
unfolding page_bytes
page_told p q hp hq e =
    let parts = rest_told (front_bytes p) (front_bytes q) p.stamp q.stamp (body_bytes p.body) (body_bytes q.body)
    (length-front_bytes p) (length-front_bytes q) hp.stamp hq.stamp hp.fits hq.fits e in
    let fronts = front_told p q hp hq parts.0 in
    let P : ℕ → Type 0 = λ right. IsBody right q.stamp q.body in
    let bodies = body_told p.right p.stamp q.stamp p.body q.body fronts.0 fronts.1 fronts.2 hp.body
    (subst P (sym fronts.3) hq.body) parts.2 in
    page_parts p ∙ cc (fronts.3, parts.1, bodies) ∙ sym (page_parts q)
