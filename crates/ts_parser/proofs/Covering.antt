-- A text's tokens cover it.
use Rattle.std.proofs.Common.{◌≡◌, ℕ, ◌+◌, ◌*◌, ◌<◌, ◌≤◌, List, [], ◌∷◌, ◌++◌, length, false, IsTrue, refl, sym, ap}
use Rattle.std.proofs.Common.{◌∙◌, subst, length-append, arith, All}
use Rattle.std.specs.List.{join_with_byte}
use Rattle.std.proofs.lemmas.List.Elements.{All-cons, All-head, All-tail, All-nil}
use Rattle.ts_parser.specs.declared.kinds.TokenType.{TokenType}
use Rattle.ts_parser.specs.declared.kinds.TokenType.TheVariants.{Blank}
use Rattle.ts_parser.specs.declared.iter.Token.{Token}
use Rattle.ts_parser.specs.Kinds.{has_parts}
use Rattle.ts_parser.specs.Words.{PartKind, ascii_part, letter_part, digit_part, IsLink}
use Rattle.ts_parser.specs.TokenList.{token, AreChainParts, last_part, more_parts, Front, number, chain, run, blank}
use Rattle.ts_parser.specs.TokenList.{AreTokens, none, then}
use Rattle.ts_parser.specs.Covers.{SideBySide, is_part, Covers, covered, plain, hyphened, TokensCover, TokensFew}
use Rattle.ts_parser.proofs.KindLaws.{run_complete, whole_complete}
use Rattle.ts_parser.proofs.Chains.{link_test}
use Rattle.ts_parser.proofs.Parts.{link_some}
use Rattle.ts_parser.proofs.Fronts.{number_no_parts, number_some, whole_has_parts, run_no_parts, chain_some, along}

part_is : (u : List ℕ) (k : TokenType) → PartKind u k → IsTrue (is_part k)
part_is u k (ascii_part _ h) = refl
part_is u k (letter_part _ h l) = refl
part_is u k (digit_part _ h) = refl

abbrev IsPart : Token → Type 0
IsPart p = IsTrue (is_part p.kind)

all_parts : (s : ℕ) (us : List (List ℕ)) (ts : List Token) → AreChainParts s us ts → All IsPart ts
all_parts s _ _ (last_part _ u k p) = All-cons IsPart (token k s (length u)) [] (part_is u k p) (All-nil IsPart)
all_parts s _ _ (more_parts _ u v us k ts p q) =
    All-cons IsPart (token k s (length u)) (token Blank (s + length u) 1 ∷ ts) (part_is u k p)
    (All-cons IsPart (token Blank (s + length u) 1) ts refl (all_parts (s + length u + 1) (v ∷ us) ts q))

move_end : (s e f : ℕ) (ts : List Token) → e ≡ f → SideBySide s ts e → SideBySide s ts f
move_end s e f ts q h = let P : ℕ → Type 0 = λ n. SideBySide s ts n in subst P q h

-- the parts of a chain cover it
parts_side : (s : ℕ) (us : List (List ℕ)) (ts : List Token) → AreChainParts s us ts → All IsLink us
    → SideBySide s ts (s + length (join_with_byte 45 us))
parts_side s _ _ (last_part _ u k p) h = (refl, link_some u (link_test u (All-head IsLink u [] h)), refl)
parts_side s _ _ (more_parts _ u v us k ts p q) h =
    let j : List ℕ = join_with_byte 45 (v ∷ us) in
    let l = length-append u (45 ∷ j) in
    let e : s + length u + 1 + length j ≡ s + length (join_with_byte 45 (u ∷ v ∷ us)) = omega (arith, l) in (
      refl,
      link_some u (link_test u (All-head IsLink u (v ∷ us) h)),
      (
        refl,
        omega arith,
        move_end (s + length u + 1) (s + length u + 1 + length j) (s + length (join_with_byte 45 (u ∷ v ∷ us))) ts e
            (parts_side (s + length u + 1) (v ∷ us) ts q (All-tail IsLink u (v ∷ us) h)),
      ),
    )

plain_front : (n : ℕ) (k : TokenType) (v : List ℕ) (us : List Token) (e : ℕ) → has_parts k ≡ false → 0 < length v
    → Covers (n + length v) us e → Covers n (token k n (length v) ∷ us) e
plain_front n k v us e h s c = plain n e (token k n (length v)) us h refl s c

front_covers : (before v r : List ℕ) (ts us : List Token) (e : ℕ) → Front before v r ts
    → Covers (length before + length v) us e → Covers (length before) (ts ++ us) e
front_covers before v r _ us e (number k _ _ n l) c =
    plain_front (length before) k v us e (number_no_parts k v n.number) (number_some k v n.number) c
front_covers before v r _ us e (chain ls _ _ k ts q h n w p) c =
    let s = parts_side (length before) ls ts p h.links in
    hyphened (length before) e (token k (length before) (length v)) ts us
    (ap has_parts (sym (whole_complete ls k w)) ∙ whole_has_parts (join_with_byte 45 ls)) refl
    (along v (join_with_byte 45 ls) q (chain_some ls r h)) (all_parts (length before) ls ts p)
    (move_end (length before) (length before + length (join_with_byte 45 ls)) (length before + length v) ts
    (ap (λ z. length before + length z) (sym q)) s) c
front_covers before v r _ us e (run _ _ k h n d w) c =
    plain_front (length before) k v us e (ap has_parts (sym (run_complete v k h.some w)) ∙ run_no_parts v) h.some c
front_covers before v r _ us e (blank _ _ s n d) c = plain_front (length before) Blank v us e refl s c

cover_from : (s n : ℕ) (us : List Token) (e f : ℕ) → s ≡ n → e ≡ f → Covers s us e → Covers n us f
cover_from s n us e f p q c =
    let P : ℕ → Type 0 = λ m. Covers m us f in let Q : ℕ → Type 0 = λ m. Covers s us m in subst P p (subst Q q c)

tokens_cover_from : (before u : List ℕ) (ts : List Token) → AreTokens before u ts
    → Covers (length before) ts (length before + length u)
tokens_cover_from before _ _ (none _) = cover_from (length before) (length before) [] (length before)
    (length before + 0) refl (omega arith) (covered (length before))
tokens_cover_from before _ _ (then _ u r ts us f k) =
    let l = length-append before u in
    let m = length-append u r in
    front_covers before u r ts us (length before + length (u ++ r)) f
    (cover_from (length (before ++ u)) (length before + length u) us (length (before ++ u) + length r)
    (length before + length (u ++ r)) l (omega (arith, l, m)) (tokens_cover_from (before ++ u) r us k))

pub tokens_cover_lem : TokensCover
tokens_cover_lem text ts h =
    cover_from 0 0 ts (0 + length text) (length text) refl (omega arith) (tokens_cover_from [] text ts h)

-- ── how many tokens there are ──
side_few : (s : ℕ) (ts : List Token) (e : ℕ) → SideBySide s ts e → length ts + s ≤ e
side_few s [] e h = omega (arith, h)
side_few s (t ∷ ts) e h = let k = side_few (s + t.length) ts e h.2 in let l = h.1 in omega (arith, k, l)

covers_few : (s : ℕ) (ts : List Token) (e : ℕ) → Covers s ts e → length ts + 2 * s ≤ 2 * e
covers_few s _ _ (covered _) = omega arith
covers_few s _ e (plain _ _ t ts h q l c) = let k = covers_few (s + t.length) ts e c in omega (arith, k, l)
covers_few s _ e (hyphened _ _ t ps ts h q l a d c) =
    let k = covers_few (s + t.length) ts e c in
    let m = side_few s ps (s + t.length) d in
    let n = length-append ps ts in
    omega (arith, k, l, m, n)

pub tokens_few_lem : TokensFew
tokens_few_lem text ts h = let k = covers_few 0 ts (length text) (tokens_cover_lem text ts h) in omega (arith, k)
