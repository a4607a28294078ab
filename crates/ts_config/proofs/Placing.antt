-- Placed lexemes are one list, and their positions rise.
use Rattle.std.proofs.Common.{◌≡◌, ℕ, ◌+◌, ◌<◌, ◌≤◌, List, [], ◌∷◌, ◌++◌, length, map, refl, sym, ◌∙◌, ap, subst}
use Rattle.std.proofs.Common.{append_assoc, arith}
use Rattle.std.specs.Prelude.{All, AllPairs}
use Rattle.std.proofs.lemmas.List.Elements.{All-nil, All-cons, All-head, All-tail, All-append, All-weaker}
use Rattle.std.proofs.lemmas.List.Kept.{AllPairs-cons}
use Rattle.ts_base.specs.declared.Found.{Found}
use Rattle.ts_base.specs.Dictionary.{WordAnswer, unknown_word, stop_word, word_lexemes}
use Rattle.std.proofs.lemmas.List.{append-nil, length-append}
use Rattle.ts_parser.specs.declared.iter.Token.{Token}
use Rattle.ts_parser.specs.TokenList.{IsTokenList}
use Rattle.ts_parser.specs.TokensOf.{tokens_of}
use Rattle.ts_parser.specs.Covers.{SideBySide, Covers, covered, plain, hyphened}
use Rattle.ts_parser.proofs.Covering.{tokens_cover_lem}
use Rattle.ts_parser.proofs.Law.{one_token_list_lem}
use Rattle.ts_config.specs.declared.placed.Placed.{Placed}
use Rattle.ts_parser.specs.Between.{IsBetween}
use Rattle.ts_config.specs.Answers.{asked_for}
use Rattle.ts_config.specs.Parts.{Decides, AreParts, no_part, part}
use Rattle.ts_config.specs.Inner.Looking.{IsToken}
use Rattle.ts_config.proofs.Parts.{parts_same, decides_left}
use Rattle.ts_config.specs.Placing.{placed_at, placed_from, ArePlaced, PlacedAreOne, PositionsRise}
use Rattle.ts_config.specs.Mappings.{Mapping}
use Rattle.ts_config.specs.Known.{Known}
use Rattle.ts_config.specs.Inner.Positions.{last_position}

pub placed_are_one : PlacedAreOne
placed_are_one known mapping text p q a b =
    let same : a.tokens ≡ b.tokens =
    (one_token_list_lem text a.tokens).0 a.list ∙ sym ((one_token_list_lem text b.tokens).0 b.list) in
    let answers : a.answers ≡ b.answers = parts_same known mapping text a.tokens a.answers b.answers a.parts
    (subst (λ l. AreParts known mapping text l b.answers) (sym same) b.parts) in
    a.value ∙ ap (placed_from 0) answers ∙ sym b.value

-- the positions are m at least
abbrev IsFrom : ℕ → Placed → Type 0
IsFrom m x = m ≤ x.position

abbrev IsInOrder : Placed → Placed → Type 0
IsInOrder x y = x.position ≤ y.position

behind : (m : ℕ) (found : List Found) (ps : List Placed) → All (IsFrom m) ps → AllPairs IsInOrder ps
    → All (IsFrom m) (map (placed_at m) found ++ ps) × AllPairs IsInOrder (map (placed_at m) found ++ ps)
behind m [] ps h k = (h, k)
behind m (f ∷ fs) ps h k =
    let r = behind m fs ps h k in
    let le : m ≤ m = omega arith in (
      All-cons (IsFrom m) (placed_at m f) (map (placed_at m) fs ++ ps) le r.0,
      AllPairs-cons IsInOrder (placed_at m f) (map (placed_at m) fs ++ ps) r.0 r.1,
    )

later : (m : ℕ) (ps : List Placed) → All (IsFrom (m + 1)) ps → All (IsFrom m) ps
later m ps h = All-weaker (IsFrom (m + 1)) (IsFrom m) (λ x l. omega (arith, l)) ps h

rising : (n : ℕ) (answers : List WordAnswer)
    → All (IsFrom (n + 1)) (placed_from n answers) × AllPairs IsInOrder (placed_from n answers)
rising n [] = (All-nil (IsFrom (n + 1)), λ i j d l k. absurd (omega (arith, k)))
rising n (unknown_word ∷ more) = rising n more
rising n (stop_word ∷ more) = let r = rising (n + 1) more in (later (n + 1) (placed_from (n + 1) more) r.0, r.1)
rising n (word_lexemes found ∷ more) =
    let r = rising (n + 1) more in
    behind (n + 1) found (placed_from (n + 1) more) (later (n + 1) (placed_from (n + 1) more) r.0) r.1

pub positions_rise : PositionsRise
positions_rise known mapping text p a =
    let P : List Placed → Type 0 = λ l. All (IsFrom 1) l × AllPairs IsInOrder l in
    subst P (sym a.value) (rising 0 a.answers)

-- ── a part more ──
pub placed_append : (n : ℕ) (xs ys : List WordAnswer)
    → placed_from n (xs ++ ys) ≡ placed_from n xs ++ placed_from (last_position n xs) ys
placed_append n [] ys = refl
placed_append n (unknown_word ∷ xs) ys = placed_append n xs ys
placed_append n (stop_word ∷ xs) ys = placed_append (n + 1) xs ys
placed_append n (word_lexemes found ∷ xs) ys =
    ap (λ ps. map (placed_at (n + 1)) found ++ ps) (placed_append (n + 1) xs ys) ∙ sym (append_assoc
    (map (placed_at (n + 1)) found) (placed_from (n + 1) xs) (placed_from (last_position (n + 1) xs) ys))

pub last_append : (n : ℕ) (xs ys : List WordAnswer) → last_position n (xs ++ ys) ≡ last_position (last_position n xs) ys
last_append n [] ys = refl
last_append n (unknown_word ∷ xs) ys = last_append n xs ys
last_append n (stop_word ∷ xs) ys = last_append (n + 1) xs ys
last_append n (word_lexemes found ∷ xs) ys = last_append (n + 1) xs ys

-- ── tokens of a text ──
-- each token of a text has a byte at least
side_some : (s : ℕ) (ts : List Token) (e : ℕ) → SideBySide s ts e → All (λ t. 1 ≤ t.length) ts
side_some s [] e h = All-nil (λ t. 1 ≤ t.length)
side_some s (t ∷ ts) e h = All-cons (λ t. 1 ≤ t.length) t ts h.1 (side_some (s + t.length) ts e h.2)

covers_some : (s : ℕ) (ts : List Token) (e : ℕ) → Covers s ts e → All (λ t. 1 ≤ t.length) ts
covers_some s _ _ (covered _) = All-nil (λ t. 1 ≤ t.length)
covers_some s _ e (plain _ _ t ts h q l c) = All-cons (λ t. 1 ≤ t.length) t ts l (covers_some (s + t.length) ts e c)
covers_some s _ e (hyphened _ _ t ps ts h q l a d c) =
    All-cons (λ t. 1 ≤ t.length) t (ps ++ ts) l
    (All-append (λ t. 1 ≤ t.length) ps ts (side_some s ps (s + t.length) d) (covers_some (s + t.length) ts e c))

pub tokens_some : (text : List ℕ) (ts : List Token) → IsTokenList text ts → All (λ t. 1 ≤ t.length) ts
tokens_some text ts h = covers_some 0 ts (length text) (tokens_cover_lem text ts h)

-- a text's tokens, as those who read them ask
all_tokens : (text : List ℕ) (ts : List Token) → All (IsBetween text) ts → All (λ t. 1 ≤ t.length) ts
    → All (IsToken text) ts
all_tokens text [] h k = All-nil (IsToken text)
all_tokens text (t ∷ ts) h k =
    All-cons (IsToken text) t ts (All-head (IsBetween text) t ts h, All-head (λ u. 1 ≤ u.length) t ts k)
    (all_tokens text ts (All-tail (IsBetween text) t ts h) (All-tail (λ u. 1 ≤ u.length) t ts k))

pub all_after : (P : Token → Type 0) (xs ys : List Token) → All P (xs ++ ys) → All P ys
all_after P [] ys h = h
all_after P (x ∷ xs) ys h = all_after P xs ys (All-tail P x (xs ++ ys) h)

-- ── part after part ──
-- how far a text is placed: what its parts were answered, and the tokens that are left
pub record Done (known : Known) (mapping : Mapping) (text : List ℕ) (left : List Token) (out : List Placed)
    (position : ℕ) : Type 0 where
  pub answers : List WordAnswer
  pub goes_on : (more : List WordAnswer) → AreParts known mapping text left more
      → AreParts known mapping text (tokens_of text) (answers ++ more)
  pub tokens : All (IsToken text) left
  pub placed : out ≡ placed_from 0 answers
  pub last : position ≡ last_position 0 answers

module _ (known : Known) (mapping : Mapping) (text : List ℕ) where
  pub placed_start : (left : List Token) → left ≡ tokens_of text → IsTokenList text left → All (IsBetween text) left
      → Done known mapping text left [] 0
  placed_start left e list between = record {
    answers = [];
    goes_on = λ more h. subst (λ l. AreParts known mapping text l more) e h;
    tokens = all_tokens text left between (tokens_some text left list);
    placed = refl;
    last = refl;
  }

  -- the next token, and those after it
  pub tokens_next : (left ts : List Token) (t : Token) (out : List Placed) (position : ℕ)
      → Done known mapping text left out position → left ≡ t ∷ ts → All (IsToken text) (t ∷ ts)
  tokens_next left ts t out position d e = subst (All (IsToken text)) e d.tokens

  pub placed_more : (left ts rest : List Token) (t : Token) (out new : List Placed) (position next : ℕ) (a : WordAnswer)
      → Done known mapping text left out position → left ≡ t ∷ ts
      → Decides known mapping text t ts (asked_for mapping t) a rest → new ≡ out ++ placed_from position (a ∷ [])
      → next ≡ last_position position (a ∷ []) → Done known mapping text rest new next
  placed_more left ts rest t out new position next a d e f g h =
      let k = decides_left known mapping text t ts (asked_for mapping t) a rest f in
      record {
        answers = d.answers ++ a ∷ [];
        goes_on = λ more parts. subst (AreParts known mapping text (tokens_of text))
            (sym (append_assoc d.answers (a ∷ []) more))
            (d.goes_on (a ∷ more)
            (subst (λ l. AreParts known mapping text l (a ∷ more)) (sym e) (part t ts rest a more f parts)));
        tokens = all_after (IsToken text) k.0 rest
            (subst (All (IsToken text)) k.1 (All-tail (IsToken text) t ts (tokens_next left ts t out position d e)));
        placed = g ∙ (λ i. d.placed i ++ placed_from (d.last i) (a ∷ [])) ∙ sym (placed_append 0 d.answers (a ∷ []));
        last = h ∙ (λ i. last_position (d.last i) (a ∷ [])) ∙ sym (last_append 0 d.answers (a ∷ []));
      }

  -- fewer are left
  pub fewer_left : (left ts rest : List Token) (t : Token) (a : WordAnswer) → left ≡ t ∷ ts
      → Decides known mapping text t ts (asked_for mapping t) a rest → length rest < length left
  fewer_left left ts rest t a e f =
      let k = decides_left known mapping text t ts (asked_for mapping t) a rest f in
      let within : length rest ≤ length ts = omega (arith, ap length k.1, length-append k.0 rest) in
      let one : length left ≡ length (t ∷ ts) = ap length e in
      omega (arith, within, one)

  pub placed_over : (left : List Token) (out : List Placed) (position : ℕ) → Done known mapping text left out position
      → left ≡ [] → ArePlaced known mapping text out
  placed_over left out position d e = record {
    tokens = tokens_of text;
    answers = d.answers;
    list = (one_token_list_lem text (tokens_of text)).1 refl;
    parts = subst (AreParts known mapping text (tokens_of text)) (append-nil d.answers)
        (d.goes_on [] (subst (λ l. AreParts known mapping text l []) (sym e) no_part));
    value = d.placed;
  }
