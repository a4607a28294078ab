-- Where a text is cut.
use Rattle.std.proofs.Common.{◌≡◌, ℕ, suc, ◌+◌, ◌<◌, ◌≤◌, List, ◌∷◌, ◌++◌, length, take, drop, get_or, arith, sym, ◌∙◌}
use Rattle.std.proofs.Common.{ap, add-one, drop-cons, eq-eqb}
use Rattle.std.specs.List.{All}
use Rattle.std.specs.Str.{IsUtf8, IsCharBoundary}
use Rattle.std.proofs.lemmas.List.{take-append-drop}
use Rattle.std.proofs.lemmas.Grind.{common_steps}
use Rattle.std.proofs.lemmas.Str.{IsCharBoundary-after_ascii}
use Rattle.memchr.specs.Find.{Nowhere, Passes, is_byte}
use Rattle.shell_script.specs.Lines.{HasNo}
use Rattle.shell_script.specs.Inner.Fronts.{IsNoQuote}

pub behind_at : (byte : ℕ) (text : List ℕ) (i : ℕ) → byte < 128 → IsUtf8 text → i < length text → get_or text i 0 ≡ byte
    → IsCharBoundary text (i + 1)
behind_at byte text i small u lt e =
    let low : get_or text i 0 < 128 = omega (arith, small, e) in IsCharBoundary-after_ascii text i u lt low

pub cut_where : (byte : ℕ) (text : List ℕ) (i : ℕ) → i < length text → get_or text i 0 ≡ byte
    → text ≡ take i text ++ byte ∷ drop (i + 1) text
cut_where byte text i lt e =
    sym (take-append-drop i text) ∙ ap (λ z. take i text ++ z)
    (drop-cons text i 0 lt ∙ ap (λ z. z ∷ drop (suc i) text) e ∙ ap (λ z. byte ∷ drop z text) (sym (add-one i)))

pub none_before : (byte : ℕ) (text : List ℕ) (i : ℕ) → i ≤ length text → Nowhere (Passes (is_byte byte) text) 0 i
    → HasNo byte (take i text)
none_before byte text i le none k d lt e =
    let below : k < i = grind (arith, common_steps) in
    let here : get_or text k 0 ≡ byte = grind (arith, common_steps) in
    none k (omega arith) below (eq-eqb (get_or text k 0) byte here)

pub none_in : (byte : ℕ) (text : List ℕ) → Nowhere (Passes (is_byte byte) text) 0 (length text) → HasNo byte text
none_in byte text none k d lt e =
    let here : get_or text k 0 ≡ byte = grind (arith, common_steps) in
    none k (omega arith) lt (eq-eqb (get_or text k 0) byte here)

pub behind_quote_at : (text : List ℕ) (i : ℕ) → IsUtf8 text → i < length text → get_or text i 0 ≡ 39
    → IsCharBoundary text (i + 1)
behind_quote_at text i u lt e = behind_at 39 text i (omega arith) u lt e

pub cut_at : (text : List ℕ) (i : ℕ) → i < length text → get_or text i 0 ≡ 39
    → text ≡ take i text ++ 39 ∷ drop (i + 1) text
cut_at = cut_where 39

pub no_quote_before : (text : List ℕ) (i : ℕ) → i ≤ length text → Nowhere (Passes (is_byte 39) text) 0 i
    → All IsNoQuote (take i text)
no_quote_before = none_before 39

pub no_quote : (text : List ℕ) → Nowhere (Passes (is_byte 39) text) 0 (length text) → All IsNoQuote text
no_quote = none_in 39
