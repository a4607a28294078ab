-- The parts of a hyphen word are those that the rules name.
use Rattle.std.proofs.Common.{◌≡◌, ℕ, ◌+◌, ◌-◌, ◌<◌, List, [], ◌∷◌, ◌++◌, length, take, true, false, refl, sym, ap, ◌∙◌}
use Rattle.std.proofs.Common.{subst, append-nil, arith}
use Rattle.std.specs.List.{list_all, list_any, join_with_byte}
use Rattle.std.proofs.lemmas.Bool.{and_parts}
use Rattle.ts_parser.specs.declared.kinds.TokenType.TheVariants.{Blank}
use Rattle.ts_parser.specs.declared.iter.Token.{Token}
use Rattle.ts_parser.specs.declared.forms.Form.{Form}
use Rattle.ts_parser.specs.TokenList.{token, AreChainParts, last_part, more_parts}
use Rattle.ts_parser.specs.Letters.{is_word_byte, is_word_letter, begins_with}
use Rattle.ts_parser.specs.WordForms.{run_len, part_kind, part_form}
use Rattle.ts_parser.specs.Forms.{form}
use Rattle.ts_parser.specs.TokensOf.{token_of, parts_from}
use Rattle.ts_parser.proofs.Rows.{prefix_over, front_over}
use Rattle.ts_parser.proofs.Bodies.{some_length}
use Rattle.ts_parser.proofs.KindLaws.{part_complete, part_sound}
use Rattle.ts_parser.proofs.Chains.{is_link, link_inner}

pub parts_skip : (w z : List ℕ) (n : ℕ) → parts_from (length w) n (w ++ z) ≡ parts_from 0 (n + length w) z
parts_skip [] z n = ap (λ m. parts_from 0 m z) (omega arith)
parts_skip (c ∷ w) z n = parts_skip w z (n + 1) ∙ ap (λ m. parts_from 0 m z) (omega arith)

inner_begins : (u z : List ℕ) → list_all is_word_byte u ≡ true → 0 < length u → begins_with is_word_byte (u ++ z) ≡ true
inner_begins [] z h s = absurd (omega (arith, s))
inner_begins (c ∷ u) z h s = (and_parts (is_word_byte c) (list_all is_word_byte u) h).0

form_over : (u z : List ℕ) → list_all is_word_byte u ≡ true → 0 < length u → begins_with is_word_byte z ≡ false
    → part_form (u ++ z) ≡ form (part_kind u) (length u)
form_over u z h s e =
    let one : part_form (u ++ z) ≡ form (part_kind (take (run_len (u ++ z)) (u ++ z))) (run_len (u ++ z)) =
    rw (inner_begins u z h s) refl in
    one ∙ ap (λ w. form (part_kind w) (run_len (u ++ z))) (front_over is_word_byte u z h e)
    ∙ ap (λ n. form (part_kind u) n) (prefix_over is_word_byte u z h e)

part_here : (n : ℕ) (u z : List ℕ) → list_all is_word_byte u ≡ true → 0 < length u → begins_with is_word_byte z ≡ false
    → parts_from 0 n (u ++ z) ≡ token (part_kind u) n (length u) ∷ parts_from 0 (n + length u) z
part_here n [] z h s e = absurd (omega (arith, s))
part_here n (c ∷ u) z h s e =
    ap (λ (f : Form). token_of f n ∷ parts_from (f.length - 1) (n + 1) (u ++ z)) (form_over (c ∷ u) z h s e)
    ∙ ap (λ ts. token (part_kind (c ∷ u)) n (length (c ∷ u)) ∷ ts) (ap (λ k. parts_from k (n + 1) (u ++ z))
    (omega arith) ∙ parts_skip u z (n + 1) ∙ ap (λ m. parts_from 0 m z) (omega arith))

pub link_some : (u : List ℕ) → is_link u ≡ true → 0 < length u
link_some u h = some_length is_word_letter u (and_parts (list_all is_word_byte u) (list_any is_word_letter u) h).1

last_is : (s : ℕ) (u : List ℕ) → is_link u ≡ true → parts_from 0 s u ≡ token (part_kind u) s (length u) ∷ []
last_is s u h = ap (λ z. parts_from 0 s z) (sym (append-nil u)) ∙ part_here s u [] (link_inner u h) (link_some u h) refl

more_is : (s : ℕ) (u z : List ℕ) → is_link u ≡ true → parts_from 0 s (u ++ 45 ∷ z)
    ≡ token (part_kind u) s (length u) ∷ token Blank (s + length u) 1 ∷ parts_from 0 (s + length u + 1) z
more_is s u z h = part_here s u (45 ∷ z) (link_inner u h) (link_some u h) refl

pub parts_complete : (s : ℕ) (us : List (List ℕ)) (ts : List Token) → AreChainParts s us ts → list_all is_link us ≡ true
    → parts_from 0 s (join_with_byte 45 us) ≡ ts
parts_complete s _ _ (last_part _ u k p) h =
    last_is s u (and_parts (is_link u) true h).0 ∙ ap (λ t. token t s (length u) ∷ []) (part_complete u k p)
parts_complete s _ _ (more_parts _ u v us k ts p q) h =
    let a = and_parts (is_link u) (list_all is_link (v ∷ us)) h in
    more_is s u (join_with_byte 45 (v ∷ us)) a.0
    ∙ ap (λ t. token t s (length u) ∷ token Blank (s + length u) 1
    ∷ parts_from 0 (s + length u + 1) (join_with_byte 45 (v ∷ us))) (part_complete u k p)
    ∙ ap (λ l. token k s (length u) ∷ token Blank (s + length u) 1 ∷ l)
    (parts_complete (s + length u + 1) (v ∷ us) ts q a.1)

pub parts_sound : (s : ℕ) (u : List ℕ) (us : List (List ℕ)) → list_all is_link (u ∷ us) ≡ true
    → AreChainParts s (u ∷ us) (parts_from 0 s (join_with_byte 45 (u ∷ us)))
parts_sound s u [] h =
    let a = (and_parts (is_link u) true h).0 in
    let P : List Token → Type 0 = λ ts. AreChainParts s (u ∷ []) ts in
    subst P (sym (last_is s u a)) (last_part s u (part_kind u) (part_sound u (link_inner u a)))
parts_sound s u (v ∷ us) h =
    let a = and_parts (is_link u) (list_all is_link (v ∷ us)) h in
    let P : List Token → Type 0 = λ ts. AreChainParts s (u ∷ v ∷ us) ts in
    subst P (sym (more_is s u (join_with_byte 45 (v ∷ us)) a.0))
    (more_parts s u v us (part_kind u) (parts_from 0 (s + length u + 1) (join_with_byte 45 (v ∷ us)))
    (part_sound u (link_inner u a.0)) (parts_sound (s + length u + 1) v us a.1))
