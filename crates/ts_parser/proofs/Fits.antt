-- What is at the front of a text is no longer than the text.
use Rattle.std.proofs.Common.{◌≡◌, ℕ, suc, ◌+◌, ◌^◌, ◌<◌, ◌≤◌, List, [], ◌∷◌, ◌++◌, length, Bool, true, false, refl}
use Rattle.std.proofs.Common.{sym, ap, ◌∙◌, length-append, arith, Option, Some}
use Rattle.std.specs.List.{join_with_byte}
use Rattle.ts_parser.specs.declared.forms.Form.{Form}
use Rattle.ts_parser.specs.Letters.{begins_with, is_word_byte}
use Rattle.ts_parser.specs.Rows.{row_len}
use Rattle.ts_parser.specs.NumberForms.{number_front, number_at}
use Rattle.ts_parser.specs.WordForms.{word_form}
use Rattle.ts_parser.proofs.Rows.{goes_on}
use Rattle.ts_parser.proofs.NumberBodies.{body_sound}
use Rattle.ts_parser.proofs.NumberLaws.{number_sound}
use Rattle.ts_parser.proofs.Chains.{is_chain, ChainIn, test_chain, word_chain, word_run, run_in}
use Rattle.ts_parser.proofs.Fronts.{number_some, chain_some}

row_fits_by : (p m : ℕ → Bool) (s c : ℕ) (u : List ℕ) (b : Bool) → goes_on p m s (c ∷ u) ≡ b
    → row_len p m s u ≤ length u → row_len p m s (c ∷ u) ≤ suc (length u)
row_fits_by p m s c u true e k = rw e (omega (arith, k))
row_fits_by p m s c u false e k = rw e (omega arith)

pub row_fits : (p m : ℕ → Bool) (s : ℕ) (u : List ℕ) → row_len p m s u ≤ length u
row_fits p m s [] = omega arith
row_fits p m s (c ∷ u) = row_fits_by p m s c u (goes_on p m s (c ∷ u)) refl (row_fits p m s u)

front_part : (u v r : List ℕ) (n : ℕ) → u ≡ v ++ r → length v ≡ n → n ≤ length u
front_part u v r n e l = let k = length-append v r in let j = ap length e in omega (arith, k, j, l)

pub body_fits : (signed : Bool) (v : List ℕ) (f : Form) → Some f ≡ number_front signed v → f.length ≤ length v
body_fits signed v f h = let b = body_sound signed v f (sym h) in front_part v b.body b.rest f.length b.is b.size

pub number_fits : (before : Option ℕ) (u : List ℕ) (f : Form) → Some f ≡ number_at before u
    → (1 ≤ f.length) × (f.length ≤ length u)
number_fits before u f h =
    let n = number_sound before u f (sym h) in
    let s = number_some f.kind n.number n.holds.number in
    let l = n.size in
    (omega (arith, s, l), front_part u n.number n.rest f.length n.is n.size)

chain_fits : (u : List ℕ) → ChainIn u → (1 ≤ (word_form u).length) × ((word_form u).length ≤ length u)
chain_fits u c =
    let j : List ℕ = join_with_byte 45 c.links in
    let l : (word_form u).length ≡ length j =
    ap (λ z. (word_form z).length) c.is ∙ ap (λ (f : Form). f.length) (word_chain c.links c.rest c.holds) in
    let s = chain_some c.links c.rest c.holds in
    (omega (arith, s, l), front_part u j c.rest (word_form u).length c.is (sym l))

word_fits_by : (u : List ℕ) (b : Bool) → is_chain u ≡ b → begins_with is_word_byte u ≡ true
    → (1 ≤ (word_form u).length) × ((word_form u).length ≤ length u)
word_fits_by u true e h = chain_fits u (test_chain u e)
word_fits_by u false e h =
    let k = run_in u h in
    let l : (word_form u).length ≡ length k.run = ap (λ z. (word_form z).length) k.is
    ∙ ap (λ (f : Form). f.length) (word_run k.run k.rest k.holds (ap is_chain (sym k.is) ∙ e)) in
    let s = k.holds.some in
    (omega (arith, s, l), front_part u k.run k.rest (word_form u).length k.is (sym l))

pub word_fits : (u : List ℕ) (f : Form) → f ≡ word_form u → begins_with is_word_byte u ≡ true
    → (1 ≤ f.length) × (f.length ≤ length u)
word_fits u f e h =
    let k = word_fits_by u (is_chain u) refl h in
    let l = ap (λ (g : Form). g.length) e in
    let a = k.0 in let b = k.1 in (omega (arith, a, l), omega (arith, b, l))

-- a sign before it has room
pub sign_room : (v : List ℕ) (f : Form) (m : ℕ) → Some f ≡ number_front true v → length v ≤ m → m < 2 ^ 63
    → f.length + 1 < 2 ^ 64
sign_room v f m e h n = let k = body_fits true v f e in omega (arith, k, h, n)
