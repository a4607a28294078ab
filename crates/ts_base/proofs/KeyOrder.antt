-- The keys of a vector in normal form.
use Rattle.std.proofs.Common.{◌≡◌, ℕ, zero, suc, ◌<◌, [], ◌∷◌, length, map, get_or, refl, ap, arith}
use Rattle.std.specs.Prelude.{All, AllPairs}
use Rattle.std.specs.declared.cmp.Ordering.TheVariants.{Less}
use Rattle.std.proofs.lemmas.List.Elements.{All-cons, All-nil, All-map, All-weaker}
use Rattle.ts_base.specs.Lexemes.{IsBefore}
use Rattle.ts_base.specs.Vectors.{Entry, Vector, IsEntry, IsNormal}
use Rattle.ts_base.specs.Keys.{Key, IsKey, of_lexeme, of_none, lexeme_key, placeholder, key_order, KeysRise}

abbrev pub entry_key : Entry → Key
entry_key e = lexeme_key e.lexeme

length-keys : (v : Vector) → length (map entry_key v) ≡ length v
length-keys [] = refl
length-keys (e ∷ v) = ap suc (length-keys v)

key_at : (v : Vector) (i : ℕ) (d : Key) (e : Entry) → i < length v
    → get_or (map entry_key v) i d ≡ entry_key (get_or v i e)
key_at [] i d e h = absurd (omega arith)
key_at (x ∷ v) zero d e h = refl
key_at (x ∷ v) (suc i) d e h = key_at v i d e (omega arith)

lexemes_valid : (v : Vector) → IsNormal v → All IsKey (map entry_key v)
lexemes_valid v n = All-map IsKey entry_key v
    (All-weaker IsEntry (λ e. IsKey (entry_key e)) (λ e i. of_lexeme e.lexeme i.lexeme) v n.entries)

lexemes_order : (v : Vector) → IsNormal v → AllPairs (λ a b. key_order a b ≡ Less) (map entry_key v)
lexemes_order v n i j d l m =
    let lj : j < length v = let e = length-keys v in omega arith in
    let none : Entry = record { lexeme = []; positions = [] } in
    let r : IsBefore (get_or v i none).lexeme (get_or v j none).lexeme = n.rising i j none l lj in
    rw (key_at v i d none (omega arith), key_at v j d none lj) r

pub keys_rise_at : KeysRise
keys_rise_at [] n = (All-cons IsKey placeholder [] of_none (All-nil IsKey), λ i j d l m. absurd (omega arith))
keys_rise_at (e ∷ v) n = (lexemes_valid (e ∷ v) n, lexemes_order (e ∷ v) n)
