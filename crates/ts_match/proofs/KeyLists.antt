-- The keys of vectors and of queries.
use Rattle.std.proofs.Common.{◌≡◌, ℕ, ◌+◌, ◌<◌, List, [], ◌∷◌, ◌++◌, length, map, take, get_or, refl, sym, ap, subst}
use Rattle.std.proofs.Common.{◌∙◌, arith, add-one}
use Rattle.std.specs.Prelude.{All, AllPairs}
use Rattle.std.specs.declared.cmp.Ordering.TheVariants.{Less}
use Rattle.std.proofs.Math.Seq.{take-suc}
use Rattle.ts_base.specs.Vectors.{Entry, Vector, IsNormal}
use Rattle.ts_base.specs.Keys.{Key, IsKey, key_order, keys_of, lexeme_key, placeholder}
use Rattle.ts_base.proofs.KeyOrder.{keys_rise_at}

map-append : {X Y : Type 0} (f : X → Y) (xs ys : List X) → map f (xs ++ ys) ≡ map f xs ++ map f ys
map-append f [] ys = refl
map-append f (x ∷ xs) ys = ap (λ l. f x ∷ l) (map-append f xs ys)

-- one more on both sides
pub map_more : {X Y Z : Type 0} (f : X → Z) (g : Y → Z) (xs xs' : List X) (ys : List Y) (i : ℕ) (x : X) (d : Y)
    → i < length ys → map f xs ≡ map g (take i ys) → xs' ≡ xs ++ x ∷ [] → f x ≡ g (get_or ys i d)
    → map f xs' ≡ map g (take (i + 1) ys)
map_more f g xs xs' ys i x d h m e p =
    ap (map f) e ∙ map-append f xs (x ∷ []) ∙ ap (λ l. l ++ f x ∷ []) m ∙ ap (λ z. map g (take i ys) ++ z ∷ []) p
    ∙ sym (map-append g (take i ys) (get_or ys i d ∷ [])) ∙ ap (map g) (sym (take-suc ys i d h))
    ∙ ap (λ k. map g (take k ys)) (sym (add-one i))

pub keys_without : (v : Vector) → 0 ≡ length v → placeholder ∷ [] ≡ keys_of v
keys_without [] h = refl
keys_without (e ∷ v) h = absurd (omega arith)

pub keys_with : (v : Vector) → (0 ≡ length v → ⊥) → map (λ (e : Entry). lexeme_key e.lexeme) v ≡ keys_of v
keys_with [] h = absurd (h refl)
keys_with (e ∷ v) h = refl

pub keys_valid : (v : Vector) (ks : List Key) → IsNormal v → ks ≡ keys_of v → All IsKey ks
keys_valid v ks n e = subst (λ (l : List Key). All IsKey l) (sym e) (keys_rise_at v n).0

pub keys_order : (v : Vector) (ks : List Key) → IsNormal v → ks ≡ keys_of v → AllPairs (λ a b. key_order a b ≡ Less) ks
keys_order v ks n e = subst (λ (l : List Key). AllPairs (λ a b. key_order a b ≡ Less) l) (sym e) (keys_rise_at v n).1
