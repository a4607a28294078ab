-- The keys on pages are those of vectors.
use Rattle.std.proofs.Common.{ℕ, zero, suc, List, [], ◌∷◌, refl, sym, subst}
use Rattle.ts_base.specs.Keys as texts
use Rattle.page_types.specs.Keys as pages
use Rattle.core_state.specs.Laws.{KeysAreOne}

to_texts : (k : List ℕ) → pages.IsKey k → texts.IsKey k
to_texts [] h = absurd h
to_texts (zero ∷ text) h = texts.IsKey.of_lexeme text (record { some = h.some; most = h.most; utf8 = h.utf8 })
to_texts (suc zero ∷ rest) h = subst (λ r. texts.IsKey (1 ∷ r)) (sym h) texts.IsKey.of_none
to_texts (suc (suc b) ∷ rest) h = absurd h

to_pages : (k : List ℕ) → texts.IsKey k → pages.IsKey k
to_pages k (texts.IsKey.of_lexeme text h) = record { some = h.some; most = h.most; utf8 = h.utf8 }
to_pages k texts.IsKey.of_none = refl

pub keys_one : KeysAreOne
keys_one k = (to_texts k, to_pages k)
