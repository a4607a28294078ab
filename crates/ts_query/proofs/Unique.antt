-- Tokens spell one query, and a text has one value.
use Rattle.std.proofs.Common.{◌≡◌, ℕ, suc, ◌<◌, ◌≤◌, List, [], ◌∷◌, ◌⊎◌, inl, inr, refl, sym, subst, ap, ◌∙◌, Some}
use Rattle.std.proofs.Common.{None, length, arith}
use Rattle.ts_query.specs.Queries.{Joint, Tree, leaf, negated, joined, Query}
use Rattle.ts_query.specs.Tokens.{QueryToken, word, bang, opening, closing, sign}
use Rattle.ts_query.specs.Grammar.{level, Expr, Spells, ReadsQuery}
use Rattle.ts_query.specs.Inner.Frames.{Frame, open_frame, not_frame, joint_frame, On, Want}
use Rattle.ts_query.specs.Laws.{OneValue}
use Rattle.ts_query.proofs.Climbs.{level_3, want_word, want_open, want_not, want_sign, want_close, want_nil, pop_not}
use Rattle.ts_query.proofs.Climbs.{pop_joint, close_on, bottom_close, bottom_end, open_end, on_joint, word_begins}
use Rattle.ts_query.proofs.Climbs.{bang_begins, open_begins, on_begin}
use Rattle.ts_query.proofs.Stacks.{spelled_want}
use Rattle.ts_query.proofs.Once.{lex_one}

record Unique (u : List QueryToken) : Type 0 where
  wants : (fs : List Frame) (s t : Tree) → Want fs u s → Want fs u t → s ≡ t
  ons : (fs : List Frame) (j : ℕ) (y s t : Tree) → On j fs y u s → On j fs y u t → s ≡ t

on_nil : (fs : List Frame) (j : ℕ) (y s t : Tree) → On j fs y [] s → On j fs y [] t → s ≡ t
on_nil [] j y s t a b = bottom_end j y s a ∙ sym (bottom_end j y t b)
on_nil (open_frame ∷ fs) j y s t a b = absurd (open_end j fs y s a)
on_nil (not_frame ∷ fs) j y s t a b = on_nil fs 3 (negated y) s t (pop_not j fs y s [] tt a) (pop_not j fs y t [] tt b)
on_nil (joint_frame i x ∷ fs) j y s t a b =
    on_nil fs (suc (level i)) (joined i x y) s t (pop_joint j fs i x y s [] tt a) (pop_joint j fs i x y t [] tt b)

on_close : (u : List QueryToken) → Unique u → (fs : List Frame) (j : ℕ) (y s t : Tree) → On j fs y (closing ∷ u) s
    → On j fs y (closing ∷ u) t → s ≡ t
on_close u h [] j y s t a b = absurd (bottom_close j y s u a)
on_close u h (open_frame ∷ fs) j y s t a b = h.ons fs 4 y s t (close_on j fs y s u a) (close_on j fs y t u b)
on_close u h (not_frame ∷ fs) j y s t a b =
    on_close u h fs 3 (negated y) s t (pop_not j fs y s (closing ∷ u) tt a) (pop_not j fs y t (closing ∷ u) tt b)
on_close u h (joint_frame i x ∷ fs) j y s t a b =
    on_close u h fs (suc (level i)) (joined i x y) s t (pop_joint j fs i x y s (closing ∷ u) tt a)
    (pop_joint j fs i x y t (closing ∷ u) tt b)

order : (a b : ℕ) → (a ≤ b) ⊎ (b < a)
order a b = grind arith

on_sign : (i : Joint) (c : ℕ) (u : List QueryToken) → Unique u → (fs : List Frame) (j : ℕ) (y s t : Tree)
    → On j fs y (sign c i ∷ u) s → On j fs y (sign c i ∷ u) t → s ≡ t
on_sign i c u h [] j y s t a b =
    let p : 0 ≤ level i = omega arith in
    h.wants (joint_frame i y ∷ []) s t (on_joint j [] i c y s u p a) (on_joint j [] i c y t u p b)
on_sign i c u h (open_frame ∷ fs) j y s t a b =
    let p : 0 ≤ level i = omega arith in h.wants (joint_frame i y ∷ open_frame ∷ fs) s t
    (on_joint j (open_frame ∷ fs) i c y s u p a) (on_joint j (open_frame ∷ fs) i c y t u p b)
on_sign i c u h (not_frame ∷ fs) j y s t a b =
    let p = level_3 i in
    on_sign i c u h fs 3 (negated y) s t (pop_not j fs y s (sign c i ∷ u) p a) (pop_not j fs y t (sign c i ∷ u) p b)
on_sign i c u h (joint_frame g x ∷ fs) j y s t a b = elim (order (suc (level g)) (level i)) [
  | inl p ↦ h.wants (joint_frame i y ∷ joint_frame g x ∷ fs) s t (on_joint j (joint_frame g x ∷ fs) i c y s u p a)
      (on_joint j (joint_frame g x ∷ fs) i c y t u p b)
  | inr p ↦ on_sign i c u h fs (suc (level g)) (joined g x y) s t (pop_joint j fs g x y s (sign c i ∷ u) p a)
      (pop_joint j fs g x y t (sign c i ∷ u) p b)
]

on_one : (k : QueryToken) (u : List QueryToken) → Unique u → (fs : List Frame) (j : ℕ) (y s t : Tree)
    → On j fs y (k ∷ u) s → On j fs y (k ∷ u) t → s ≡ t
on_one (word c o) u h fs j y s t a b = absurd (on_begin j fs (word c o) y s u (word_begins c o) a)
on_one bang u h fs j y s t a b = absurd (on_begin j fs bang y s u bang_begins a)
on_one opening u h fs j y s t a b = absurd (on_begin j fs opening y s u open_begins a)
on_one closing u h fs j y s t a b = on_close u h fs j y s t a b
on_one (sign c i) u h fs j y s t a b = on_sign i c u h fs j y s t a b

want_one : (k : QueryToken) (u : List QueryToken) → Unique u → (fs : List Frame) (s t : Tree) → Want fs (k ∷ u) s
    → Want fs (k ∷ u) t → s ≡ t
want_one (word c o) u h fs s t a b = h.ons fs 4 (leaf o) s t (want_word fs c o u s a) (want_word fs c o u t b)
want_one bang u h fs s t a b = h.wants (not_frame ∷ fs) s t (want_not fs u s a) (want_not fs u t b)
want_one opening u h fs s t a b = h.wants (open_frame ∷ fs) s t (want_open fs u s a) (want_open fs u t b)
want_one closing u h fs s t a b = absurd (want_close fs u s a)
want_one (sign c i) u h fs s t a b = absurd (want_sign fs c i u s a)

unique : (u : List QueryToken) → Unique u
unique [] = record { wants = λ fs s t a b. absurd (want_nil fs s a); ons = on_nil }
unique (k ∷ u) = let h = unique u in
    record { wants = λ fs s t a b. want_one k u h fs s t a b; ons = λ fs j y s t a b. on_one k u h fs j y s t a b }

none_some : (ks : List QueryToken) (t : Tree) → ks ≡ [] → ¬ Expr 0 t ks []
none_some ks t e x = want_nil [] t (spelled_want [] t (subst (λ v. Expr 0 t v []) e x))

pub spells_one : (ks : List QueryToken) (p q : Query) → Spells ks p → Spells ks q → p ≡ q
spells_one ks None None a b = refl
spells_one ks None (Some t) a b = absurd (none_some ks t a b)
spells_one ks (Some s) None a b = absurd (none_some ks s b a)
spells_one ks (Some s) (Some t) a b =
    ap (λ x. Some x) ((unique ks).wants [] s t (spelled_want ks s a) (spelled_want ks t b))

pub reads_tokens : (text : List ℕ) (ks ls : List QueryToken) (p q : Query) → ReadsQuery text ks p → ReadsQuery text ls q
    → ks ≡ ls
reads_tokens text ks ls p q a b = lex_one (length text) text ks ls a.has b.has

pub reads_one : (text : List ℕ) (ks ls : List QueryToken) (p q : Query) → ReadsQuery text ks p → ReadsQuery text ls q
    → p ≡ q
reads_one text ks ls p q a b =
    spells_one ks p q a.spells (subst (λ x. Spells x q) (sym (reads_tokens text ks ls p q a b)) b.spells)

pub one_value : OneValue
one_value text p q a b = reads_one text a.0 b.0 p q a.1 b.1
