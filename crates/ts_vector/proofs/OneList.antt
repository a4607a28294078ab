-- A text has one list of items.
use Rattle.std.proofs.Common.{◌≡◌, ◌≢◌, ℕ, suc, ◌+◌, ◌<◌, List, [], ◌∷◌, ◌++◌, ◌⊎◌, inl, inr, length, refl, sym, ◌∙◌}
use Rattle.std.proofs.Common.{subst, Bool, true, false, Option, Some, None, arith}
use Rattle.ts_base.specs.declared.Weight.TheVariants.{D}
use Rattle.ts_base.specs.Vectors.{Position}
use Rattle.ts_base.proofs.Faults.{fault_one, fault_outside}
use Rattle.ts_base.specs.Fault.{Stands}
use Rattle.ts_vector.specs.Text.{Written, written, position, IsVectorText, entries}
use Rattle.ts_base.specs.Digits.{with_digit}
use Rattle.ts_vector.specs.Normal.{IsNormalFormOf}
use Rattle.ts_base.specs.Inner.Machine.{RestAt}
use Rattle.ts_vector.specs.Inner.Shape.{Shape, ShapeSteps, ShapeEnds, VectorRest}
use Rattle.ts_vector.specs.TextLaws.{TextHasOneList, TextHasOneValue, FaultHasOnePlace, FaultIsOutside}
use Rattle.ts_vector.specs.declared.reader.State.{State}
use Rattle.ts_vector.specs.declared.reader.State.TheVariants.{Between, InQuoted, QuotedEscape, Quote, InPlain}
use Rattle.ts_vector.specs.declared.reader.State.TheVariants.{PlainEscape, Digits, Weighted}
use Rattle.ts_vector.proofs.Forms.{normal_form_one}
use Rattle.ts_vector.proofs.Reading
use Rattle.ts_base.proofs.ByteKinds.{same_or, white_or, digit_or, letter_or}
use Rattle.ts_base.proofs.Places.{moves_to}
use Rattle.ts_base.specs.declared.TheConstants.{LAST_POSITION}

empty_or : (a : List ℕ) → (a ≡ []) ⊎ (a ≢ [])
empty_or [] = inl refl
empty_or (x ∷ a) = inr (λ e. cc)

zero_or : (n : ℕ) → (n ≡ 0) ⊎ (0 < n)
zero_or n = grind arith

-- ── in each state each byte is taken or refused ──
abbrev Step : ℕ → Shape → ℕ → Type 0
Step o s c = (ok : Bool) × (t : Shape) × ShapeSteps o s c ok t

module _ (o : ℕ) (its : List Written) (s : ℕ) (a : List ℕ) (ps : List Position) (n c : ℕ) where
  at_between : Step o (Reading.mk Between its s a ps n) c
  at_between = elim (same_or c 39) [
    | inl e ↦ (
      true,
      Reading.mk InQuoted its o [] ps n,
      Reading.opens_quote _ _ _ _ _ _ _ _ _ _ _ _ _ _ refl refl refl e refl refl,
    )
    | inr q ↦ elim (same_or c 92) [
      | inl e ↦ (
        true,
        Reading.mk PlainEscape its o [] ps n,
        Reading.opens_escape _ _ _ _ _ _ _ _ _ _ _ _ _ _ refl refl refl e refl refl,
      )
      | inr b ↦ elim (same_or c 58) [
        | inl e ↦ (false, Reading.mk Between its s a ps n, Reading.colon_stuck _ _ _ _ _ _ _ refl e)
        | inr k ↦ elim (white_or c) [
          | inl w ↦ (true, Reading.mk Between its s a ps n, Reading.skips_white _ _ _ _ _ _ _ _ refl w)
          | inr w ↦ (
            true,
            Reading.mk InPlain its o (c ∷ []) ps n,
            Reading.opens_plain _ _ _ _ _ _ _ _ _ _ _ _ _ _ [] refl refl refl
                (record { no_end = λ x. elim x [ inl y ↦ w y | inr y ↦ k y ]; no_escape = b }) q refl refl refl,
          )
        ]
      ]
    ]
  ]

  at_quoted : Step o (Reading.mk InQuoted its s a ps n) c
  at_quoted = elim (same_or c 39) [
    | inl e ↦ (true, Reading.mk Quote its s a ps n, Reading.quote_within _ _ _ _ _ _ _ _ refl e)
    | inr q ↦ elim (same_or c 92) [
      | inl e ↦ (true, Reading.mk QuotedEscape its s a ps n, Reading.escape_within _ _ _ _ _ _ _ _ refl e)
      | inr b ↦ (
        true,
        Reading.mk InQuoted its s (a ++ c ∷ []) ps n,
        Reading.byte_within _ _ _ _ _ _ _ _ _ _ _ _ _ _ refl refl refl q b refl refl,
      )
    ]
  ]

  at_plain : Step o (Reading.mk InPlain its s a ps n) c
  at_plain = elim (same_or c 92) [
    | inl e ↦ (true, Reading.mk PlainEscape its s a ps n, Reading.plain_escapes _ _ _ _ _ _ _ _ refl e)
    | inr b ↦ elim (same_or c 58) [
      | inl e ↦ (
        true,
        Reading.mk Digits its s a [] 0,
        Reading.plain_colon _ _ _ _ _ _ _ _ _ _ _ _ _ _ refl refl refl refl refl e refl refl,
      )
      | inr k ↦ elim (white_or c) [
        | inl w ↦ (
          true,
          Reading.mk Between (its ++ written s a [] ∷ []) s a ps n,
          Reading.plain_over _ _ _ _ _ _ _ _ _ _ _ _ _ _ refl w refl refl,
        )
        | inr w ↦ (
          true,
          Reading.mk InPlain its s (a ++ c ∷ []) ps n,
          Reading.plain_byte_on _ _ _ _ _ _ _ _ _ _ _ _ _ _ refl refl refl
              (record { no_end = λ x. elim x [ inl y ↦ w y | inr y ↦ k y ]; no_escape = b }) refl refl,
        )
      ]
    ]
  ]

  at_digits : Step o (Reading.mk Digits its s a ps n) c
  at_digits = elim (digit_or c) [
    | inl d ↦ (
      true,
      Reading.mk Digits its s a ps (with_digit LAST_POSITION n c),
      Reading.digit_more _ _ _ _ _ _ _ _ _ _ refl refl d refl,
    )
    | inr d ↦ elim (zero_or n) [
      | inl z ↦ (false, Reading.mk Digits its s a ps n, Reading.zero_stuck _ _ _ _ _ _ _ refl z d)
      | inr p ↦ elim (letter_or c) [
        | inl l ↦ (
          true,
          Reading.mk Weighted its s a (ps ++ position n l.0 ∷ []) n,
          Reading.digits_letter _ _ _ _ _ _ _ _ _ _ _ refl p l.1 refl,
        )
        | inr l ↦ elim (same_or c 44) [
          | inl e ↦ (
            true,
            Reading.mk Digits its s a (ps ++ position n D ∷ []) 0,
            Reading.digits_comma _ _ _ _ _ _ _ _ _ _ _ refl refl p e refl refl,
          )
          | inr m ↦ elim (white_or c) [
            | inl w ↦ (
              true,
              Reading.mk Between (its ++ written s a (ps ++ position n D ∷ []) ∷ []) s a ps n,
              Reading.digits_over _ _ _ _ _ _ _ _ _ _ _ _ _ _ refl p w refl refl,
            )
            | inr w ↦ (false, Reading.mk Digits its s a ps n, Reading.digits_stuck _ _ _ _ _ _ _ refl d l w m)
          ]
        ]
      ]
    ]
  ]

  at_weighted : Step o (Reading.mk Weighted its s a ps n) c
  at_weighted = elim (same_or c 44) [
    | inl e ↦ (true, Reading.mk Digits its s a ps 0, Reading.weighted_comma _ _ _ _ _ _ _ _ _ refl e refl)
    | inr m ↦ elim (white_or c) [
      | inl w ↦ (
        true,
        Reading.mk Between (its ++ written s a ps ∷ []) s a ps n,
        Reading.weighted_over _ _ _ _ _ _ _ _ _ _ _ _ _ _ refl w refl refl,
      )
      | inr w ↦ (false, Reading.mk Weighted its s a ps n, Reading.weighted_stuck _ _ _ _ _ _ _ refl w m)
    ]
  ]

at_quote : (o : ℕ) (its : List Written) (s : ℕ) (a : List ℕ) (ps : List Position) (n c : ℕ)
    → Step o (Reading.mk Quote its s a ps n) c
at_quote o its s a ps n c = elim (same_or c 39) [
  | inl e ↦ (
    true,
    Reading.mk InQuoted its s (a ++ c ∷ []) ps n,
    Reading.doubled_within _ _ _ _ _ _ _ _ _ _ _ _ _ _ refl refl refl e refl refl,
  )
  | inr q ↦ elim (empty_or a) [
    | inl z ↦ (false, Reading.mk Quote its s a ps n, Reading.empty_stuck _ _ _ _ _ _ _ refl z q)
    | inr ne ↦ elim (same_or c 58) [
      | inl e ↦ (
        true,
        Reading.mk Digits its s a [] 0,
        Reading.quoted_colon _ _ _ _ _ _ _ _ _ _ _ _ _ _ refl refl refl refl refl ne e refl refl,
      )
      | inr k ↦
          let b = at_between o (its ++ written s a [] ∷ []) s a ps n c in (
            b.0,
            b.1,
            Reading.quoted_over o Quote Between its
                (its ++ written s a [] ∷ []) s s a a ps ps n n c b.0 b.1 refl ne q k refl refl b.2,
          )
    ]
  ]
]

step_of : (o : ℕ) (st : State) (its : List Written) (s : ℕ) (a : List ℕ) (ps : List Position) (n c : ℕ)
    → Step o (Reading.mk st its s a ps n) c
step_of o Between its s a ps n c = at_between o its s a ps n c
step_of o InQuoted its s a ps n c = at_quoted o its s a ps n c
step_of o QuotedEscape its s a ps n c = (
  true,
  Reading.mk InQuoted its s (a ++ c ∷ []) ps n,
  Reading.escaped_within _ _ _ _ _ _ _ _ _ _ _ _ _ _ refl refl refl refl refl,
)
step_of o Quote its s a ps n c = at_quote o its s a ps n c
step_of o InPlain its s a ps n c = at_plain o its s a ps n c
step_of o PlainEscape its s a ps n c = (
  true,
  Reading.mk InPlain its s (a ++ c ∷ []) ps n,
  Reading.escaped_plain _ _ _ _ _ _ _ _ _ _ _ _ _ _ refl refl refl refl refl,
)
step_of o Digits its s a ps n c = at_digits o its s a ps n c
step_of o Weighted its s a ps n c = at_weighted o its s a ps n c

end_of : (st : State) (its : List Written) (s : ℕ) (a : List ℕ) (ps : List Position) (n : ℕ)
    → (r : Option (List Written)) × ShapeEnds (Reading.mk st its s a ps n) r
end_of Between its s a ps n = (Some its, Reading.between_whole _ _ _ _ _ _ refl)
end_of InQuoted its s a ps n = (None, Reading.quoted_unfinished _ _ _ _ _ _ refl)
end_of QuotedEscape its s a ps n = (None, Reading.escape_unfinished _ _ _ _ _ _ refl)
end_of Quote its s a ps n = elim (empty_or a) [
  | inl z ↦ (None, Reading.quote_unfinished _ _ _ _ _ _ refl z)
  | inr ne ↦ (Some (its ++ written s a [] ∷ []), Reading.quote_whole _ _ _ _ _ _ _ refl ne refl)
]
end_of InPlain its s a ps n = (Some (its ++ written s a [] ∷ []), Reading.plain_whole _ _ _ _ _ _ _ refl refl)
end_of PlainEscape its s a ps n = (None, Reading.plain_escape_unfinished _ _ _ _ _ _ refl)
end_of Digits its s a ps n = elim (zero_or n) [
  | inl z ↦ (None, Reading.digits_unfinished _ _ _ _ _ _ refl z)
  | inr p ↦ (Some (its ++ written s a (ps ++ position n D ∷ []) ∷ []), Reading.digits_whole _ _ _ _ _ _ _ refl p refl)
]
end_of Weighted its s a ps n = (Some (its ++ written s a ps ∷ []), Reading.weighted_whole _ _ _ _ _ _ _ refl refl)

-- ── one list ──
end_one : (i : ℕ) (s : Shape) (r : Option (List Written)) (v w : List Written) → ShapeEnds s r
    → RestAt (List Written) (VectorRest s) i [] v → RestAt (List Written) (VectorRest s) i [] w → v ≡ w
end_one i s (Some x) v w f h k = f.only (i + 0) v h ∙ sym (f.only (i + 0) w k)
end_one i s None v w f h k = absurd (f.never (i + 0) v h)

step_one : (i : ℕ) (s : Shape) (c : ℕ) (u : List ℕ) (v w : List Written) → Step i s c
    → ((t : Shape) → RestAt (List Written) (VectorRest t) (i + 1) u v → RestAt (List Written) (VectorRest t) (i + 1) u w
    → v ≡ w) → RestAt (List Written) (VectorRest s) i (c ∷ u) v → RestAt (List Written) (VectorRest s) i (c ∷ u) w
    → v ≡ w
step_one i s c u v w (true, t, m) then h k = then t (moves_to (List Written) IsVectorText Shape VectorRest i s t c m u v
    h) (moves_to (List Written) IsVectorText Shape VectorRest i s t c m u w k)
step_one i s c u v w (false, t, m) then h k = absurd (m.never c [] refl (i + suc (length u)) u v h)

one : (u : List ℕ) (i : ℕ) (s : Shape) (v w : List Written) → RestAt (List Written) (VectorRest s) i u v
    → RestAt (List Written) (VectorRest s) i u w → v ≡ w
one [] i s v w h k = let e = end_of s.state s.items s.start s.word s.positions s.value in end_one i s e.0 v w e.1 h k
one (c ∷ u) i s v w h k = step_one i s c u v w (step_of i s.state s.items s.start s.word s.positions s.value c)
    (λ t p q. one u (i + 1) t v w p q) h k

pub text_has_one_list : TextHasOneList
text_has_one_list text v w h k =
    one text 0 (Reading.mk Between [] 0 [] [] 0) v w (Reading.start_from [] text v h) (Reading.start_from [] text w k)

pub text_has_one_value : TextHasOneValue
text_has_one_value text v w h k =
    let e = text_has_one_list text h.items k.items h.text_of k.text_of in
    normal_form_one (entries h.items) v w h.form (subst (λ t. IsNormalFormOf (entries t) w) (sym e) k.form)

pub fault_has_one_place : FaultHasOnePlace
fault_has_one_place text m n f g = fault_one (Stands (List Written) IsVectorText) text m n f g

pub fault_is_outside : FaultIsOutside
fault_is_outside text n f v h = fault_outside (Stands (List Written) IsVectorText) text n f (v, h)
