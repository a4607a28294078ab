-- The blank at the front is the one that the rules name.
use Rattle.std.proofs.Common.{◌≡◌, ℕ, zero, suc, ◌<◌, List, [], ◌∷◌, ◌++◌, length, take, drop, Bool, true, false, refl}
use Rattle.std.proofs.Common.{sym, ap, ◌∙◌, subst, append-nil, append_assoc, arith, inl, inr, ◌⊎◌, Option, Some, None}
use Rattle.std.proofs.Common.{is_some}
use Rattle.std.specs.List.{list_all}
use Rattle.std.proofs.lemmas.Bool.{false≢true, and_parts, or_left, or_right, or_cases}
use Rattle.ts_parser.specs.declared.forms.Form.{Form}
use Rattle.ts_parser.specs.Letters.{IsWordByte, is_word_byte, begins_with}
use Rattle.ts_parser.specs.Numbers.{last_byte}
use Rattle.ts_parser.specs.TokenList.{StartsForm}
use Rattle.ts_parser.specs.NumberForms.{number_at}
use Rattle.ts_parser.specs.TokensOf.{starts_form, blank_len}
use Rattle.ts_parser.proofs.ByteTests.{tells_word_byte, all_test}
use Rattle.ts_parser.proofs.NumberLaws.{number_complete, number_sound}
use Rattle.ts_parser.proofs.Chains.{run_in}

pub last_push : (before : List ℕ) (c : ℕ) → last_byte (before ++ c ∷ []) ≡ Some c
last_push [] c = refl
last_push (b ∷ []) c = refl
last_push (a ∷ b ∷ before) c = last_push (b ∷ before) c

-- ── where forms start ──
run_begins : (u r : List ℕ) → list_all is_word_byte u ≡ true → 0 < length u → begins_with is_word_byte (u ++ r) ≡ true
run_begins [] r h s = absurd (omega (arith, s))
run_begins (c ∷ u) r h s = (and_parts (is_word_byte c) (list_all is_word_byte u) h).0

pub starts_test : (before rest : List ℕ) → StartsForm before rest → starts_form (last_byte before) rest ≡ true
starts_test before rest (inl (k, u, r, e, n)) =
    or_right (begins_with is_word_byte rest) (is_some (number_at (last_byte before) rest))
    (ap (λ z. is_some (number_at (last_byte before) z)) e ∙ ap is_some (number_complete (last_byte before) k u r n))
starts_test before rest (inr (u, r, e, h)) =
    or_left (begins_with is_word_byte rest) (is_some (number_at (last_byte before) rest))
    (ap (λ z. begins_with is_word_byte z) e
    ∙ run_begins u r (all_test is_word_byte IsWordByte tells_word_byte u h.inner) h.some)

number_starts : (before rest : List ℕ) (o : Option Form) → number_at (last_byte before) rest ≡ o → is_some o ≡ true
    → StartsForm before rest
number_starts before rest None e h = absurd (false≢true h)
number_starts before rest (Some f) e h =
    let n = number_sound (last_byte before) rest f e in inl (f.kind, n.number, n.rest, n.is, n.holds)

starts_by : (before rest : List ℕ) → (begins_with is_word_byte rest ≡ true)
    ⊎ (is_some (number_at (last_byte before) rest) ≡ true) → StartsForm before rest
starts_by before rest (inl h) = let n = run_in rest h in inr (n.run, n.rest, n.is, n.holds)
starts_by before rest (inr h) = number_starts before rest (number_at (last_byte before) rest) refl h

pub test_starts : (before rest : List ℕ) → starts_form (last_byte before) rest ≡ true → StartsForm before rest
test_starts before rest h =
    starts_by before rest (or_cases (begins_with is_word_byte rest) (is_some (number_at (last_byte before) rest)) h)

pub denies_start : (before rest : List ℕ) → (StartsForm before rest → ⊥) → starts_form (last_byte before) rest ≡ false
denies_start before rest h = denies_by (starts_form (last_byte before) rest) refl
  where
    denies_by : (b : Bool) → starts_form (last_byte before) rest ≡ b → starts_form (last_byte before) rest ≡ false
    denies_by true e = absurd (h (test_starts before rest e))
    denies_by false e = e

-- ── blanks ──
-- no form starts at a place of v
abbrev pub NoStart : List ℕ → List ℕ → List ℕ → Type 0
NoStart before v r = (i : ℕ) → i < length v → StartsForm (before ++ take i v) (drop i v ++ r) → ⊥

abbrev pub EndsBlank : List ℕ → List ℕ → List ℕ → Type 0
EndsBlank before v r = (r ≡ []) ⊎ StartsForm (before ++ v) r

pub move_start : (a b rest : List ℕ) → a ≡ b → StartsForm a rest → StartsForm b rest
move_start a b rest e h = let P : List ℕ → Type 0 = λ z. StartsForm z rest in subst P e h

blank_stops : (before : Option ℕ) (r : List ℕ) → starts_form before r ≡ true → blank_len before r ≡ 0
blank_stops before [] h = refl
blank_stops before (c ∷ r) h = rw h refl

pub next_none : (before : List ℕ) (c : ℕ) (v r : List ℕ) → NoStart before (c ∷ v) r → NoStart (before ++ c ∷ []) v r
next_none before c v r h i l s = h (suc i) (omega (arith, l)) (move_start ((before ++ c ∷ []) ++ take i v)
    (before ++ c ∷ take i v) (drop i v ++ r) (append_assoc before (c ∷ []) (take i v)) s)

next_ends : (before : List ℕ) (c : ℕ) (v r : List ℕ) → EndsBlank before (c ∷ v) r → EndsBlank (before ++ c ∷ []) v r
next_ends before c v r (inl e) = inl e
next_ends before c v r (inr s) =
    inr (move_start (before ++ c ∷ v) ((before ++ c ∷ []) ++ v) r (sym (append_assoc before (c ∷ []) v)) s)

pub blank_complete : (before v r : List ℕ) → NoStart before v r → EndsBlank before v r
    → blank_len (last_byte before) (v ++ r) ≡ length v
blank_complete before [] r h (inl e) = ap (λ z. blank_len (last_byte before) z) e
blank_complete before [] r h (inr s) =
    blank_stops (last_byte before) r (starts_test before r (move_start (before ++ []) before r (append-nil before) s))
blank_complete before (c ∷ v) r h e =
    let n : starts_form (last_byte before) (c ∷ (v ++ r)) ≡ false =
    denies_start before (c ∷ (v ++ r))
    (λ s. h 0 (omega arith) (move_start before (before ++ []) (c ∷ (v ++ r)) (sym (append-nil before)) s)) in
    let one : blank_len (last_byte before) (c ∷ (v ++ r)) ≡ suc (blank_len (Some c) (v ++ r)) = rw n refl in
    one ∙ ap (λ b. suc (blank_len b (v ++ r))) (sym (last_push before c))
    ∙ ap suc (blank_complete (before ++ c ∷ []) v r (next_none before c v r h) (next_ends before c v r e))

pub record BlankIn (before u : List ℕ) : Type 0 where
  pub blank : List ℕ
  pub rest : List ℕ
  pub is : u ≡ blank ++ rest
  pub size : blank_len (last_byte before) u ≡ length blank
  pub none : NoStart before blank rest
  pub ends : EndsBlank before blank rest

more_none : (before : List ℕ) (c : ℕ) (v r : List ℕ) → starts_form (last_byte before) (c ∷ (v ++ r)) ≡ false
    → NoStart (before ++ c ∷ []) v r → NoStart before (c ∷ v) r
more_none before c v r n h zero l s = false≢true
    (sym n ∙ starts_test before (c ∷ (v ++ r)) (move_start (before ++ []) before (c ∷ (v ++ r)) (append-nil before) s))
more_none before c v r n h (suc i) l s = h i (omega (arith, l)) (move_start (before ++ c ∷ take i v)
    ((before ++ c ∷ []) ++ take i v) (drop i v ++ r) (sym (append_assoc before (c ∷ []) (take i v))) s)

more_ends : (before : List ℕ) (c : ℕ) (v r : List ℕ) → EndsBlank (before ++ c ∷ []) v r → EndsBlank before (c ∷ v) r
more_ends before c v r (inl e) = inl e
more_ends before c v r (inr s) =
    inr (move_start ((before ++ c ∷ []) ++ v) (before ++ c ∷ v) r (append_assoc before (c ∷ []) v) s)

more_blank : (before : List ℕ) (c : ℕ) (u : List ℕ) → starts_form (last_byte before) (c ∷ u) ≡ false
    → BlankIn (before ++ c ∷ []) u → BlankIn before (c ∷ u)
more_blank before c u n k = record {
  blank = c ∷ k.blank;
  rest = k.rest;
  is = ap (λ z. c ∷ z) k.is;
  size = rw n (ap (λ b. suc (blank_len b u)) (sym (last_push before c)) ∙ ap suc k.size);
  none = more_none before c k.blank k.rest (ap (λ z. starts_form (last_byte before) (c ∷ z)) (sym k.is) ∙ n) k.none;
  ends = more_ends before c k.blank k.rest k.ends;
}

blank_by : (before : List ℕ) (c : ℕ) (u : List ℕ) (b : Bool) → starts_form (last_byte before) (c ∷ u) ≡ b
    → BlankIn (before ++ c ∷ []) u → BlankIn before (c ∷ u)
blank_by before c u true e k = record {
  blank = [];
  rest = c ∷ u;
  is = refl;
  size = blank_stops (last_byte before) (c ∷ u) e;
  none = λ i l s. omega (arith, l);
  ends = inr (move_start before (before ++ []) (c ∷ u) (sym (append-nil before)) (test_starts before (c ∷ u) e));
}
blank_by before c u false e k = more_blank before c u e k

pub blank_sound : (before u : List ℕ) → BlankIn before u
blank_sound before [] =
    record { blank = []; rest = []; is = refl; size = refl; none = λ i l s. omega (arith, l); ends = inl refl }
blank_sound before (c ∷ u) =
    blank_by before c u (starts_form (last_byte before) (c ∷ u)) refl (blank_sound (before ++ c ∷ []) u)
