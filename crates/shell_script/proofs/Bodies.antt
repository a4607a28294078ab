-- How far a body was read, and the steps that come of it.
use Rattle.std.proofs.Math.Seq.{take-append_seam}
use Rattle.std.proofs.Common.{◌≡◌, ◌⊎◌, inl, inr, ℕ, suc, ◌+◌, ◌-◌, take, ◌||◌, Bool, true, false, if◌then◌else◌, List}
use Rattle.std.proofs.Common.{[], ◌∷◌, ◌++◌, length, length-append, append_assoc, codes, arith, refl, sym, ◌∙◌, ap}
use Rattle.std.proofs.Common.{subst}
use Rattle.std.specs.List.{All}
use Rattle.std.specs.Str.Lines.{lines}
use Rattle.std.proofs.lemmas.List.{append-nil}
use Rattle.std.proofs.lemmas.List.Elements.{All-nil, All-head, All-tail, All-push}
use Rattle.shell_script.specs.Lines.{Line, lines_from}
use Rattle.shell_script.specs.Steps.{definition, stray}
use Rattle.shell_script.specs.StepsOf.{is_end, body_of, has_end, defined_steps, steps_from}
use Rattle.shell_script.specs.Inner.Cuts.{IsCut, IsCutOff}
use Rattle.shell_script.proofs.TextLines.{IsRows, no_rows, rows_alone, rows_push}

abbrev IsInner : List ℕ → Type 0
IsInner l = is_end l ≡ false

-- So many lines of a text were read that are no end, and this is left.
pub record Past (text behind : List ℕ) (count : ℕ) : Type 0 where
  pub front : List ℕ
  pub done : List (List ℕ)
  pub whole : text ≡ front ++ behind
  pub all : lines text ≡ done ++ lines behind
  pub none : All IsInner done
  pub size : count ≡ length done
  -- the front is these lines, each with its end, or it is all
  pub rows : IsRows front done ⊎ ((behind ≡ []) × (lines front ≡ done))

pub past_start : (text : List ℕ) → Past text text 0
past_start text =
    record { front = []; done = []; whole = refl; all = refl; none = All-nil IsInner; size = refl; rows = inl no_rows }

-- the lines of the front
pub past_lines : (text behind : List ℕ) (count : ℕ) (p : Past text behind count) → lines p.front ≡ p.done
past_lines text behind count p = elim p.rows [ inl r ↦ rows_alone p.front p.done r | inr r ↦ r.1 ]

lines_numbered : (n : ℕ) (xs ys : List (List ℕ))
    → lines_from n (xs ++ ys) ≡ lines_from n xs ++ lines_from (n + length xs) ys
lines_numbered n [] ys = ap (λ k. lines_from k ys) (omega arith)
lines_numbered n (x ∷ xs) ys =
    let first : Line = record { number = n; bytes = x } in
    ap (λ z. first ∷ z)
    (lines_numbered (n + 1) xs ys ∙ ap (λ k. lines_from (n + 1) xs ++ lines_from k ys) (omega arith))

numbered_length : (n : ℕ) (xs : List (List ℕ)) → length (lines_from n xs) ≡ length xs
numbered_length n [] = refl
numbered_length n (x ∷ xs) = ap suc (numbered_length (n + 1) xs)

-- ── the steps of a body that was cut off ──
cut_body_of : (n : ℕ) (body behind : List (List ℕ)) → All IsInner body
    → body_of (lines_from n (body ++ codes "end" ∷ behind)) ≡ lines_from n body
cut_body_of n [] behind h = refl
cut_body_of n (l ∷ body) behind h =
    let first : Line = record { number = n; bytes = l } in
    ap (λ b. if b then [] else first ∷ body_of (lines_from (n + 1) (body ++ codes "end" ∷ behind)))
    (All-head IsInner l body h)
    ∙ ap (λ z. first ∷ z) (cut_body_of (n + 1) body behind (All-tail IsInner l body h))

or_true : (a b : Bool) → b ≡ true → (a || b) ≡ true
or_true true b e = refl
or_true false b e = e

cut_ends : (n : ℕ) (body behind : List (List ℕ)) → has_end (lines_from n (body ++ codes "end" ∷ behind)) ≡ true
cut_ends n [] behind = refl
cut_ends n (l ∷ body) behind =
    or_true (is_end l) (has_end (lines_from (n + 1) (body ++ codes "end" ∷ behind))) (cut_ends (n + 1) body behind)

passed_over : (n : ℕ) (body behind : List (List ℕ)) → steps_from (suc (length body)) false (lines_from n
    (body ++ codes "end" ∷ behind)) ≡ steps_from 0 false (lines_from (n + length body + 1) behind)
passed_over n [] behind = ap (λ k. steps_from 0 false (lines_from k behind)) (omega arith)
passed_over n (l ∷ body) behind =
    passed_over (n + 1) body behind ∙ ap (λ k. steps_from 0 false (lines_from k behind)) (omega arith)

pub cut_steps : (n count : ℕ) (l : Line) (ls : List Line) (text body behind : List (List ℕ)) → ls ≡ lines_from n text
    → IsCut text body behind → count ≡ length body
    → definition l (lines_from n body) ∷ steps_from 0 false (lines_from (n + count + 1) behind)
    ≡ defined_steps (has_end ls) l (body_of ls) (steps_from (suc (length (body_of ls))) false ls)
cut_steps n count l ls text body behind e c k =
    let whole : ls ≡ lines_from n (body ++ codes "end" ∷ behind) = e ∙ ap (lines_from n) c.0 in
    let same : body_of ls ≡ lines_from n body = ap body_of whole ∙ cut_body_of n body behind c.1 in
    let rest : steps_from (suc (length (body_of ls))) false ls
    ≡ steps_from 0 false (lines_from (n + count + 1) behind) =
    ap (λ z. steps_from (suc (length z)) false ls) same
    ∙ ap (λ m. steps_from (suc m) false ls) (numbered_length n body)
    ∙ ap (λ z. steps_from (suc (length body)) false z) whole
    ∙ passed_over n body behind
    ∙ ap (λ m. steps_from 0 false (lines_from (n + m + 1) behind)) (sym k) in
    sym (
    ap (λ b. defined_steps b l (body_of ls) (steps_from (suc (length (body_of ls))) false ls))
    (ap has_end whole ∙ cut_ends n body behind)
    ∙ ap (λ z. definition l z ∷ steps_from (suc (length (body_of ls))) false ls) same
    ∙ ap (λ z. definition l (lines_from n body) ∷ z) rest
    )

pub no_end_in : (n : ℕ) (text : List (List ℕ)) → All IsInner text → has_end (lines_from n text) ≡ false
no_end_in n [] h = refl
no_end_in n (l ∷ text) h = ap (λ b. b || has_end (lines_from (n + 1) text)) (All-head IsInner l text h)
    ∙ no_end_in (n + 1) text (All-tail IsInner l text h)

pub stray_steps : (n : ℕ) (l : Line) (ls : List Line) (text : List (List ℕ)) → ls ≡ lines_from n text → All IsInner text
    → stray l ∷ [] ≡ defined_steps (has_end ls) l (body_of ls) (steps_from (suc (length (body_of ls))) false ls)
stray_steps n l ls text e h = ap (λ b. defined_steps b l (body_of ls) (steps_from (suc (length (body_of ls))) false ls))
    (sym (ap has_end e ∙ no_end_in n text h))

-- one line more
pub past_more : (text behind line rest : List ℕ) (count : ℕ) → Past text behind count → IsCutOff behind line rest
    → lines behind ≡ line ∷ lines rest → is_end line ≡ false → Past text rest (count + 1)
past_more text behind line rest count p (inl (front, cut, free, stripped)) e inner = record {
  front = p.front ++ (front ++ 10 ∷ []);
  done = p.done ++ line ∷ [];
  whole = p.whole ∙ ap (λ z. p.front ++ z) (cut ∙ sym (append_assoc front (10 ∷ []) rest))
      ∙ sym (append_assoc p.front (front ++ 10 ∷ []) rest);
  all = p.all ∙ ap (λ z. p.done ++ z) e ∙ sym (append_assoc p.done (line ∷ []) (lines rest));
  none = All-push IsInner p.done line p.none inner;
  size = omega (arith, p.size, length-append p.done (line ∷ []));
  rows = elim p.rows [
    | inl r ↦ inl (subst (λ z. IsRows (p.front ++ (front ++ 10 ∷ [])) (p.done ++ z ∷ [])) (sym stripped)
        (rows_push p.front p.done front r free))
    | inr r ↦ absurd (let z : 0 ≡ length front + suc (length rest) =
        ap length (sym r.0 ∙ cut) ∙ length-append front (10 ∷ rest) in omega (arith, z))
  ];
}
past_more text behind line rest count p (inr (same, over)) e inner = record {
  front = text;
  done = p.done ++ line ∷ [];
  whole = sym (append-nil text) ∙ ap (λ z. text ++ z) (sym over);
  all = all;
  none = All-push IsInner p.done line p.none inner;
  size = omega (arith, p.size, length-append p.done (line ∷ []));
  rows = inr (over, all ∙ ap (λ z. (p.done ++ line ∷ []) ++ lines z) over ∙ append-nil (p.done ++ line ∷ []));
}
  where
    all : lines text ≡ (p.done ++ line ∷ []) ++ lines rest
    all = p.all ∙ ap (λ z. p.done ++ z) e ∙ sym (append_assoc p.done (line ∷ []) (lines rest))

-- the body that was read
pub past_cut : (text behind line rest body : List ℕ) (count : ℕ) (p : Past text behind count)
    → body ≡ p.front → lines behind ≡ line ∷ lines rest → line ≡ codes "end"
    → IsCut (lines text) (lines body) (lines rest) × (count ≡ length (lines body))
past_cut text behind line rest body count p is e end =
    let same : lines body ≡ p.done = ap lines is ∙ past_lines text behind count p in (
      (
        p.all ∙ ap (λ z. p.done ++ z) e ∙ ap (λ z. p.done ++ z ∷ lines rest) end
            ∙ ap (λ z. z ++ codes "end" ∷ lines rest) (sym same),
        subst (All IsInner) (sym same) p.none,
      ),
      p.size ∙ ap length (sym same),
    )

pub past_front : (text behind : List ℕ) (count : ℕ) (p : Past text behind count)
    → length p.front + length behind ≡ length text
past_front text behind count p = sym (length-append p.front behind) ∙ ap length (sym p.whole)

-- the front is what is not left
pub front_of : (text behind : List ℕ) (count : ℕ) (p : Past text behind count)
    → take (length text - length behind) text ≡ p.front
front_of text behind count p =
    ap (λ n. take n text)
    (let e : length text - length behind ≡ length p.front = omega (arith, past_front text behind count p) in e)
    ∙ ap (λ z. take (length p.front) z) p.whole
    ∙ take-append_seam p.front behind
