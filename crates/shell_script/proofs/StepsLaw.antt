-- A script has exactly one list of steps.
use Rattle.std.proofs.Common.{◌≡◌, inl, inr, ℕ, zero, suc, ◌≤◌, ◌||◌, Bool, true, false, cond, if◌then◌else◌, List, []}
use Rattle.std.proofs.Common.{◌∷◌, ◌++◌, length, length-append, codes, arith, refl, sym, ◌∙◌, ap, subst}
use Rattle.std.specs.List.{All}
use Rattle.std.proofs.lemmas.List.Elements.{All-nil, All-cons, All-head, All-tail, All-weaker}
use Rattle.std.proofs.lemmas.List.Folds.{list_any_none}
use Rattle.shell_script.specs.Lines.{Line, script_lines}
use Rattle.shell_script.specs.Grammar.{IsSkipped}
use Rattle.shell_script.specs.Steps.{IsEnd, OpensDefinition, OpensBlock, HasBody, Step, single, definition, stray}
use Rattle.shell_script.specs.Steps.{AreSteps, over, skips, stands, defines, breaks_off, opens, goes_on, closes}
use Rattle.shell_script.specs.StepsOf.{is_skipped, is_end, opens_definition, opens_block, role_outside, role, body_of}
use Rattle.shell_script.specs.StepsOf.{has_end, defined_steps, steps_at, steps_from, OneReading}
use Rattle.shell_script.specs.declared.script.Role.{Role}
use Rattle.shell_script.specs.declared.script.Role.TheVariants.{Alone, Opening, Inner, Closing}
use Rattle.shell_script.proofs.FirstTokens.{heads_differ}
use Rattle.shell_script.proofs.Openings.{first_is, skipped_true, true_skipped, end_true, true_end, definition_true}
use Rattle.shell_script.proofs.Openings.{true_definition, block_true, true_block, false_is, no_true}

-- ── a line ──
pub steps_skip : (w : Bool) (l : Line) (ls : List Line) → is_skipped l.bytes ≡ true
    → steps_from 0 w (l ∷ ls) ≡ steps_from 0 w ls
steps_skip w l ls e =
    ap (λ b. if b then steps_from 0 w ls else steps_at (role w l.bytes) l ls (steps_from 0 false ls) (steps_from 0 true
    ls) (steps_from (suc (length (body_of ls))) false ls)) e

pub steps_counted : (w : Bool) (l : Line) (ls : List Line) (r : Role) → is_skipped l.bytes ≡ false → role w l.bytes ≡ r
    → steps_from 0 w (l ∷ ls) ≡ steps_at r l ls (steps_from 0 false ls) (steps_from 0 true ls)
    (steps_from (suc (length (body_of ls))) false ls)
steps_counted w l ls r e f =
    ap (λ b. if b then steps_from 0 w ls else steps_at (role w l.bytes) l ls (steps_from 0 false ls) (steps_from 0 true
    ls) (steps_from (suc (length (body_of ls))) false ls)) e
    ∙ ap (λ x. steps_at x l ls (steps_from 0 false ls) (steps_from 0 true ls)
    (steps_from (suc (length (body_of ls))) false ls)) f

role_is : (l : Line) (b d : Bool) → opens_block l.bytes ≡ b → opens_definition l.bytes ≡ d
    → role false l.bytes ≡ role_outside b d
role_is l b d e f = ap (λ x. role_outside x (opens_definition l.bytes)) e ∙ ap (λ x. role_outside b x) f

inner_is : (l : Line) (b : Bool) → is_end l.bytes ≡ b → role true l.bytes ≡ (if b then Closing else Inner)
inner_is l b e = ap (λ x. if x then Closing else Inner) e

-- no line opens a definition and a block
defines_no_block : (l : Line) → OpensDefinition l → OpensBlock l → ⊥
defines_no_block l (inl h) k = heads_differ (codes "dictionary") (codes "parallel") refl
    (sym (first_is l.bytes (codes "dictionary") h.0 h.1) ∙ first_is l.bytes (codes "parallel") k.0 k.1)
defines_no_block l (inr h) k = heads_differ (codes "configuration") (codes "parallel") refl
    (sym (first_is l.bytes (codes "configuration") h.0 h.1) ∙ first_is l.bytes (codes "parallel") k.0 k.1)

unskipped : (l : Line) → ¬ IsSkipped l.bytes → is_skipped l.bytes ≡ false
unskipped l n = false_is (is_skipped l.bytes) (λ e. n (true_skipped l.bytes e))

-- ── a body ──
abbrev IsInside : Line → Type 0
IsInside l = ¬ IsEnd l

pub inside_false : (l : Line) → IsInside l → is_end l.bytes ≡ false
inside_false l n = false_is (is_end l.bytes) (λ e. n (true_end l e))

pub body_is : (body rest : List Line) (last : Line) → All IsInside body → is_end last.bytes ≡ true
    → body_of (body ++ last ∷ rest) ≡ body
body_is [] rest last h e = ap (λ b. if b then [] else last ∷ body_of rest) e
body_is (l ∷ body) rest last h e =
    ap (λ b. if b then [] else l ∷ body_of (body ++ last ∷ rest)) (inside_false l (All-head IsInside l body h))
    ∙ ap (λ z. l ∷ z) (body_is body rest last (All-tail IsInside l body h) e)

or_true : (a b : Bool) → b ≡ true → (a || b) ≡ true
or_true true b e = refl
or_true false b e = e

pub ends : (body rest : List Line) (last : Line) → is_end last.bytes ≡ true → has_end (body ++ last ∷ rest) ≡ true
ends [] rest last e = ap (λ b. b || has_end rest) e
ends (l ∷ body) rest last e = or_true (is_end l.bytes) (has_end (body ++ last ∷ rest)) (ends body rest last e)

pub ends_not : (ls : List Line) → All IsInside ls → has_end ls ≡ false
ends_not ls h = list_any_none (λ (l : Line). is_end l.bytes) ls
    (All-weaker IsInside (λ (l : Line). is_end l.bytes ≡ false) (λ l n. inside_false l n) ls h)

-- a body and its end are passed over
pub passed : (w : Bool) (body rest : List Line) (last : Line)
    → steps_from (suc (length body)) w (body ++ last ∷ rest) ≡ steps_from 0 w rest
passed w [] rest last = refl
passed w (l ∷ body) rest last = passed w body rest last

pub found_end : (ls : List Line) → has_end ls ≡ true → (rest : List Line) × HasBody ls (body_of ls) rest
found_end [] e = cc
found_end (l ∷ ls) e = by (is_end l.bytes) refl e (found_end ls)
  where
    more : is_end l.bytes ≡ false → (rest : List Line) × HasBody ls (body_of ls) rest
        → (rest : List Line) × HasBody (l ∷ ls) (l ∷ body_of ls) rest
    more f (rest, b) = (
      rest,
      record {
        last = b.last;
        is_end = b.is_end;
        lines = ap (λ z. l ∷ z) b.lines;
        before = All-cons IsInside l (body_of ls) (λ k. no_true (is_end l.bytes) f (end_true l k)) b.before;
      },
    )

    by : (x : Bool) → is_end l.bytes ≡ x → (x || has_end ls) ≡ true
        → (has_end ls ≡ true → (rest : List Line) × HasBody ls (body_of ls) rest)
        → (rest : List Line) × HasBody (l ∷ ls) (cond x [] (l ∷ body_of ls)) rest
    by true f g k = (ls, record { last = l; is_end = true_end l f; lines = refl; before = All-nil IsInside })
    by false f g k = more f (k g)

pub none_ends : (ls : List Line) → has_end ls ≡ false → All IsInside ls
none_ends [] e = All-nil IsInside
none_ends (l ∷ ls) e = by (is_end l.bytes) refl e (none_ends ls)
  where
    by : (x : Bool) → is_end l.bytes ≡ x → (x || has_end ls) ≡ false → (has_end ls ≡ false → All IsInside ls)
        → All IsInside (l ∷ ls)
    by true f g k = cc
    by false f g k = All-cons IsInside l ls (λ e. no_true (is_end l.bytes) f (end_true l e)) (k g)

-- ── the law ──
complete : (w : Bool) (ls : List Line) (ss : List Step) → AreSteps w ls ss → ss ≡ steps_from 0 w ls
complete w ls ss (over v) = refl
complete w ls ss (skips v l ms ts s h) = complete v ms ts h ∙ sym (steps_skip v l ms (skipped_true l.bytes s))
complete w ls ss (stands l ms ts n d b h) =
    ap (λ z. single l ∷ z) (complete false ms ts h)
    ∙ sym (steps_counted false l ms Alone (unskipped l n) (role_is l false false (false_is (opens_block l.bytes)
    (λ e. b (true_block l e))) (false_is (opens_definition l.bytes) (λ e. d (true_definition l e)))))
complete w ls ss (defines l ms body rest ts n d b h) =
    let open_role : role false l.bytes ≡ Opening = role_is l false true
    (false_is (opens_block l.bytes) (λ e. defines_no_block l d (true_block l e))) (definition_true l d) in
    let whole : ms ≡ body ++ b.last ∷ rest = b.lines in
    let is_end : is_end b.last.bytes ≡ true = end_true b.last b.is_end in
    let same : body_of ms ≡ body = ap body_of whole ∙ body_is body rest b.last b.before is_end in
    let some : has_end ms ≡ true = ap has_end whole ∙ ends body rest b.last is_end in
    let behind : steps_from (suc (length (body_of ms))) false ms ≡ steps_from 0 false rest =
    ap (λ z. steps_from (suc (length z)) false ms) same ∙ ap (λ z. steps_from (suc (length body)) false z) whole
    ∙ passed false body rest b.last in
    ap (λ z. definition l body ∷ z) (complete false rest ts h ∙ sym behind)
    ∙ ap (λ z. definition l z ∷ steps_from (suc (length (body_of ms))) false ms) (sym same)
    ∙ ap (λ x. defined_steps x l (body_of ms) (steps_from (suc (length (body_of ms))) false ms)) (sym some)
    ∙ sym (steps_counted false l ms Opening (unskipped l n) open_role)
complete w ls ss (breaks_off l ms n d none) =
    let open_role : role false l.bytes ≡ Opening = role_is l false true
    (false_is (opens_block l.bytes) (λ e. defines_no_block l d (true_block l e))) (definition_true l d) in
    ap (λ x. defined_steps x l (body_of ms) (steps_from (suc (length (body_of ms))) false ms)) (sym (ends_not ms none))
    ∙ sym (steps_counted false l ms Opening (unskipped l n) open_role)
complete w ls ss (opens l ms ts n b h) =
    ap (λ z. stray l ∷ z) (complete true ms ts h)
    ∙ sym (steps_counted false l ms Inner (unskipped l n)
    (ap (λ x. role_outside x (opens_definition l.bytes)) (block_true l b)))
complete w ls ss (goes_on l ms ts n e h) =
    ap (λ z. stray l ∷ z) (complete true ms ts h)
    ∙ sym (steps_counted true l ms Inner (unskipped l n) (inner_is l false (inside_false l e)))
complete w ls ss (closes l ms ts n e h) =
    ap (λ z. stray l ∷ z) (complete false ms ts h)
    ∙ sym (steps_counted true l ms Closing (unskipped l n) (inner_is l true (end_true l e)))

-- what the steps after a line are known to be
record Behind (n : ℕ) : Type 0 where
  are : (w : Bool) (ls : List Line) → length ls ≤ n → AreSteps w ls (steps_from 0 w ls)

-- the steps from a line on, by each of the tests
outside_role : (n : ℕ) (l : Line) (ls : List Line) → Behind n → length ls ≤ n → ¬ IsSkipped l.bytes → (b d e : Bool)
    → opens_block l.bytes ≡ b → opens_definition l.bytes ≡ d → has_end ls ≡ e
    → AreSteps false (l ∷ ls) (steps_at (role_outside b d) l ls (steps_from 0 false ls) (steps_from 0 true ls)
    (steps_from (suc (length (body_of ls))) false ls))
outside_role n l ls k le s true d e f g h = opens l ls (steps_from 0 true ls) s (true_block l f) (k.are true ls le)
outside_role n l ls k le s false false e f g h =
    stands l ls (steps_from 0 false ls) s (λ o. no_true (opens_definition l.bytes) g (definition_true l o))
    (λ o. no_true (opens_block l.bytes) f (block_true l o)) (k.are false ls le)
outside_role n l ls k le s false true true f g h =
    let found = found_end ls h in
    let body : HasBody ls (body_of ls) found.0 = found.1 in
    let short : length found.0 ≤ n =
    omega (arith, le, ap length body.lines, length-append (body_of ls) (body.last ∷ found.0)) in
    let behind : steps_from (suc (length (body_of ls))) false ls ≡ steps_from 0 false found.0 =
    ap (λ z. steps_from (suc (length (body_of ls))) false z) body.lines ∙ passed false (body_of ls) found.0 body.last in
    subst (λ x. AreSteps false (l ∷ ls)
    (defined_steps x l (body_of ls) (steps_from (suc (length (body_of ls))) false ls))) (sym h)
    (subst (λ z. AreSteps false (l ∷ ls) (definition l (body_of ls) ∷ z)) (sym behind) (defines l ls
    (body_of ls) found.0 (steps_from 0 false found.0) s (true_definition l g) body (k.are false found.0 short)))
outside_role n l ls k le s false true false f g h =
    subst (λ x. AreSteps false (l ∷ ls)
    (defined_steps x l (body_of ls) (steps_from (suc (length (body_of ls))) false ls))) (sym h)
    (breaks_off l ls s (true_definition l g) (none_ends ls h))

inside_role : (n : ℕ) (l : Line) (ls : List Line) → Behind n → length ls ≤ n → ¬ IsSkipped l.bytes → (b : Bool)
    → is_end l.bytes ≡ b
    → AreSteps true (l ∷ ls) (steps_at (if b then Closing else Inner) l ls (steps_from 0 false ls)
    (steps_from 0 true ls) (steps_from (suc (length (body_of ls))) false ls))
inside_role n l ls k le s true e = closes l ls (steps_from 0 false ls) s (true_end l e) (k.are false ls le)
inside_role n l ls k le s false e =
    goes_on l ls (steps_from 0 true ls) s (λ o. no_true (is_end l.bytes) e (end_true l o)) (k.are true ls le)

by_role : (n : ℕ) (w : Bool) (l : Line) (ls : List Line) → Behind n → length ls ≤ n → ¬ IsSkipped l.bytes
    → AreSteps w (l ∷ ls) (steps_at (role w l.bytes) l ls (steps_from 0 false ls) (steps_from 0 true ls)
    (steps_from (suc (length (body_of ls))) false ls))
by_role n true l ls k le s = inside_role n l ls k le s (is_end l.bytes) refl
by_role n false l ls k le s =
    outside_role n l ls k le s (opens_block l.bytes) (opens_definition l.bytes) (has_end ls) refl refl refl

by_skip : (n : ℕ) (w : Bool) (l : Line) (ls : List Line) → Behind n → length ls ≤ n → (b : Bool)
    → is_skipped l.bytes ≡ b
    → AreSteps w (l ∷ ls) (if b then steps_from 0 w ls else steps_at (role w l.bytes) l ls (steps_from 0 false ls)
    (steps_from 0 true ls) (steps_from (suc (length (body_of ls))) false ls))
by_skip n w l ls k le true e = skips w l ls (steps_from 0 w ls) (true_skipped l.bytes e) (k.are w ls le)
by_skip n w l ls k le false e = by_role n w l ls k le (λ s. no_true (is_skipped l.bytes) e (skipped_true l.bytes s))

behind : (n : ℕ) → Behind n
behind zero = record { are = by }
  where
    by : (w : Bool) (ls : List Line) → length ls ≤ 0 → AreSteps w ls (steps_from 0 w ls)
    by w [] le = over w
    by w (l ∷ ls) le = absurd (omega (arith, le))
behind (suc n) = record { are = by (behind n) }
  where
    by : Behind n → (w : Bool) (ls : List Line) → length ls ≤ suc n → AreSteps w ls (steps_from 0 w ls)
    by k w [] le = over w
    by k w (l ∷ ls) le = by_skip n w l ls k (omega (arith, le)) (is_skipped l.bytes) refl

pub sound : (w : Bool) (ls : List Line) → AreSteps w ls (steps_from 0 w ls)
sound w ls = (behind (length ls)).are w ls (omega arith)

pub one_reading : OneReading
one_reading text ss = (
  λ h. complete false (script_lines text) ss h,
  λ e. subst (AreSteps false (script_lines text)) (sym e) (sound false (script_lines text)),
)
