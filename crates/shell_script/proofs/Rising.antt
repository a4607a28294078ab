-- Steps are in the order of their lines.
use Rattle.std.proofs.Common.{◌≡◌, ℕ, zero, suc, ◌+◌, ◌≤◌, Bool, true, false, if◌then◌else◌, List, [], ◌∷◌, length}
use Rattle.std.proofs.Common.{arith, refl}
use Rattle.shell_script.specs.Lines.{Line, lines_from}
use Rattle.shell_script.specs.Steps.{Step}
use Rattle.shell_script.specs.StepsOf.{is_skipped, role, body_of, has_end, defined_steps, steps_at, steps_from}
use Rattle.shell_script.specs.Says.{line_of}
use Rattle.shell_script.specs.declared.script.Role.{Role}
use Rattle.shell_script.specs.declared.script.Role.TheVariants.{Alone, Opening, Inner, Closing}

abbrev pub number_of : Step → ℕ
number_of s = (line_of s).number

-- each step's line has this number at least, and a later step's has a higher one
abbrev pub Rise : ℕ → List Step → Type 0
Rise n [] = Unit {0}
Rise n (s ∷ ss) = (n ≤ number_of s) × Rise (number_of s + 1) ss

pub rise_lower : (m n : ℕ) (ss : List Step) → m ≤ n → Rise n ss → Rise m ss
rise_lower m n [] le h = tt
rise_lower m n (s ∷ ss) le h = (omega (arith, le, h.0), h.1)

rise_defined : (b : Bool) (n : ℕ) (l : Line) (body : List Line) (behind : List Step) → l.number ≡ n
    → Rise (n + 1) behind → Rise n (defined_steps b l body behind)
rise_defined true n l body behind e h =
    (omega (arith, e), rise_lower (l.number + 1) (n + 1) behind (omega (arith, e)) h)
rise_defined false n l body behind e h = (omega (arith, e), tt)

rise_at : (r : Role) (n : ℕ) (l : Line) (ls : List Line) (outside inside behind : List Step) → l.number ≡ n
    → Rise (n + 1) outside → Rise (n + 1) inside → Rise (n + 1) behind → Rise n (steps_at r l ls outside inside behind)
rise_at Alone n l ls outside inside behind e a b c =
    (omega (arith, e), rise_lower (l.number + 1) (n + 1) outside (omega (arith, e)) a)
rise_at Opening n l ls outside inside behind e a b c = rise_defined (has_end ls) n l (body_of ls) behind e c
rise_at Inner n l ls outside inside behind e a b c =
    (omega (arith, e), rise_lower (l.number + 1) (n + 1) inside (omega (arith, e)) b)
rise_at Closing n l ls outside inside behind e a b c =
    (omega (arith, e), rise_lower (l.number + 1) (n + 1) outside (omega (arith, e)) a)

rise_either : (b : Bool) (n : ℕ) (xs ys : List Step) → Rise n xs → Rise n ys → Rise n (if b then xs else ys)
rise_either true n xs ys h k = h
rise_either false n xs ys h k = k

pub steps_rise : (k : ℕ) (within : Bool) (n : ℕ) (texts : List (List ℕ))
    → Rise n (steps_from k within (lines_from n texts))
steps_rise zero within n [] = tt
steps_rise (suc k) within n [] = tt
steps_rise (suc k) within n (t ∷ ts) =
    rise_lower n (n + 1) (steps_from k within (lines_from (n + 1) ts)) (omega arith) (steps_rise k within (n + 1) ts)
steps_rise zero within n (t ∷ ts) =
    let l : Line = record { number = n; bytes = t } in
    let ls : List Line = lines_from (n + 1) ts in
    rise_either (is_skipped t) n (steps_from 0 within ls) (steps_at (role within t) l ls (steps_from 0 false ls)
    (steps_from 0 true ls) (steps_from (suc (length (body_of ls))) false ls))
    (rise_lower n (n + 1) (steps_from 0 within ls) (omega arith) (steps_rise 0 within (n + 1) ts))
    (rise_at (role within t) n l ls (steps_from 0 false ls) (steps_from 0 true ls)
    (steps_from (suc (length (body_of ls))) false ls) refl (steps_rise 0 false (n + 1) ts)
    (steps_rise 0 true (n + 1) ts) (steps_rise (suc (length (body_of ls))) false (n + 1) ts))
