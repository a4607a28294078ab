-- Changes that are read one after the other, as a loop reads them.
use Rattle.std.proofs.Common.{◌≡◌, ℕ, suc, ◌-◌, ◌+◌, ◌≤◌, ◌<◌, List, [], ◌∷◌, ◌++◌, Result, Ok, Err, sym, ap, ◌∙◌}
use Rattle.std.proofs.Common.{arith}
use Rattle.page_types.specs.declared.record.Change.{Change}
use Rattle.page_types.specs.declared.fields.ReadError.{ReadError}
use Rattle.page_types.specs.declared.fields.ReadError.TheVariants.{OutOfMemory, Fault}
use Rattle.page_types.specs.Fields.{◌>>=◌, Fails}
use Rattle.record_code.specs.Reading.{change_at, changes_at}

one_less : (number left : ℕ) (before : List Change) (bytes : List ℕ) (c : Change) (after : List ℕ)
    → change_at number before bytes ≡ Ok (c, after)
    → changes_at number (suc left) before bytes ≡ changes_at number left (before ++ c ∷ []) after
unfolding changes_at
one_less number left before bytes c after h =
    ap (λ (r : Result (Change × List ℕ) ℕ). r >>= λ x. changes_at number left (before ++ x.0 ∷ []) x.1) h

pub goes_on : (number count i : ℕ) (before : List Change) (bytes : List ℕ) (c : Change) (after : List ℕ)
    (total : Result (List Change × List ℕ) ℕ) → i < count
    → change_at number before bytes ≡ Ok (c, after) → changes_at number (count - i) before bytes ≡ total
    → changes_at number (count - (i + 1)) (before ++ c ∷ []) after ≡ total
goes_on number count i before bytes c after total lt h so_far =
    let k : count - i ≡ suc (count - (i + 1)) = omega arith in
    sym (one_less number (count - (i + 1)) before bytes c after h) ∙ ap (λ n. changes_at number n before bytes) (sym k)
    ∙ so_far

stops : (number left f : ℕ) (before : List Change) (bytes : List ℕ) → change_at number before bytes ≡ Err f
    → changes_at number (suc left) before bytes ≡ Err f
unfolding changes_at
stops number left f before bytes h =
    ap (λ (r : Result (Change × List ℕ) ℕ). r >>= λ x. changes_at number left (before ++ x.0 ∷ []) x.1) h

pub ends : (e : ReadError) (number count i : ℕ) (before : List Change) (bytes : List ℕ)
    (total : Result (List Change × List ℕ) ℕ) → i < count
    → Fails e (change_at number before bytes) → changes_at number (count - i) before bytes ≡ total → Fails e total
ends OutOfMemory number count i before bytes total lt h so_far = tt
ends (Fault f) number count i before bytes total lt h so_far =
    let k : count - i ≡ suc (count - (i + 1)) = omega arith in
    sym so_far ∙ ap (λ n. changes_at number n before bytes) k ∙ stops number (count - (i + 1)) f before bytes h

pub is_done : (number count i : ℕ) (before : List Change) (bytes : List ℕ) (total : Result (List Change × List ℕ) ℕ)
    → count ≤ i → changes_at number (count - i) before bytes ≡ total → total ≡ Ok (before, bytes)
unfolding changes_at
is_done number count i before bytes total le so_far =
    let k : count - i ≡ 0 = omega arith in
    sym so_far ∙ ap (λ n. changes_at number n before bytes) k
