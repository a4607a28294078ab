-- Values that are read one after the other, as a loop reads them.
use Rattle.std.proofs.Common.{◌≡◌, ℕ, suc, ◌-◌, ◌+◌, ◌≤◌, ◌<◌, List, [], ◌∷◌, ◌++◌, Ok, Err, sym, ap, ◌∙◌, arith}
use Rattle.page_types.specs.declared.fields.ReadError.{ReadError}
use Rattle.page_types.specs.declared.fields.ReadError.TheVariants.{OutOfMemory, Fault}
use Rattle.page_types.specs.Fields.{◌>>=◌, Fails}
use Rattle.page_code.specs.Fields.{Read, each_at}

one_less : {A M : Type 0} (read : M → ℕ → List ℕ → Read A) (mark : A → M) (last : M) (left : ℕ) (before : List A)
    (bytes : List ℕ) (x : A) (after : List ℕ) → read last left bytes ≡ Ok (x, after)
    → each_at read mark last (suc left) before bytes ≡ each_at read mark (mark x) left (before ++ x ∷ []) after
unfolding each_at
one_less {A} read mark last left before bytes x after h =
    ap (λ (r : Read A). r >>= λ y. each_at read mark (mark y.0) left (before ++ y.0 ∷ []) y.1) h

pub goes_on : {A M : Type 0} (read : M → ℕ → List ℕ → Read A) (mark : A → M) (last next : M) (count i : ℕ)
    (before : List A) (bytes : List ℕ) (x : A) (after : List ℕ) (total : Read (List A)) → i < count
    → read last (count - 1 - i) bytes ≡ Ok (x, after) → next ≡ mark x → each_at read mark last (count - i) before bytes
    ≡ total → each_at read mark next (count - (i + 1)) (before ++ x ∷ []) after ≡ total
goes_on read mark last next count i before bytes x after total lt h is so_far =
    let k : count - i ≡ suc (count - 1 - i) = omega arith in
    let n : count - (i + 1) ≡ count - 1 - i = omega arith in
    ap (λ m. each_at read mark m (count - (i + 1)) (before ++ x ∷ []) after) is
    ∙ ap (λ n. each_at read mark (mark x) n (before ++ x ∷ []) after) n
    ∙ sym (one_less read mark last (count - 1 - i) before bytes x after h)
    ∙ ap (λ n. each_at read mark last n before bytes) (sym k) ∙ so_far

stops : {A M : Type 0} (read : M → ℕ → List ℕ → Read A) (mark : A → M) (last : M) (left f : ℕ) (before : List A)
    (bytes : List ℕ) → read last left bytes ≡ Err f → each_at read mark last (suc left) before bytes ≡ Err f
unfolding each_at
stops {A} read mark last left f before bytes h =
    ap (λ (r : Read A). r >>= λ y. each_at read mark (mark y.0) left (before ++ y.0 ∷ []) y.1) h

pub ends : {A M : Type 0} (read : M → ℕ → List ℕ → Read A) (mark : A → M) (e : ReadError) (last : M) (count i : ℕ)
    (before : List A) (bytes : List ℕ) (total : Read (List A)) → i < count
    → Fails e (read last (count - 1 - i) bytes) → each_at read mark last (count - i) before bytes ≡ total
    → Fails e total
ends read mark OutOfMemory last count i before bytes total lt h so_far = tt
ends read mark (Fault f) last count i before bytes total lt h so_far =
    let k : count - i ≡ suc (count - 1 - i) = omega arith in
    sym so_far ∙ ap (λ n. each_at read mark last n before bytes) k
    ∙ stops read mark last (count - 1 - i) f before bytes h

pub is_done : {A M : Type 0} (read : M → ℕ → List ℕ → Read A) (mark : A → M) (last : M) (count i : ℕ) (before : List A)
    (bytes : List ℕ) (total : Read (List A)) → count ≤ i → each_at read mark last (count - i) before bytes ≡ total
    → total ≡ Ok (before, bytes)
unfolding each_at
is_done read mark last count i before bytes total le so_far =
    let k : count - i ≡ 0 = omega arith in
    sym so_far ∙ ap (λ n. each_at read mark last n before bytes) k
