-- What is made of the lines of a body, taken one after another.
use Rattle.std.specs.Prelude.{not}
use Rattle.std.proofs.Common.{◌≡◌, inl, inr, ℕ, cond, ap, List, [], ◌∷◌, ◌++◌, append_assoc, refl, sym, subst}
use Rattle.std.specs.List.{All}
use Rattle.std.proofs.lemmas.List.{append-nil}
use Rattle.std.proofs.lemmas.List.Elements.{All-nil, All-cons}
use Rattle.shell_script.specs.Lines.{Line}
use Rattle.shell_script.specs.Grammar.{IsSkipped}
use Rattle.shell_script.specs.Replies.{Refusal}
use Rattle.shell_script.specs.StepsOf.{is_skipped}
use Rattle.shell_script.specs.Says.{counted_lines}
use Rattle.shell_script.proofs.Openings.{skipped_true, true_skipped, false_is}
use Rattle.shell_run.specs.Defining.{bytes_of}
use Rattle.shell_run.specs.Inner.Bodies.{TakesAll, RefusesOne}
use Rattle.shell_run.specs.Inner.Definitions.{IsMadeOf, LineBad, LinesBad}

counted_over : (l : Line) (ls : List Line) → IsSkipped l.bytes → counted_lines (l ∷ ls) ≡ counted_lines ls
counted_over l ls h = ap (λ b. cond (not b) (l ∷ counted_lines ls) (counted_lines ls)) (skipped_true l.bytes h)

counted_with : (l : Line) (ls : List Line) → ¬ IsSkipped l.bytes → counted_lines (l ∷ ls) ≡ l ∷ counted_lines ls
counted_with l ls n = ap (λ b. cond (not b) (l ∷ counted_lines ls) (counted_lines ls))
    (false_is (is_skipped l.bytes) (λ e. n (true_skipped l.bytes e)))

module _ {V : Type 0} (takes : Line → V → V → Type 0) (refuses : Line → V → Refusal → Type 0) where
  -- some lines were taken, and these are left
  pub record LinesTaken (body left : List Line) (old now : V) : Type 0 where
    pub goes_on : (new : V) → TakesAll takes (counted_lines left) now new
        → TakesAll takes (counted_lines body) old new
    pub fails : (why : Refusal) → RefusesOne takes refuses (counted_lines left) now why
        → RefusesOne takes refuses (counted_lines body) old why

  pub taken_start : (body : List Line) (old : V) → LinesTaken body body old old
  taken_start body old = record { goes_on = λ new h. h; fails = λ why h. h }

  pub taken_over : (body left : List Line) (l : Line) (old now : V)
      → LinesTaken body (l ∷ left) old now → IsSkipped l.bytes → LinesTaken body left old now
  taken_over body left l old now p h = record {
    goes_on = λ new k. p.goes_on new (subst (λ z. TakesAll takes z now new) (sym (counted_over l left h)) k);
    fails = λ why k. p.fails why (subst (λ z. RefusesOne takes refuses z now why) (sym (counted_over l left h)) k);
  }

  pub taken_more : (body left : List Line) (l : Line) (old now next : V)
      → LinesTaken body (l ∷ left) old now → ¬ IsSkipped l.bytes → takes l now next
      → LinesTaken body left old next
  taken_more body left l old now next p n h = record {
    goes_on = λ new k. p.goes_on new
        (subst (λ z. TakesAll takes z now new) (sym (counted_with l left n)) (next, h, k));
    fails = λ why k. p.fails why
        (subst (λ z. RefusesOne takes refuses z now why) (sym (counted_with l left n)) (inr (next, h, k)));
  }

  pub taken_end : (body : List Line) (old now : V) → LinesTaken body [] old now
      → TakesAll takes (counted_lines body) old now
  taken_end body old now p = p.goes_on now refl

  pub taken_fail : (body left : List Line) (l : Line) (old now : V) (why : Refusal)
      → LinesTaken body (l ∷ left) old now → ¬ IsSkipped l.bytes → refuses l now why
      → RefusesOne takes refuses (counted_lines body) old why
  taken_fail body left l old now why p n h = p.fails why
      (subst (λ z. RefusesOne takes refuses z now why) (sym (counted_with l left n)) (inl h))

  -- what a line makes of what was made of others, and that it is bad where it is refused
  pub record AreMade (IsBad : Line → Type 0) (Made : List (List ℕ) → V → Type 0) : Type 0 where
    pub more : (l : Line) (ls : List (List ℕ)) (old new : V) → takes l old new → Made ls old
        → (¬ IsBad l) × Made (ls ++ l.bytes ∷ []) new
    pub fails : (l : Line) (ls : List (List ℕ)) (old : V) (why : Refusal) → Made ls old
        → refuses l old why → LineBad IsBad l why

  module _ (IsBad : Line → Type 0) (Made : List (List ℕ) → V → Type 0) (are : AreMade IsBad Made) where
    made_all : (done : List (List ℕ)) (ls : List Line) (old new : V) → Made done old
        → TakesAll takes ls old new → All (λ (l : Line). ¬ IsBad l) ls × Made (done ++ bytes_of ls) new
    made_all done [] old new m same = (
      All-nil (λ (l : Line). ¬ IsBad l),
      subst (λ z. Made z new) (sym (append-nil done)) (subst (Made done) (sym same) m),
    )
    made_all done (l ∷ ls) old new m t =
        let k = are.more l done old t.0 t.1 m in
        let rest = made_all (done ++ l.bytes ∷ []) ls t.0 new k.1 t.2 in (
          All-cons (λ (l : Line). ¬ IsBad l) l ls k.0 rest.0,
          subst (λ z. Made z new) (append_assoc done (l.bytes ∷ []) (bytes_of ls)) rest.1,
        )

    pub made_of : (ls : List Line) (old new : V) → Made [] old → TakesAll takes ls old new
        → IsMadeOf IsBad Made ls new
    made_of ls old new m t = let k = made_all [] ls old new m t in record { good = k.0; made = k.1 }

    first_bad : (l : Line) (ls : List Line) (why : Refusal) → LineBad IsBad l why
        → LinesBad IsBad (l ∷ ls) why
    first_bad l ls why (inl e) = inl e
    first_bad l ls why (inr h) = inr (l.number, h.0, inl (h.1, refl))

    later_bad : (l : Line) (ls : List Line) (why : Refusal) → ¬ IsBad l → LinesBad IsBad ls why
        → LinesBad IsBad (l ∷ ls) why
    later_bad l ls why n (inl e) = inl e
    later_bad l ls why n (inr h) = inr (h.0, h.1, inr (n, h.2))

    refused_all : (done : List (List ℕ)) (ls : List Line) (old : V) (why : Refusal) → Made done old
        → RefusesOne takes refuses ls old why → LinesBad IsBad ls why
    refused_all done [] old why m f = absurd f
    refused_all done (l ∷ ls) old why m (inl f) = first_bad l ls why (are.fails l done old why m f)
    refused_all done (l ∷ ls) old why m (inr f) =
        let k = are.more l done old f.0 f.1 m in
        later_bad l ls why k.0 (refused_all (done ++ l.bytes ∷ []) ls f.0 why k.1 f.2)

    pub refused_of : (ls : List Line) (old : V) (why : Refusal) → Made [] old
        → RefusesOne takes refuses ls old why → LinesBad IsBad ls why
    refused_of = refused_all []
