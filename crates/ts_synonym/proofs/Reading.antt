-- A list of synonyms, line after line of a text.
use Rattle.std.proofs.Common.{◌≡◌, ℕ, ◌+◌, ◌≤◌, List, [], ◌∷◌, ◌++◌, Bool, length, refl, sym, ◌∙◌, ap, subst, Some}
use Rattle.std.proofs.Common.{None, arith, length-append}
use Rattle.std.specs.Str.Lines.{lines}
use Rattle.std.specs.Str.Iter.{lines_steps, lines_rest}
use Rattle.std.specs.declared.str.Lines.{Lines}
use Rattle.ts_base.specs.FirstLine.{IsFirstLine}
use Rattle.ts_base.proofs.TextLines.{LinesDone, LineGiven, lines_start, line_given, lines_over, lines_few}
use Rattle.ts_base.specs.LineErrors.{error_at, IsBadFault, IsBadRefusal}
use Rattle.ts_base.specs.declared.line_error.LineError.{LineError}
use Rattle.ts_base.proofs.FirstLines.{first_behind, refused_at}
use Rattle.ts_synonym.specs.Synonyms.{IsBadLine, Synonyms, IsSynonymList, Adds}
use denote.Ref.{Bor}

-- how far a text is read
pub record Progress (sensitive : Bool) (text : List ℕ) (s : Lines) (kept : Synonyms) (number : ℕ) : Type 0 where
  pub done : List (List ℕ)
  pub lines : LinesDone text done s
  pub list : IsSynonymList sensitive done kept
  pub count : number ≡ length done

pub progress_start : (sensitive : Bool) (text : List ℕ) (s : Lines) (kept : Synonyms) → lines_rest s ≡ text
    → IsSynonymList sensitive [] kept → Progress sensitive text s kept 0
progress_start sensitive text s kept e h = record { done = []; lines = lines_start text s e; list = h; count = refl }

module _ (sensitive : Bool) (text : List ℕ) (s t : Lines) (old : Synonyms) (number : ℕ) (x : Bor (List ℕ))
    (p : Progress sensitive text s old number) (k : lines_steps s (Some x) t) where
  given : LineGiven text p.done x.now t
  given = line_given text p.done s t x p.lines k

  -- the number of a line is at most the text's length
  pub number_fits : number + 1 ≤ length text
  number_fits = omega (arith, lines_few text, p.count, ap length given.whole, length-append p.done (x.now ∷ given.more))

  first_bad : IsBadLine x.now → IsFirstLine IsBadLine (lines text) (number + 1)
  first_bad bad = subst (λ n. IsFirstLine IsBadLine (lines text) (n + 1)) (sym p.count)
      (subst (λ ls. IsFirstLine IsBadLine ls (length p.done + 1)) (sym given.whole)
      (first_behind IsBadLine p.done given.more x.now p.list.fit bad))

  pub first_refused : (e : LineError) → IsBadFault IsBadLine x.now e
      → IsBadRefusal IsBadLine (lines text) (error_at e (number + 1))
  first_refused e f = refused_at IsBadLine (lines text) x.now (number + 1) e first_bad f

  pub progress_more : (new : Synonyms) → Adds x.now old new → Progress sensitive text t new (number + 1)
  progress_more new h = record {
    done = p.done ++ x.now ∷ [];
    lines = given.then;
    list = h.each sensitive p.done p.list;
    count = ap (λ n. n + 1) p.count ∙ sym (length-append p.done (x.now ∷ []));
  }

pub progress_over : (sensitive : Bool) (text : List ℕ) (s t : Lines) (kept : Synonyms) (number : ℕ)
    → Progress sensitive text s kept number → lines_steps s None t → IsSynonymList sensitive (lines text) kept
progress_over sensitive text s t kept number p k =
    subst (λ ls. IsSynonymList sensitive ls kept) (sym (lines_over text p.done s t p.lines k)) p.list
