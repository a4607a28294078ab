-- A stop list, line after line.
use Rattle.std.proofs.Common.{◌≡◌, ◌⊎◌, inl, inr, ℕ, ◌+◌, ◌≤◌, List, [], ◌∷◌, ◌++◌, length, refl, sym, ◌∙◌, ap, subst}
use Rattle.std.proofs.Common.{arith, length-append}
use Rattle.std.specs.Prelude.{Contains, Some, None}
use Rattle.std.specs.List.{Any}
use Rattle.std.specs.Str.Lines.{lines}
use Rattle.std.specs.Str.Iter.{lines_steps, lines_rest}
use Rattle.std.specs.declared.str.Lines.{Lines}
use Rattle.std.proofs.lemmas.List.Elements.{All-nil, All-push}
use Rattle.std.proofs.lemmas.List.Quantifiers.{Any-push}
use Rattle.ts_base.specs.FirstLine.{IsFirstLine}
use Rattle.ts_base.proofs.TextLines.{LinesDone, LineGiven, lines_start, line_given, lines_over, lines_few}
use Rattle.ts_base.specs.LineErrors.{error_at, IsBadFault, IsBadRefusal}
use Rattle.ts_base.specs.declared.line_error.LineError.{LineError}
use Rattle.ts_base.proofs.FirstLines.{first_behind, no_first, first_is_one, refused_at}
use Rattle.ts_words.specs.StopLists.{IsBadLine, Stops, IsStopList, Adds, stop_words, bad_line, LinesHaveOneReading}
use Rattle.ts_words.proofs.Members.{any_old, any_cases}
use denote.Ref.{Bor}

pub lines_have_one_reading : LinesHaveOneReading
lines_have_one_reading lines (stop_words a) (stop_words b) h k =
    λ word. (λ c. (k.each word).1 ((h.each word).0 c), λ c. (h.each word).1 ((k.each word).0 c))
lines_have_one_reading lines (stop_words a) (bad_line n) h k = no_first IsBadLine lines n h.fit k
lines_have_one_reading lines (bad_line m) (stop_words b) h k = no_first IsBadLine lines m k.fit h
lines_have_one_reading lines (bad_line m) (bad_line n) h k = first_is_one IsBadLine lines m n h k

no_stops : IsStopList [] []
no_stops = record {
  fit = All-nil (λ line. ¬ IsBadLine line);
  each = λ word. (λ c. absurd (omega (arith, c.1)), λ a. absurd (omega (arith, a.2)));
}

-- how far a text is read
pub record Progress (text : List ℕ) (s : Lines) (stops : List (List ℕ)) (number : ℕ) : Type 0 where
  pub done : List (List ℕ)
  pub lines : LinesDone text done s
  pub list : IsStopList done stops
  pub count : number ≡ length done

pub progress_start : (text : List ℕ) (s : Lines) → lines_rest s ≡ text → Progress text s [] 0
progress_start text s e = record { done = []; lines = lines_start text s e; list = no_stops; count = refl }

module _ (text : List ℕ) (s t : Lines) (old : List (List ℕ)) (number : ℕ) (x : Bor (List ℕ))
    (p : Progress text s old number) (k : lines_steps s (Some x) t) where
  given : LineGiven text p.done x.now t
  given = line_given text p.done s t x p.lines k

  -- the number of a line is at most the text's length
  pub number_fits : number + 1 ≤ length text
  number_fits = omega (arith, lines_few text, p.count, ap length given.whole, length-append p.done (x.now ∷ given.more))

  first_bad : IsBadLine x.now → IsFirstLine IsBadLine (lines text) (number + 1)
  first_bad bad = subst (λ n. IsFirstLine IsBadLine (lines text) (n + 1)) (sym p.count)
      (subst (λ ls. IsFirstLine IsBadLine ls (length p.done + 1)) (sym given.whole)
      (first_behind IsBadLine p.done given.more x.now p.list.fit bad))

  pub first_refused : (e : LineError) → IsBadFault IsBadLine x.now e
      → IsBadRefusal IsBadLine (lines text) (error_at e (number + 1))
  first_refused e f = refused_at IsBadLine (lines text) x.now (number + 1) e first_bad f

  pub progress_more : (new : List (List ℕ)) → Adds x.now old new → Progress text t new (number + 1)
  progress_more new h = record {
    done = p.done ++ x.now ∷ [];
    lines = given.then;
    list = record {
      fit = All-push (λ line. ¬ IsBadLine line) p.done x.now p.list.fit h.fit;
      each = λ w. (λ c. ahead w ((h.each w).0 c), λ a. (h.each w).1 (back w (any_cases (Stops w) p.done x.now a)));
    };
    count = ap (λ n. n + 1) p.count ∙ sym (length-append p.done (x.now ∷ []));
  }
    where
      ahead : (w : List ℕ) → Contains old w ⊎ Stops w x.now → Any (Stops w) (p.done ++ x.now ∷ [])
      ahead w (inl c) = any_old (Stops w) p.done x.now ((p.list.each w).0 c)
      ahead w (inr s) = Any-push (Stops w) p.done x.now s

      back : (w : List ℕ) → Any (Stops w) p.done ⊎ Stops w x.now → Contains old w ⊎ Stops w x.now
      back w (inl a) = inl ((p.list.each w).1 a)
      back w (inr s) = inr s

pub progress_over : (text : List ℕ) (s t : Lines) (stops : List (List ℕ)) (number : ℕ) → Progress text s stops number
    → lines_steps s None t → IsStopList (lines text) stops
progress_over text s t stops number p k =
    subst (λ ls. IsStopList ls stops) (sym (lines_over text p.done s t p.lines k)) p.list
