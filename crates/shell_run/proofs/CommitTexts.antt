-- The lines of commits, one after another, as they go out.
use Rattle.std.proofs.Common.{◌≡◌, ℕ, ◌+◌, ◌<◌, List, [], ◌∷◌, ◌++◌, length, append_assoc, arith, sym, ◌∙◌, ap, subst}
use Rattle.std.proofs.Common.{Bool, true, false, get_or, map}
use Rattle.std.specs.Prelude.{Option, take, drop}
use Rattle.std.proofs.lemmas.List.{append-nil, map-append, map_more, length-map, length-take, take-append-drop}
use Rattle.shell_script.specs.Replies.{CommitLine}
use Rattle.shell_script.specs.Texts.{commit_text, commit_texts}
use Rattle.shell_run.specs.Inner.Sending.{Sends}
use Rattle.shell_run.proofs.Streams.{puts_behind, puts_short}

pub texts_split : (n : ℕ) (xs ys : List CommitLine)
    → commit_texts n (xs ++ ys) ≡ commit_texts n xs ++ commit_texts (n + length xs) ys
texts_split n [] ys = let e : n ≡ n + 0 = omega arith in ap (λ k. commit_texts k ys) e
texts_split n (x ∷ xs) ys =
    let e : n + 1 + length xs ≡ n + length (x ∷ xs) = omega arith in
    ap (λ z. commit_text n x ++ z) (texts_split (n + 1) xs ys)
    ∙ sym (append_assoc (commit_text n x) (commit_texts (n + 1) xs) (commit_texts (n + 1 + length xs) ys))
    ∙ ap (λ k. (commit_text n x ++ commit_texts (n + 1) xs) ++ commit_texts k ys) e

-- of lines that are shown so, the first i are on their way, and then the next one
module _ {X : Type 0} (f : X → CommitLine) (xs : List X) (i : ℕ) (d : X) (lt : i < length xs) where
  texts_more : commit_texts 1 (map f (take (i + 1) xs))
      ≡ commit_texts 1 (map f (take i xs)) ++ commit_text (i + 1) (f (get_or xs i d))
  texts_more =
      let at : 1 + length (map f (take i xs)) ≡ i + 1 = omega (arith, length-map (take i xs) f, length-take i xs, lt) in
      ap (commit_texts 1) (map_more f xs i d lt) ∙ texts_split 1 (map f (take i xs)) (f (get_or xs i d) ∷ [])
      ∙ ap (λ k. commit_texts 1 (map f (take i xs)) ++ commit_texts k (f (get_or xs i d) ∷ [])) at
      ∙ ap (λ z. commit_texts 1 (map f (take i xs)) ++ z) (append-nil (commit_text (i + 1) (f (get_or xs i d))))

  texts_all : (rest : List ℕ) × (commit_texts 1 (map f (take (i + 1) xs)) ++ rest ≡ commit_texts 1 (map f xs))
  texts_all = (
    commit_texts (1 + length (map f (take (i + 1) xs))) (map f (drop (i + 1) xs)),
    sym (ap (λ z. commit_texts 1 (map f z)) (sym (take-append-drop (i + 1) xs))
        ∙ ap (commit_texts 1) (map-append f (take (i + 1) xs) (drop (i + 1) xs))
        ∙ texts_split 1 (map f (take (i + 1) xs)) (map f (drop (i + 1) xs))),
  )

  pub commits_go_on : (a b c : Option (List ℕ)) (before waiting waiting' : List ℕ) (well : Bool)
      → Sends a b (before ++ commit_texts 1 (map f (take i xs))) waiting true
      → Sends b c (waiting ++ commit_text (i + 1) (f (get_or xs i d))) waiting' well
      → Sends a c (before ++ commit_texts 1 (map f (take (i + 1) xs))) waiting' well
  commits_go_on a b c before waiting waiting' well h k =
      subst (λ z. Sends a c z waiting' well)
      (append_assoc before (commit_texts 1 (map f (take i xs))) (commit_text (i + 1) (f (get_or xs i d)))
      ∙ ap (λ z. before ++ z) (sym texts_more))
      (puts_behind a b c (before ++ commit_texts 1 (map f (take i xs))) waiting
      (commit_text (i + 1) (f (get_or xs i d)))
      waiting' well h k)

  pub commits_stop : (a b c : Option (List ℕ)) (before waiting waiting' : List ℕ)
      → Sends a b (before ++ commit_texts 1 (map f (take i xs))) waiting true
      → Sends b c (waiting ++ commit_text (i + 1) (f (get_or xs i d))) waiting' false
      → Sends a c (before ++ commit_texts 1 (map f xs)) waiting' false
  commits_stop a b c before waiting waiting' h k =
      subst (λ z. Sends a c z waiting' false)
      (append_assoc before (commit_texts 1 (map f (take (i + 1) xs))) texts_all.0
      ∙ ap (λ z. before ++ z) texts_all.1)
      (puts_short a c (before ++ commit_texts 1 (map f (take (i + 1) xs))) texts_all.0 waiting' waiting' false
      (commits_go_on a b c before waiting waiting' false h k))
