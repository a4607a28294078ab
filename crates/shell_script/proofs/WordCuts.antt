-- Words that are cut in two.
use Rattle.std.proofs.Common.{◌≡◌, inl, inr, ℕ, ◌+◌, ◌-◌, ◌<◌, ◌≤◌, List, [], ◌∷◌, ◌++◌, length, length-append}
use Rattle.std.proofs.Common.{arith, refl, sym, ◌∙◌, ap, subst, get_or, codes}
use Rattle.std.specs.Prelude.{String, string_bytes, Option, Some, None, IfSome, IfNone, take, drop}
use Rattle.std.specs.declared.alloc.Global.{Global}
use Rattle.std.proofs.lemmas.Bool.{cases_lt}
use Rattle.std.proofs.lemmas.List.{take_all}
use Rattle.shell_script.specs.CommandWords.{IsCount, SetsCount, SetsOption, SetsPages, SetsPending, SetsOptions, IsForm}
use Rattle.shell_script.specs.declared.command_words.Options.{Options}

-- the bytes after a name and `=` are one text
after_name : (name rest other : List ℕ) → name ++ (61 ∷ rest) ≡ name ++ (61 ∷ other) → rest ≡ other
after_name [] rest other e = cc
after_name (c ∷ name) rest other e =
    after_name name rest other (let z : name ++ (61 ∷ rest) ≡ name ++ (61 ∷ other) = cc in z)

-- the digits after a name and `=` are no such number: the word sets none
pub no_count : (name : List ℕ) (fewest most : ℕ) (word digits : List ℕ) (o : Option ℕ) → word ≡ name ++ (61 ∷ digits)
    → IfNone o ((n : ℕ) → IsCount fewest most digits n → ⊥)
    → IfNone o ((n : ℕ) → SetsCount name fewest most word n → ⊥)
no_count name fewest most word digits None is none = λ n h. none n
    (subst (λ z. IsCount fewest most z n) (after_name name h.0 digits (sym h.1 ∙ is)) h.2)
no_count name fewest most word digits (Some n) is none = tt

-- the one word sets no number
pub one_sets_none : (name : List ℕ) (fewest most usual : ℕ) (words : List (String Global)) (x : String Global)
    (text : List ℕ) (o : Option ℕ) → 1 ≤ length words → length words < 2 → x ≡ get_or words 0 x
    → text ≡ string_bytes x → IfNone o ((n : ℕ) → SetsCount name fewest most text n → ⊥)
    → IfNone o ((n : ℕ) → SetsOption name fewest most usual words n → ⊥)
one_sets_none name fewest most usual words x text (Some n) some one is read none = tt
one_sets_none name fewest most usual [] x text None some one is read none = absurd (omega arith)
one_sets_none name fewest most usual (y ∷ []) x text None some one is read none =
    λ n h. none n (subst (λ z. SetsCount name fewest most z n) (sym (read ∙ ap string_bytes is)) h)
one_sets_none name fewest most usual (y ∷ z ∷ words) x text None some one is read none = absurd (omega arith)

-- the words after the first
pub rest_is : (words : List (String Global)) (x : String Global) → 1 ≤ length words → x ≡ get_or words 0 x
    → words ≡ x ∷ take (length words - 1) (drop 1 words)
rest_is [] x some is = absurd (omega arith)
rest_is (y ∷ words) x some is =
    ap (λ z. z ∷ words) (sym is) ∙ ap (λ z. x ∷ z) (sym (take_all (length (y ∷ words) - 1) words (omega arith)))

-- a call is of a form where its first word is `run` and the others set options
pub form_some : (words rest : List (String Global)) (x : String Global) (o : Option Options) → words ≡ x ∷ rest
    → string_bytes x ≡ codes "run" → IfSome o (λ p. SetsOptions rest p) → IfSome o (λ p. IsForm words p)
form_some words rest x None is run some = tt
form_some words rest x (Some p) is run some = subst (λ z. IsForm z p) (sym is) (run, some)

pub form_none : (words rest : List (String Global)) (x : String Global) (o : Option Options) → words ≡ x ∷ rest
    → IfNone o ((p : Options) → SetsOptions rest p → ⊥) → IfNone o ((p : Options) → IsForm words p → ⊥)
form_none words rest x None is none = λ p h.
    let form : IsForm (x ∷ rest) p = subst (λ z. IsForm z p) is h in none p form.1
form_none words rest x (Some p) is none = tt

-- neither part sets what it would have to, whichever comes first
pub record IsNoCut (words : List (String Global)) (i : ℕ) : Type 0 where
  pub pages_first : (o : Options) → SetsPages (take i words) o.pages → SetsPending (drop i words) o.pending → ⊥
  pub pending_first : (o : Options) → SetsPages (drop i words) o.pages → SetsPending (take i words) o.pending → ⊥

abbrev pub NoneBelow : List (String Global) → ℕ → Type 0
NoneBelow words n = (i : ℕ) → i < n → IsNoCut words i

-- no cut up to the next one will do
pub next_none : (words : List (String Global)) (n : ℕ) (front back : List (String Global)) → NoneBelow words n
    → front ≡ take n words → back ≡ drop n words
    → ((o : Options) → SetsPages front o.pages → SetsPending back o.pending → ⊥)
    → ((o : Options) → SetsPages back o.pages → SetsPending front o.pending → ⊥) → NoneBelow words (n + 1)
next_none words n front back below f b first second i less = elim (cases_lt i n) [
  | inl lt ↦ below i lt
  | inr ge ↦
      let same : n ≡ i = omega (arith, less, ge) in
      subst (IsNoCut words) same (record {
        pages_first = λ o p q. first o (subst (λ w. SetsPages w o.pages) (sym f) p)
            (subst (λ w. SetsPending w o.pending) (sym b) q);
        pending_first = λ o p q. second o (subst (λ w. SetsPages w o.pages) (sym b) p)
            (subst (λ w. SetsPending w o.pending) (sym f) q);
      })
]

take_front : {X : Type 0} (a b : List X) → take (length a) (a ++ b) ≡ a
take_front [] [] = refl
take_front [] (x ∷ b) = refl
take_front (x ∷ a) b = ap (λ z. x ∷ z) (take_front a b)

drop_front : {X : Type 0} (a b : List X) → drop (length a) (a ++ b) ≡ b
drop_front [] b = refl
drop_front (x ∷ a) b = drop_front a b

-- where no cut will do, the words set nothing
pub no_cut_sets : (words : List (String Global)) (n : ℕ) → length words < n → NoneBelow words n → (o : Options)
    → SetsOptions words o → ⊥
no_cut_sets words n long none o (a, b, inl e, pages, pending) =
    let below : length a < n = omega (arith, long, ap length e, length-append a b) in
    (none (length a) below).pages_first o
    (subst (λ w. SetsPages w o.pages) (sym (take_front a b) ∙ ap (take (length a)) (sym e)) pages)
    (subst (λ w. SetsPending w o.pending) (sym (drop_front a b) ∙ ap (drop (length a)) (sym e)) pending)
no_cut_sets words n long none o (a, b, inr e, pages, pending) =
    let below : length b < n = omega (arith, long, ap length e, length-append b a) in
    (none (length b) below).pending_first o
    (subst (λ w. SetsPages w o.pages) (sym (drop_front b a) ∙ ap (drop (length b)) (sym e)) pages)
    (subst (λ w. SetsPending w o.pending) (sym (take_front b a) ∙ ap (take (length b)) (sym e)) pending)
