-- What is kept, line after line.
use Rattle.std.proofs.Common.{◌≡◌, ◌⊎◌, inl, inr, ⊎_elim, ℕ, List, [], ◌∷◌, ◌++◌, map, cond, Bool, true, false, refl}
use Rattle.std.proofs.Common.{sym, ◌∙◌, ap, subst, Option, Some, None, true≢false, is_some}
use Rattle.std.specs.Prelude.{bytes_eq, String, string_bytes}
use Rattle.std.specs.Map.{lookup}
use Rattle.std.specs.declared.alloc.Global.{Global}
use Rattle.std.proofs.lemmas.Slice.Eq.{bytes_eq-Decides}
use Rattle.std.proofs.lemmas.List.Elements.{All-push}
use Rattle.std.proofs.lemmas.List.{map-append}
use Rattle.ts_base.specs.declared.Found.{Found}
use Rattle.ts_synonym.specs.Synonyms.{cased, HasTwoWords, GivesFor, IsBadLine, IsFirstGiven, Synonyms, given_for}
use Rattle.ts_synonym.specs.Synonyms.{IsSynonymList}
use Rattle.ts_synonym.specs.Views.{pair}
use Rattle.ts_synonym.proofs.Said.{one_given_word, one_given, given_for_first}

-- what a look-up by text finds among the entries is what it finds among their view
pub looked_up : (word : List ℕ) (es : List (String Global × Found))
    → lookup (λ (k : String Global). bytes_eq word (string_bytes k)) es ≡ lookup (bytes_eq word) (map pair es)
looked_up word [] = refl
looked_up word (e ∷ es) = ap (λ o. cond (bytes_eq word (string_bytes e.0)) (Some e.1) o) (looked_up word es)

-- the first that gives something is among the lines, or none is and it is the one after them
pub first_more : (sensitive : Bool) (lines : List (List ℕ)) (line word : List ℕ) (found : Found)
    → IsFirstGiven sensitive (lines ++ line ∷ []) word found
    → IsFirstGiven sensitive lines word found
    ⊎ (((other : Found) → ¬ IsFirstGiven sensitive lines word other) × GivesFor sensitive line word found)
first_more sensitive [] line word found (inl g) = inr ((λ other h. h), g)
first_more sensitive [] line word found (inr h) = absurd h.1
first_more sensitive (l ∷ lines) line word found (inl g) = inl (inl g)
first_more sensitive (l ∷ lines) line word found (inr h) =
    ⊎_elim
    (λ f. inl (inr (h.0, f)))
    (λ n. inr ((λ other o. ⊎_elim (λ g. h.0 other g) (λ f. n.0 other f.1) o), n.1))
    (first_more sensitive lines line word found h.1)

pub first_stays : (sensitive : Bool) (lines : List (List ℕ)) (line word : List ℕ) (found : Found)
    → IsFirstGiven sensitive lines word found
    → IsFirstGiven sensitive (lines ++ line ∷ []) word found
first_stays sensitive [] line word found h = absurd h
first_stays sensitive (l ∷ lines) line word found (inl g) = inl g
first_stays sensitive (l ∷ lines) line word found (inr h) = inr (h.0, first_stays sensitive lines line word found h.1)

pub first_new : (sensitive : Bool) (lines : List (List ℕ)) (line word : List ℕ) (found : Found)
    → ((other : Found) → ¬ IsFirstGiven sensitive lines word other) → GivesFor sensitive line word found
    → IsFirstGiven sensitive (lines ++ line ∷ []) word found
first_new sensitive [] line word found none g = inl g
first_new sensitive (l ∷ lines) line word found none g =
    inr (
      (λ other h. none other (inl h)),
      first_new sensitive lines line word found (λ other f. none other (inr ((λ o h. none o (inl h)), f))) g,
    )

-- the first that is there, else the second
abbrev or_else : Option Found → Option Found → Option Found
or_else None r = r
or_else (Some o) r = Some o

cond_or : (b : Bool) (y : Found) (l r : Option Found) → cond b (Some y) (or_else l r) ≡ or_else (cond b (Some y) l) r
cond_or true y l r = refl
cond_or false y l r = refl

-- a look-up in a list that has one entry more
lookup_more : (test : List ℕ → Bool) (es : List (List ℕ × Found)) (x : List ℕ × Found)
    → lookup test (es ++ x ∷ []) ≡ or_else (lookup test es) (cond (test x.0) (Some x.1) None)
lookup_more test [] x = refl
lookup_more test (e ∷ es) x =
    ap (λ o. cond (test e.0) (Some e.1) o) (lookup_more test es x)
    ∙ cond_or (test e.0) e.1 (lookup test es) (cond (test x.0) (Some x.1) None)

-- the list of these lines is that of one line more, where the line gives nothing for a word that the list lacks
pub list_stays : (sensitive : Bool) (lines : List (List ℕ)) (line : List ℕ) (kept : Synonyms) → ¬ IsBadLine line
    → ((word : List ℕ) (found : Found) → GivesFor sensitive line word found
    → (other : Found) × (given_for kept word ≡ Some other))
    → IsSynonymList sensitive lines kept → IsSynonymList sensitive (lines ++ line ∷ []) kept
list_stays sensitive lines line kept good says h =
    record {
      fit = All-push (λ l. ¬ IsBadLine l) lines line h.fit good;
      casing = h.casing;
      each = λ word found. (
        (λ e. first_stays sensitive lines line word found ((h.each word found).0 e)),
        (λ f. ⊎_elim
            (λ i. (h.each word found).1 i)
            (λ n. absurd (let o = says word found n.1 in n.0 o.0 ((h.each word o.0).0 o.1)))
            (first_more sensitive lines line word found f)),
      );
    }

module _ (sensitive : Bool) (lines : List (List ℕ)) (line key : List ℕ) (given : Found) (kept : Synonyms)
    (gives : GivesFor sensitive line key given) (lacks : given_for kept key ≡ None)
    (h : IsSynonymList sensitive lines kept) where
  abbrev grown : Synonyms
  grown = record { sensitive = kept.sensitive; pairs = kept.pairs ++ (key, given) ∷ [] }

  grown_to : (word : List ℕ) (found : Found) → given_for grown word ≡ Some found
      → IsFirstGiven sensitive (lines ++ line ∷ []) word found
  grown_to word found e = there (given_for kept word) refl
    where
      all : or_else (given_for kept word) (cond (bytes_eq word key) (Some given) None) ≡ Some found
      all = sym (lookup_more (bytes_eq word) kept.pairs (key, given)) ∙ e

      new : (b : Bool) → bytes_eq word key ≡ b → given_for kept word ≡ None
          → IsFirstGiven sensitive (lines ++ line ∷ []) word found
      new true t none =
          let same : word ≡ key = (bytes_eq-Decides word key).0 t in
          let is : given ≡ found = cc (all, none, t) in
          first_new sensitive lines line word found
          (λ other f. let x = (h.each word other).1 f in cc)
          (subst (λ z. GivesFor sensitive line z found) (sym same) (subst (GivesFor sensitive line key) is gives))
      new false t none = cc (all, none, t)

      there : (o : Option Found) → given_for kept word ≡ o → IsFirstGiven sensitive (lines ++ line ∷ []) word found
      there None none = new (bytes_eq word key) refl none
      there (Some o) some =
          let is : given_for kept word ≡ Some found = cc (all, some) in
          first_stays sensitive lines line word found ((h.each word found).0 is)

  grown_from : (word : List ℕ) (found : Found) → IsFirstGiven sensitive (lines ++ line ∷ []) word found
      → given_for grown word ≡ Some found
  grown_from word found f =
      lookup_more (bytes_eq word) kept.pairs (key, given)
      ∙ ⊎_elim
      (λ i. let x = (h.each word found).1 i in ap (λ o. or_else o (cond (bytes_eq word key) (Some given) None)) x)
      (λ n.
      let same : word ≡ key = one_given_word sensitive line word key found given n.1 gives in
      let is : found ≡ given = one_given sensitive line word key found given n.1 gives in
      let t : bytes_eq word key ≡ true = (bytes_eq-Decides word key).1 same in
      let none : given_for kept word ≡ None = ap (given_for kept) same ∙ lacks in
      ap (λ o. or_else o (cond (bytes_eq word key) (Some given) None)) none ∙ ap (λ b. cond b (Some given) None) t
      ∙ ap (λ z. Some z) (sym is))
      (first_more sensitive lines line word found f)

  -- with what a line gives for a word that the list lacks, it is that of one line more
  pub list_grows : ¬ IsBadLine line → IsSynonymList sensitive (lines ++ line ∷ []) grown
  list_grows good = record {
    fit = All-push (λ l. ¬ IsBadLine l) lines line h.fit good;
    casing = h.casing;
    each = λ word found. (grown_to word found, grown_from word found);
  }

-- a line of fewer words is no bad one, and the list stays
pub fewer_words : (line : List ℕ) → ((w r : List ℕ) → ¬ HasTwoWords line w r) → ¬ IsBadLine line
fewer_words line none b = none b.word b.replacement b.words

pub fewer_stays : (sensitive : Bool) (lines : List (List ℕ)) (line : List ℕ) (kept : Synonyms)
    → ((w r : List ℕ) → ¬ HasTwoWords line w r)
    → IsSynonymList sensitive lines kept → IsSynonymList sensitive (lines ++ line ∷ []) kept
fewer_stays sensitive lines line kept none h = list_stays sensitive lines line kept (fewer_words line none)
    (λ word found g. absurd (none g.written g.replacement g.words)) h

some_of : (o : Option Found) → is_some o ≡ true → (x : Found) × (o ≡ Some x)
some_of None e = absurd (true≢false (sym e))
some_of (Some x) e = (x, refl)

pub none_of : (o : Option Found) → is_some o ≡ false → o ≡ None
none_of None e = refl
none_of (Some x) e = absurd (true≢false e)

-- where the list has the first word of a line already, it stays
pub present_stays : (sensitive : Bool) (lines : List (List ℕ)) (line w r : List ℕ) (kept : Synonyms)
    → HasTwoWords line w r → ¬ IsBadLine line
    → is_some (given_for kept (cased kept.sensitive w)) ≡ true → IsSynonymList sensitive lines kept
    → IsSynonymList sensitive (lines ++ line ∷ []) kept
present_stays sensitive lines line w r kept t good there h =
    let o = some_of (given_for kept (cased kept.sensitive w)) there in
    list_stays sensitive lines line kept good
    (λ word found g.
    let same : word ≡ cased kept.sensitive w =
    given_for_first sensitive line w r word found t g ∙ ap (λ b. cased b w) (sym h.casing) in
    (o.0, ap (given_for kept) same ∙ o.1))
    h

-- one entry more in memory is one pair more
pub view_more : (b : Bool) (es fs : List (String Global × Found)) (k : String Global) (v : Found)
    → fs ≡ es ++ (k, v) ∷ []
    → let old : Synonyms = record { sensitive = b; pairs = map pair es } in
    let new : Synonyms = record { sensitive = b; pairs = map pair fs } in
    record old { pairs = old.pairs ++ (string_bytes k, v) ∷ [] } ≡ new
view_more b es fs k v e =
    let pairs : map pair es ++ (string_bytes k, v) ∷ [] ≡ map pair fs =
    sym (map-append pair es ((k, v) ∷ [])) ∙ ap (map pair) (sym e) in
    λ i. record { sensitive = b; pairs = pairs i }
