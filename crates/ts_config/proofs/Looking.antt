-- Looking ahead among the tokens of a text.
use Rattle.std.proofs.Common.{◌≡◌, inl, inr, ℕ, ◌<◌, List, [], ◌∷◌, ◌++◌, true, false, length, refl, sym, ◌∙◌, ap}
use Rattle.std.proofs.Common.{subst, append_assoc, arith}
use Rattle.std.specs.Prelude.{All}
use Rattle.std.proofs.lemmas.List.Elements.{All-head, All-tail}
use Rattle.std.proofs.lemmas.List.{length-append}
use Rattle.ts_base.specs.Dictionary.{WordAnswer}
use Rattle.ts_thesaurus.specs.Rules.{Rule, Continues}
use Rattle.ts_parser.specs.declared.iter.Token.{Token}
use Rattle.ts_config.specs.Mappings.{Mapping}
use Rattle.ts_config.specs.Answers.{word_of}
use Rattle.ts_config.specs.Phrases.{is_asked, lists, seen, answers_to}
use Rattle.ts_config.specs.Inner.Looking.{IsNextSeen, AreSeen}
use Rattle.ts_config.proofs.Seen.{seen_over, seen_ends, seen_takes}

-- from the old tokens on, those that aren't seen are passed
pub record Passed (m : Mapping) (p : ℕ) (old now : List Token) : Type 0 where
  pub front : List Token
  pub split : old ≡ front ++ now
  pub value : seen m p old ≡ seen m p now

module _ (m : Mapping) (p : ℕ) (old : List Token) where
  pub passed_start : Passed m p old old
  passed_start = record { front = []; split = refl; value = refl }

  module _ (now ts : List Token) (t : Token) (passed : Passed m p old now) (next : now ≡ t ∷ ts) where
    pub passed_more : is_asked m t ≡ false → Passed m p old ts
    passed_more e = record {
      front = passed.front ++ t ∷ [];
      split = passed.split ∙ ap (λ l. passed.front ++ l) next ∙ sym (append_assoc passed.front (t ∷ []) ts);
      value = passed.value ∙ ap (seen m p) next ∙ seen_over m p t ts e;
    }

    pub passed_found : lists m p t ≡ true → IsNextSeen m p old t ts
    passed_found e = record {
      front = passed.front;
      split = passed.split ∙ ap (λ l. passed.front ++ l) next;
      listed = e;
      value = passed.value ∙ ap (seen m p) next ∙ seen_takes m p t ts e;
    }

    pub passed_out : is_asked m t ≡ true → lists m p t ≡ false → seen m p old ≡ []
    passed_out e f = passed.value ∙ ap (seen m p) next ∙ seen_ends m p t ts e f

  pub passed_end : (now : List Token) → Passed m p old now → now ≡ [] → seen m p old ≡ []
  passed_end now passed e = passed.value ∙ ap (seen m p) e

pub next_nearer : (m : Mapping) (p : ℕ) (old new : List Token) (t : Token) → IsNextSeen m p old t new
    → length new < length old
next_nearer m p old new t h = omega (arith, ap length h.split, length-append h.front (t ∷ new))

-- what holds of all tokens holds of the next one, and of those after it
pub next_all : (P : Token → Type 0) (m : Mapping) (p : ℕ) (old new : List Token) (t : Token) → All P old
    → IsNextSeen m p old t new → P t × All P new
next_all P m p old new t h n =
    let k = after n.front (subst (All P) n.split h) in (All-head P t new k, All-tail P t new k)
  where
    after : (xs : List Token) → All P (xs ++ t ∷ new) → All P (t ∷ new)
    after [] k = k
    after (x ∷ xs) k = after xs (All-tail P x (xs ++ t ∷ new) k)

-- ── answers that were asked for ──
module _ (m : Mapping) (text : List ℕ) (answer : List ℕ → WordAnswer) (p : ℕ) where
  abbrev pub given_to : List Token → List WordAnswer
  given_to ts = answers_to answer text (seen m p ts)

  pub asked_start : (t : Token) (ts : List Token) (a : WordAnswer) (answers : List WordAnswer) → lists m p t ≡ true
      → a ≡ answer (word_of text t) → answers ≡ a ∷ []
      → given_to (t ∷ ts) ≡ answers ++ given_to ts
  asked_start t ts a answers l e f = ap (answers_to answer text) (seen_takes m p t ts l)
      ∙ ap (λ b. b ∷ given_to ts) (sym e) ∙ ap (λ bs. bs ++ given_to ts) (sym f)

  module _ (all answers : List WordAnswer) (ahead : List Token) (so_far : all ≡ answers ++ given_to ahead) where
    pub asked_more : (t : Token) (new : List Token) (a : WordAnswer) (next : List WordAnswer)
        → IsNextSeen m p ahead t new → a ≡ answer (word_of text t) → next ≡ answers ++ a ∷ []
        → all ≡ next ++ given_to new
    asked_more t new a next n e f =
        so_far ∙ ap (λ bs. answers ++ answers_to answer text bs) n.value ∙ ap (λ b. answers ++ b ∷ given_to new) (sym e)
        ∙ sym (append_assoc answers (a ∷ []) (given_to new)) ∙ ap (λ bs. bs ++ given_to new) (sym f)

    -- what was given is these answers
    module _ (rules : List Rule) (given : List WordAnswer) (is : given ≡ answers) where
      whole : all ≡ given ++ given_to ahead
      whole = so_far ∙ ap (λ z. z ++ given_to ahead) (sym is)

      pub asked_end : seen m p ahead ≡ [] → AreSeen rules all given
      asked_end e = record { more = given_to ahead; split = whole; enough = inl (ap (answers_to answer text) e) }

      pub asked_enough : (walked : List Rule) → walked ≡ rules → ¬ Continues walked answers → AreSeen rules all given
      asked_enough walked same n = record {
        more = given_to ahead;
        split = whole;
        enough = inr (λ c. n (subst (Continues walked) is (subst (λ z. Continues z given) (sym same) c)));
      }
