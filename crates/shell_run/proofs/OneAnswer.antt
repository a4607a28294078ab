-- Want of memory aside, an expression and a query have one answer.
use Rattle.std.proofs.Common.{◌≡◌, ◌≢◌, ◌⊎◌, inl, inr, ℕ, if◌then◌else◌, List, [], ◌∷◌, refl, sym, ◌∙◌, ap, subst}
use Rattle.std.specs.Prelude.{Option, Some, None, Result, Ok, Err, false}
use Rattle.ts_base.specs.declared.Weight.{Weight}
use Rattle.ts_base.specs.Vectors.{Vector}
use Rattle.ts_vector.specs.Changes.{stripped, IsJoinOf}
use Rattle.ts_vector.specs.AnswerLaws.{IsTextAnswer, IsJoinAnswer}
use Rattle.ts_vector.specs.declared.error.VectorError.{VectorError}
use Rattle.ts_vector.specs.declared.error.VectorError.TheVariants as vectors
use Rattle.ts_vector.proofs.OneAnswer.{text_has_one_answer, join_has_one_answer}
use Rattle.ts_query.specs.Queries.{Query}
use Rattle.ts_query.specs.Refusals.{IsAnswer}
use Rattle.ts_query.specs.Tokens.{no_weights}
use Rattle.ts_query.specs.declared.error.QueryError.{QueryError}
use Rattle.ts_query.specs.declared.error.QueryError.TheVariants as queries
use Rattle.ts_query.proofs.Answer.{one_answer}
use Rattle.ts_config.specs.Mappings.{Mapping}
use Rattle.ts_config.specs.Known.{Known, mapping_named}
use Rattle.ts_make.specs.Laws as makes
use Rattle.ts_make.specs.Trees.{phrase_of, conjunction_of}
use Rattle.ts_make.proofs.Made.{vector_answer_one, join_answer_one, query_answer_one}
use Rattle.ts_websearch.specs.Laws.{IsWebAnswer}
use Rattle.ts_websearch.proofs.Made.{web_answer_one}
use Rattle.shell_script.specs.Grammar.{VectorSource, vector_text, vector_by, QuerySource, query_text, query_by, Part}
use Rattle.shell_script.specs.Grammar.{Expr}
use Rattle.shell_script.specs.declared.sources.Maker.{Maker}
use Rattle.shell_script.specs.declared.sources.Maker.TheVariants.{To, Plain, Phrase, Web}
use Rattle.shell_script.specs.Replies.{bad_vector, bad_query, long_lexeme, large_vector, large_query}
use Rattle.shell_script.specs.Replies.{Refusal, no_statement, no_configuration, no_dictionary, text_refused, store_full}
use Rattle.shell_script.specs.Replies.{log_full, transactions_spent, down, device, memory, no_document, conflict}
use Rattle.shell_script.specs.Replies.{bad_page}
use Rattle.shell_script.specs.ReplyView.{refusal}
use Rattle.shell_run.specs.Inner.Refusing.{vector_refusal, query_refusal}
use Rattle.shell_run.specs.Values.{IsConfig, with_weight, IsSourceOf, SourceFails, IsPartOf, IsJoinedOf, PartFails}
use Rattle.shell_run.specs.Values.{JoinIsRefused, OthersFail, IsMadeBy, MakingFails, IsExprAnswer, IsQueryAnswer}
use Rattle.shell_run.specs.Values.{IsOneAnswer}

ok_one : {V E : Type 0} (v w : V) → (let a : Result V E = Ok v in a) ≡ Ok w → v ≡ w
ok_one v w e = cc

err_one : {V E : Type 0} (d e : E) → (let a : Result V E = Err d in a) ≡ Err e → d ≡ e
err_one d e s = cc

-- ── errors that are said as refusals ──
module _ {V E : Type 0} (tell : E → Refusal) (want : E) where
  -- what may be answered, where an error other than this want is said as a refusal
  abbrev Told : (Result V E → Type 0) → Result V Refusal → Type 0
  Told P (Ok v) = P (Ok v)
  Told P (Err why) = (e : E) × (e ≢ want) × (why ≡ tell e) × P (Err e)

  no_want : (v : V) → (let a : Result V E = Ok v in a) ≢ Err want
  no_want v e = cc

  other_than : (e : E) → e ≢ want → (let a : Result V E = Err e in a) ≢ Err want
  other_than e n s = n (err_one e want s)

  told_one : (P : Result V E → Type 0) → ((a b : Result V E) → a ≢ Err want → b ≢ Err want → P a → P b → a ≡ b)
      → (a b : Result V Refusal) → Told P a → Told P b → a ≡ b
  told_one P one (Ok v) (Ok w) h k = ap Ok (ok_one v w (one (Ok v) (Ok w) (no_want v) (no_want w) h k))
  told_one P one (Ok v) (Err why) h k = let e : (let a : Result V E = Ok v in a) ≡ Err k.0 =
      one (Ok v) (Err k.0) (no_want v) (other_than k.0 k.1) h k.3 in cc
  told_one P one (Err why) (Ok w) h k = let e : (let a : Result V E = Err h.0 in a) ≡ Ok w =
      one (Err h.0) (Ok w) (other_than h.0 h.1) (no_want w) h.3 k in cc
  told_one P one (Err why) (Err how) h k =
      ap Err (h.2 ∙ ap tell
      (err_one h.0 k.0 (one (Err h.0) (Err k.0) (other_than h.0 h.1) (other_than k.0 k.1) h.3 k.3)) ∙ sym k.2)

-- ── configurations ──
module _ (known : Known) (config : List ℕ) where
  same_config : (x y : Mapping) → IsConfig known config x → IsConfig known config y → x ≡ y
  same_config x y h k = let e : Some x ≡ Some y = sym h ∙ k in cc

  not_both : (mapping : Mapping) → mapping_named known config ≡ None → IsConfig known config mapping → ⊥
  not_both mapping n s = let e : None ≡ Some mapping = sym n ∙ s in let x : ⊥ = cc in x

  -- what may be answered, where the configuration of this name is looked up first
  abbrev ByConfig : {V : Type 0} → (Mapping → Result V Refusal → Type 0) → Result V Refusal → Type 0
  ByConfig P a = ((a ≡ Err no_configuration) × (mapping_named known config ≡ None))
      ⊎ ((mapping : Mapping) × IsConfig known config mapping × P mapping a)

  config_one : {V : Type 0} (P : Mapping → Result V Refusal → Type 0) → ((mapping : Mapping) (a b : Result V Refusal)
      → P mapping a → P mapping b → a ≡ b) → (a b : Result V Refusal) → ByConfig P a → ByConfig P b → a ≡ b
  config_one P one a b (inl h) (inl k) = h.0 ∙ sym k.0
  config_one P one a b (inl h) (inr k) = absurd (not_both k.0 h.1 k.1)
  config_one P one a b (inr h) (inl k) = absurd (not_both h.0 k.1 h.1)
  config_one P one a b (inr h) (inr k) = one h.0 a b h.2 (subst (λ m. P m b) (same_config k.0 h.0 k.1 h.1) k.2)

-- ── sources ──
abbrev tell_vector : VectorError → Refusal
tell_vector e = refusal (vector_refusal e)

abbrev Answer : Type 0
Answer = Result Vector Refusal

abbrev IsSourceAnswer : Known → VectorSource → Answer → Type 0
IsSourceAnswer known s (Ok v) = IsSourceOf known s v
IsSourceAnswer known s (Err why) = SourceFails known s why

text_told : (known : Known) (text : List ℕ) (a : Answer) → a ≢ Err memory → IsSourceAnswer known (vector_text text) a
    → Told tell_vector vectors.OutOfMemory (IsTextAnswer text) a
text_told known text (Ok v) m h = h
text_told known text (Err (no_statement line)) m h = absurd h
text_told known text (Err (text_refused (bad_vector at))) m h = (vectors.Syntax at, (λ e. cc), refl, h)
text_told known text (Err (text_refused (bad_query at))) m h = absurd h
text_told known text (Err (text_refused (long_lexeme at))) m h = (vectors.LexemeTooLong at, (λ e. cc), refl, h)
text_told known text (Err (text_refused (large_vector bytes))) m h = (vectors.VectorTooLarge bytes, (λ e. cc), refl, h)
text_told known text (Err (text_refused large_query)) m h = absurd h
text_told known text (Err no_configuration) m h = absurd h
text_told known text (Err no_dictionary) m h = absurd h
text_told known text (Err no_document) m h = absurd h
text_told known text (Err (conflict xid)) m h = absurd h
text_told known text (Err (bad_page page)) m h = absurd h
text_told known text (Err store_full) m h = absurd h
text_told known text (Err log_full) m h = absurd h
text_told known text (Err transactions_spent) m h = absurd h
text_told known text (Err (down count)) m h = absurd h
text_told known text (Err device) m h = absurd h
text_told known text (Err memory) m h = absurd (m refl)

-- the answer with its vector changed
abbrev changed : (Vector → Vector) → Answer → Answer
changed f (Ok v) = Ok (f v)
changed f (Err why) = Err why

abbrev Changed : (Vector → Vector) → (Answer → Type 0) → Answer → Type 0
Changed f P a = (b : Answer) × (a ≡ changed f b) × P b

changed_one : (f : Vector → Vector) (P : Answer → Type 0) → ((a b : Answer) → P a → P b → a ≡ b) → (a b : Answer)
    → Changed f P a → Changed f P b → a ≡ b
changed_one f P one a b h k = h.1 ∙ ap (changed f) (one h.0 k.0 h.2 k.2) ∙ sym k.1

-- what a text may be made by a configuration
abbrev MadeAnswer : Known → List ℕ → Mapping → Answer → Type 0
MadeAnswer known text mapping = Told tell_vector vectors.OutOfMemory (makes.IsVectorAnswer known mapping text)

made_told : (known : Known) (config : List ℕ) (weight : Option Weight) (text : List ℕ) (a : Answer)
    → a ≢ Err memory → IsSourceAnswer known (vector_by config weight text) a
    → Changed (with_weight weight) (ByConfig known config (MadeAnswer known text)) a
made_told known config weight text (Ok v) m h = (Ok h.1, ap Ok h.4, inr (h.0, h.2, h.3))
made_told known config weight text (Err (no_statement line)) m h = absurd h
made_told known config weight text (Err (text_refused (bad_vector at))) m h = absurd h
made_told known config weight text (Err (text_refused (bad_query at))) m h = absurd h
made_told known config weight text (Err (text_refused (long_lexeme at))) m h = absurd h
made_told known config weight text (Err (text_refused (large_vector bytes))) m h = (
  Err (text_refused (large_vector bytes)),
  refl,
  inr (h.0, h.1, (vectors.VectorTooLarge bytes, (λ e. cc), refl, h.2)),
)
made_told known config weight text (Err (text_refused large_query)) m h = absurd h
made_told known config weight text (Err no_configuration) m h = (Err no_configuration, refl, inl (refl, h))
made_told known config weight text (Err no_dictionary) m h = absurd h
made_told known config weight text (Err no_document) m h = absurd h
made_told known config weight text (Err (conflict xid)) m h = absurd h
made_told known config weight text (Err (bad_page page)) m h = absurd h
made_told known config weight text (Err store_full) m h = absurd h
made_told known config weight text (Err log_full) m h = absurd h
made_told known config weight text (Err transactions_spent) m h = absurd h
made_told known config weight text (Err (down count)) m h = absurd h
made_told known config weight text (Err device) m h = absurd h
made_told known config weight text (Err memory) m h = absurd (m refl)

source_one : (known : Known) (s : VectorSource) → IsOneAnswer (IsSourceAnswer known s)
source_one known (vector_text text) a b m n h k =
    told_one tell_vector vectors.OutOfMemory (IsTextAnswer text) (text_has_one_answer text) a b
    (text_told known text a m h) (text_told known text b n k)
source_one known (vector_by config weight text) a b m n h k =
    changed_one (with_weight weight) (ByConfig known config (MadeAnswer known text))
    (config_one known config (MadeAnswer known text) (λ mapping. told_one tell_vector vectors.OutOfMemory
    (makes.IsVectorAnswer known mapping text) (vector_answer_one known mapping text)))
    a b (made_told known config weight text a m h) (made_told known config weight text b n k)

-- ── parts and their joins ──
abbrev IsPartAnswer : Known → Part → Answer → Type 0
IsPartAnswer known p (Ok v) = IsPartOf known p v
IsPartAnswer known p (Err why) = PartFails known p why

abbrev strip_in : Part → Vector → Vector
strip_in p w = if p.stripped then stripped w else w

-- an answer other than want of memory to what the part is made of
abbrev OfSource : Known → Part → Answer → Type 0
OfSource known p a = (a ≢ Err memory) × IsSourceAnswer known p.source a

part_told : (known : Known) (p : Part) (a : Answer) → a ≢ Err memory → IsPartAnswer known p a
    → Changed (strip_in p) (OfSource known p) a
part_told known p (Ok v) m h = (Ok h.0, ap Ok h.2, ((λ e. cc), h.1))
part_told known p (Err why) m h = (Err why, refl, (m, h))

part_one : (known : Known) (p : Part) → IsOneAnswer (IsPartAnswer known p)
part_one known p a b m n h k =
    changed_one (strip_in p) (OfSource known p) (λ c d x y. source_one known p.source c d x.0 y.0 x.1 y.1) a b
    (part_told known p a m h) (part_told known p b n k)

abbrev IsJoinTold : Vector → Vector → Answer → Type 0
IsJoinTold v w (Ok u) = IsJoinOf v w u
IsJoinTold v w (Err why) = JoinIsRefused v w why

join_told : (v w : Vector) (a : Answer) → a ≢ Err memory → IsJoinTold v w a
    → Told tell_vector vectors.OutOfMemory (IsJoinAnswer v w) a
join_told v w (Ok u) m h = h
join_told v w (Err (no_statement line)) m h = absurd h
join_told v w (Err (text_refused (bad_vector at))) m h = absurd h
join_told v w (Err (text_refused (bad_query at))) m h = absurd h
join_told v w (Err (text_refused (long_lexeme at))) m h = absurd h
join_told v w (Err (text_refused (large_vector bytes))) m h = (vectors.VectorTooLarge bytes, (λ e. cc), refl, h)
join_told v w (Err (text_refused large_query)) m h = absurd h
join_told v w (Err no_configuration) m h = absurd h
join_told v w (Err no_dictionary) m h = absurd h
join_told v w (Err no_document) m h = absurd h
join_told v w (Err (conflict xid)) m h = absurd h
join_told v w (Err (bad_page page)) m h = absurd h
join_told v w (Err store_full) m h = absurd h
join_told v w (Err log_full) m h = absurd h
join_told v w (Err transactions_spent) m h = absurd h
join_told v w (Err (down count)) m h = absurd h
join_told v w (Err device) m h = absurd h
join_told v w (Err memory) m h = absurd (m refl)

join_one : (v w : Vector) → IsOneAnswer (IsJoinTold v w)
join_one v w a b m n h k =
    told_one tell_vector vectors.OutOfMemory (IsJoinAnswer v w) (join_has_one_answer v w) a b (join_told v w a m h)
    (join_told v w b n k)

-- ── expressions ──
-- the answer is a refusal of the one, or it is the other's, for the vector of the one
abbrev Then : (Answer → Type 0) → (Vector → Answer → Type 0) → Answer → Type 0
Then P Q a = ((why : Refusal) × (a ≡ Err why) × P (Err why)) ⊎ ((v : Vector) × P (Ok v) × Q v a)

then_one : (P : Answer → Type 0) (Q : Vector → Answer → Type 0) → IsOneAnswer P → ((v : Vector) → IsOneAnswer (Q v))
    → (a b : Answer) → a ≢ Err memory → b ≢ Err memory → Then P Q a → Then P Q b → a ≡ b
then_one P Q one onward a b m n (inl h) (inl k) =
    h.1 ∙ one (Err h.0) (Err k.0) (λ e. m (h.1 ∙ e)) (λ e. n (k.1 ∙ e)) h.2 k.2 ∙ sym k.1
then_one P Q one onward a b m n (inl h) (inr k) =
    let e : (let x : Answer = Err h.0 in x) ≡ Ok k.0 = one (Err h.0) (Ok k.0) (λ e. m (h.1 ∙ e)) (λ e. cc) h.2 k.1 in cc
then_one P Q one onward a b m n (inr h) (inl k) =
    let e : (let x : Answer = Ok h.0 in x) ≡ Err k.0 = one (Ok h.0) (Err k.0) (λ e. cc) (λ e. n (k.1 ∙ e)) h.1 k.2 in cc
then_one P Q one onward a b m n (inr h) (inr k) =
    onward h.0 a b m n h.2 (subst (λ v. Q v b) (ok_one k.0 h.0 (one (Ok k.0) (Ok h.0) (λ e. cc) (λ e. cc) k.1 h.1)) k.2)

-- what the parts after v may be answered
abbrev OthersAnswer : Known → Vector → List Part → Answer → Type 0
OthersAnswer known v ps (Ok x) = IsJoinedOf known v ps x
OthersAnswer known v ps (Err why) = OthersFail known v ps why

abbrev Joins : Known → Vector → List Part → Vector → Answer → Type 0
Joins known v ps w = Then (IsJoinTold v w) (λ u. OthersAnswer known u ps)

goes : (known : Known) (v : Vector) (p : Part) (ps : List Part) (a : Answer) → OthersAnswer known v (p ∷ ps) a
    → Then (IsPartAnswer known p) (Joins known v ps) a
goes known v p ps (Ok x) h = inr (h.0, h.2, inr (h.1, h.3, h.4))
goes known v p ps (Err why) (inl h) = inl (why, refl, h)
goes known v p ps (Err why) (inr (w, part, inl h)) = inr (w, part, inl (why, refl, h))
goes known v p ps (Err why) (inr (w, part, inr (u, join, h))) = inr (w, part, inr (u, join, h))

others_one : (known : Known) (v : Vector) (ps : List Part) (a b : Answer) → a ≢ Err memory → b ≢ Err memory
    → OthersAnswer known v ps a → OthersAnswer known v ps b → a ≡ b
others_one known v [] (Ok x) (Ok y) m n h k = ap Ok (h ∙ sym k)
others_one known v [] (Ok x) (Err why) m n h k = absurd k
others_one known v [] (Err why) b m n h k = absurd h
others_one known v (p ∷ ps) a b m n h k =
    then_one (IsPartAnswer known p) (Joins known v ps) (part_one known p)
    (λ w. then_one (IsJoinTold v w) (λ u. OthersAnswer known u ps) (join_one v w)
    (λ u c d q r x y. others_one known u ps c d q r x y))
    a b m n (goes known v p ps a h) (goes known v p ps b k)

first_of : (known : Known) (e : Expr) (a : Answer) → IsExprAnswer known e a
    → Then (IsPartAnswer known e.first) (λ v. OthersAnswer known v e.others) a
first_of known e (Ok x) h = inr (h.0, h.1, h.2)
first_of known e (Err why) (inl h) = inl (why, refl, h)
first_of known e (Err why) (inr h) = inr (h.0, h.1, h.2)

pub expr_one : (known : Known) (e : Expr) → IsOneAnswer (IsExprAnswer known e)
expr_one known e a b m n h k =
    then_one (IsPartAnswer known e.first) (λ v. OthersAnswer known v e.others) (part_one known e.first)
    (λ v. others_one known v e.others) a b m n (first_of known e a h) (first_of known e b k)

-- ── queries ──
abbrev tell_query : QueryError → Refusal
tell_query e = refusal (query_refusal e)

read_told : (known : Known) (text : List ℕ) (a : Result Query Refusal) → a ≢ Err memory
    → IsQueryAnswer known (query_text text) a → Told tell_query queries.OutOfMemory (IsAnswer text) a
read_told known text (Ok q) m h = h
read_told known text (Err (text_refused (bad_query at))) m (inl h) = (queries.Syntax at, (λ e. cc), refl, h)
read_told known text (Err (text_refused (bad_query at))) m (inr h) = (queries.DistanceTooLarge at, (λ e. cc), refl, h)
read_told known text (Err (no_statement line)) m h = absurd h
read_told known text (Err (text_refused (bad_vector at))) m h = absurd h
read_told known text (Err (text_refused (long_lexeme at))) m h = (queries.LexemeTooLong at, (λ e. cc), refl, h)
read_told known text (Err (text_refused (large_vector bytes))) m h = absurd h
read_told known text (Err (text_refused large_query)) m h = (queries.TooManyNodes, (λ e. cc), refl, h)
read_told known text (Err no_configuration) m h = absurd h
read_told known text (Err no_dictionary) m h = absurd h
read_told known text (Err no_document) m h = absurd h
read_told known text (Err (conflict xid)) m h = absurd h
read_told known text (Err (bad_page page)) m h = absurd h
read_told known text (Err store_full) m h = absurd h
read_told known text (Err log_full) m h = absurd h
read_told known text (Err transactions_spent) m h = absurd h
read_told known text (Err (down count)) m h = absurd h
read_told known text (Err device) m h = absurd h
read_told known text (Err memory) m h = absurd (m refl)

-- what a text may be made in this way by a configuration
abbrev IsMakerAnswer : Maker → Known → Mapping → List ℕ → Result Query QueryError → Type 0
IsMakerAnswer maker known mapping text (Ok q) = IsMadeBy maker known mapping text q
IsMakerAnswer maker known mapping text (Err e) = MakingFails maker known mapping text e

module _ (known : Known) (mapping : Mapping) (text : List ℕ) where
  by_to : (a : Result Query QueryError) → IsMakerAnswer To known mapping text a
      → makes.IsQueryAnswer known mapping text a
  by_to (Ok q) h = h
  by_to (Err e) h = h

  by_plain : (a : Result Query QueryError) → IsMakerAnswer Plain known mapping text a
      → makes.IsJoinAnswer (conjunction_of no_weights false) known mapping text a
  by_plain (Ok q) h = h
  by_plain (Err e) h = h

  by_phrase : (a : Result Query QueryError) → IsMakerAnswer Phrase known mapping text a
      → makes.IsJoinAnswer (phrase_of no_weights false) known mapping text a
  by_phrase (Ok q) h = h
  by_phrase (Err e) h = h

  by_web : (a : Result Query QueryError) → IsMakerAnswer Web known mapping text a → IsWebAnswer known mapping text a
  by_web (Ok q) h = h
  by_web (Err e) h = h

  maker_one : (maker : Maker) (a b : Result Query QueryError) → a ≢ Err queries.OutOfMemory
      → b ≢ Err queries.OutOfMemory → IsMakerAnswer maker known mapping text a
      → IsMakerAnswer maker known mapping text b → a ≡ b
  maker_one To a b m n h k = query_answer_one known mapping text a b m n (by_to a h) (by_to b k)
  maker_one Plain a b m n h k =
      join_answer_one (conjunction_of no_weights false) known mapping text a b m n (by_plain a h) (by_plain b k)
  maker_one Phrase a b m n h k =
      join_answer_one (phrase_of no_weights false) known mapping text a b m n (by_phrase a h) (by_phrase b k)
  maker_one Web a b m n h k = web_answer_one known mapping text a b m n (by_web a h) (by_web b k)

abbrev MakerAnswer : Maker → Known → List ℕ → Mapping → Result Query Refusal → Type 0
MakerAnswer maker known text mapping = Told tell_query queries.OutOfMemory (IsMakerAnswer maker known mapping text)

by_told : (known : Known) (maker : Maker) (config text : List ℕ) (a : Result Query Refusal) → a ≢ Err memory
    → IsQueryAnswer known (query_by maker config text) a → ByConfig known config (MakerAnswer maker known text) a
by_told known maker config text (Ok q) m h = inr (h.0, h.1, h.2)
by_told known maker config text (Err (text_refused (bad_query at))) m (inl h) =
    inr (h.0, h.1, (queries.Syntax at, (λ e. cc), refl, h.2))
by_told known maker config text (Err (text_refused (bad_query at))) m (inr h) =
    inr (h.0, h.1, (queries.DistanceTooLarge at, (λ e. cc), refl, h.2))
by_told known maker config text (Err (no_statement line)) m h = absurd h
by_told known maker config text (Err (text_refused (bad_vector at))) m h = absurd h
by_told known maker config text (Err (text_refused (long_lexeme at))) m h =
    inr (h.0, h.1, (queries.LexemeTooLong at, (λ e. cc), refl, h.2))
by_told known maker config text (Err (text_refused (large_vector bytes))) m h = absurd h
by_told known maker config text (Err (text_refused large_query)) m h =
    inr (h.0, h.1, (queries.TooManyNodes, (λ e. cc), refl, h.2))
by_told known maker config text (Err no_configuration) m h = inl (refl, h)
by_told known maker config text (Err no_dictionary) m h = absurd h
by_told known maker config text (Err no_document) m h = absurd h
by_told known maker config text (Err (conflict xid)) m h = absurd h
by_told known maker config text (Err (bad_page page)) m h = absurd h
by_told known maker config text (Err store_full) m h = absurd h
by_told known maker config text (Err log_full) m h = absurd h
by_told known maker config text (Err transactions_spent) m h = absurd h
by_told known maker config text (Err (down count)) m h = absurd h
by_told known maker config text (Err device) m h = absurd h
by_told known maker config text (Err memory) m h = absurd (m refl)

pub query_one : (known : Known) (s : QuerySource) → IsOneAnswer (IsQueryAnswer known s)
query_one known (query_text text) a b m n h k =
    told_one tell_query queries.OutOfMemory (IsAnswer text) (one_answer text) a b (read_told known text a m h)
    (read_told known text b n k)
query_one known (query_by maker config text) a b m n h k =
    config_one known config (MakerAnswer maker known text)
    (λ mapping. told_one tell_query queries.OutOfMemory (IsMakerAnswer maker known mapping text)
    (maker_one known mapping text maker))
    a b (by_told known maker config text a m h) (by_told known maker config text b n k)
