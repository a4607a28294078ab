-- What the texts of a statement stand for, and why one is refused.
use Rattle.std.specs.Prelude.{◌≡◌, ◌≢◌, ◌⊎◌, ℕ, if◌then◌else◌, List, [], ◌∷◌, Option, Some, None, Result, Ok, Err}
use Rattle.ts_base.specs.declared.Weight.{Weight}
use Rattle.ts_base.specs.Vectors.{Vector}
use Rattle.ts_vector.specs.Text.{IsTextOf}
use Rattle.ts_vector.specs.Changes.{stripped, reweighted, IsJoinOf}
use Rattle.ts_vector.specs.Failures.{TextFails, JoinFails}
use Rattle.ts_vector.specs.Printed as printing
use Rattle.ts_vector.specs.declared.error.VectorError.TheVariants as vectors
use Rattle.ts_query.specs.Queries.{Query}
use Rattle.ts_query.specs.Refusals.{IsReadAs, IsRefused}
use Rattle.ts_query.specs.Printing.{printed}
use Rattle.ts_parser.specs.TokenList.{IsTokenList}
use Rattle.ts_query.specs.declared.error.QueryError.{QueryError}
use Rattle.ts_query.specs.declared.error.QueryError.TheVariants as queries
use Rattle.ts_config.specs.Mappings.{Mapping}
use Rattle.ts_config.specs.Known.{Known, mapping_named}
use Rattle.ts_make.specs.Made.{IsMadeVector, MadeVectorFails, IsMadeQuery, MadeQueryFails, IsPlainQuery}
use Rattle.ts_make.specs.Made.{PlainQueryFails, IsPhraseQuery, PhraseQueryFails}
use Rattle.ts_websearch.specs.Made.{IsWebQuery, WebQueryFails}
use Rattle.shell_script.specs.Grammar.{VectorSource, vector_text, vector_by, QuerySource, query_text, query_by, Part}
use Rattle.shell_script.specs.Grammar.{Expr}
use Rattle.shell_script.specs.declared.sources.Maker.{Maker}
use Rattle.shell_script.specs.declared.sources.Maker.TheVariants.{To, Plain, Phrase, Web}
use Rattle.shell_script.specs.Replies.{bad_vector, bad_query, long_lexeme, large_vector, large_query}
use Rattle.shell_script.specs.Replies.{Refusal, no_configuration, text_refused, memory}
use Rattle.shell_script.specs.Replies.{Reply, shows_vector, shows_query, shows_tokens, refused}

-- the configuration of this name is there, and is this one
abbrev pub IsConfig : Known → List ℕ → Mapping → Type 0
IsConfig known name mapping = mapping_named known name ≡ Some mapping

-- with this weight at each position, where there is one
abbrev pub with_weight : Option Weight → Vector → Vector
with_weight None v = v
with_weight (Some weight) v = reweighted weight v

-- ── vectors ──
-- the vector of a text, or the one that a text is made by a configuration
abbrev pub IsSourceOf : Known → VectorSource → Vector → Type 0
IsSourceOf known (vector_text text) v = IsTextOf text v
IsSourceOf known (vector_by config weight text) v =
    (mapping : Mapping) × (w : Vector) × IsConfig known config mapping
    × IsMadeVector known mapping text w × (v ≡ with_weight weight w)

-- the vector of a part, stripped where the part says so
abbrev pub IsPartOf : Known → Part → Vector → Type 0
IsPartOf known p v =
    (w : Vector) × IsSourceOf known p.source w × (v ≡ (if p.stripped then stripped w else w))

-- v joined with the parts, one after another
abbrev pub IsJoinedOf : Known → Vector → List Part → Vector → Type 0
IsJoinedOf known v [] x = x ≡ v
IsJoinedOf known v (p ∷ ps) x =
    (w : Vector) × (u : Vector) × IsPartOf known p w × IsJoinOf v w u × IsJoinedOf known u ps x

abbrev pub IsValueOf : Known → Expr → Vector → Type 0
IsValueOf known e x = (v : Vector) × IsPartOf known e.first v × IsJoinedOf known v e.others x

-- the configuration of this name is there, and this is why a text can't be made by it
abbrev pub FailsBy : Known → List ℕ → (Mapping → Type 0) → Type 0
FailsBy known config Fails = (mapping : Mapping) × IsConfig known config mapping × Fails mapping

-- why there is no vector: its text, or that there is no such configuration, or the size of what is
-- made; memory may always run out
abbrev pub SourceFails : Known → VectorSource → Refusal → Type 0
SourceFails known (vector_text text) (text_refused (bad_vector at)) =
    TextFails text (vectors.Syntax at)
SourceFails known (vector_text text) (text_refused (long_lexeme at)) =
    TextFails text (vectors.LexemeTooLong at)
SourceFails known (vector_text text) (text_refused (large_vector bytes)) =
    TextFails text (vectors.VectorTooLarge bytes)
SourceFails known (vector_by config weight text) no_configuration =
    mapping_named known config ≡ None
SourceFails known (vector_by config weight text) (text_refused (large_vector bytes)) =
    FailsBy known config
    (λ mapping. MadeVectorFails known mapping text (vectors.VectorTooLarge bytes))
SourceFails known source memory = Unit {0}
SourceFails known source why = ⊥

abbrev pub PartFails : Known → Part → Refusal → Type 0
PartFails known p why = SourceFails known p.source why

abbrev pub JoinIsRefused : Vector → Vector → Refusal → Type 0
JoinIsRefused v w (text_refused (large_vector bytes)) = JoinFails v w (vectors.VectorTooLarge bytes)
JoinIsRefused v w memory = Unit {0}
JoinIsRefused v w why = ⊥

-- after v, the first refusal in turn: of the next part, of its join with v, or of what follows
abbrev pub OthersFail : Known → Vector → List Part → Refusal → Type 0
OthersFail known v [] why = ⊥
OthersFail known v (p ∷ ps) why =
    PartFails known p why
    ⊎ ((w : Vector) × IsPartOf known p w
    × (JoinIsRefused v w why ⊎ ((u : Vector) × IsJoinOf v w u × OthersFail known u ps why)))

abbrev pub ExprFails : Known → Expr → Refusal → Type 0
ExprFails known e why =
    PartFails known e.first why
    ⊎ ((v : Vector) × IsPartOf known e.first v × OthersFail known v e.others why)

-- ── queries ──
-- the query that a text is made in this way
abbrev pub IsMadeBy : Maker → Known → Mapping → List ℕ → Query → Type 0
IsMadeBy To = IsMadeQuery
IsMadeBy Plain = IsPlainQuery
IsMadeBy Phrase = IsPhraseQuery
IsMadeBy Web = IsWebQuery

abbrev pub MakingFails : Maker → Known → Mapping → List ℕ → QueryError → Type 0
MakingFails To = MadeQueryFails
MakingFails Plain = PlainQueryFails
MakingFails Phrase = PhraseQueryFails
MakingFails Web = WebQueryFails

-- the query of a text, or the one that a text is made by a configuration
abbrev pub IsQueryOf : Known → QuerySource → Query → Type 0
IsQueryOf known (query_text text) q = IsReadAs text q
IsQueryOf known (query_by maker config text) q =
    (mapping : Mapping) × IsConfig known config mapping × IsMadeBy maker known mapping text q

-- why there is none, but for a configuration that isn't there
abbrev pub TextQueryFails : Known → QuerySource → QueryError → Type 0
TextQueryFails known (query_text text) error = IsRefused text error
TextQueryFails known (query_by maker config text) error =
    FailsBy known config (λ mapping. MakingFails maker known mapping text error)

abbrev pub QueryFails : Known → QuerySource → Refusal → Type 0
QueryFails known q (text_refused (bad_query at)) =
    TextQueryFails known q (queries.Syntax at)
    ⊎ TextQueryFails known q (queries.DistanceTooLarge at)
QueryFails known q (text_refused (long_lexeme at)) =
    TextQueryFails known q (queries.LexemeTooLong at)
QueryFails known q (text_refused large_query) = TextQueryFails known q queries.TooManyNodes
QueryFails known (query_by maker config text) no_configuration = mapping_named known config ≡ None
QueryFails known q memory = Unit {0}
QueryFails known q why = ⊥

-- ── replies ──
-- the reply is a refusal of this kind
abbrev pub IsRefusedBy : (Refusal → Type 0) → Reply → Type 0
IsRefusedBy P (refused why) = P why
IsRefusedBy P reply = ⊥

abbrev pub IsShown : Known → Expr → Reply → Type 0
IsShown known e (shows_vector text) =
    (v : Vector) × IsValueOf known e v × (text ≡ printing.vector_text v)
IsShown known e reply = IsRefusedBy (ExprFails known e) reply

abbrev pub IsQueried : Known → QuerySource → Reply → Type 0
IsQueried known s (shows_query shown) = (q : Query) × IsQueryOf known s q × (shown ≡ printed q)
IsQueried known s reply = IsRefusedBy (QueryFails known s) reply

-- the reply is the token list of the text: no refusal is one
abbrev pub IsParsed : List ℕ → Reply → Type 0
IsParsed text (shows_tokens tokens) = IsTokenList text tokens
IsParsed text reply = ⊥

-- what an expression and a query may be answered
abbrev pub IsExprAnswer : Known → Expr → Result Vector Refusal → Type 0
IsExprAnswer known e (Ok v) = IsValueOf known e v
IsExprAnswer known e (Err why) = ExprFails known e why

abbrev pub IsQueryAnswer : Known → QuerySource → Result Query Refusal → Type 0
IsQueryAnswer known s (Ok q) = IsQueryOf known s q
IsQueryAnswer known s (Err why) = QueryFails known s why

-- want of memory aside, there is one answer
abbrev pub IsOneAnswer : {V : Type 0} → (Result V Refusal → Type 0) → Type 0
IsOneAnswer P = (a b : _) → a ≢ Err memory → b ≢ Err memory → P a → P b → a ≡ b
