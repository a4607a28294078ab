-- A web text has one answer.
use Rattle.std.proofs.Common.{◌≡◌, ◌≢◌, ℕ, List, [], sym, subst, ap, ◌∙◌, Ok, Err}
use Rattle.ts_query.specs.declared.error.QueryError.{QueryError}
use Rattle.ts_query.specs.declared.error.QueryError.TheVariants.{OutOfMemory}
use Rattle.ts_query.specs.Queries.{Query}
use Rattle.ts_config.specs.Mappings.{Mapping}
use Rattle.ts_config.specs.Known.{Known}
use Rattle.ts_make.specs.Made.{IsMadeOf, RemakingFails}
use Rattle.ts_make.proofs.Made.{made_of_one, made_many, remaking_many}
use Rattle.ts_websearch.specs.Items.{WebItem}
use Rattle.ts_websearch.specs.Rows.{AreRows}
use Rattle.ts_websearch.specs.Made.{web_query, AreWebRows, IsWebQuery, WebQueryFails}
use Rattle.ts_websearch.specs.Laws.{WebAnswerIsOne}
use Rattle.ts_websearch.proofs.ItemLists.{items_are_one}
use Rattle.ts_websearch.proofs.Rows.{rows_are_one}

pub web_rows_one : (text : List ℕ) (rows others : List (List WebItem)) → AreWebRows text rows
    → AreWebRows text others → rows ≡ others
web_rows_one text rows others a b =
    let o = items_are_one text in
    let e : b.items ≡ a.items = o.only b.items b.are_items ∙ sym (o.only a.items a.are_items) in
    let r = rows_are_one a.items in
    r.only rows a.are_rows ∙ sym (r.only others (subst (λ l. AreRows [] l others) e b.are_rows))

module _ (known : Known) (mapping : Mapping) (text : List ℕ) where
  web_one : (p q : Query) → IsWebQuery known mapping text p → IsWebQuery known mapping text q
      → p ≡ q
  web_one p q (r, a, m) (s, b, n) =
      made_of_one known mapping (web_query r) p q m
      (subst (λ l. IsMadeOf known mapping (web_query l) q) (sym (web_rows_one text r s a b)) n)

  web_refused : (p : Query) (e : QueryError) → e ≢ OutOfMemory → IsWebQuery known mapping text p
      → ¬ WebQueryFails known mapping text e
  web_refused p e k (r, a, m) (s, b, n) =
      let f = subst (λ l. RemakingFails known mapping (web_query l) e)
      (sym (web_rows_one text r s a b)) n in
      made_many known mapping (web_query r) p m
      (subst (RemakingFails known mapping (web_query r))
      (remaking_many known mapping (web_query r) e k f) f)

pub web_answer_one : WebAnswerIsOne
web_answer_one known mapping text (Ok p) (Ok q) n m h k = ap Ok (web_one known mapping text p q h k)
web_answer_one known mapping text (Ok p) (Err e) n m h k =
    absurd (web_refused known mapping text p e (λ x. m (ap Err x)) h k)
web_answer_one known mapping text (Err e) (Ok q) n m h k =
    absurd (web_refused known mapping text q e (λ x. n (ap Err x)) k h)
web_answer_one known mapping text (Err d) (Err e) n m h k =
    ap Err (remaking_many known mapping (web_query h.0) d (λ x. n (ap Err x)) h.2
    ∙ sym (remaking_many known mapping (web_query k.0) e (λ x. m (ap Err x)) k.2))
