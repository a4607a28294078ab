-- A web text that is read item by item.
use Rattle.std.proofs.Common.{◌≡◌, ℕ, List, [], ◌∷◌, ◌++◌, refl, sym, subst, ap, ◌∙◌, append_assoc, false}
use Rattle.ts_query.specs.declared.error.QueryError.{QueryError}
use Rattle.ts_config.specs.Mappings.{Mapping}
use Rattle.ts_config.specs.Known.{Known}
use Rattle.ts_make.specs.Made.{RemakingFails}
use Rattle.ts_make.specs.Making.{IsMaking}
use Rattle.ts_websearch.specs.Items.{WebItem, AreItems}
use Rattle.ts_websearch.specs.Rows.{IsOperator, AreRows, rows_end, item_more, or_between}
use Rattle.ts_websearch.specs.Made.{web_query, AreWebRows, WebQueryFails}
use Rattle.ts_websearch.specs.Inner.Pieces.{IsNext}
use Rattle.ts_websearch.specs.Inner.Stacks.{IsWebAt, AddingFails, EndingFails, ReadTo}
use Rattle.ts_websearch.specs.declared.web.WebMaker.{WebMaker}
use Rattle.ts_websearch.proofs.ItemLists.{items_are_one}
use Rattle.ts_websearch.proofs.Rows.{rows_from, rows_are_one}

-- ── what was read ──
pub read_none : (text : List ℕ) → ReadTo text text [] []
read_none text = record
    { goes_on = λ is rows a r. record { items = is; are_items = a; are_rows = r } }

-- a word more
pub read_word : (text rest behind : List ℕ) (ended : List (List WebItem)) (row : List WebItem) (i : WebItem)
    → ReadTo text rest ended row → IsNext rest i behind
    → ((is : List WebItem) → AreItems behind is → ¬ IsOperator row i is)
    → ReadTo text behind ended (row ++ i ∷ [])
read_word text rest behind ended row i h n w = record {
  goes_on = λ is rows a r. h.goes_on (i ∷ is) rows (n.goes_on is a)
      (item_more row i is rows (w is a) r);
}

-- an operator more
pub read_operator : (text rest behind : List ℕ) (ended : List (List WebItem)) (row : List WebItem)
    (i : WebItem) → ReadTo text rest ended row → IsNext rest i behind
    → ((is : List WebItem) → AreItems behind is → IsOperator row i is)
    → ReadTo text behind (ended ++ row ∷ []) []
read_operator text rest behind ended row i h n w = record {
  goes_on = λ is rows a r.
      subst (AreWebRows text) (sym (append_assoc ended (row ∷ []) rows))
      (h.goes_on (i ∷ is) (row ∷ rows) (n.goes_on is a) (or_between row i is rows (w is a) r));
}

-- the end
pub read_whole : (text rest : List ℕ) (ended : List (List WebItem)) (row : List WebItem)
    → ReadTo text rest ended row → AreItems rest [] → AreWebRows text (ended ++ row ∷ [])
read_whole text rest ended row h a = h.goes_on [] (row ∷ []) a (rows_end row)

-- the rows that follow a beginning of one begin with it
record Begun (row : List WebItem) (rows : List (List WebItem)) : Type 0 where
  more : List WebItem
  others : List (List WebItem)
  are : rows ≡ (row ++ more) ∷ others

no_more : (row : List WebItem) → row ≡ row ++ []
no_more [] = refl
no_more (i ∷ row) = ap (λ l. i ∷ l) (no_more row)

begun : (row is : List WebItem) (rows : List (List WebItem)) → AreRows row is rows → Begun row rows
begun row is rows (rows_end a) =
    record { more = []; others = []; are = ap (λ l. l ∷ []) (no_more row) }
begun row is rows (item_more a i js rs n h) =
    let b = begun (a ++ i ∷ []) js rs h in
    record {
      more = i ∷ b.more;
      others = b.others;
      are =
          b.are ∙ ap (λ l. l ∷ b.others) (append_assoc a (i ∷ []) b.more);
    }
begun row is rows (or_between a i js rs o h) =
    record { more = []; others = rs; are = ap (λ l. l ∷ rs) (no_more a) }

-- ── the loop ──
module _ (known : Known) (mapping : Mapping) (text : List ℕ) where
  -- what was made of what was read
  pub record WebLoop (web : WebMaker) (rest : List ℕ) : Type 0 where
    pub ended : List (List WebItem)
    pub row : List WebItem
    pub read : ReadTo text rest ended row
    pub at : IsWebAt known mapping web ended row

  pub loop_start : (web : WebMaker) → web.rows ≡ false → web.row ≡ false → IsMaking web.maker []
      → WebLoop web text
  loop_start web rs r m =
      record {
        ended = [];
        row = [];
        read = read_none text;
        at =
            record { has_rows = rs; has_row = r; sketches = []; making = m; are = tt };
      }

  module _ (web : WebMaker) (rest behind : List ℕ) (i : WebItem) (l : WebLoop web rest)
      (n : IsNext rest i behind) where
    pub loop_word : (new : WebMaker)
        → ((is : List WebItem) → AreItems behind is → ¬ IsOperator l.row i is)
        → IsWebAt known mapping new l.ended (l.row ++ i ∷ []) → WebLoop new behind
    loop_word new w at =
        record {
          ended = l.ended;
          row = l.row ++ i ∷ [];
          read =
              read_word text rest behind l.ended l.row i l.read n w;
          at = at;
        }

    pub loop_operator : (new : WebMaker)
        → ((is : List WebItem) → AreItems behind is → IsOperator l.row i is)
        → IsWebAt known mapping new (l.ended ++ l.row ∷ []) [] → WebLoop new behind
    loop_operator new w at =
        record {
          ended = l.ended ++ l.row ∷ [];
          row = [];
          read =
              read_operator text rest behind l.ended l.row i l.read n w;
          at = at;
        }

    -- too many with the word
    pub word_fails : (e : QueryError)
        → ((is : List WebItem) → AreItems behind is → ¬ IsOperator l.row i is)
        → AddingFails known mapping l.ended (l.row ++ i ∷ []) e
        → WebQueryFails known mapping text e
    word_fails e w f =
        let o = items_are_one behind in
        let rows = rows_from (l.row ++ i ∷ []) o.items in
        let b = begun (l.row ++ i ∷ []) o.items rows.0 rows.1 in
        let all = (read_word text rest behind l.ended l.row i l.read n w).goes_on o.items rows.0
        o.are rows.1 in (
          l.ended ++ rows.0,
          all,
          subst (λ q. RemakingFails known mapping (web_query (l.ended ++ q)) e) (sym b.are)
              (f b.more b.others),
        )

    -- or with the operator between rows
    pub operator_fails : (e : QueryError)
        → ((is : List WebItem) → AreItems behind is → IsOperator l.row i is)
        → EndingFails known mapping l.ended l.row e
        → WebQueryFails known mapping text e
    operator_fails e w f =
        let o = items_are_one behind in
        let r = rows_are_one o.items in (
          l.ended ++ l.row ∷ r.rows,
          l.read.goes_on (i ∷ o.items) (l.row ∷ r.rows) (n.goes_on o.items o.are)
              (or_between l.row i o.items r.rows (w o.items o.are) r.are),
          f r.rows,
        )

  pub end_fails : (web : WebMaker) (rest : List ℕ) (l : WebLoop web rest) (e : QueryError)
      → AreItems rest [] → EndingFails known mapping l.ended l.row e
      → WebQueryFails known mapping text e
  end_fails web rest l e a f =
      (l.ended ++ l.row ∷ [], read_whole text rest l.ended l.row l.read a, f [])
