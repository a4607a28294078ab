-- What is said after a line's first word.
use Rattle.std.proofs.Common.{◌≡◌, ℕ, zero, suc, arith, List, [], ◌∷◌, codes, refl, sym, ◌∙◌, ap, subst}
use Rattle.std.specs.Prelude.{Result, Ok, Err, Option, Some, None, IfOk, IfNone}
use Rattle.std.specs.Str.{IsUtf8}
use Rattle.shell_script.specs.Tokens.{ScriptToken, word, quote, IsSpelled}
use Rattle.shell_script.specs.Grammar.{QuerySource, Expr, Statement, insert, update, delete, search, clean_up, show}
use Rattle.shell_script.specs.Grammar.{vacuum, ask, parse, list_commits, define, invalid, IsSession, HasSession, IsExpr}
use Rattle.shell_script.specs.Grammar.{IsQuery, IsNamed, label, expr_tokens, query_tokens, body_tokens}
use Rattle.shell_script.specs.Grammar.{statement_tokens}
use Rattle.shell_script.specs.Inner.Fronts.{Fronts}
use Rattle.shell_script.specs.Inner.Said.{IsOfSession, IsPlain, IsStatementBody, IsSaidBehind}
use Rattle.shell_script.specs.Docs.{Doc, IsDoc}
use Rattle.shell_script.proofs.DocTexts.{one_doc}
use Rattle.shell_script.proofs.Exprs.{exprs_same}
use Rattle.shell_script.proofs.Made.{queries_same}
use Rattle.shell_script.proofs.Spelling.{behind_one}
use Rattle.shell_script.proofs.FirstTokens.{heads_differ, words_same}

-- ── statements of a session ──
pub insert_or_update : codes "insert" ≡ codes "update" → ⊥
insert_or_update e = heads_differ (codes "insert") (codes "update") refl e

pub insert_or_delete : codes "insert" ≡ codes "delete" → ⊥
insert_or_delete e = heads_differ (codes "insert") (codes "delete") refl e

pub insert_or_search : codes "insert" ≡ codes "search" → ⊥
insert_or_search e = heads_differ (codes "insert") (codes "search") refl e

pub update_or_delete : codes "update" ≡ codes "delete" → ⊥
update_or_delete e = heads_differ (codes "update") (codes "delete") refl e

pub update_or_search : codes "update" ≡ codes "search" → ⊥
update_or_search e = heads_differ (codes "update") (codes "search") refl e

pub delete_or_search : codes "delete" ≡ codes "search" → ⊥
delete_or_search e = heads_differ (codes "delete") (codes "search") refl e

pub insert_or_cleanup : codes "insert" ≡ codes "cleanup" → ⊥
insert_or_cleanup e = heads_differ (codes "insert") (codes "cleanup") refl e

pub update_or_cleanup : codes "update" ≡ codes "cleanup" → ⊥
update_or_cleanup e = heads_differ (codes "update") (codes "cleanup") refl e

pub delete_or_cleanup : codes "delete" ≡ codes "cleanup" → ⊥
delete_or_cleanup e = heads_differ (codes "delete") (codes "cleanup") refl e

pub search_or_cleanup : codes "search" ≡ codes "cleanup" → ⊥
search_or_cleanup e = heads_differ (codes "search") (codes "cleanup") refl e

pub insert_or_vacuum : codes "insert" ≡ codes "vacuum" → ⊥
insert_or_vacuum e = heads_differ (codes "insert") (codes "vacuum") refl e

pub update_or_vacuum : codes "update" ≡ codes "vacuum" → ⊥
update_or_vacuum e = heads_differ (codes "update") (codes "vacuum") refl e

pub delete_or_vacuum : codes "delete" ≡ codes "vacuum" → ⊥
delete_or_vacuum e = heads_differ (codes "delete") (codes "vacuum") refl e

pub search_or_vacuum : codes "search" ≡ codes "vacuum" → ⊥
search_or_vacuum e = heads_differ (codes "search") (codes "vacuum") refl e

pub cleanup_or_vacuum : codes "cleanup" ≡ codes "vacuum" → ⊥
cleanup_or_vacuum e = heads_differ (codes "cleanup") (codes "vacuum") refl e

-- none of them is there
pub no_session_body : (first rest : List ℕ)
    → (first ≡ codes "insert" → (e : Expr) → IsExpr e → IsSpelled rest (expr_tokens e) → ⊥)
    → (first ≡ codes "update" → (d : Doc) (e : Expr) → IsDoc d → IsExpr e → IsSpelled rest (word d.text ∷ expr_tokens e)
    → ⊥)
    → (first ≡ codes "delete" → (d : Doc) → IsDoc d → IsSpelled rest (word d.text ∷ []) → ⊥)
    → (first ≡ codes "search" → (q : QuerySource) → IsQuery q → IsSpelled rest (query_tokens q) → ⊥)
    → (first ≡ codes "cleanup" → IsSpelled rest [] → ⊥) → (first ≡ codes "vacuum" → IsSpelled rest [] → ⊥)
    → (s : Statement) → IsStatementBody IsOfSession first rest s → ⊥
no_session_body first rest f u v g l m (insert x) k =
    let o = words_same (codes "insert") first (expr_tokens x) k.1.0 k.1.1 in
    f (sym o.0) x k.0 (subst (IsSpelled rest) (sym o.1) k.1.2)
no_session_body first rest f u v g l m (update d x) k =
    let o = words_same (codes "update") first (word d.text ∷ expr_tokens x) k.1.0 k.1.1 in
    u (sym o.0) d x k.0.0 k.0.1 (subst (IsSpelled rest) (sym o.1) k.1.2)
no_session_body first rest f u v g l m (delete d) k =
    let o = words_same (codes "delete") first (word d.text ∷ []) k.1.0 k.1.1 in
    v (sym o.0) d k.0 (subst (IsSpelled rest) (sym o.1) k.1.2)
no_session_body first rest f u v g l m (search x) k =
    let o = words_same (codes "search") first (query_tokens x) k.1.0 k.1.1 in
    g (sym o.0) x k.0 (subst (IsSpelled rest) (sym o.1) k.1.2)
no_session_body first rest f u v g l m clean_up k =
    let o = words_same (codes "cleanup") first [] k.1.0 k.1.1 in
    l (sym o.0) (subst (IsSpelled rest) (sym o.1) k.1.2)
no_session_body first rest f u v g l m vacuum k =
    let o = words_same (codes "vacuum") first [] k.1.0 k.1.1 in
    m (sym o.0) (subst (IsSpelled rest) (sym o.1) k.1.2)
no_session_body first rest f u v g l m (show x) k = absurd k.0
no_session_body first rest f u v g l m (ask x) k = absurd k.0
no_session_body first rest f u v g l m (parse x) k = absurd k.0
no_session_body first rest f u v g l m list_commits k = absurd k.0
no_session_body first rest f u v g l m (define head body) k = absurd k.0
no_session_body first rest f u v g l m invalid k = absurd k.0

-- where the word is there, and no update after it
pub no_update : {A E : Type 0} (first rest : List ℕ) (r : Result (Option A) E) → first ≡ codes "update"
    → IfOk r (λ found. IfNone found ((d : Doc) (e : Expr) → IsDoc d → IsExpr e
    → IsSpelled rest (word d.text ∷ expr_tokens e) → ⊥))
    → IfOk r (λ found. IfNone found ((s : Statement) → IsStatementBody IsOfSession first rest s → ⊥))
no_update first rest (Ok None) is none = no_session_body first rest (λ e x n k. insert_or_update (sym e ∙ is))
    (λ e d x h n k. none d x h n k)
    (λ e d h k. update_or_delete (sym is ∙ e)) (λ e q n k. update_or_search (sym is ∙ e))
    (λ e k. update_or_cleanup (sym is ∙ e)) (λ e k. update_or_vacuum (sym is ∙ e))
no_update first rest (Ok (Some found)) is none = tt
no_update first rest (Err e) is none = tt

docs_same : (d c : Doc) (ts us : List ScriptToken) → IsDoc d → IsDoc c → word d.text ∷ ts ≡ word c.text ∷ us
    → (d ≡ c) × (ts ≡ us)
docs_same d c ts us h k e = let o = words_same d.text c.text ts us e in (one_doc d c h k o.0, o.1)

pub one_of_session : (a b : Statement) → IsOfSession a → IsOfSession b → body_tokens a ≡ body_tokens b → a ≡ b
one_of_session (insert x) (insert y) p q same =
    ap insert (exprs_same x y p q (words_same (codes "insert") (codes "insert") (expr_tokens x) (expr_tokens y) same).1)
one_of_session (update d x) (update c y) p q same =
    let o = docs_same d c (expr_tokens x) (expr_tokens y) p.0 q.0 (words_same (codes "update") (codes "update")
    (word d.text ∷ expr_tokens x) (word c.text ∷ expr_tokens y) same).1 in
    ap (λ z. update z x) o.0 ∙ ap (update c) (exprs_same x y p.1 q.1 o.1)
one_of_session (delete d) (delete c) p q same = ap delete (docs_same d c [] [] p q
    (words_same (codes "delete") (codes "delete") (word d.text ∷ []) (word c.text ∷ []) same).1).0
one_of_session (search x) (search y) p q same =
    ap search (queries_same x y (words_same (codes "search") (codes "search") (query_tokens x) (query_tokens y) same).1)
one_of_session (insert x) (update c y) p q same = absurd (insert_or_update
    (words_same (codes "insert") (codes "update") (expr_tokens x) (word c.text ∷ expr_tokens y) same).0)
one_of_session (insert x) (delete c) p q same =
    absurd (insert_or_delete (words_same (codes "insert") (codes "delete") (expr_tokens x) (word c.text ∷ []) same).0)
one_of_session (insert x) (search y) p q same =
    absurd (insert_or_search (words_same (codes "insert") (codes "search") (expr_tokens x) (query_tokens y) same).0)
one_of_session (update d x) (insert y) p q same = absurd (insert_or_update
    (sym (words_same (codes "update") (codes "insert") (word d.text ∷ expr_tokens x) (expr_tokens y) same).0))
one_of_session (update d x) (delete c) p q same = absurd (update_or_delete
    (words_same (codes "update") (codes "delete") (word d.text ∷ expr_tokens x) (word c.text ∷ []) same).0)
one_of_session (update d x) (search y) p q same = absurd (update_or_search
    (words_same (codes "update") (codes "search") (word d.text ∷ expr_tokens x) (query_tokens y) same).0)
one_of_session (delete d) (insert y) p q same = absurd
    (insert_or_delete (sym (words_same (codes "delete") (codes "insert") (word d.text ∷ []) (expr_tokens y) same).0))
one_of_session (delete d) (update c y) p q same = absurd (update_or_delete
    (sym (words_same (codes "delete") (codes "update") (word d.text ∷ []) (word c.text ∷ expr_tokens y) same).0))
one_of_session (delete d) (search y) p q same =
    absurd (delete_or_search (words_same (codes "delete") (codes "search") (word d.text ∷ []) (query_tokens y) same).0)
one_of_session (search x) (insert y) p q same = absurd
    (insert_or_search (sym (words_same (codes "search") (codes "insert") (query_tokens x) (expr_tokens y) same).0))
one_of_session (search x) (update c y) p q same = absurd (update_or_search
    (sym (words_same (codes "search") (codes "update") (query_tokens x) (word c.text ∷ expr_tokens y) same).0))
one_of_session (search x) (delete c) p q same = absurd
    (delete_or_search (sym (words_same (codes "search") (codes "delete") (query_tokens x) (word c.text ∷ []) same).0))
one_of_session clean_up clean_up p q same = refl
one_of_session (insert x) clean_up p q same =
    absurd (insert_or_cleanup (words_same (codes "insert") (codes "cleanup") (expr_tokens x) [] same).0)
one_of_session (update d x) clean_up p q same = absurd
    (update_or_cleanup (words_same (codes "update") (codes "cleanup") (word d.text ∷ expr_tokens x) [] same).0)
one_of_session (delete d) clean_up p q same =
    absurd (delete_or_cleanup (words_same (codes "delete") (codes "cleanup") (word d.text ∷ []) [] same).0)
one_of_session (search x) clean_up p q same =
    absurd (search_or_cleanup (words_same (codes "search") (codes "cleanup") (query_tokens x) [] same).0)
one_of_session clean_up (insert y) p q same =
    absurd (insert_or_cleanup (sym (words_same (codes "cleanup") (codes "insert") [] (expr_tokens y) same).0))
one_of_session clean_up (update c y) p q same = absurd
    (update_or_cleanup (sym (words_same (codes "cleanup") (codes "update") [] (word c.text ∷ expr_tokens y) same).0))
one_of_session clean_up (delete c) p q same =
    absurd (delete_or_cleanup (sym (words_same (codes "cleanup") (codes "delete") [] (word c.text ∷ []) same).0))
one_of_session clean_up (search y) p q same =
    absurd (search_or_cleanup (sym (words_same (codes "cleanup") (codes "search") [] (query_tokens y) same).0))
one_of_session vacuum vacuum p q same = refl
one_of_session (insert x) vacuum p q same =
    absurd (insert_or_vacuum (words_same (codes "insert") (codes "vacuum") (expr_tokens x) [] same).0)
one_of_session (update d x) vacuum p q same =
    absurd (update_or_vacuum (words_same (codes "update") (codes "vacuum") (word d.text ∷ expr_tokens x) [] same).0)
one_of_session (delete d) vacuum p q same =
    absurd (delete_or_vacuum (words_same (codes "delete") (codes "vacuum") (word d.text ∷ []) [] same).0)
one_of_session (search x) vacuum p q same =
    absurd (search_or_vacuum (words_same (codes "search") (codes "vacuum") (query_tokens x) [] same).0)
one_of_session clean_up vacuum p q same =
    absurd (cleanup_or_vacuum (words_same (codes "cleanup") (codes "vacuum") [] [] same).0)
one_of_session vacuum (insert y) p q same =
    absurd (insert_or_vacuum (sym (words_same (codes "vacuum") (codes "insert") [] (expr_tokens y) same).0))
one_of_session vacuum (update c y) p q same = absurd
    (update_or_vacuum (sym (words_same (codes "vacuum") (codes "update") [] (word c.text ∷ expr_tokens y) same).0))
one_of_session vacuum (delete c) p q same =
    absurd (delete_or_vacuum (sym (words_same (codes "vacuum") (codes "delete") [] (word c.text ∷ []) same).0))
one_of_session vacuum (search y) p q same =
    absurd (search_or_vacuum (sym (words_same (codes "vacuum") (codes "search") [] (query_tokens y) same).0))
one_of_session vacuum clean_up p q same =
    absurd (cleanup_or_vacuum (sym (words_same (codes "vacuum") (codes "cleanup") [] [] same).0))
one_of_session (insert x) (show y) p q same = absurd q
one_of_session (insert x) (ask y) p q same = absurd q
one_of_session (insert x) (parse y) p q same = absurd q
one_of_session (insert x) list_commits p q same = absurd q
one_of_session (insert x) (define head body) p q same = absurd q
one_of_session (insert x) invalid p q same = absurd q
one_of_session (update d x) (show y) p q same = absurd q
one_of_session (update d x) (ask y) p q same = absurd q
one_of_session (update d x) (parse y) p q same = absurd q
one_of_session (update d x) list_commits p q same = absurd q
one_of_session (update d x) (define head body) p q same = absurd q
one_of_session (update d x) invalid p q same = absurd q
one_of_session (delete d) (show y) p q same = absurd q
one_of_session (delete d) (ask y) p q same = absurd q
one_of_session (delete d) (parse y) p q same = absurd q
one_of_session (delete d) list_commits p q same = absurd q
one_of_session (delete d) (define head body) p q same = absurd q
one_of_session (delete d) invalid p q same = absurd q
one_of_session (search x) (show y) p q same = absurd q
one_of_session (search x) (ask y) p q same = absurd q
one_of_session (search x) (parse y) p q same = absurd q
one_of_session (search x) list_commits p q same = absurd q
one_of_session (search x) (define head body) p q same = absurd q
one_of_session (search x) invalid p q same = absurd q
one_of_session clean_up (show y) p q same = absurd q
one_of_session clean_up (ask y) p q same = absurd q
one_of_session clean_up (parse y) p q same = absurd q
one_of_session clean_up list_commits p q same = absurd q
one_of_session clean_up (define head body) p q same = absurd q
one_of_session clean_up invalid p q same = absurd q
one_of_session vacuum (show y) p q same = absurd q
one_of_session vacuum (ask y) p q same = absurd q
one_of_session vacuum (parse y) p q same = absurd q
one_of_session vacuum list_commits p q same = absurd q
one_of_session vacuum (define head body) p q same = absurd q
one_of_session vacuum invalid p q same = absurd q
one_of_session (show x) b p q same = absurd p
one_of_session (ask x) b p q same = absurd p
one_of_session (parse x) b p q same = absurd p
one_of_session list_commits b p q same = absurd p
one_of_session (define head body) b p q same = absurd p
one_of_session invalid b p q same = absurd p

-- ── statements without a session ──
pub show_or_ask : codes "show" ≡ codes "ask" → ⊥
show_or_ask e = heads_differ (codes "show") (codes "ask") refl e

pub show_or_parse : codes "show" ≡ codes "parse" → ⊥
show_or_parse e = heads_differ (codes "show") (codes "parse") refl e

pub show_or_commits : codes "show" ≡ codes "commits" → ⊥
show_or_commits e = heads_differ (codes "show") (codes "commits") refl e

pub ask_or_parse : codes "ask" ≡ codes "parse" → ⊥
ask_or_parse e = heads_differ (codes "ask") (codes "parse") refl e

pub ask_or_commits : codes "ask" ≡ codes "commits" → ⊥
ask_or_commits e = heads_differ (codes "ask") (codes "commits") refl e

pub parse_or_commits : codes "parse" ≡ codes "commits" → ⊥
parse_or_commits e = heads_differ (codes "parse") (codes "commits") refl e

-- none of them is there
pub no_plain_body : (first rest : List ℕ)
    → (first ≡ codes "show" → (e : Expr) → IsExpr e → IsSpelled rest (expr_tokens e) → ⊥)
    → (first ≡ codes "ask" → (q : QuerySource) → IsQuery q → IsSpelled rest (query_tokens q) → ⊥)
    → (first ≡ codes "parse" → (t : List ℕ) → IsSpelled rest (quote t ∷ []) → ⊥)
    → (first ≡ codes "commits" → IsSpelled rest [] → ⊥) → (s : Statement) → IsStatementBody IsPlain first rest s → ⊥
no_plain_body first rest f g h l (show x) k =
    let o = words_same (codes "show") first (expr_tokens x) k.1.0 k.1.1 in
    f (sym o.0) x k.0 (subst (IsSpelled rest) (sym o.1) k.1.2)
no_plain_body first rest f g h l (ask x) k =
    let o = words_same (codes "ask") first (query_tokens x) k.1.0 k.1.1 in
    g (sym o.0) x k.0 (subst (IsSpelled rest) (sym o.1) k.1.2)
no_plain_body first rest f g h l (parse x) k =
    let o = words_same (codes "parse") first (quote x ∷ []) k.1.0 k.1.1 in
    h (sym o.0) x (subst (IsSpelled rest) (sym o.1) k.1.2)
no_plain_body first rest f g h l list_commits k =
    let o = words_same (codes "commits") first [] k.1.0 k.1.1 in
    l (sym o.0) (subst (IsSpelled rest) (sym o.1) k.1.2)
no_plain_body first rest f g h l (insert x) k = absurd k.0
no_plain_body first rest f g h l (update d x) k = absurd k.0
no_plain_body first rest f g h l (delete d) k = absurd k.0
no_plain_body first rest f g h l (search x) k = absurd k.0
no_plain_body first rest f g h l clean_up k = absurd k.0
no_plain_body first rest f g h l vacuum k = absurd k.0
no_plain_body first rest f g h l (define head body) k = absurd k.0
no_plain_body first rest f g h l invalid k = absurd k.0

texts_same : (t u : List ℕ) → quote t ∷ [] ≡ quote u ∷ [] → t ≡ u
texts_same t u e = cc

pub one_plain : (a b : Statement) → IsPlain a → IsPlain b → body_tokens a ≡ body_tokens b → a ≡ b
one_plain (show x) (show y) p q same =
    ap show (exprs_same x y p q (words_same (codes "show") (codes "show") (expr_tokens x) (expr_tokens y) same).1)
one_plain (ask x) (ask y) p q same =
    ap ask (queries_same x y (words_same (codes "ask") (codes "ask") (query_tokens x) (query_tokens y) same).1)
one_plain (parse x) (parse y) p q same =
    ap parse (texts_same x y (words_same (codes "parse") (codes "parse") (quote x ∷ []) (quote y ∷ []) same).1)
one_plain list_commits list_commits p q same = refl
one_plain (show x) (ask y) p q same =
    absurd (show_or_ask (words_same (codes "show") (codes "ask") (expr_tokens x) (query_tokens y) same).0)
one_plain (show x) (parse y) p q same =
    absurd (show_or_parse (words_same (codes "show") (codes "parse") (expr_tokens x) (quote y ∷ []) same).0)
one_plain (show x) list_commits p q same =
    absurd (show_or_commits (words_same (codes "show") (codes "commits") (expr_tokens x) [] same).0)
one_plain (ask x) (show y) p q same =
    absurd (show_or_ask (sym (words_same (codes "ask") (codes "show") (query_tokens x) (expr_tokens y) same).0))
one_plain (ask x) (parse y) p q same =
    absurd (ask_or_parse (words_same (codes "ask") (codes "parse") (query_tokens x) (quote y ∷ []) same).0)
one_plain (ask x) list_commits p q same =
    absurd (ask_or_commits (words_same (codes "ask") (codes "commits") (query_tokens x) [] same).0)
one_plain (parse x) (show y) p q same =
    absurd (show_or_parse (sym (words_same (codes "parse") (codes "show") (quote x ∷ []) (expr_tokens y) same).0))
one_plain (parse x) (ask y) p q same =
    absurd (ask_or_parse (sym (words_same (codes "parse") (codes "ask") (quote x ∷ []) (query_tokens y) same).0))
one_plain (parse x) list_commits p q same =
    absurd (parse_or_commits (words_same (codes "parse") (codes "commits") (quote x ∷ []) [] same).0)
one_plain list_commits (show y) p q same =
    absurd (show_or_commits (sym (words_same (codes "commits") (codes "show") [] (expr_tokens y) same).0))
one_plain list_commits (ask y) p q same =
    absurd (ask_or_commits (sym (words_same (codes "commits") (codes "ask") [] (query_tokens y) same).0))
one_plain list_commits (parse y) p q same =
    absurd (parse_or_commits (sym (words_same (codes "commits") (codes "parse") [] (quote y ∷ []) same).0))
one_plain (show x) (insert y) p q same = absurd q
one_plain (show x) (update c y) p q same = absurd q
one_plain (show x) (delete c) p q same = absurd q
one_plain (show x) (search y) p q same = absurd q
one_plain (show x) clean_up p q same = absurd q
one_plain (show x) vacuum p q same = absurd q
one_plain (show x) (define head body) p q same = absurd q
one_plain (show x) invalid p q same = absurd q
one_plain (ask x) (insert y) p q same = absurd q
one_plain (ask x) (update c y) p q same = absurd q
one_plain (ask x) (delete c) p q same = absurd q
one_plain (ask x) (search y) p q same = absurd q
one_plain (ask x) clean_up p q same = absurd q
one_plain (ask x) vacuum p q same = absurd q
one_plain (ask x) (define head body) p q same = absurd q
one_plain (ask x) invalid p q same = absurd q
one_plain (parse x) (insert y) p q same = absurd q
one_plain (parse x) (update c y) p q same = absurd q
one_plain (parse x) (delete c) p q same = absurd q
one_plain (parse x) (search y) p q same = absurd q
one_plain (parse x) clean_up p q same = absurd q
one_plain (parse x) vacuum p q same = absurd q
one_plain (parse x) (define head body) p q same = absurd q
one_plain (parse x) invalid p q same = absurd q
one_plain list_commits (insert y) p q same = absurd q
one_plain list_commits (update c y) p q same = absurd q
one_plain list_commits (delete c) p q same = absurd q
one_plain list_commits (search y) p q same = absurd q
one_plain list_commits clean_up p q same = absurd q
one_plain list_commits vacuum p q same = absurd q
one_plain list_commits (define head body) p q same = absurd q
one_plain list_commits invalid p q same = absurd q
one_plain (insert x) b p q same = absurd p
one_plain (update d x) b p q same = absurd p
one_plain (delete d) b p q same = absurd p
one_plain (search x) b p q same = absurd p
one_plain clean_up b p q same = absurd p
one_plain vacuum b p q same = absurd p
one_plain (define head body) b p q same = absurd p
one_plain invalid b p q same = absurd p

pub label_or_show : (s : ℕ) → label s ≡ codes "show" → ⊥
label_or_show s e = heads_differ (label s) (codes "show") refl e

pub label_or_ask : (s : ℕ) → label s ≡ codes "ask" → ⊥
label_or_ask s e = heads_differ (label s) (codes "ask") refl e

pub label_or_parse : (s : ℕ) → label s ≡ codes "parse" → ⊥
label_or_parse s e = heads_differ (label s) (codes "parse") refl e

pub label_or_commits : (s : ℕ) → label s ≡ codes "commits" → ⊥
label_or_commits s e = heads_differ (label s) (codes "commits") refl e

-- the tokens after a label, and without one
pub labelled_tokens : (s : ℕ) (statement : Statement) → IsSession s
    → statement_tokens s statement ≡ word (label s) ∷ body_tokens statement
labelled_tokens zero statement h = absurd (omega (arith, h.0))
labelled_tokens (suc n) statement h = refl

pub plain_tokens : (t : ℕ) (statement : Statement) → t ≡ 0 → statement_tokens t statement ≡ body_tokens statement
plain_tokens t statement e = ap (λ n. statement_tokens n statement) e

-- a statement after a label
pub said_by_label : (first rest w behind : List ℕ) (s : ℕ) (statement : Statement) → IsUtf8 rest → IsSession s
    → first ≡ label s → Fronts rest (word w ∷ []) behind → IsStatementBody IsOfSession w behind statement
    → IsSaidBehind first rest s statement
said_by_label first rest w behind s statement u i e h k = record {
  session = by statement k.0;
  named = named statement k.0;
  utf8 = u;
  others = body_tokens statement;
  tokens = labelled_tokens s statement i ∙ ap (λ l. word l ∷ body_tokens statement) (sym e);
  spelled = subst (IsSpelled rest) (sym k.1.1) (h.goes_on k.1.0 k.1.2);
}
  where
    named : (a : Statement) → IsOfSession a → IsNamed a
    named (insert x) o = o
    named (update d x) o = o
    named (delete d) o = o
    named (search x) o = o
    named clean_up o = tt
    named vacuum o = tt
    named list_commits o = absurd o
    named (show x) o = absurd o
    named (ask x) o = absurd o
    named (parse x) o = absurd o
    named (define head body) o = absurd o
    named invalid o = absurd o

    by : (a : Statement) → IsOfSession a → HasSession s a
    by (insert x) o = i
    by (update d x) o = i
    by (delete d) o = i
    by (search x) o = i
    by clean_up o = i
    by vacuum o = i
    by list_commits o = absurd o
    by (show x) o = absurd o
    by (ask x) o = absurd o
    by (parse x) o = absurd o
    by (define head body) o = absurd o
    by invalid o = absurd o

-- what is said after a label is a statement of that session, in one word and what follows
store_said : (first rest : List ℕ) (s t : ℕ) (statement : Statement) → first ≡ label s → IsSession t
    → IsOfSession statement → (k : IsSaidBehind first rest t statement) → IsSpelled rest (body_tokens statement)
store_said first rest s zero statement e i o k = absurd (omega (arith, i.0))
store_said first rest s (suc n) statement e i o k = subst (IsSpelled rest)
    (sym (words_same (label (suc n)) first (body_tokens statement) k.others k.tokens).1) k.spelled

pub none_by_label : (first rest w behind : List ℕ) (s : ℕ) → first ≡ label s → Fronts rest (word w ∷ []) behind
    → ((a : Statement) → IsStatementBody IsOfSession w behind a → ⊥) → (t : ℕ) (a : Statement)
    → IsSaidBehind first rest t a → ⊥
none_by_label first rest w behind s e h bad t (insert x) k =
    let o = behind_one rest (word w) behind (word (codes "insert")) (expr_tokens x) h
    (store_said first rest s t (insert x) e k.session k.named k) in
    bad (insert x) (k.named, (expr_tokens x, ap (λ z. z ∷ expr_tokens x) o.0, o.1))
none_by_label first rest w behind s e h bad t (update d x) k =
    let ts : List ScriptToken = word d.text ∷ expr_tokens x in
    let o = behind_one rest (word w) behind (word (codes "update")) ts h
    (store_said first rest s t (update d x) e k.session k.named k) in
    bad (update d x) (k.named, (ts, ap (λ z. z ∷ ts) o.0, o.1))
none_by_label first rest w behind s e h bad t (delete d) k =
    let ts : List ScriptToken = word d.text ∷ [] in
    let o = behind_one rest (word w) behind (word (codes "delete")) ts h
    (store_said first rest s t (delete d) e k.session k.named k) in
    bad (delete d) (k.named, (ts, ap (λ z. z ∷ ts) o.0, o.1))
none_by_label first rest w behind s e h bad t list_commits k = label_or_commits s (sym e
    ∙ sym (words_same (codes "commits") first [] k.others (sym (plain_tokens t list_commits k.session) ∙ k.tokens)).0)
none_by_label first rest w behind s e h bad t (search x) k =
    let o = behind_one rest (word w) behind (word (codes "search")) (query_tokens x) h
    (store_said first rest s t (search x) e k.session k.named k) in
    bad (search x) (k.named, (query_tokens x, ap (λ z. z ∷ query_tokens x) o.0, o.1))
none_by_label first rest w behind s e h bad t clean_up k =
    let o = behind_one rest (word w) behind (word (codes "cleanup")) [] h
    (store_said first rest s t clean_up e k.session tt k) in
    bad clean_up (tt, ([], ap (λ z. z ∷ []) o.0, o.1))
none_by_label first rest w behind s e h bad t vacuum k =
    let o = behind_one rest (word w) behind (word (codes "vacuum")) [] h
    (store_said first rest s t vacuum e k.session tt k) in
    bad vacuum (tt, ([], ap (λ z. z ∷ []) o.0, o.1))
none_by_label first rest w behind s e h bad t (show x) k = label_or_show s (sym e ∙ sym
    (words_same (codes "show") first (expr_tokens x) k.others (sym (plain_tokens t (show x) k.session) ∙ k.tokens)).0)
none_by_label first rest w behind s e h bad t (ask x) k = label_or_ask s (sym e ∙ sym
    (words_same (codes "ask") first (query_tokens x) k.others (sym (plain_tokens t (ask x) k.session) ∙ k.tokens)).0)
none_by_label first rest w behind s e h bad t (parse x) k = label_or_parse s (sym e ∙ sym
    (words_same (codes "parse") first (quote x ∷ []) k.others (sym (plain_tokens t (parse x) k.session) ∙ k.tokens)).0)
none_by_label first rest w behind s e h bad t (define head body) k = k.session
none_by_label first rest w behind s e h bad t invalid k = k.session

pub none_by_no_word : (first rest : List ℕ) (s : ℕ) → first ≡ label s → ((w : List ℕ) (ts : List ScriptToken)
    → IsSpelled rest (word w ∷ ts) → ⊥) → (t : ℕ) (a : Statement) → IsSaidBehind first rest t a → ⊥
none_by_no_word first rest s e bad t (insert x) k =
    bad (codes "insert") (expr_tokens x) (store_said first rest s t (insert x) e k.session k.named k)
none_by_no_word first rest s e bad t (update d x) k =
    bad (codes "update") (word d.text ∷ expr_tokens x) (store_said first rest s t (update d x) e k.session k.named k)
none_by_no_word first rest s e bad t (delete d) k =
    bad (codes "delete") (word d.text ∷ []) (store_said first rest s t (delete d) e k.session k.named k)
none_by_no_word first rest s e bad t list_commits k = label_or_commits s (sym e
    ∙ sym (words_same (codes "commits") first [] k.others (sym (plain_tokens t list_commits k.session) ∙ k.tokens)).0)
none_by_no_word first rest s e bad t (search x) k =
    bad (codes "search") (query_tokens x) (store_said first rest s t (search x) e k.session k.named k)
none_by_no_word first rest s e bad t clean_up k =
    bad (codes "cleanup") [] (store_said first rest s t clean_up e k.session tt k)
none_by_no_word first rest s e bad t vacuum k =
    bad (codes "vacuum") [] (store_said first rest s t vacuum e k.session tt k)
none_by_no_word first rest s e bad t (show x) k = label_or_show s (sym e ∙ sym
    (words_same (codes "show") first (expr_tokens x) k.others (sym (plain_tokens t (show x) k.session) ∙ k.tokens)).0)
none_by_no_word first rest s e bad t (ask x) k = label_or_ask s (sym e ∙ sym
    (words_same (codes "ask") first (query_tokens x) k.others (sym (plain_tokens t (ask x) k.session) ∙ k.tokens)).0)
none_by_no_word first rest s e bad t (parse x) k = label_or_parse s (sym e ∙ sym
    (words_same (codes "parse") first (quote x ∷ []) k.others (sym (plain_tokens t (parse x) k.session) ∙ k.tokens)).0)
none_by_no_word first rest s e bad t (define head body) k = k.session
none_by_no_word first rest s e bad t invalid k = k.session

-- a statement without a label
pub said_plainly : (first rest : List ℕ) (statement : Statement) → IsUtf8 rest
    → IsStatementBody IsPlain first rest statement → IsSaidBehind first rest 0 statement
said_plainly first rest statement u k = record {
  session = by statement k.0;
  named = named statement k.0;
  utf8 = u;
  others = k.1.0;
  tokens = k.1.1;
  spelled = k.1.2;
}
  where
    named : (a : Statement) → IsPlain a → IsNamed a
    named (show x) o = o
    named (ask x) o = o
    named (parse x) o = tt
    named list_commits o = tt
    named (update d x) o = absurd o
    named (delete d) o = absurd o
    named (insert x) o = absurd o
    named (search x) o = absurd o
    named clean_up o = absurd o
    named vacuum o = absurd o
    named (define head body) o = absurd o
    named invalid o = absurd o

    by : (a : Statement) → IsPlain a → HasSession 0 a
    by (show x) o = refl
    by (ask x) o = refl
    by (parse x) o = refl
    by list_commits o = refl
    by (update d x) o = absurd o
    by (delete d) o = absurd o
    by (insert x) o = absurd o
    by (search x) o = absurd o
    by clean_up o = absurd o
    by vacuum o = absurd o
    by (define head body) o = absurd o
    by invalid o = absurd o

pub none_plainly : (first rest : List ℕ) → ((s : ℕ) → IsSession s → first ≡ label s → ⊥) → ((a : Statement)
    → IsStatementBody IsPlain first rest a → ⊥) → (t : ℕ) (a : Statement) → IsSaidBehind first rest t a → ⊥
none_plainly first rest unlabelled bad t (insert x) k = labelled t k.session k.tokens
  where
    labelled : (n : ℕ) → IsSession n → statement_tokens n (insert x) ≡ word first ∷ k.others → ⊥
    labelled zero j e = omega (arith, j.0)
    labelled (suc n) j e =
        unlabelled (suc n) j (sym (words_same (label (suc n)) first (body_tokens (insert x)) k.others e).0)
none_plainly first rest unlabelled bad t (update d x) k = labelled t k.session k.tokens
  where
    labelled : (n : ℕ) → IsSession n → statement_tokens n (update d x) ≡ word first ∷ k.others → ⊥
    labelled zero j e = omega (arith, j.0)
    labelled (suc n) j e =
        unlabelled (suc n) j (sym (words_same (label (suc n)) first (body_tokens (update d x)) k.others e).0)
none_plainly first rest unlabelled bad t (delete d) k = labelled t k.session k.tokens
  where
    labelled : (n : ℕ) → IsSession n → statement_tokens n (delete d) ≡ word first ∷ k.others → ⊥
    labelled zero j e = omega (arith, j.0)
    labelled (suc n) j e =
        unlabelled (suc n) j (sym (words_same (label (suc n)) first (body_tokens (delete d)) k.others e).0)
none_plainly first rest unlabelled bad t (search x) k = labelled t k.session k.tokens
  where
    labelled : (n : ℕ) → IsSession n → statement_tokens n (search x) ≡ word first ∷ k.others → ⊥
    labelled zero j e = omega (arith, j.0)
    labelled (suc n) j e =
        unlabelled (suc n) j (sym (words_same (label (suc n)) first (body_tokens (search x)) k.others e).0)
none_plainly first rest unlabelled bad t clean_up k = labelled t k.session k.tokens
  where
    labelled : (n : ℕ) → IsSession n → statement_tokens n clean_up ≡ word first ∷ k.others → ⊥
    labelled zero j e = omega (arith, j.0)
    labelled (suc n) j e =
        unlabelled (suc n) j (sym (words_same (label (suc n)) first (body_tokens clean_up) k.others e).0)
none_plainly first rest unlabelled bad t vacuum k = labelled t k.session k.tokens
  where
    labelled : (n : ℕ) → IsSession n → statement_tokens n vacuum ≡ word first ∷ k.others → ⊥
    labelled zero j e = omega (arith, j.0)
    labelled (suc n) j e =
        unlabelled (suc n) j (sym (words_same (label (suc n)) first (body_tokens vacuum) k.others e).0)
none_plainly first rest unlabelled bad t (show x) k =
    bad (show x) (k.named, (k.others, sym (plain_tokens t (show x) k.session) ∙ k.tokens, k.spelled))
none_plainly first rest unlabelled bad t (ask x) k =
    bad (ask x) (k.named, (k.others, sym (plain_tokens t (ask x) k.session) ∙ k.tokens, k.spelled))
none_plainly first rest unlabelled bad t (parse x) k =
    bad (parse x) (tt, (k.others, sym (plain_tokens t (parse x) k.session) ∙ k.tokens, k.spelled))
none_plainly first rest unlabelled bad t list_commits k =
    bad list_commits (tt, (k.others, sym (plain_tokens t list_commits k.session) ∙ k.tokens, k.spelled))
none_plainly first rest unlabelled bad t (define head body) k = k.session
none_plainly first rest unlabelled bad t invalid k = k.session
