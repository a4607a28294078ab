-- The text of each reply.
use Rattle.std.specs.Prelude.{ℕ, zero, suc, ◌+◌, List, [], ◌∷◌, ◌++◌, length, codes, decimal, Option, Some, None}
use Rattle.std.specs.List.{flat_map}
use Rattle.ts_parser.specs.declared.iter.Token.{Token}
use Rattle.ts_parser.specs.Kinds.{type_number}
use Rattle.page_types.specs.declared.page.Name.{Name}
use Rattle.shell_script.specs.Replies.{TextFault, bad_vector, bad_query, long_lexeme, large_vector, large_query}
use Rattle.shell_script.specs.Replies.{Refusal, no_statement, no_configuration, no_dictionary, text_refused}
use Rattle.shell_script.specs.Replies.{no_document, conflict, store_full, log_full, transactions_spent}
use Rattle.shell_script.specs.Replies.{down, device, bad_page, memory}
use Rattle.shell_script.specs.Replies.{CommitLine, Reply, stored, removed, maintained, lists, shows_vector}
use Rattle.shell_script.specs.Replies.{shows_query, shows_tokens, shows_commits, done, refused}

abbrev pub name_text : Name → List ℕ
name_text n = decimal n.page ++ codes "/" ++ decimal n.slot ++ codes "#" ++ decimal n.serial

-- a statement of a session is answered after its label
abbrev pub label_text : ℕ → List ℕ
label_text zero = []
label_text (suc n) = codes "@" ++ (decimal (suc n) ++ codes " ")

-- a text, if there is any, is after a space
abbrev pub behind_space : List ℕ → List ℕ
behind_space [] = []
behind_space (c ∷ text) = 32 ∷ c ∷ text

-- the number of a text's refusal and its words
abbrev pub fault_words : TextFault → List ℕ
fault_words (bad_vector at) = codes "2 vector"
fault_words (bad_query at) = codes "3 query"
fault_words (long_lexeme at) = codes "6 lexeme"
fault_words (large_vector bytes) = codes "7 vector size"
fault_words large_query = codes "8 query size"

-- the number of a refusal and its words
abbrev pub refusal_words : Refusal → List ℕ
refusal_words (no_statement line) = codes "1 statement"
refusal_words no_configuration = codes "4 configuration"
refusal_words no_dictionary = codes "5 dictionary"
refusal_words (text_refused fault) = fault_words fault
refusal_words no_document = codes "9 no document"
refusal_words (conflict xid) = codes "10 conflict"
refusal_words store_full = codes "11 store full"
refusal_words log_full = codes "12 log full"
refusal_words transactions_spent = codes "13 transactions spent"
refusal_words (down count) = codes "14 down"
refusal_words device = codes "15 device"
refusal_words (bad_page page) = codes "16 page"
refusal_words memory = codes "17 memory"

-- the offset or size that a text's refusal says
abbrev pub fault_detail : TextFault → Option ℕ
fault_detail (bad_vector at) = Some at
fault_detail (bad_query at) = Some at
fault_detail (long_lexeme at) = Some at
fault_detail (large_vector bytes) = Some bytes
fault_detail large_query = None

-- the line, offset, size, transaction, count or page that it says
abbrev pub refusal_detail : Refusal → Option ℕ
refusal_detail (no_statement line) = Some line
refusal_detail no_configuration = None
refusal_detail no_dictionary = None
refusal_detail (text_refused fault) = fault_detail fault
refusal_detail no_document = None
refusal_detail (conflict xid) = Some xid
refusal_detail store_full = None
refusal_detail log_full = None
refusal_detail transactions_spent = None
refusal_detail (down count) = Some count
refusal_detail device = None
refusal_detail (bad_page page) = Some page
refusal_detail memory = None

abbrev pub detail_text : Option ℕ → List ℕ
detail_text None = []
detail_text (Some n) = codes " " ++ decimal n

abbrev pub refusal_text : Refusal → List ℕ
refusal_text why = refusal_words why ++ detail_text (refusal_detail why)

-- each name after this text
abbrev pub names_after : List ℕ → List Name → List ℕ
names_after before names = flat_map (λ (n : Name). before ++ name_text n) names

-- what a reply says
abbrev pub reply_text : Reply → List ℕ
reply_text (stored name) = codes "ok " ++ name_text name
reply_text removed = codes "ok"
reply_text maintained = codes "ok"
reply_text (lists names) = codes "found" ++ names_after (codes " ") names
reply_text (shows_vector text) = codes "vector" ++ behind_space text
reply_text (shows_query text) = codes "query" ++ behind_space text
reply_text (shows_tokens tokens) = codes "ok"
reply_text (shows_commits commits) = codes "commits " ++ decimal (length commits)
reply_text done = codes "ok"
reply_text (refused why) = codes "error " ++ refusal_text why

-- the line of a token: its type's number, the offset at which it starts, and its length
abbrev pub token_line : Token → List ℕ
token_line t =
    codes "token " ++ (decimal (type_number t.kind) ++ (codes " " ++ (decimal t.start
    ++ (codes " " ++ (decimal t.length ++ codes "\n")))))

-- the line of a commit: its number, and the names that it deleted and inserted
abbrev pub commit_text : ℕ → CommitLine → List ℕ
commit_text number c =
    codes "commit " ++ (decimal number ++ (names_after (codes " -") c.deleted
    ++ (names_after (codes " +") c.inserted ++ codes "\n")))

-- the lines of commits, of which the first has this number
abbrev pub commit_texts : ℕ → List CommitLine → List ℕ
commit_texts number [] = []
commit_texts number (c ∷ cs) = commit_text number c ++ commit_texts (number + 1) cs

-- the lines of tokens and of commits are before the line that says what a reply says
abbrev pub lines_before : Reply → List ℕ
lines_before (shows_tokens tokens) = flat_map token_line tokens
lines_before (shows_commits commits) = commit_texts 1 commits
lines_before reply = []

-- the last line of a reply
abbrev pub last_line : ℕ → Reply → List ℕ
last_line session reply = label_text session ++ (reply_text reply ++ codes "\n")

-- all that is printed of a reply
abbrev pub said : ℕ → Reply → List ℕ
said session reply = lines_before reply ++ last_line session reply
