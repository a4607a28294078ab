-- Dictionaries and configurations that are looked up by name.
use Rattle.std.proofs.Common.{◌≡◌, ℕ, zero, suc, ◌+◌, ◌<◌, List, [], ◌∷◌, ◌++◌, Bool, true, false, cond, not, ◌||◌}
use Rattle.std.proofs.Common.{length, map, refl, sym, ◌∙◌, ap, get_or, arith}
use Rattle.std.specs.Prelude.{◌↔◌, All, Option, Some, None, is_some, IsSome, IfSome, position, bytes_eq, nat_lt}
use Rattle.std.specs.Prelude.{option_copied, string_bytes, string_eq, String}
use Rattle.std.specs.List.{Any, list_any, find, position_or_len}
use Rattle.std.specs.Option.{option_map}
use Rattle.std.specs.Map.{lookup, keys_of}
use Rattle.std.specs.declared.alloc.Global.{Global}
use Rattle.std.proofs.lemmas.Slice.Eq.{bytes_eq-Decides}
use Rattle.std.proofs.lemmas.Bool.{true≢false}
use Rattle.std.proofs.lemmas.List.Folds.{Any-from_list_any, list_any-from_Any}
use Rattle.std.proofs.lemmas.List.{length-map, map-append}
use Rattle.std.proofs.lemmas.List.Elements.{All-head, All-tail}
use Rattle.indexmap.specs.IndexMap.{IndexMap, insert_entry}
use Rattle.indexmap.proofs.CallerLemmas.{insert_entry-new}
use Rattle.ts_config.specs.declared.dictionaries.AnyDictionary.{AnyDictionary}
use Rattle.ts_config.specs.Rules.{rules_of}
use Rattle.ts_config.specs.Mappings.{Mapping}
use Rattle.ts_config.specs.Known.{NamedRules, NamedMapping, Known, HasDictionary, HasConfiguration, IsWithin}
use Rattle.ts_config.specs.Known.{rules_named, mapping_named, place_of, ArePlaces}
use Rattle.ts_config.specs.Inner.Entries.{named_rules, named_mapping, AllWithin}
use denote.Ref.{Bor}

-- ── the map's own words, and those of the lists ──
pub rules_found : (name : List ℕ) (es : List (String Global × AnyDictionary))
    → option_map rules_of (lookup (λ k. bytes_eq name (string_bytes k)) es)
    ≡ option_map (λ d. d.rules) (find (λ d. bytes_eq name d.name) (map named_rules es))
rules_found name [] = refl
rules_found name (e ∷ es) = by (rules_found name es) (bytes_eq name (string_bytes e.0))
  where
    by : option_map rules_of (lookup (λ k. bytes_eq name (string_bytes k)) es)
        ≡ option_map (λ d. d.rules) (find (λ d. bytes_eq name d.name) (map named_rules es)) → (b : Bool)
        → option_map rules_of (cond b (Some e.1) (lookup (λ k. bytes_eq name (string_bytes k)) es)) ≡ option_map (λ d.
        d.rules) (cond b (Some (named_rules e)) (find (λ d. bytes_eq name d.name) (map named_rules es)))
    by h true = refl
    by h false = h

pub mapping_found : (name : List ℕ) (es : List (String Global × Mapping))
    → lookup (λ k. bytes_eq name (string_bytes k)) es
    ≡ option_map (λ c. c.mapping) (find (λ c. bytes_eq name c.name) (map named_mapping es))
mapping_found name [] = refl
mapping_found name (e ∷ es) = by (mapping_found name es) (bytes_eq name (string_bytes e.0))
  where
    by : lookup (λ k. bytes_eq name (string_bytes k)) es
        ≡ option_map (λ c. c.mapping) (find (λ c. bytes_eq name c.name) (map named_mapping es)) → (b : Bool)
        → cond b (Some e.1) (lookup (λ k. bytes_eq name (string_bytes k)) es) ≡ option_map (λ c. c.mapping) (cond b
        (Some (named_mapping e)) (find (λ c. bytes_eq name c.name) (map named_mapping es)))
    by h true = refl
    by h false = h

places_before : (name : List ℕ) (es : List (String Global × AnyDictionary))
    → position_or_len (λ k. bytes_eq name (string_bytes k)) (keys_of es)
    ≡ position_or_len (λ d. bytes_eq name d.name) (map named_rules es)
places_before name [] = refl
places_before name (e ∷ es) = ap (λ n. cond (not (bytes_eq name (string_bytes e.0))) (1 + n) 0) (places_before name es)

pub place_found : (name : List ℕ) (es : List (String Global × AnyDictionary))
    → position (λ k. bytes_eq name (string_bytes k)) (keys_of es)
    ≡ position (λ d. bytes_eq name d.name) (map named_rules es)
place_found name es =
    let pick : ℕ → ℕ → Option ℕ = λ n l. cond (nat_lt n l) (Some n) None in
    let same : length (keys_of es) ≡ length (map named_rules es) =
    length-map es (λ e. e.0) ∙ sym (length-map es named_rules) in
    (λ i. pick (places_before name es i) (same i))

-- ── whether there is one ──
module _ {X : Type 0} (p : X → Bool) where
  some_find : (xs : List X) → is_some (find p xs) ≡ list_any p xs
  some_find [] = refl
  some_find (x ∷ xs) = by (some_find xs) (p x)
    where
      by : is_some (find p xs) ≡ list_any p xs → (b : Bool)
          → is_some (cond b (Some x) (find p xs)) ≡ (b || list_any p xs)
      by h true = refl
      by h false = h

  -- what holds of all holds of the one that is found
  pub find_all : (P : X → Type 0) (xs : List X) → All P xs → IfSome (find p xs) P
  find_all P [] h = tt
  find_all P (x ∷ xs) h = by (All-head P x xs h) (find_all P xs (All-tail P x xs h)) (p x)
    where
      by : P x → IfSome (find p xs) P → (b : Bool) → IfSome (cond b (Some x) (find p xs)) P
      by h k true = h
      by h k false = k

module _ {N : Type 0} (name_of : N → List ℕ) (name : List ℕ) (ns : List N) where
  pub any_named : list_any (λ n. bytes_eq name (name_of n)) ns ≡ true → Any (λ n. name_of n ≡ name) ns
  any_named h =
      let a = Any-from_list_any (λ n. bytes_eq name (name_of n)) ns h in
      (a.0, a.1, a.2, a.3, sym ((bytes_eq-Decides name (name_of a.1)).0 a.4))

  pub named_any : Any (λ n. name_of n ≡ name) ns → list_any (λ n. bytes_eq name (name_of n)) ns ≡ true
  named_any a = list_any-from_Any (λ n. bytes_eq name (name_of n)) ns
      (a.0, a.1, a.2, a.3, (bytes_eq-Decides name (name_of a.1)).1 (sym a.4))

pub some_map : {A B : Type 0} (f : A → B) (o : Option A) → is_some (option_map f o) ≡ is_some o
some_map f None = refl
some_map f (Some x) = refl

pub has_rules : (known : Known) (name : List ℕ) → IsSome (rules_named known name) ↔ HasDictionary known name
has_rules known name =
    let e = some_map (λ (d : NamedRules). d.rules) (find (λ d. bytes_eq name d.name) known.dictionaries)
    ∙ some_find (λ (d : NamedRules). bytes_eq name d.name) known.dictionaries in (
      λ h. any_named (λ (d : NamedRules). d.name) name known.dictionaries (sym e ∙ h),
      λ h. e ∙ named_any (λ (d : NamedRules). d.name) name known.dictionaries h,
    )

pub has_mapping : (known : Known) (name : List ℕ) → IsSome (mapping_named known name) ↔ HasConfiguration known name
has_mapping known name =
    let e = some_map (λ (c : NamedMapping). c.mapping) (find (λ c. bytes_eq name c.name) known.configurations)
    ∙ some_find (λ (c : NamedMapping). bytes_eq name c.name) known.configurations in (
      λ h. any_named (λ (c : NamedMapping). c.name) name known.configurations (sym e ∙ h),
      λ h. e ∙ named_any (λ (c : NamedMapping). c.name) name known.configurations h,
    )

pub named_within : (known : Known) (name : List ℕ) → AllWithin known
    → IfSome (mapping_named known name) (IsWithin known)
named_within known name h = over (find (λ c. bytes_eq name c.name) known.configurations)
    (find_all (λ c. bytes_eq name c.name) (λ c. IsWithin known c.mapping) known.configurations h)
  where
    over : (o : Option NamedMapping) → IfSome o (λ c. IsWithin known c.mapping)
        → IfSome (option_map (λ c. c.mapping) o) (IsWithin known)
    over None k = tt
    over (Some c) k = k

-- ── references ──
module _ {A : Type 0} where
  pub rules_copied : {B : Type 0} (f : A → B) (o : Option (Bor A))
      → option_map (λ x. f x.now) o ≡ option_map f (option_copied o)
  rules_copied f None = refl
  rules_copied f (Some x) = refl

  pub some_copied : (o : Option (Bor A)) → is_some o ≡ is_some (option_copied o)
  some_copied None = refl
  some_copied (Some x) = refl

  pub all_copied : (Q : A → Type 0) (o : Option (Bor A)) → IfSome (option_copied o) Q → IfSome o (λ x. Q x.now)
  all_copied Q None h = tt
  all_copied Q (Some x) h = h

-- ── keys ──
pub rules_key : (name : List ℕ) (es : List (String Global × AnyDictionary))
    → is_some (lookup (λ k. bytes_eq name (string_bytes k)) es)
    ≡ list_any (λ d. bytes_eq name d.name) (map named_rules es)
rules_key name es =
    sym (some_map rules_of (lookup (λ k. bytes_eq name (string_bytes k)) es)) ∙ ap is_some (rules_found name es)
    ∙ some_map (λ (d : NamedRules). d.rules) (find (λ d. bytes_eq name d.name) (map named_rules es))
    ∙ some_find (λ (d : NamedRules). bytes_eq name d.name) (map named_rules es)

pub mapping_key : (name : List ℕ) (es : List (String Global × Mapping))
    → is_some (lookup (λ k. bytes_eq name (string_bytes k)) es)
    ≡ list_any (λ c. bytes_eq name c.name) (map named_mapping es)
mapping_key name es = ap is_some (mapping_found name es)
    ∙ some_map (λ (c : NamedMapping). c.mapping) (find (λ c. bytes_eq name c.name) (map named_mapping es))
    ∙ some_find (λ (c : NamedMapping). bytes_eq name c.name) (map named_mapping es)

module _ {X S : Type 0} (m : IndexMap (String Global) X S) (key : String Global) (value : X) (name : List ℕ) where
  -- a new name goes last
  pub goes_last : string_bytes key ≡ name → is_some (lookup (λ k. bytes_eq name (string_bytes k)) m.entries) ≡ false
      → insert_entry string_eq m.entries key value ≡ m.entries ++ (key, value) ∷ []
  goes_last e none = insert_entry-new string_eq m key value
      (none_of _ (ap (λ n. is_some (lookup (λ k. bytes_eq n (string_bytes k)) m.entries)) e ∙ none))
    where
      none_of : (o : Option X) → is_some o ≡ false → o ≡ None
      none_of None h = refl
      none_of (Some x) h = cc

-- ── definitions ──
pub rules_added : (es new : List (String Global × AnyDictionary)) (key : String Global) (d : AnyDictionary)
    (name : List ℕ) → new ≡ es ++ (key, d) ∷ [] → string_bytes key ≡ name
    → map named_rules new ≡ map named_rules es ++ record { name = name; rules = rules_of d } ∷ []
rules_added es new key d name e f =
    let one : List ℕ → NamedRules = λ n. record { name = n; rules = rules_of d } in
    ap (map named_rules) e ∙ map-append named_rules es ((key, d) ∷ []) ∙ ap (λ n. map named_rules es ++ one n ∷ []) f

pub mapping_added : (es new : List (String Global × Mapping)) (key : String Global) (m : Mapping) (name : List ℕ)
    → new ≡ es ++ (key, m) ∷ [] → string_bytes key ≡ name
    → map named_mapping new ≡ map named_mapping es ++ record { name = name; mapping = m } ∷ []
mapping_added es new key m name e f =
    let one : List ℕ → NamedMapping = λ n. record { name = n; mapping = m } in
    ap (map named_mapping) e ∙ map-append named_mapping es ((key, m) ∷ [])
    ∙ ap (λ n. map named_mapping es ++ one n ∷ []) f

pub places_more : (known : Known) (ns : List (List ℕ)) (ps : List ℕ) (n : List ℕ) (p : ℕ) → ArePlaces known ns ps
    → place_of known n ≡ Some p → ArePlaces known (ns ++ n ∷ []) (ps ++ p ∷ [])
places_more known [] ps n p e h = (p, [], ap (λ qs. qs ++ p ∷ []) e, h, refl)
places_more known (m ∷ ns) ps n p (q, qs, e, f, k) h =
    (q, qs ++ p ∷ [], ap (λ rs. rs ++ p ∷ []) e, f, places_more known ns qs n p k h)

-- a name of a list
pub any_here : {X : Type 0} (text : X → List ℕ) (P : List ℕ → Type 0) (names : List X) (i : ℕ) (d : X)
    → i < length names → P (text (get_or names i d)) → Any P (map text names)
any_here {X} text P names i d l p =
    (i, text (get_or names i d), omega (arith, l, length-map names text), got names i d l, p)
  where
    got : (ns : List X) (j : ℕ) (e : X) → j < length ns
        → get_or (map text ns) j (text (get_or ns j e)) ≡ text (get_or ns j e)
    got [] j e k = absurd (omega (arith, k))
    got (n ∷ ns) zero e k = refl
    got (n ∷ ns) (suc j) e k = got ns j e (omega (arith, k))

-- a name that isn't found isn't there
pub absent : (name : List ℕ) (es : List (String Global × Mapping))
    → None ≡ lookup (λ k. bytes_eq name (string_bytes k)) es → ¬ Any (λ c. c.name ≡ name) (map named_mapping es)
absent name es e h = true≢false (sym (named_any (λ (c : NamedMapping). c.name) name (map named_mapping es) h)
    ∙ sym (mapping_key name es) ∙ ap is_some (sym e))
