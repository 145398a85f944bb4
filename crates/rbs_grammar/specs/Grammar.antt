-- Grammars as values, what they spell, and how they are read.
use Rattle.std.specs.Prelude.{◌≡◌, ℕ, zero, suc, Bool, true, false, not, ◌||◌, ◌&&◌, ◌⊎◌, if◌then◌else◌, List, [], ◌∷◌, length, Result, Ok, Err}
use Rattle.rbs_lexer.specs.Tokens.{Token}
use Rattle.rbs_lexer.specs.declared.kind.Kind.{Kind}
use Rattle.rbs_grammar.specs.declared.stage.Stage.{Stage}
use Rattle.rbs_grammar.specs.Rules.{Rule, Value, Kinds, every_kind, every_stage, some_stage, start, after, bar}

pub data Grammar : Type 0 → Type 1 where
  -- nothing
  eps : {A : Type 0} → A → Grammar A
  -- a token of one of the kinds, of which one is named
  tok : {A : Type 0} → Kinds → Kind → (Token → A) → Grammar A
  -- one after the other
  seq : {A B C : Type 0} → (A → B → C) → Grammar A → Grammar B → Grammar C
  -- either
  alt : {A : Type 0} → Grammar A → Grammar A → Grammar A
  -- any number of them
  star : {A B : Type 0} → (List A → B) → Grammar A → Grammar B
  -- the first where one of its tokens comes next, else the second
  prefer : {A : Type 0} → Grammar A → Grammar A → Grammar A
  -- where a token of the first kinds comes next and one of the second behind it, these two and then the first; else the second.
  -- Of each of the kinds one is named.
  ahead : {A B : Type 0} → (Token → A → B) → Kinds → Kind → Kinds → Kind → Grammar A → Grammar B → Grammar B
  -- a first item, which leads to a stage, and items of several kinds: at a stage, where a token of its kinds comes next, its item,
  -- which leads to the next stage; else nothing
  chain : {A B : Type 0} → (List A → B) → Grammar (A × Stage) → (Stage → Kinds) → (Stage → Grammar (A × Stage)) → Grammar B
  -- a rule that counts as open
  call : {A : Type 0} → (r : Rule) → (Value r → A) → Grammar A

abbrev pub begins : Kinds → List Token → Bool
begins p [] = false
begins p (t ∷ ts) = p t.kind t.begins_line

-- whether a token of the first kinds comes next, and one of the second behind it
abbrev pub begins_two : Kinds → Kinds → List Token → Bool
begins_two p q [] = false
begins_two p q (t ∷ ts) = p t.kind t.begins_line && begins q ts

-- ---- what a grammar spells

-- The tokens of the first list, up to the second, spell the value.
abbrev pub Way : Type 0 → Type 1
Way A = List Token → List Token → A → Type 0

abbrev pub tok_way : {A : Type 0} → Kinds → (Token → A) → Way A
tok_way p f ts rest x = (t : Token) × (ts ≡ t ∷ rest) × (p t.kind t.begins_line ≡ true) × (f t ≡ x)

abbrev pub seq_way : {A B C : Type 0} → (A → B → C) → Way A → Way B → Way C
seq_way {A = A} {B = B} f S T ts rest z = (x : A) × (y : B) × (mid : List Token) × (S ts mid x) × (T mid rest y) × (f x y ≡ z)

abbrev pub Row : {A : Type 0} → Way A → List Token → List Token → List A → Type 0
Row S ts rest [] = ts ≡ rest
Row S ts rest (x ∷ xs) = (mid : List Token) × (S ts mid x) × (Row S mid rest xs)

abbrev pub star_way : {A B : Type 0} → (List A → B) → Way A → Way B
star_way {A = A} f S ts rest z = (xs : List A) × (Row S ts rest xs) × (f xs ≡ z)

abbrev pub prefer_way : {A : Type 0} → Kinds → Way A → Way A → Way A
prefer_way k S T ts rest x = S ts rest x ⊎ ((T ts rest x) × (begins k ts ≡ false))

-- two tokens and then what S spells
abbrev pub behind_two : {A B : Type 0} → (Token → A → B) → Kinds → Kinds → Way A → Way B
behind_two {A = A} f p q S ts rest z = (t : Token) × (u : Token) × (mid : List Token) × (x : A)
    × (ts ≡ t ∷ u ∷ mid) × (p t.kind t.begins_line ≡ true) × (q u.kind u.begins_line ≡ true) × (S mid rest x) × (f t x ≡ z)

abbrev pub ahead_way : {A B : Type 0} → (Token → A → B) → Kinds → Kinds → Way A → Way B → Way B
ahead_way f p q S T ts rest x = behind_two f p q S ts rest x ⊎ ((T ts rest x) × (begins_two p q ts ≡ false))

-- items from a stage on, each where a token of its stage's kinds comes next, up to a stage of which none does
abbrev pub Chain : {A : Type 0} → (Stage → Kinds) → (Stage → Way (A × Stage)) → Stage → List Token → List Token → List A → Type 0
Chain k S s ts rest [] = (ts ≡ rest) × (begins (k s) ts ≡ false)
Chain k S s ts rest (x ∷ xs) = (begins (k s) ts ≡ true) × ((next : Stage) × (mid : List Token) × (S s ts mid (x, next)) × (Chain k S next mid rest xs))

abbrev pub chain_way : {A B : Type 0} → (List A → B) → Way (A × Stage) → (Stage → Kinds) → (Stage → Way (A × Stage)) → Way B
chain_way {A = A} f T k S ts rest z = (x : A) × (s : Stage) × (mid : List Token) × (xs : List A) × (T ts mid (x, s)) × (Chain k S s mid rest xs) × (f (x ∷ xs) ≡ z)

abbrev pub map_way : {A B : Type 0} → (A → B) → Way A → Way B
map_way {A = A} f S ts rest z = (x : A) × (S ts rest x) × (f x ≡ z)

-- ---- which tokens come first

abbrev pub empty : {A : Type 0} → Grammar A → Bool
empty (eps a) = true
empty (tok p k f) = false
empty (seq f a b) = empty a && empty b
empty (alt a b) = empty a || empty b
empty (star f a) = true
empty (prefer a b) = empty a || empty b
empty (ahead f p j q k a b) = empty b
empty (chain f a k item) = empty a
empty (call r f) = false

-- those of the first, and if that may be empty those of the second
abbrev pub joined : Bool → Kinds → Kinds → Kinds
joined true p q = λ k l. p k l || q k l
joined false p q = p

abbrev pub first : {A : Type 0} → Grammar A → Kinds
first (eps a) = λ k l. false
first (tok p k f) = p
first (seq f a b) = joined (empty a) (first a) (first b)
first (alt a b) = λ k l. first a k l || first b k l
first (star f a) = first a
first (prefer a b) = λ k l. first a k l || first b k l
first (ahead f p j q k a b) = first b
first (chain f a k item) = first a
first (call r f) = start r

-- ---- what a grammar spells, by what each rule does

abbrev pub spells : ((r : Rule) → Way (Value r)) → {A : Type 0} → Grammar A → Way A
spells d (eps a) = λ ts rest x. (ts ≡ rest) × (a ≡ x)
spells d (tok p k f) = tok_way p f
spells d (seq f a b) = seq_way f (spells d a) (spells d b)
spells d (alt a b) = λ ts rest x. spells d a ts rest x ⊎ spells d b ts rest x
spells d (star f a) = star_way f (spells d a)
spells d (prefer a b) = prefer_way (first a) (spells d a) (spells d b)
spells d (ahead f p j q k a b) = ahead_way f p q (spells d a) (spells d b)
spells d (chain f a k item) = chain_way f (spells d a) k (λ s. spells d (item s))
spells d (call r f) = map_way f (d r)

-- ---- where one rule too many opens

-- The tokens of the first list are read up to the second, where it opens.
abbrev pub Place : Type 1
Place = List Token → List Token → Type 0

abbrev pub no_place : Place
no_place ts at = ⊥

abbrev pub seq_place : {A : Type 0} → Way A → Place → Place → Place
seq_place {A = A} S P Q ts at = P ts at ⊎ ((x : A) × (mid : List Token) × (S ts mid x) × (Q mid at))

abbrev pub either_place : Place → Place → Place
either_place P Q ts at = P ts at ⊎ Q ts at

abbrev pub star_place : {A : Type 0} → Way A → Place → Place
star_place {A = A} S P ts at = (xs : List A) × (mid : List Token) × (Row S ts mid xs) × (P mid at)

abbrev pub place_clear : Kinds → Place → Place
place_clear k P ts at = (P ts at) × (begins k ts ≡ false)

abbrev pub ahead_place : Kinds → Kinds → Place → Place → Place
ahead_place p q P Q ts at = ((t : Token) × (u : Token) × (mid : List Token) × (ts ≡ t ∷ u ∷ mid) × (p t.kind t.begins_line ≡ true) × (q u.kind u.begins_line ≡ true) × (P mid at))
    ⊎ ((Q ts at) × (begins_two p q ts ≡ false))

-- behind some items from a stage on, in the item of the stage that they lead to
abbrev pub Reach : {A : Type 0} → (Stage → Kinds) → (Stage → Way (A × Stage)) → (Stage → Place) → Stage → List A → Place
Reach k S P s [] ts at = (begins (k s) ts ≡ true) × (P s ts at)
Reach k S P s (x ∷ xs) ts at = (begins (k s) ts ≡ true) × ((next : Stage) × (mid : List Token) × (S s ts mid (x, next)) × (Reach k S P next xs mid at))

-- in the first item, or behind it
abbrev pub chain_place : {A : Type 0} → Way (A × Stage) → Place → (Stage → Kinds) → (Stage → Way (A × Stage)) → (Stage → Place) → Place
chain_place {A = A} T Q k S P ts at = Q ts at ⊎ ((x : A) × (s : Stage) × (mid : List Token) × (xs : List A) × (T ts mid (x, s)) × (Reach k S P s xs mid at))

abbrev pub opens : ((r : Rule) → Way (Value r)) → (Rule → Place) → {A : Type 0} → Grammar A → Place
opens d o (eps a) = no_place
opens d o (tok p k f) = no_place
opens d o (seq f a b) = seq_place (spells d a) (opens d o a) (opens d o b)
opens d o (alt a b) = either_place (opens d o a) (opens d o b)
opens d o (star f a) = star_place (spells d a) (opens d o a)
opens d o (prefer a b) = either_place (opens d o a) (place_clear (first a) (opens d o b))
opens d o (ahead f p j q k a b) = ahead_place p q (opens d o a) (opens d o b)
opens d o (chain f a k item) = chain_place (spells d a) (opens d o a) k (λ s. spells d (item s)) (λ s. opens d o (item s))
opens d o (call r f) = o r

-- ---- which tokens go on, and how the next token decides

-- the kinds with which it may go on where it could end
abbrev pub more : {A : Type 0} → Grammar A → Kinds
more (eps a) = λ k l. false
more (tok p _ f) = λ k l. false
more (seq f a b) = λ k l. more b k l || (empty b && more a k l)
more (alt a b) = λ k l. more a k l || more b k l || (empty b && first a k l)
more (star f a) = λ k l. first a k l || more a k l
more (prefer a b) = λ k l. more a k l || more b k l
more (ahead f p _ q _ a b) = λ k l. more a k l || more b k l
more (chain f a q item) = λ k l. more a k l || some_stage (λ s. more (item s) k l)
more (call r f) = after r

abbrev pub apart : Kinds → Kinds → Bool
apart p q = every_kind (λ k l. not (p k l && q k l))

abbrev pub covers : Kinds → Kinds → Bool
covers p q = every_kind (λ k l. not (p k l) || q k l)

-- the kinds before which some part may not end
abbrev pub barred : {A : Type 0} → Grammar A → Kinds
barred (eps a) = λ k l. false
barred (tok p _ f) = λ k l. false
barred (seq f a b) = λ k l. barred b k l || (empty b && barred a k l)
barred (alt a b) = λ k l. barred a k l || barred b k l
barred (star f a) = barred a
barred (prefer a b) = λ k l. first a k l || (barred a k l || barred b k l)
barred (ahead f p _ q _ a b) = λ k l. q k l || (barred a k l || barred b k l)
barred (chain f a q item) = λ k l. barred a k l || some_stage (λ s. q s k l || barred (item s) k l)
barred (call r f) = bar r

-- the kinds that begin the example of it
abbrev pub lead : {A : Type 0} → Grammar A → Kinds
lead (eps a) = λ k l. false
lead (tok p k f) = p
lead (seq f a b) = joined (empty a) (lead a) (lead b)
lead (alt a b) = lead a
lead (star f a) = λ k l. false
lead (prefer a b) = lead a
lead (ahead f p j q k a b) = p
lead (chain f a q item) = lead a
lead (call r f) = start r

-- The next token always says how to go on, or the next two where a grammar says so.
abbrev pub fine : {A : Type 0} → Grammar A → Bool
fine (eps a) = true
fine (tok p k f) = p k false
fine (seq f a b) = fine a && fine b && apart (barred a) (lead b) && apart (more a) (first b)
fine (alt a b) = fine a && fine b && not (empty a) && apart (first a) (first b)
fine (star f a) = fine a && not (empty a) && apart (more a) (first a)
fine (prefer a b) = fine a && fine b && not (empty a)
fine (ahead f p j q k a b) = fine a && fine b && not (empty b) && p j false && q k false && covers p (first b)
fine (chain f a q item) = fine a && not (empty a) && apart (more a) (λ k l. some_stage (λ s. q s k l))
    && every_stage (λ s. fine (item s) && not (empty (item s)) && covers (q s) (first (item s)) && apart (more (item s)) (λ k l. some_stage (λ next. q next k l)))
fine (call r f) = true

-- ---- how it is read

pub data Fault : Type 0 where
  -- no list of tokens goes on so
  syntax : Fault
  -- one rule too many opens
  deep : Fault

-- a value and the tokens after it, or a fault and the tokens from its place on
abbrev pub Outcome : Type 0 → Type 0
Outcome A = Result (A × List Token) (Fault × List Token)

abbrev pub then_read : {A B : Type 0} → Outcome A → (A → List Token → Outcome B) → Outcome B
then_read (Ok p) k = k p.0 p.1
then_read (Err e) k = Err e

abbrev pub Reader : Type 0 → Type 0
Reader A = List Token → Outcome A

abbrev pub read_token : {A : Type 0} → Kinds → (Token → A) → Reader A
read_token p f [] = Err (syntax, [])
read_token p f (t ∷ ts) = if p t.kind t.begins_line then Ok (f t, ts) else Err (syntax, t ∷ ts)

abbrev pub pure : {A B : Type 0} → (A → B) → A → Reader B
pure f x rest = Ok (f x, rest)

abbrev pub read_both : {A B C : Type 0} → (A → B → C) → Reader A → Reader B → Reader C
read_both f p q ts = then_read (p ts) (λ x mid. then_read (q mid) (pure (f x)))

-- The number bounds the turns. The count of the tokens is enough.
abbrev pub read_row : {A : Type 0} → Kinds → Reader A → ℕ → Reader (List A)
read_row k p zero ts = Ok ([], ts)
read_row k p (suc n) ts = if begins k ts then read_both ◌∷◌ p (read_row k p n) ts else Ok ([], ts)

abbrev pub read_all : {A : Type 0} → Kinds → Reader A → Reader (List A)
read_all k p ts = read_row k p (length ts) ts

-- two tokens, which are known to be there, and then what p reads
abbrev pub read_behind_two : {A B : Type 0} → (Token → A → B) → Reader A → Reader B
read_behind_two f p [] = Err (syntax, [])
read_behind_two f p (t ∷ []) = Err (syntax, t ∷ [])
read_behind_two f p (t ∷ u ∷ ts) = then_read (p ts) (pure (f t))

-- The number bounds the turns, as in a row.
abbrev pub read_chain : {A : Type 0} → (Stage → Kinds) → (Stage → Reader (A × Stage)) → ℕ → Stage → Reader (List A)
read_chain k p zero s ts = Ok ([], ts)
read_chain k p (suc n) s ts = if begins (k s) ts then then_read (p s ts) (λ x mid. then_read (read_chain k p n x.1 mid) (pure (◌∷◌ x.0))) else Ok ([], ts)

abbrev pub read_stages : {A : Type 0} → (Stage → Kinds) → (Stage → Reader (A × Stage)) → Stage → Reader (List A)
read_stages k p s ts = read_chain k p (length ts) s ts

abbrev pub read : ((r : Rule) → Reader (Value r)) → {A : Type 0} → Grammar A → Reader A
read d (eps a) = λ ts. Ok (a, ts)
read d (tok p k f) = read_token p f
read d (seq f a b) = read_both f (read d a) (read d b)
read d (alt a b) = λ ts. if begins (first a) ts then read d a ts else read d b ts
read d (star f a) = λ ts. then_read (read_all (first a) (read d a) ts) (pure f)
read d (prefer a b) = λ ts. if begins (first a) ts then read d a ts else read d b ts
read d (ahead f p j q k a b) = λ ts. if begins_two p q ts then read_behind_two f (read d a) ts else read d b ts
read d (chain f a k item) = λ ts. then_read (read d a ts) (λ x mid. then_read (read_stages k (λ s. read d (item s)) x.1 mid) (pure (λ xs. f (x.0 ∷ xs))))
read d (call r f) = λ ts. then_read (d r ts) (pure f)
