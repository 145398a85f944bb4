-- Tests on tokens and on stages, and how lists of tokens begin.
use Rattle.std.proofs.Common.{◌≡◌, ℕ, zero, suc, Bool, true, false, not, ◌||◌, ◌&&◌, List, [], ◌∷◌, refl}
use Rattle.rbs_lexer.specs.declared.kind.Kind.{Kind}
use Rattle.rbs_lexer.specs.declared.kind.Kind.TheVariants as named
use Rattle.rbs_lexer.specs.Tokens.{Token}
use Rattle.rbs_grammar.specs.declared.stage.Stage.{Stage}
use Rattle.rbs_grammar.specs.declared.stage.Stage.TheVariants as at
use Rattle.rbs_grammar.specs.Rules.{Kinds, kinds, every, every_kind, every_stage, some_stage}
use Rattle.rbs_grammar.specs.Grammar.{apart, covers, begins, begins_two, joined}

pub or_left : (a b : Bool) → a ≡ true → (a || b) ≡ true
or_left true b h = refl
or_left false b h = cc

pub or_right : (a b : Bool) → b ≡ true → (a || b) ≡ true
or_right true b h = refl
or_right false b h = h

pub or_false_left : (a b : Bool) → (a || b) ≡ false → a ≡ false
or_false_left true b h = cc
or_false_left false b h = refl

pub or_false_right : (a b : Bool) → (a || b) ≡ false → b ≡ false
or_false_right true b h = cc
or_false_right false b h = h

pub and_left : (a b : Bool) → (a && b) ≡ true → a ≡ true
and_left true b h = refl
and_left false b h = cc

pub and_right : (a b : Bool) → (a && b) ≡ true → b ≡ true
and_right true b h = h
and_right false b h = cc

pub and_both : (a b : Bool) → a ≡ true → b ≡ true → (a && b) ≡ true
and_both true b p q = q
and_both false b p q = cc

pub not_true : (a : Bool) → not a ≡ true → a ≡ false
not_true true h = cc
not_true false h = refl

pub true≢false : (a : Bool) → a ≡ true → a ≡ false → ⊥
true≢false a p q = cc

HoldsAt : Kinds → List Kind → ℕ → Type 0
HoldsAt p [] i = Unit {0}
HoldsAt p (k ∷ ks) zero = (p k true && p k false) ≡ true
HoldsAt p (k ∷ ks) (suc i) = HoldsAt p ks i

holds_at : (p : Kinds) (ks : List Kind) → every p ks ≡ true → (i : ℕ) → HoldsAt p ks i
unfolding HoldsAt
holds_at p [] h i = tt
holds_at p (k ∷ ks) h zero = and_left (p k true && p k false) (every p ks) h
holds_at p (k ∷ ks) h (suc i) = holds_at p ks (and_right (p k true && p k false) (every p ks) h) i

either_line : (p : Kinds) → every_kind p ≡ true → (k : Kind) → (p k true && p k false) ≡ true
unfolding HoldsAt
either_line p h named.LeftParen = holds_at p kinds h 0
either_line p h named.RightParen = holds_at p kinds h 1
either_line p h named.LeftBracket = holds_at p kinds h 2
either_line p h named.RightBracket = holds_at p kinds h 3
either_line p h named.LeftBrace = holds_at p kinds h 4
either_line p h named.RightBrace = holds_at p kinds h 5
either_line p h named.Comma = holds_at p kinds h 6
either_line p h named.Colon = holds_at p kinds h 7
either_line p h named.ColonColon = holds_at p kinds h 8
either_line p h named.Dot = holds_at p kinds h 9
either_line p h named.Bar = holds_at p kinds h 10
either_line p h named.Ampersand = holds_at p kinds h 11
either_line p h named.Question = holds_at p kinds h 12
either_line p h named.Star = holds_at p kinds h 13
either_line p h named.StarStar = holds_at p kinds h 14
either_line p h named.Caret = holds_at p kinds h 15
either_line p h named.Arrow = holds_at p kinds h 16
either_line p h named.Equals = holds_at p kinds h 17
either_line p h named.Less = holds_at p kinds h 18
either_line p h named.Ellipsis = holds_at p kinds h 19
either_line p h named.Alias = holds_at p kinds h 20
either_line p h named.As = holds_at p kinds h 21
either_line p h named.AttrAccessor = holds_at p kinds h 22
either_line p h named.AttrReader = holds_at p kinds h 23
either_line p h named.AttrWriter = holds_at p kinds h 24
either_line p h named.Bool = holds_at p kinds h 25
either_line p h named.Bot = holds_at p kinds h 26
either_line p h named.Class = holds_at p kinds h 27
either_line p h named.Def = holds_at p kinds h 28
either_line p h named.End = holds_at p kinds h 29
either_line p h named.Extend = holds_at p kinds h 30
either_line p h named.False = holds_at p kinds h 31
either_line p h named.In = holds_at p kinds h 32
either_line p h named.Include = holds_at p kinds h 33
either_line p h named.Instance = holds_at p kinds h 34
either_line p h named.Interface = holds_at p kinds h 35
either_line p h named.Module = holds_at p kinds h 36
either_line p h named.Nil = holds_at p kinds h 37
either_line p h named.Out = holds_at p kinds h 38
either_line p h named.Prepend = holds_at p kinds h 39
either_line p h named.Private = holds_at p kinds h 40
either_line p h named.Public = holds_at p kinds h 41
either_line p h named.SelfWord = holds_at p kinds h 42
either_line p h named.Singleton = holds_at p kinds h 43
either_line p h named.Top = holds_at p kinds h 44
either_line p h named.True = holds_at p kinds h 45
either_line p h named.Type = holds_at p kinds h 46
either_line p h named.Unchecked = holds_at p kinds h 47
either_line p h named.Untyped = holds_at p kinds h 48
either_line p h named.Use = holds_at p kinds h 49
either_line p h named.Void = holds_at p kinds h 50
either_line p h named.Constant = holds_at p kinds h 51
either_line p h named.InterfaceName = holds_at p kinds h 52
either_line p h named.Word = holds_at p kinds h 53
either_line p h named.InstanceVariable = holds_at p kinds h 54
either_line p h named.ClassVariable = holds_at p kinds h 55
either_line p h named.Global = holds_at p kinds h 56
either_line p h named.Integer = holds_at p kinds h 57
either_line p h named.String = holds_at p kinds h 58
either_line p h named.Symbol = holds_at p kinds h 59
either_line p h named.SelfQuestion = holds_at p kinds h 60
either_line p h named.MethodName = holds_at p kinds h 61

pub every_at : (p : Kinds) → every_kind p ≡ true → (k : Kind) (l : Bool) → p k l ≡ true
every_at p h k true = and_left (p k true) (p k false) (either_line p h k)
every_at p h k false = and_right (p k true) (p k false) (either_line p h k)

-- ---- stages

pub stage_at : (p : Stage → Bool) → every_stage p ≡ true → (s : Stage) → p s ≡ true
stage_at p h at.Open = and_left (p at.Open) (p at.Optional && (p at.Trailing && (p at.Keyword && p at.Done))) h
stage_at p h at.Optional = and_left (p at.Optional) (p at.Trailing && (p at.Keyword && p at.Done)) (and_right (p at.Open) (p at.Optional && (p at.Trailing && (p at.Keyword && p at.Done))) h)
stage_at p h at.Trailing = and_left (p at.Trailing) (p at.Keyword && p at.Done) (and_right (p at.Optional) (p at.Trailing && (p at.Keyword && p at.Done)) (and_right (p at.Open) (p at.Optional && (p at.Trailing && (p at.Keyword && p at.Done))) h))
stage_at p h at.Keyword = and_left (p at.Keyword) (p at.Done) (and_right (p at.Trailing) (p at.Keyword && p at.Done) (and_right (p at.Optional) (p at.Trailing && (p at.Keyword && p at.Done)) (and_right (p at.Open) (p at.Optional && (p at.Trailing && (p at.Keyword && p at.Done))) h)))
stage_at p h at.Done = and_right (p at.Keyword) (p at.Done) (and_right (p at.Trailing) (p at.Keyword && p at.Done) (and_right (p at.Optional) (p at.Trailing && (p at.Keyword && p at.Done)) (and_right (p at.Open) (p at.Optional && (p at.Trailing && (p at.Keyword && p at.Done))) h)))

pub some_clear : (p : Stage → Bool) → some_stage p ≡ false → (s : Stage) → p s ≡ false
some_clear p h at.Open = or_false_left (p at.Open) (p at.Optional || (p at.Trailing || (p at.Keyword || p at.Done))) h
some_clear p h at.Optional = or_false_left (p at.Optional) (p at.Trailing || (p at.Keyword || p at.Done)) (or_false_right (p at.Open) (p at.Optional || (p at.Trailing || (p at.Keyword || p at.Done))) h)
some_clear p h at.Trailing = or_false_left (p at.Trailing) (p at.Keyword || p at.Done) (or_false_right (p at.Optional) (p at.Trailing || (p at.Keyword || p at.Done)) (or_false_right (p at.Open) (p at.Optional || (p at.Trailing || (p at.Keyword || p at.Done))) h))
some_clear p h at.Keyword = or_false_left (p at.Keyword) (p at.Done) (or_false_right (p at.Trailing) (p at.Keyword || p at.Done) (or_false_right (p at.Optional) (p at.Trailing || (p at.Keyword || p at.Done)) (or_false_right (p at.Open) (p at.Optional || (p at.Trailing || (p at.Keyword || p at.Done))) h)))
some_clear p h at.Done = or_false_right (p at.Keyword) (p at.Done) (or_false_right (p at.Trailing) (p at.Keyword || p at.Done) (or_false_right (p at.Optional) (p at.Trailing || (p at.Keyword || p at.Done)) (or_false_right (p at.Open) (p at.Optional || (p at.Trailing || (p at.Keyword || p at.Done))) h)))

some_where : (p : Stage → Bool) (s : Stage) (b : Bool) → some_stage p ≡ b → p s ≡ true → b ≡ true
some_where p s true h i = refl
some_where p s false h i = absurd (true≢false (p s) i (some_clear p h s))

pub some_at : (p : Stage → Bool) (s : Stage) → p s ≡ true → some_stage p ≡ true
some_at p s i = some_where p s (some_stage p) refl i

-- A list that begins with none of the tokens of any stage begins with none of a stage.
pub stages_clear : (k : Stage → Kinds) (ts : List Token) → begins (λ c l. some_stage (λ s. k s c l)) ts ≡ false → (s : Stage) → begins (k s) ts ≡ false
stages_clear k [] h s = refl
stages_clear k (t ∷ ts) h s = some_clear (λ s. k s t.kind t.begins_line) h s

pub stages_begin : (k : Stage → Kinds) (s : Stage) (ts : List Token) → begins (k s) ts ≡ true → begins (λ c l. some_stage (λ s. k s c l)) ts ≡ true
stages_begin k s [] h = h
stages_begin k s (t ∷ ts) h = some_at (λ s. k s t.kind t.begins_line) s h

-- ---- lists

not_both : (a b : Bool) → not (a && b) ≡ true → b ≡ true → a ≡ false
not_both true b h q = cc
not_both false b h q = refl

-- No list begins both ways.
pub apart_begins : (p q : Kinds) → apart p q ≡ true → (ts : List Token) → begins q ts ≡ true → begins p ts ≡ false
apart_begins p q h [] b = refl
apart_begins p q h (t ∷ ts) b = not_both (p t.kind t.begins_line) (q t.kind t.begins_line) (every_at (λ k l. not (p k l && q k l)) h t.kind t.begins_line) b

pub begins_or_left : (p q : Kinds) (ts : List Token) → begins p ts ≡ true → begins (λ k l. p k l || q k l) ts ≡ true
begins_or_left p q [] h = h
begins_or_left p q (t ∷ ts) h = or_left (p t.kind t.begins_line) (q t.kind t.begins_line) h

pub begins_or_right : (p q : Kinds) (ts : List Token) → begins q ts ≡ true → begins (λ k l. p k l || q k l) ts ≡ true
begins_or_right p q [] h = h
begins_or_right p q (t ∷ ts) h = or_right (p t.kind t.begins_line) (q t.kind t.begins_line) h

pub joined_left : (e : Bool) (p q : Kinds) (ts : List Token) → begins p ts ≡ true → begins (joined e p q) ts ≡ true
joined_left true p q ts h = begins_or_left p q ts h
joined_left false p q ts h = h

pub joined_right : (e : Bool) (p q : Kinds) (ts : List Token) → e ≡ true → begins q ts ≡ true → begins (joined e p q) ts ≡ true
joined_right true p q ts i h = begins_or_right p q ts h
joined_right false p q ts i h = cc

pub clear_left : (p q : Kinds) (ts : List Token) → begins (λ k l. p k l || q k l) ts ≡ false → begins p ts ≡ false
clear_left p q [] h = refl
clear_left p q (t ∷ ts) h = or_false_left (p t.kind t.begins_line) (q t.kind t.begins_line) h

pub clear_right : (p q : Kinds) (ts : List Token) → begins (λ k l. p k l || q k l) ts ≡ false → begins q ts ≡ false
clear_right p q [] h = refl
clear_right p q (t ∷ ts) h = or_false_right (p t.kind t.begins_line) (q t.kind t.begins_line) h

pub clear_if : (e : Bool) (q : Kinds) (ts : List Token) → e ≡ true → begins (λ k l. e && q k l) ts ≡ false → begins q ts ≡ false
clear_if true q [] i h = refl
clear_if true q (t ∷ ts) i h = h
clear_if false q ts i h = cc

pub joined_clear_left : (e : Bool) (p q : Kinds) (ts : List Token) → begins (joined e p q) ts ≡ false → begins p ts ≡ false
joined_clear_left true p q ts h = clear_left p q ts h
joined_clear_left false p q ts h = h

pub joined_clear_right : (e : Bool) (p q : Kinds) (ts : List Token) → e ≡ true → begins (joined e p q) ts ≡ false → begins q ts ≡ false
joined_clear_right true p q ts i h = clear_right p q ts h
joined_clear_right false p q ts i h = cc

implies : (a b : Bool) → (not a || b) ≡ true → a ≡ true → b ≡ true
implies true b h e = h
implies false b h e = cc

pub covers_begins : (p q : Kinds) → covers p q ≡ true → (ts : List Token) → begins p ts ≡ true → begins q ts ≡ true
covers_begins p q h [] b = b
covers_begins p q h (t ∷ ts) b = implies (p t.kind t.begins_line) (q t.kind t.begins_line) (every_at (λ k l. not (p k l) || q k l) h t.kind t.begins_line) b

implies_clear : (a b : Bool) → (not a || b) ≡ true → b ≡ false → a ≡ false
implies_clear true b h e = cc
implies_clear false b h e = refl

pub covers_clear : (p q : Kinds) → covers p q ≡ true → (ts : List Token) → begins q ts ≡ false → begins p ts ≡ false
covers_clear p q h [] b = b
covers_clear p q h (t ∷ ts) b = implies_clear (p t.kind t.begins_line) (q t.kind t.begins_line) (every_at (λ k l. not (p k l) || q k l) h t.kind t.begins_line) b

-- ---- two tokens

pub two_clear : (p q : Kinds) (ts : List Token) → begins p ts ≡ false → begins_two p q ts ≡ false
two_clear p q [] h = refl
two_clear p q (t ∷ ts) h = and_clear (p t.kind t.begins_line) (begins q ts) h
  where
    and_clear : (a b : Bool) → a ≡ false → (a && b) ≡ false
    and_clear true b h = cc
    and_clear false b h = refl
