-- The tokens of a printed type in its place, and of some behind commas, spell it where its own do.
use Rattle.std.proofs.Common.{◌≡◌, inl, inr, ℕ, zero, suc, ◌≤◌, max, ◌&&◌, ◌||◌, if◌then◌else◌, Bool, true, false, List, [], ◌∷◌, ◌++◌, map, refl, ◌∙◌, arith}
use Rattle.std.specs.Prelude.{codes}
use Rattle.rbs_tree.specs.declared.types.Ty.{Ty}
use Rattle.rbs_tree.specs.declared.types.MethodType.{MethodType}
use Rattle.rbs_lexer.specs.Tokens.{Token}
use Rattle.rbs_lexer.specs.declared.kind.Kind.TheVariants as k
use Rattle.rbs_lexer.specs.declared.walk.Walk.{Walk}
use Rattle.rbs_lexer.specs.Lexing.{Piece, token, past, tokens_of}
use Rattle.rbs_grammar.specs.Rules.{Rule, Value, is}
use Rattle.rbs_grammar.specs.Grammar.{Grammar, Way, spells, begins}
use Rattle.rbs_grammar.specs.Levels.{spell, spell_in}
use Rattle.rbs_grammar.specs.Parts.{before, separated, any_of}
use Rattle.rbs_grammar.specs.Types as types
use Rattle.rbs_grammar.specs.Types.{a_type, a_function, ends_lone_type, named_type, inter_of, union_of}
use Rattle.rbs_grammar.specs.Functions as functions
use Rattle.rbs_printer.specs.declared.level.Level.{Level}
use Rattle.rbs_printer.specs.declared.level.Level.TheVariants as at
use Rattle.rbs_printer.specs.Printed.{is_below, is_name}
use Rattle.rbs_printer.specs.Again.{bare, bare_method}
use Rattle.rbs_printer.proofs.Pieces.{Pieced, pieced, is_grouped, placed, any_pieces, blank, comma, in_parens, listed, args_pieces}
use Rattle.rbs_printer.proofs.Claims.{deep, grammar_at, Clear, SpellsType, NoKey, Spelled, SpelledFunction, AllOf}
use Rattle.rbs_printer.proofs.Spelling.{Reads, AllRead, IsSign, reads_behind, reads_before, reads_separated}

-- the tokens of the type's pieces spell it
abbrev pub Well : Ty → Type 0
Well ty = Spelled (pieced ty) ty

pub reads_as : {A B : Type 0} (d : (r : Rule) → Way (Value r)) (g : Grammar A) (shown : A → B) (pieces : List Piece) (y z : B) → y ≡ z → Reads d g shown pieces y → Reads d g shown pieces z
reads_as d g shown pieces y z e reads walk rest clear = let r = reads walk rest clear in (r.0, r.1, r.2 ∙ e)

-- ---- room

room_for_type : (n : ℕ) (ts rest : List Token) (x : Ty) → spells (spell_in (deep (suc n))) types.union ts rest x → spells (spell_in (deep (suc (suc n)))) a_type ts rest x
unfolding a_type spell
room_for_type n ts rest x s = (x, s, refl)

room_for_function : (n : ℕ) (ts rest : List Token) (x : MethodType) → spells (spell_in (deep (suc n))) functions.function ts rest x → spells (spell_in (deep (suc (suc n)))) a_function ts rest x
unfolding a_function spell
room_for_function n ts rest x s = (x, s, refl)

-- A type inside another takes some room.
pub reads_inside : (pieces : List Piece) (ty : Ty) (least : ℕ) → SpellsType types.union pieces ty least → (n : ℕ) → suc (suc least) ≤ n → Reads (spell_in (deep n)) a_type bare pieces (bare ty)
reads_inside pieces ty least reads zero room walk rest clear = absurd (omega arith)
reads_inside pieces ty least reads (suc zero) room walk rest clear = absurd (omega arith)
reads_inside pieces ty least reads (suc (suc n)) room walk rest clear =
    let r = reads (suc n) (omega arith) walk rest clear in
    (r.0, room_for_type n (tokens_of walk pieces ++ rest) rest r.0 r.1, r.2)

pub function_inside : (pieces : List Piece) (m : MethodType) (s : SpelledFunction pieces m) (n : ℕ) → suc (suc s.least) ≤ n → Reads (spell_in (deep n)) a_function bare_method pieces (bare_method m)
function_inside pieces m s zero room walk rest clear = absurd (omega arith)
function_inside pieces m s (suc zero) room walk rest clear = absurd (omega arith)
function_inside pieces m s (suc (suc n)) room walk rest clear =
    let r = s.spells (suc n) (omega arith) walk rest clear in
    (r.0, room_for_function n (tokens_of walk pieces ++ rest) rest r.0 r.1, r.2)

-- ---- levels

base_opt : (d : (r : Rule) → Way (Value r)) (ts rest : List Token) (x : Ty) → spells d types.base ts rest x → spells d types.opt ts rest x
unfolding types.opt
base_opt d ts rest x s = inr (x, false, rest, s, inr (refl, refl), refl)

opt_inter : (d : (r : Rule) → Way (Value r)) (ts rest : List Token) (x : Ty) → spells d types.opt ts rest x → spells d types.inter ts rest x
unfolding types.inter
opt_inter d ts rest x s = (x ∷ [], tt, rest, (x, [], rest, s, ([], refl, refl), refl), (refl, refl), refl)

inter_union : (d : (r : Rule) → Way (Value r)) (ts rest : List Token) (x : Ty) → spells d types.inter ts rest x → spells d types.union ts rest x
unfolding types.union
inter_union d ts rest x s = (x ∷ [], tt, rest, (x, [], rest, s, ([], refl, refl), refl), (refl, refl), refl)

-- What a level spells, those below it spell too.
pub lifted : (d : (r : Rule) → Way (Value r)) (level wanted : Level) → is_below level wanted ≡ false → (ts rest : List Token) (x : Ty) → spells d (grammar_at level) ts rest x → spells d (grammar_at wanted) ts rest x
lifted d at.Union at.Union above ts rest x s = s
lifted d at.Union at.Inter above ts rest x s = cc
lifted d at.Union at.Optional above ts rest x s = cc
lifted d at.Union at.Base above ts rest x s = cc
lifted d at.Inter at.Union above ts rest x s = inter_union d ts rest x s
lifted d at.Inter at.Inter above ts rest x s = s
lifted d at.Inter at.Optional above ts rest x s = cc
lifted d at.Inter at.Base above ts rest x s = cc
lifted d at.Optional at.Union above ts rest x s = inter_union d ts rest x (opt_inter d ts rest x s)
lifted d at.Optional at.Inter above ts rest x s = opt_inter d ts rest x s
lifted d at.Optional at.Optional above ts rest x s = s
lifted d at.Optional at.Base above ts rest x s = cc
lifted d at.Base at.Union above ts rest x s = inter_union d ts rest x (opt_inter d ts rest x (base_opt d ts rest x s))
lifted d at.Base at.Inter above ts rest x s = opt_inter d ts rest x (base_opt d ts rest x s)
lifted d at.Base at.Optional above ts rest x s = base_opt d ts rest x s
lifted d at.Base at.Base above ts rest x s = s

pub below_union : (level : Level) → is_below level at.Union ≡ false
below_union at.Union = refl
below_union at.Inter = refl
below_union at.Optional = refl
below_union at.Base = refl

pub base_above : (wanted : Level) → is_below at.Base wanted ≡ false
base_above at.Union = refl
base_above at.Inter = refl
base_above at.Optional = refl
base_above at.Base = refl

pub reads_lifted : (d : (r : Rule) → Way (Value r)) (level wanted : Level) → is_below level wanted ≡ false → (pieces : List Piece) (b : Ty)
    → Reads d (grammar_at level) bare pieces b → Reads d (grammar_at wanted) bare pieces b
reads_lifted d level wanted above pieces b reads walk rest clear =
    let r = reads walk rest clear in
    (r.0, lifted d level wanted above (tokens_of walk pieces ++ rest) rest r.0 r.1, r.2)

-- ---- a type in its place

or_false : (b c : Bool) → (b || c) ≡ false → b ≡ false
or_false true c e = e
or_false false c e = refl

grouped_reads : (d : (r : Rule) → Way (Value r)) (pieces : List Piece) (b : Ty) → Reads d a_type bare pieces b → Reads d types.base bare (in_parens pieces) b
unfolding types.base types.group
grouped_reads d pieces b reads walk rest clear =
    let r = reads_behind d (before a_type k.RightParen) bare (pieces ++ token k.RightParen (codes ")") ∷ []) b k.LeftParen (codes "(") refl
    (reads_before d a_type bare pieces b k.RightParen (codes ")") refl refl reads) walk rest clear in
    (r.0, inl r.1, r.2)

-- The type where a level is wanted, behind `alias |` or `alias &` or elsewhere.
pub placed_reads : (p : Pieced) (ty : Ty) (s : Spelled p ty) (wanted : Level) (old : Bool) (n : ℕ) → suc (suc s.least) ≤ n
    → Reads (spell_in (deep n)) (grammar_at wanted) bare (placed wanted old p) (bare ty)
placed_reads p ty s wanted old n room = go (is_grouped wanted old p) refl
  where
    go : (b : Bool) → is_grouped wanted old p ≡ b → Reads (spell_in (deep n)) (grammar_at wanted) bare (if b then in_parens (p.pieces false) else p.pieces old) (bare ty)
    go true e =
        reads_lifted (spell_in (deep n)) at.Base wanted (base_above wanted) (in_parens (p.pieces false)) (bare ty)
        (grouped_reads (spell_in (deep n)) (p.pieces false) (bare ty)
        (reads_inside (p.pieces false) ty s.least (λ m enough. reads_lifted (spell_in (deep m)) p.level at.Union (below_union p.level) (p.pieces false) (bare ty) (s.spells false m enough)) n room))
    go false e = reads_lifted (spell_in (deep n)) p.level wanted (or_false (is_below p.level wanted) (old && is_name p.front) e) (p.pieces old) (bare ty) (s.spells old n (omega arith))

pub placed-no_key : (p : Pieced) (ty : Ty) → Spelled p ty → (wanted : Level) (old : Bool) → NoKey (placed wanted old p)
placed-no_key p ty s wanted old = go (is_grouped wanted old p)
  where
    go : (b : Bool) → NoKey (if b then in_parens (p.pieces false) else p.pieces old)
    go true walk rest clear = refl
    go false walk rest clear = s.no_key old walk rest clear

-- A type where any may stand takes some room.
pub any_reads : (p : Pieced) (ty : Ty) (s : Spelled p ty) (n : ℕ) → suc (suc (suc (suc s.least))) ≤ n → Reads (spell_in (deep n)) a_type bare (any_pieces p) (bare ty)
any_reads p ty s n room = reads_inside (any_pieces p) ty (suc (suc s.least)) (λ m enough. placed_reads p ty s at.Union false m enough) n room

-- ---- lists of types

pub comma_sign : IsSign k.Comma (comma ∷ blank ∷ [])
comma_sign = record {
  text = codes ",";
  before_it = λ walk. walk;
  past_it = λ walk. past (past walk comma) blank;
  tokens = λ walk pieces. refl;
  same = refl;
  no_colon = refl;
}

abbrev pub most : (tys : List Ty) → AllOf Well tys → ℕ
most [] all = 0
most (ty ∷ tys) all = max all.0.least (most tys all.1)

pub all_any : (tys : List Ty) (all : AllOf Well tys) (n : ℕ) → suc (suc (suc (suc (most tys all)))) ≤ n
    → AllRead (spell_in (deep n)) a_type bare (map any_pieces (map pieced tys)) (map bare tys)
all_any [] all n room = tt
all_any (ty ∷ tys) all n room = (any_reads (pieced ty) ty all.0 n (omega arith), all_any tys all.1 n (omega arith))

pub listed_reads : (ty : Ty) (tys : List Ty) (all : AllOf Well (ty ∷ tys)) (n : ℕ) → suc (suc (suc (suc (most (ty ∷ tys) all)))) ≤ n
    → Reads (spell_in (deep n)) (separated k.Comma a_type) (map bare) (listed (map any_pieces (map pieced (ty ∷ tys)))) (map bare (ty ∷ tys))
listed_reads ty tys all n room =
    let every = all_any (ty ∷ tys) all n room in
    reads_separated (spell_in (deep n)) a_type bare k.Comma (comma ∷ blank ∷ []) comma_sign refl (any_pieces (pieced ty)) (bare ty) (map any_pieces (map pieced tys)) (map bare tys) every.0 every.1

-- the arguments of a name
pub args_reads : (tys : List Ty) (all : AllOf Well tys) (n : ℕ) → suc (suc (suc (suc (most tys all)))) ≤ n
    → Reads (spell_in (deep n)) (any_of types.type_args) (map bare) (args_pieces (map pieced tys)) (map bare tys)
unfolding types.type_args
args_reads [] all n room walk rest clear = ([], inr (refl, refl), refl)
args_reads (ty ∷ tys) all n room walk rest clear =
    let inner = listed (map any_pieces (map pieced (ty ∷ tys))) in
    let r = reads_behind (spell_in (deep n)) (before (separated k.Comma a_type) k.RightBracket) (map bare) (inner ++ token k.RightBracket (codes "]") ∷ []) (map bare (ty ∷ tys)) k.LeftBracket (codes "[") refl
    (reads_before (spell_in (deep n)) (separated k.Comma a_type) (map bare) inner (map bare (ty ∷ tys)) k.RightBracket (codes "]") refl refl (listed_reads ty tys all n room)) walk rest clear in
    (r.0, inl r.1, r.2)

pub args-clear : (ps : List Pieced) (walk : Walk) (rest : List Token) → Clear rest → Clear (tokens_of walk (args_pieces ps) ++ rest)
args-clear [] walk rest clear = clear
args-clear (p ∷ ps) walk rest clear = refl

pub args-no_colon : (ps : List Pieced) (walk : Walk) (rest : List Token) → begins (is k.Colon) rest ≡ false → begins (is k.Colon) (tokens_of walk (args_pieces ps) ++ rest) ≡ false
args-no_colon [] walk rest clear = clear
args-no_colon (p ∷ ps) walk rest clear = refl
