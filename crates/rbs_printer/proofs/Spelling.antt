-- What tokens of pieces spell, put together as the pieces and the grammars are.
use Rattle.std.proofs.Common.{◌≡◌, inl, inr, ℕ, ◌+◌, ◌==◌, ◌&&◌, Bool, true, false, List, [], ◌∷◌, ◌++◌, length, map, refl, sym, ◌∙◌, ap, subst}
use Rattle.rbs_lexer.specs.Tokens.{Token}
use Rattle.rbs_lexer.specs.declared.kind.Kind.{Kind}
use Rattle.rbs_lexer.specs.declared.kind.Kind.TheVariants as k
use Rattle.rbs_lexer.specs.declared.walk.Walk.{Walk}
use Rattle.rbs_lexer.specs.Lexing.{Piece, token, past, past_all, tokens_of}
use Rattle.rbs_grammar.specs.Rules.{Rule, Value, kind_number, is, is_word}
use Rattle.rbs_grammar.specs.Grammar.{Grammar, Way, Row, alt, spells, begins, begins_two}
use Rattle.rbs_grammar.specs.Parts.{behind, before, map_value, separated}
use Rattle.rbs_printer.proofs.Pieces.{behind_each}
use Rattle.rbs_printer.proofs.Claims.{Clear, NoKey}
use Rattle.rbs_printer.proofs.TokensOf.{tokens_before}

-- the token of a piece where a walk stands
abbrev pub token_at : Walk → Kind → List ℕ → Token
token_at walk kind text = record { kind = kind; text = text; at = record { start = walk.at; end = walk.at + length text }; begins_line = walk.line_ended }

-- Before tokens that go on with no `::`, the tokens of the pieces spell by the grammar a value of which this is shown.
abbrev pub Reads : {A B : Type 0} → ((r : Rule) → Way (Value r)) → Grammar A → (A → B) → List Piece → B → Type 0
Reads {A = A} d g shown pieces y = (walk : Walk) (rest : List Token) → Clear rest → (x : A) × (spells d g (tokens_of walk pieces ++ rest) rest x) × (shown x ≡ y)

-- ---- one grammar of another

pub reads_behind : {A B : Type 0} (d : (r : Rule) → Way (Value r)) (g : Grammar A) (shown : A → B) (pieces : List Piece) (y : B) (kind : Kind) (text : List ℕ)
    → (kind_number kind == kind_number kind) ≡ true → Reads d g shown pieces y → Reads d (behind kind g) shown (token kind text ∷ pieces) y
reads_behind d g shown pieces y kind text same reads walk rest clear =
    let inner = reads (past walk (token kind text)) rest clear in
    let t = token_at walk kind text in
    (inner.0, (t, inner.0, tokens_of (past walk (token kind text)) pieces ++ rest, (t, refl, same, refl), inner.1, refl), inner.2)

pub reads_before : {A B : Type 0} (d : (r : Rule) → Way (Value r)) (g : Grammar A) (shown : A → B) (pieces : List Piece) (y : B) (kind : Kind) (text : List ℕ)
    → (kind_number kind == kind_number kind) ≡ true → (kind_number k.ColonColon == kind_number kind) ≡ false
    → Reads d g shown pieces y → Reads d (before g kind) shown (pieces ++ token kind text ∷ []) y
reads_before d g shown pieces y kind text same other reads walk rest clear =
    let t = token_at (past_all walk pieces) kind text in
    let inner = reads walk (t ∷ rest) other in (
      inner.0,
      subst (λ ts. spells d (before g kind) ts rest inner.0) (sym (tokens_before walk pieces (token kind text ∷ []) rest)) (inner.0, t, t ∷ rest, inner.1, (t, refl, same, refl), refl),
      inner.2,
    )

pub reads_map : {A B C D : Type 0} (d : (r : Rule) → Way (Value r)) (g : Grammar A) (f : A → C) (shown : A → B) (shown_of : C → D) (h : B → D)
    → ((x : A) → shown_of (f x) ≡ h (shown x)) → (pieces : List Piece) (y : B) → Reads d g shown pieces y → Reads d (map_value f g) shown_of pieces (h y)
reads_map d g f shown shown_of h agree pieces y reads walk rest clear =
    let inner = reads walk rest clear in
    (f inner.0, (inner.0, tt, rest, inner.1, (refl, refl), refl), agree inner.0 ∙ ap h inner.2)

pub reads_first : {A B : Type 0} (d : (r : Rule) → Way (Value r)) (g other : Grammar A) (shown : A → B) (pieces : List Piece) (y : B)
    → Reads d g shown pieces y → Reads d (alt g other) shown pieces y
reads_first d g other shown pieces y reads walk rest clear = let inner = reads walk rest clear in (inner.0, inl inner.1, inner.2)

pub reads_second : {A B : Type 0} (d : (r : Rule) → Way (Value r)) (other g : Grammar A) (shown : A → B) (pieces : List Piece) (y : B)
    → Reads d g shown pieces y → Reads d (alt other g) shown pieces y
reads_second d other g shown pieces y reads walk rest clear = let inner = reads walk rest clear in (inner.0, inr inner.1, inner.2)

-- ---- several behind a sign

-- pieces whose one token is of this kind
pub record IsSign (kind : Kind) (sign : List Piece) : Type 0 where
  pub text : List ℕ
  pub past_it : Walk → Walk
  pub before_it : Walk → Walk
  pub tokens : (walk : Walk) (pieces : List Piece) → tokens_of walk (sign ++ pieces) ≡ token_at (before_it walk) kind text ∷ tokens_of (past_it walk) pieces
  pub same : (kind_number kind == kind_number kind) ≡ true
  pub no_colon : (kind_number k.Colon == kind_number kind) ≡ false

abbrev pub AllRead : {A B : Type 0} → ((r : Rule) → Way (Value r)) → Grammar A → (A → B) → List (List Piece) → List B → Type 0
AllRead d g shown [] [] = Unit {0}
AllRead d g shown [] (y ∷ ys) = ⊥
AllRead d g shown (ps ∷ pss) [] = ⊥
AllRead d g shown (ps ∷ pss) (y ∷ ys) = Reads d g shown ps y × AllRead d g shown pss ys

pub behind_each-clear : (kind : Kind) (sign : List Piece) → IsSign kind sign → (kind_number k.ColonColon == kind_number kind) ≡ false → (pss : List (List Piece)) (walk : Walk) (rest : List Token) → Clear rest → Clear (tokens_of walk (behind_each sign pss) ++ rest)
behind_each-clear kind sign s other [] walk rest clear = clear
behind_each-clear kind sign s other (ps ∷ pss) walk rest clear = subst (λ ts. Clear (ts ++ rest)) (sym (s.tokens walk (ps ++ behind_each sign pss))) other

pub behind_each-no_colon : (kind : Kind) (sign : List Piece) → IsSign kind sign → (pss : List (List Piece)) (walk : Walk) (rest : List Token)
    → begins (is k.Colon) rest ≡ false → begins (is k.Colon) (tokens_of walk (behind_each sign pss) ++ rest) ≡ false
behind_each-no_colon kind sign s [] walk rest clear = clear
behind_each-no_colon kind sign s (ps ∷ pss) walk rest clear = subst (λ ts. begins (is k.Colon) (ts ++ rest) ≡ false) (sym (s.tokens walk (ps ++ behind_each sign pss))) s.no_colon

pub both_same : {A : Type 0} (x y : A) (xs ys : List A) → x ≡ y → xs ≡ ys → ◌≡◌ {A = List A} (x ∷ xs) (y ∷ ys)
both_same x y xs ys e f i = e i ∷ f i

pub row_reads : {A B : Type 0} (d : (r : Rule) → Way (Value r)) (g : Grammar A) (shown : A → B) (kind : Kind) (sign : List Piece) → IsSign kind sign → (kind_number k.ColonColon == kind_number kind) ≡ false → (pss : List (List Piece)) (ys : List B)
    → AllRead d g shown pss ys → (walk : Walk) (rest : List Token) → Clear rest
    → (xs : List A) × (Row (spells d (behind kind g)) (tokens_of walk (behind_each sign pss) ++ rest) rest xs) × (map shown xs ≡ ys)
row_reads d g shown kind sign s other [] [] all walk rest clear = ([], refl, refl)
row_reads d g shown kind sign s other [] (y ∷ ys) all walk rest clear = absurd all
row_reads d g shown kind sign s other (ps ∷ pss) [] all walk rest clear = absurd all
row_reads d g shown kind sign s other (ps ∷ pss) (y ∷ ys) all walk rest clear =
    let t = token_at (s.before_it walk) kind s.text in
    let w = s.past_it walk in
    let mid = tokens_of (past_all w ps) (behind_each sign pss) ++ rest in
    let one = all.0 w mid (behind_each-clear kind sign s other pss (past_all w ps) rest clear) in
    let more = row_reads d g shown kind sign s other pss ys all.1 (past_all w ps) rest clear in
    let first : spells d (behind kind g) (t ∷ (tokens_of w ps ++ mid)) mid one.0 = (t, one.0, tokens_of w ps ++ mid, (t, refl, s.same, refl), one.1, refl) in
    let e : tokens_of walk (behind_each sign (ps ∷ pss)) ++ rest ≡ t ∷ (tokens_of w ps ++ mid) =
    ap (λ ts. ts ++ rest) (s.tokens walk (ps ++ behind_each sign pss)) ∙ ap (λ ts. t ∷ ts) (tokens_before w ps (behind_each sign pss) rest) in
    (one.0 ∷ more.0, (mid, subst (λ ts. spells d (behind kind g) ts mid one.0) (sym e) first, more.1), both_same (shown one.0) y (map shown more.0) ys one.2 more.2)

pub reads_separated : {A B : Type 0} (d : (r : Rule) → Way (Value r)) (g : Grammar A) (shown : A → B) (kind : Kind) (sign : List Piece) → IsSign kind sign → (kind_number k.ColonColon == kind_number kind) ≡ false
    → (ps : List Piece) (y : B) (pss : List (List Piece)) (ys : List B) → Reads d g shown ps y → AllRead d g shown pss ys → Reads d (separated kind g) (map shown) (ps ++ behind_each sign pss) (y ∷ ys)
reads_separated d g shown kind sign s other ps y pss ys first all walk rest clear =
    let mid = tokens_of (past_all walk ps) (behind_each sign pss) ++ rest in
    let one = first walk mid (behind_each-clear kind sign s other pss (past_all walk ps) rest clear) in
    let more = row_reads d g shown kind sign s other pss ys all (past_all walk ps) rest clear in (
      one.0 ∷ more.0,
      subst (λ ts. spells d (separated kind g) ts rest (one.0 ∷ more.0)) (sym (tokens_before walk ps (behind_each sign pss) rest)) (one.0, more.0, mid, one.1, (more.0, more.1, refl), refl),
      both_same (shown one.0) y (map shown more.0) ys one.2 more.2,
    )

-- ---- no word and `:`

pub and_false : (b c : Bool) → c ≡ false → (b && c) ≡ false
and_false true c e = e
and_false false c e = refl

-- where what follows doesn't begin with `:`
pub no_key-append : (ps qs : List Piece) → NoKey ps
    → ((walk : Walk) (rest : List Token) → begins (is k.Colon) rest ≡ false → begins (is k.Colon) (tokens_of walk qs ++ rest) ≡ false) → NoKey (ps ++ qs)
no_key-append ps qs no_key no_colon walk rest clear =
    subst (λ ts. begins_two is_word (is k.Colon) ts ≡ false) (sym (tokens_before walk ps qs rest)) (no_key walk (tokens_of (past_all walk ps) qs ++ rest) (no_colon (past_all walk ps) rest clear))
