-- The tokens of a printed layer spell it where those of its parts do.
use Rattle.std.proofs.Common.{◌≡◌, inl, inr, ℕ, ℤ, suc, ◌≤◌, not, if◌then◌else◌, Bool, true, false, List, [], ◌∷◌, ◌++◌, map, refl, sym, ◌∙◌, ap, subst}
use Rattle.std.specs.Prelude.{codes}
use Rattle.src_text.specs.declared.span.Span.{Span}
use Rattle.rbs_tree.specs.declared.names.TypeName.{TypeName}
use Rattle.rbs_tree.specs.declared.types.Ty.{Ty, roll-Ty}
use Rattle.rbs_tree.specs.declared.types.MethodType.{MethodType}
use Rattle.rbs_tree.specs.declared.types.Ty.TheOpen.{Ty-F}
use Rattle.rbs_tree.specs.declared.types.Ty.TheFolds.{fold-roll-Ty}
use Rattle.rbs_tree.specs.declared.types.Ty.TheVariants as t
use Rattle.rbs_lexer.specs.declared.kind.Kind.{Kind}
use Rattle.rbs_lexer.specs.declared.kind.Kind.TheVariants as k
use Rattle.rbs_lexer.specs.Words.{word_kind}
use Rattle.rbs_lexer.specs.Lexing.{token, past, past_all, tokens_of}
use Rattle.rbs_grammar.specs.Rules.{Rule, Value, Kinds, is, is_small, is_own_type, is_word}
use Rattle.rbs_grammar.specs.Grammar.{Way, spells, begins}
use Rattle.rbs_grammar.specs.Levels.{spell_in}
use Rattle.rbs_grammar.specs.Parts.{before, map_value, separated, any_of, given, both}
use Rattle.rbs_grammar.specs.Parts as parts
use Rattle.rbs_grammar.specs.Names.{relative_name, absolute_name, last_word, ends_type, class_name}
use Rattle.rbs_grammar.specs.Types as types
use Rattle.rbs_grammar.specs.Types.{a_type, a_function, ends_lone_type, named_type, is_single, single_type, inter_of, union_of}
use Rattle.rbs_grammar.specs.Values.{string_value, symbol_value, integer_value}
use Rattle.rbs_printer.specs.Words.{string_text, symbol_text, integer_text}
use Rattle.rbs_printer.specs.declared.level.Level.TheVariants as at
use Rattle.rbs_printer.specs.declared.level.Front.TheVariants as f
use Rattle.rbs_printer.specs.Printed.{is_lone, symbol_level, integer_front}
use Rattle.rbs_printer.specs.Again.{bare_name, bare, bare_method}
use Rattle.rbs_printer.proofs.Pieces as pieces
use Rattle.rbs_printer.proofs.Pieces.{Pieced, pieced, is_grouped, placed, placed_leads, any_pieces, pieces_at, word, blank, comma, colon, colons, question, in_parens, in_brackets, listed, behind_each, bracketed, name_pieces, named_pieces, args_pieces, and_parts, always, single}
use Rattle.rbs_printer.proofs.Fit.{ends_name, fits_alias, is_lone_small}
use Rattle.rbs_printer.proofs.Claims.{deep, grammar_at, NoKey, Spelled, SpelledFunction, AllOf}
use Rattle.rbs_printer.proofs.TokensOf.{tokens_before}
use Rattle.rbs_printer.proofs.Spelling.{token_at, Reads, reads_behind, reads_before, reads_map, behind_each-no_colon, and_false, no_key-append}
use Rattle.rbs_printer.proofs.SpelledNames.{left_true, constant_kind, interface_kind, colons_sign, word_pieces, AllTaken, last_text, words_read, named_so, class_name_reads, last_constant, last_interface, last_interface_lone, last_small, last_lone, one_taken, more_taken, both_taken, last_kind}
use Rattle.rbs_printer.proofs.SpelledTypes.{Well, reads_as, reads_lifted, base_above, function_inside, placed_reads, placed-no_key, most, listed_reads, args_reads, args-clear, args-no_colon}

-- a type whose layer is printed as these pieces, which spell it
pub made : (ty : Ty) (p : Pieced) (b : Ty) → pieced ty ≡ p → bare ty ≡ b → (least : ℕ)
    → ((old : Bool) (n : ℕ) → least ≤ n → Reads (spell_in (deep n)) (grammar_at p.level) bare (p.pieces old) b) → ((old : Bool) → NoKey (p.pieces old)) → Well ty
made ty p b printed shown least reads no_key = subst (λ q. Spelled q ty) (sym printed) (record {
  least = least;
  spells = λ old n enough. reads_as (spell_in (deep n)) (grammar_at p.level) bare (p.pieces old) b (bare ty) (sym shown) (reads old n enough);
  no_key = no_key;
})

-- ---- types of one token

token_reads : (d : (r : Rule) → Way (Value r)) (kind : Kind) (text : List ℕ) (b : Ty) → ((line : Bool) → is_single kind line ≡ true) → bare (single_type kind text) ≡ b
    → Reads d types.base bare (token kind text ∷ []) b
unfolding types.base
token_reads d kind text b single same walk rest clear =
    (single_type kind text, inr (inr (inr (inr (inl (token_at walk kind text, refl, single walk.line_ended, refl))))), same)

token-no_key : (kind : Kind) (text : List ℕ) → NoKey (token kind text ∷ [])
token-no_key kind text walk rest clear = and_false (is_word kind walk.line_ended) (begins (is k.Colon) rest) clear

-- a word that is a type by itself
word_spelled : (ty : Ty) (kind : Kind) (text : List ℕ) → pieced ty ≡ single kind text → bare ty ≡ ty → ((line : Bool) → is_single kind line ≡ true) → single_type kind text ≡ ty → Well ty
word_spelled ty kind text printed shown single same =
    made ty (pieces.single kind text) ty printed shown 0
    (λ old n enough. token_reads (spell_in (deep n)) kind text ty single (ap bare same ∙ shown))
    (λ old. token-no_key kind text)

pub true_spelled : Well (roll-Ty Ty-F.True)
true_spelled = word_spelled _ k.True (codes "true") (fold-roll-Ty _ _ _ _ _ _ _ _ _ _ _ _ Ty-F.True) (fold-roll-Ty _ _ _ _ _ _ _ _ _ _ _ _ Ty-F.True) (λ line. refl) (sym t.rolls-True)

pub false_spelled : Well (roll-Ty Ty-F.False)
false_spelled = word_spelled _ k.False (codes "false") (fold-roll-Ty _ _ _ _ _ _ _ _ _ _ _ _ Ty-F.False) (fold-roll-Ty _ _ _ _ _ _ _ _ _ _ _ _ Ty-F.False) (λ line. refl) (sym t.rolls-False)

pub bool_spelled : Well (roll-Ty Ty-F.Bool)
bool_spelled = word_spelled _ k.Bool (codes "bool") (fold-roll-Ty _ _ _ _ _ _ _ _ _ _ _ _ Ty-F.Bool) (fold-roll-Ty _ _ _ _ _ _ _ _ _ _ _ _ Ty-F.Bool) (λ line. refl) (sym t.rolls-Bool)

pub nil_spelled : Well (roll-Ty Ty-F.Nil)
nil_spelled = word_spelled _ k.Nil (codes "nil") (fold-roll-Ty _ _ _ _ _ _ _ _ _ _ _ _ Ty-F.Nil) (fold-roll-Ty _ _ _ _ _ _ _ _ _ _ _ _ Ty-F.Nil) (λ line. refl) (sym t.rolls-Nil)

pub top_spelled : Well (roll-Ty Ty-F.Top)
top_spelled = word_spelled _ k.Top (codes "top") (fold-roll-Ty _ _ _ _ _ _ _ _ _ _ _ _ Ty-F.Top) (fold-roll-Ty _ _ _ _ _ _ _ _ _ _ _ _ Ty-F.Top) (λ line. refl) (sym t.rolls-Top)

pub bot_spelled : Well (roll-Ty Ty-F.Bot)
bot_spelled = word_spelled _ k.Bot (codes "bot") (fold-roll-Ty _ _ _ _ _ _ _ _ _ _ _ _ Ty-F.Bot) (fold-roll-Ty _ _ _ _ _ _ _ _ _ _ _ _ Ty-F.Bot) (λ line. refl) (sym t.rolls-Bot)

pub void_spelled : Well (roll-Ty Ty-F.Void)
void_spelled = word_spelled _ k.Void (codes "void") (fold-roll-Ty _ _ _ _ _ _ _ _ _ _ _ _ Ty-F.Void) (fold-roll-Ty _ _ _ _ _ _ _ _ _ _ _ _ Ty-F.Void) (λ line. refl) (sym t.rolls-Void)

pub untyped_spelled : Well (roll-Ty Ty-F.Untyped)
untyped_spelled = word_spelled _ k.Untyped (codes "untyped") (fold-roll-Ty _ _ _ _ _ _ _ _ _ _ _ _ Ty-F.Untyped) (fold-roll-Ty _ _ _ _ _ _ _ _ _ _ _ _ Ty-F.Untyped) (λ line. refl) (sym t.rolls-Untyped)

pub self_spelled : Well (roll-Ty Ty-F.SelfTy)
self_spelled = word_spelled _ k.SelfWord (codes "self") (fold-roll-Ty _ _ _ _ _ _ _ _ _ _ _ _ Ty-F.SelfTy) (fold-roll-Ty _ _ _ _ _ _ _ _ _ _ _ _ Ty-F.SelfTy) (λ line. refl) (sym t.rolls-SelfTy)

pub instance_word_spelled : Well (roll-Ty Ty-F.InstanceTy)
instance_word_spelled = word_spelled _ k.Instance (codes "instance") (fold-roll-Ty _ _ _ _ _ _ _ _ _ _ _ _ Ty-F.InstanceTy) (fold-roll-Ty _ _ _ _ _ _ _ _ _ _ _ _ Ty-F.InstanceTy) (λ line. refl) (sym t.rolls-InstanceTy)

pub class_word_spelled : Well (roll-Ty Ty-F.ClassTy)
class_word_spelled = word_spelled _ k.Class (codes "class") (fold-roll-Ty _ _ _ _ _ _ _ _ _ _ _ _ Ty-F.ClassTy) (fold-roll-Ty _ _ _ _ _ _ _ _ _ _ _ _ Ty-F.ClassTy) (λ line. refl) (sym t.rolls-ClassTy)

-- ---- literals

bare_integer : (z : ℤ) → bare (t.IntLit z) ≡ roll-Ty (Ty-F.IntLit z)
bare_integer z = ap bare (sym (t.rolls-IntLit z)) ∙ fold-roll-Ty _ _ _ _ _ _ _ _ _ _ _ _ (Ty-F.IntLit z)

pub integer_spelled : (z : ℤ) → integer_value (integer_text z) ≡ z → Well (roll-Ty (Ty-F.IntLit z))
integer_spelled z same =
    made (roll-Ty (Ty-F.IntLit z)) (always at.Base (integer_front z) (token k.Integer (integer_text z) ∷ [])) (roll-Ty (Ty-F.IntLit z))
    (fold-roll-Ty _ _ _ _ _ _ _ _ _ _ _ _ (Ty-F.IntLit z)) (fold-roll-Ty _ _ _ _ _ _ _ _ _ _ _ _ (Ty-F.IntLit z)) 0
    (λ old n enough. token_reads (spell_in (deep n)) k.Integer (integer_text z) (roll-Ty (Ty-F.IntLit z)) (λ line. refl) (ap (λ v. bare (t.IntLit v)) same ∙ bare_integer z))
    (λ old. token-no_key k.Integer (integer_text z))

bare_string : (v : List ℕ) → bare (t.StrLit v) ≡ roll-Ty (Ty-F.StrLit v)
bare_string v = ap bare (sym (t.rolls-StrLit v)) ∙ fold-roll-Ty _ _ _ _ _ _ _ _ _ _ _ _ (Ty-F.StrLit v)

pub string_spelled : (v : List ℕ) → string_value (string_text v) ≡ v → Well (roll-Ty (Ty-F.StrLit v))
string_spelled v same =
    made (roll-Ty (Ty-F.StrLit v)) (always at.Base f.Other (token k.String (string_text v) ∷ [])) (roll-Ty (Ty-F.StrLit v))
    (fold-roll-Ty _ _ _ _ _ _ _ _ _ _ _ _ (Ty-F.StrLit v)) (fold-roll-Ty _ _ _ _ _ _ _ _ _ _ _ _ (Ty-F.StrLit v)) 0
    (λ old n enough. token_reads (spell_in (deep n)) k.String (string_text v) (roll-Ty (Ty-F.StrLit v)) (λ line. refl) (ap (λ v. bare (t.StrLit v)) same ∙ bare_string v))
    (λ old. token-no_key k.String (string_text v))

bare_symbol : (v : List ℕ) → bare (t.SymLit v) ≡ roll-Ty (Ty-F.SymLit v)
bare_symbol v = ap bare (sym (t.rolls-SymLit v)) ∙ fold-roll-Ty _ _ _ _ _ _ _ _ _ _ _ _ (Ty-F.SymLit v)

pub symbol_spelled : (v : List ℕ) → symbol_value (symbol_text v) ≡ v → Well (roll-Ty (Ty-F.SymLit v))
symbol_spelled v same =
    made (roll-Ty (Ty-F.SymLit v)) (always (symbol_level v) f.Other (token k.Symbol (symbol_text v) ∷ [])) (roll-Ty (Ty-F.SymLit v))
    (fold-roll-Ty _ _ _ _ _ _ _ _ _ _ _ _ (Ty-F.SymLit v)) (fold-roll-Ty _ _ _ _ _ _ _ _ _ _ _ _ (Ty-F.SymLit v)) 0
    (λ old n enough. reads_lifted (spell_in (deep n)) at.Base (symbol_level v) (base_above (symbol_level v)) (token k.Symbol (symbol_text v) ∷ []) (roll-Ty (Ty-F.SymLit v))
    (token_reads (spell_in (deep n)) k.Symbol (symbol_text v) (roll-Ty (Ty-F.SymLit v)) (λ line. refl) (ap (λ v. bare (t.SymLit v)) same ∙ bare_symbol v)))
    (λ old. token-no_key k.Symbol (symbol_text v))

-- ---- named types

named_relative : (d : (r : Rule) → Way (Value r)) (w : List ℕ) (ws : List (List ℕ)) → AllTaken d (last_word ends_lone_type) (last_word ends_type) w ws
    → (target : TypeName → List Ty → Ty) → ((n : TypeName) (args : List Ty) → bare (named_type (word_kind (last_text w ws)) n args) ≡ target (bare_name n) (map bare args))
    → (span : Span) (ps : List Pieced) (bs : List Ty) → Reads d (any_of types.type_args) (map bare) (args_pieces ps) bs
    → Reads d types.base bare (named_pieces (record { absolute = false; path = w ∷ ws; at = span }) ps) (target (bare_name (record { absolute = false; path = w ∷ ws; at = span })) bs)
unfolding types.base types.named types.relative_words
named_relative d w ws all target agree span ps bs args walk rest clear =
    let names = pieces.separated (colons ∷ []) (word_pieces (w ∷ ws)) in
    let on = past_all walk names in
    let mid = tokens_of on (args_pieces ps) ++ rest in
    let r = words_read d (last_word ends_lone_type) (last_word ends_type) w ws all walk mid (args-clear ps on rest clear) in
    let read_args = args on rest clear in
    let n = relative_name r.read in
    let x = named_type r.read.last n read_args.0 in
    let same = named_so false r.read.path (w ∷ ws) r.path in (
      x,
      subst (λ ts. spells d types.base ts rest x) (sym (tokens_before walk names (args_pieces ps) rest)) (inr (inr (inr (inr (inr (inr (r.read, read_args.0, mid, r.spelled, read_args.1, refl))))))),
      ap (λ kind. bare (named_type kind n read_args.0)) r.last ∙ agree n read_args.0 ∙ (λ i. target (same i) (read_args.2 i)),
    )

named_absolute : (d : (r : Rule) → Way (Value r)) (w : List ℕ) (ws : List (List ℕ)) → AllTaken d (last_word ends_type) (last_word ends_type) w ws
    → (target : TypeName → List Ty → Ty) → ((n : TypeName) (args : List Ty) → bare (named_type (word_kind (last_text w ws)) n args) ≡ target (bare_name n) (map bare args))
    → (span : Span) (ps : List Pieced) (bs : List Ty) → Reads d (any_of types.type_args) (map bare) (args_pieces ps) bs
    → Reads d types.base bare (named_pieces (record { absolute = true; path = w ∷ ws; at = span }) ps) (target (bare_name (record { absolute = true; path = w ∷ ws; at = span })) bs)
unfolding types.base types.named types.absolute_words
named_absolute d w ws all target agree span ps bs args walk rest clear =
    let sign = token_at walk k.ColonColon (codes "::") in
    let begin = past walk colons in
    let names = pieces.separated (colons ∷ []) (word_pieces (w ∷ ws)) in
    let on = past_all begin names in
    let mid = tokens_of on (args_pieces ps) ++ rest in
    let r = words_read d (last_word ends_type) (last_word ends_type) w ws all begin mid (args-clear ps on rest clear) in
    let read_args = args on rest clear in
    let n = absolute_name sign r.read in
    let x = named_type r.read.last n read_args.0 in
    let same = named_so true r.read.path (w ∷ ws) r.path in
    let words_and_args : spells d (both types.absolute_words (any_of types.type_args)) (tokens_of begin (names ++ args_pieces ps) ++ rest) rest (r.read, read_args.0) =
    subst (λ ts. spells d (both types.absolute_words (any_of types.type_args)) ts rest (r.read, read_args.0)) (sym (tokens_before begin names (args_pieces ps) rest))
    (r.read, read_args.0, mid, r.spelled, read_args.1, refl) in (
      x,
      inr (inr (inr (inr (inr (inl (sign, (r.read, read_args.0), tokens_of begin (names ++ args_pieces ps) ++ rest, (sign, refl, refl, refl), words_and_args, refl)))))),
      ap (λ kind. bare (named_type kind n read_args.0)) r.last ∙ agree n read_args.0 ∙ (λ i. target (same i) (read_args.2 i)),
    )

named-no_key : (absolute : Bool) (w : List ℕ) (ws : List (List ℕ)) (span : Span) (ps : List Pieced) → NoKey (named_pieces (record { absolute = absolute; path = w ∷ ws; at = span }) ps)
named-no_key true w ws span ps walk rest clear = refl
named-no_key false w ws span ps walk rest clear =
    let on = past walk (word w) in
    let others = behind_each (colons ∷ []) (word_pieces ws) in
    and_false (is_word (word_kind w) walk.line_ended) (begins (is k.Colon) (tokens_of on (others ++ args_pieces ps) ++ rest))
    (subst (λ ts. begins (is k.Colon) ts ≡ false) (sym (tokens_before on others (args_pieces ps) rest))
    (behind_each-no_colon k.ColonColon (colons ∷ []) colons_sign (word_pieces ws) on (tokens_of (past_all on others) (args_pieces ps) ++ rest)
    (args-no_colon ps (past_all on others) rest clear)))

bare_instance : (name : TypeName) (args : List Ty) → bare (roll-Ty (Ty-F.Instance name args)) ≡ roll-Ty (Ty-F.Instance (bare_name name) (map bare args))
bare_instance name args = fold-roll-Ty _ _ _ _ _ _ _ _ _ _ _ _ (Ty-F.Instance name args)

instance_reads : (d : (r : Rule) → Way (Value r)) (absolute : Bool) (path : List (List ℕ)) (span : Span) → ends_name (is k.Constant) path ≡ true
    → (ps : List Pieced) (bs : List Ty) → Reads d (any_of types.type_args) (map bare) (args_pieces ps) bs
    → Reads d types.base bare (named_pieces (record { absolute = absolute; path = path; at = span }) ps) (roll-Ty (Ty-F.Instance (bare_name (record { absolute = absolute; path = path; at = span })) bs))
instance_reads d absolute [] span e ps bs args = cc
instance_reads d false (w ∷ ws) span e ps bs args =
    named_relative d w ws (both_taken d ends_lone_type ends_type (is k.Constant) (last_constant d ends_lone_type) (last_constant d ends_type) w ws e) (λ n xs. roll-Ty (Ty-F.Instance n xs))
    (λ n xs. ap (λ kind. bare (named_type kind n xs)) (constant_kind (word_kind (last_text w ws)) (last_kind (is k.Constant) w ws e)) ∙ ap bare (sym (t.rolls-Instance n xs)) ∙ bare_instance n xs) span ps bs args
instance_reads d true (w ∷ ws) span e ps bs args =
    named_absolute d w ws (both_taken d ends_type ends_type (is k.Constant) (last_constant d ends_type) (last_constant d ends_type) w ws e) (λ n xs. roll-Ty (Ty-F.Instance n xs))
    (λ n xs. ap (λ kind. bare (named_type kind n xs)) (constant_kind (word_kind (last_text w ws)) (last_kind (is k.Constant) w ws e)) ∙ ap bare (sym (t.rolls-Instance n xs)) ∙ bare_instance n xs) span ps bs args

bare_interface : (name : TypeName) (args : List Ty) → bare (roll-Ty (Ty-F.Interface name args)) ≡ roll-Ty (Ty-F.Interface (bare_name name) (map bare args))
bare_interface name args = fold-roll-Ty _ _ _ _ _ _ _ _ _ _ _ _ (Ty-F.Interface name args)

interface_reads : (d : (r : Rule) → Way (Value r)) (absolute : Bool) (path : List (List ℕ)) (span : Span) → ends_name (is k.InterfaceName) path ≡ true
    → (ps : List Pieced) (bs : List Ty) → Reads d (any_of types.type_args) (map bare) (args_pieces ps) bs
    → Reads d types.base bare (named_pieces (record { absolute = absolute; path = path; at = span }) ps) (roll-Ty (Ty-F.Interface (bare_name (record { absolute = absolute; path = path; at = span })) bs))
interface_reads d absolute [] span e ps bs args = cc
interface_reads d false (w ∷ ws) span e ps bs args =
    named_relative d w ws (both_taken d ends_lone_type ends_type (is k.InterfaceName) (last_interface_lone d) (last_interface d) w ws e) (λ n xs. roll-Ty (Ty-F.Interface n xs))
    (λ n xs. ap (λ kind. bare (named_type kind n xs)) (interface_kind (word_kind (last_text w ws)) (last_kind (is k.InterfaceName) w ws e)) ∙ ap bare (sym (t.rolls-Interface n xs)) ∙ bare_interface n xs) span ps bs args
interface_reads d true (w ∷ ws) span e ps bs args =
    named_absolute d w ws (both_taken d ends_type ends_type (is k.InterfaceName) (last_interface d) (last_interface d) w ws e) (λ n xs. roll-Ty (Ty-F.Interface n xs))
    (λ n xs. ap (λ kind. bare (named_type kind n xs)) (interface_kind (word_kind (last_text w ws)) (last_kind (is k.InterfaceName) w ws e)) ∙ ap bare (sym (t.rolls-Interface n xs)) ∙ bare_interface n xs) span ps bs args

bare_alias : (name : TypeName) (args : List Ty) → bare (roll-Ty (Ty-F.Alias name args)) ≡ roll-Ty (Ty-F.Alias (bare_name name) (map bare args))
bare_alias name args = fold-roll-Ty _ _ _ _ _ _ _ _ _ _ _ _ (Ty-F.Alias name args)

named_small : (kind : Kind) → is_small kind false ≡ true → (name : TypeName) (args : List Ty) → named_type kind name args ≡ t.Alias name args
named_small k.Constant e name args = cc
named_small k.InterfaceName e name args = cc
named_small _ e name args = refl

alias_reads : (d : (r : Rule) → Way (Value r)) (absolute : Bool) (path : List (List ℕ)) (span : Span) → fits_alias (record { absolute = absolute; path = path; at = span }) ≡ true
    → (ps : List Pieced) (bs : List Ty) → Reads d (any_of types.type_args) (map bare) (args_pieces ps) bs
    → Reads d types.base bare (named_pieces (record { absolute = absolute; path = path; at = span }) ps) (roll-Ty (Ty-F.Alias (bare_name (record { absolute = absolute; path = path; at = span })) bs))
alias_reads d false [] span e ps bs args = cc
alias_reads d true [] span e ps bs args = cc
alias_reads d false (w ∷ []) span e ps bs args =
    let small = left_true (is_small (word_kind w) false) (not (is_own_type (word_kind w) false)) (last_kind is_lone_small w [] e) in
    named_relative d w [] (one_taken d ends_lone_type ends_type is_lone_small (last_lone d) w e) (λ n xs. roll-Ty (Ty-F.Alias n xs))
    (λ n xs. ap bare (named_small (word_kind w) small n xs) ∙ ap bare (sym (t.rolls-Alias n xs)) ∙ bare_alias n xs) span ps bs args
alias_reads d false (w ∷ v ∷ ws) span e ps bs args =
    named_relative d w (v ∷ ws) (more_taken d ends_lone_type ends_type is_small (last_small d) w v ws e) (λ n xs. roll-Ty (Ty-F.Alias n xs))
    (λ n xs. ap bare (named_small (word_kind (last_text v ws)) (last_kind is_small w (v ∷ ws) e) n xs) ∙ ap bare (sym (t.rolls-Alias n xs)) ∙ bare_alias n xs) span ps bs args
alias_reads d true (w ∷ ws) span e ps bs args =
    named_absolute d w ws (both_taken d ends_type ends_type is_small (last_small d) (last_small d) w ws e) (λ n xs. roll-Ty (Ty-F.Alias n xs))
    (λ n xs. ap bare (named_small (word_kind (last_text w ws)) (last_kind is_small w ws e) n xs) ∙ ap bare (sym (t.rolls-Alias n xs)) ∙ bare_alias n xs) span ps bs args

name-no_key : (absolute : Bool) (path : List (List ℕ)) (span : Span) (p : Kinds) → ends_name p path ≡ true → (ps : List Pieced) → NoKey (named_pieces (record { absolute = absolute; path = path; at = span }) ps)
name-no_key absolute [] span p e ps = cc
name-no_key absolute (w ∷ ws) span p e ps = named-no_key absolute w ws span ps

pub instance_spelled : (name : TypeName) (args : List Ty) → AllOf Well args → ends_name (is k.Constant) name.path ≡ true → Well (roll-Ty (Ty-F.Instance name args))
instance_spelled name args all e =
    made (roll-Ty (Ty-F.Instance name args)) (pieces.named name (map pieced args)) (roll-Ty (Ty-F.Instance (bare_name name) (map bare args)))
    (fold-roll-Ty _ _ _ _ _ _ _ _ _ _ _ _ (Ty-F.Instance name args)) (bare_instance name args) (suc (suc (suc (suc (most args all)))))
    (λ old n enough. instance_reads (spell_in (deep n)) name.absolute name.path name.at e (map pieced args) (map bare args) (args_reads args all n enough))
    (λ old. name-no_key name.absolute name.path name.at (is k.Constant) e (map pieced args))

pub interface_spelled : (name : TypeName) (args : List Ty) → AllOf Well args → ends_name (is k.InterfaceName) name.path ≡ true → Well (roll-Ty (Ty-F.Interface name args))
interface_spelled name args all e =
    made (roll-Ty (Ty-F.Interface name args)) (pieces.named name (map pieced args)) (roll-Ty (Ty-F.Interface (bare_name name) (map bare args)))
    (fold-roll-Ty _ _ _ _ _ _ _ _ _ _ _ _ (Ty-F.Interface name args)) (bare_interface name args) (suc (suc (suc (suc (most args all)))))
    (λ old n enough. interface_reads (spell_in (deep n)) name.absolute name.path name.at e (map pieced args) (map bare args) (args_reads args all n enough))
    (λ old. name-no_key name.absolute name.path name.at (is k.InterfaceName) e (map pieced args))

pub alias_spelled : (name : TypeName) (args : List Ty) → AllOf Well args → fits_alias name ≡ true → Well (roll-Ty (Ty-F.Alias name args))
alias_spelled name args all e =
    made (roll-Ty (Ty-F.Alias name args)) (pieces.alias name (map pieced args)) (roll-Ty (Ty-F.Alias (bare_name name) (map bare args)))
    (fold-roll-Ty _ _ _ _ _ _ _ _ _ _ _ _ (Ty-F.Alias name args)) (bare_alias name args) (suc (suc (suc (suc (most args all)))))
    (λ old n enough. alias_reads (spell_in (deep n)) name.absolute name.path name.at e (map pieced args) (map bare args) (args_reads args all n enough))
    (λ old. name-no_key name.absolute name.path name.at (if is_lone name then is_lone_small else is_small) e (map pieced args))

bare_singleton : (name : TypeName) → bare (roll-Ty (Ty-F.Singleton name)) ≡ roll-Ty (Ty-F.Singleton (bare_name name))
bare_singleton name = fold-roll-Ty _ _ _ _ _ _ _ _ _ _ _ _ (Ty-F.Singleton name)

singleton_reads : (d : (r : Rule) → Way (Value r)) (name : TypeName) → ends_name (is k.Constant) name.path ≡ true → Reads d types.base bare (pieces.singleton_pieces name) (roll-Ty (Ty-F.Singleton (bare_name name)))
unfolding types.base types.singleton
singleton_reads d name e walk rest clear =
    let b = roll-Ty (Ty-F.Singleton (bare_name name)) in
    let inner = name_pieces name ++ token k.RightParen (codes ")") ∷ [] in
    let named = reads_map d class_name t.Singleton bare_name bare (λ n. roll-Ty (Ty-F.Singleton n)) (λ n. ap bare (sym (t.rolls-Singleton n)) ∙ bare_singleton n) (name_pieces name) (bare_name name) (class_name_reads d name e) in
    let closed = reads_before d (map_value t.Singleton class_name) bare (name_pieces name) b k.RightParen (codes ")") refl refl named in
    let opened = reads_behind d (before (map_value t.Singleton class_name) k.RightParen) bare inner b k.LeftParen (codes "(") refl closed in
    let r = reads_behind d (parts.behind k.LeftParen (before (map_value t.Singleton class_name) k.RightParen)) bare (in_parens (name_pieces name)) b k.Singleton (codes "singleton") refl opened walk rest clear in
    (r.0, inr (inr (inr (inl r.1))), r.2)

pub singleton_spelled : (name : TypeName) → ends_name (is k.Constant) name.path ≡ true → Well (roll-Ty (Ty-F.Singleton name))
singleton_spelled name e =
    made (roll-Ty (Ty-F.Singleton name)) (always at.Base f.Other (pieces.singleton_pieces name)) (roll-Ty (Ty-F.Singleton (bare_name name)))
    (fold-roll-Ty _ _ _ _ _ _ _ _ _ _ _ _ (Ty-F.Singleton name)) (bare_singleton name) 0
    (λ old n enough. singleton_reads (spell_in (deep n)) name e)
    (λ old walk rest clear. refl)

-- ---- composed types

bare_tuple : (tys : List Ty) → bare (roll-Ty (Ty-F.TupleOf tys)) ≡ roll-Ty (Ty-F.TupleOf (map bare tys))
bare_tuple tys = fold-roll-Ty _ _ _ _ _ _ _ _ _ _ _ _ (Ty-F.TupleOf tys)

elements_read : (tys : List Ty) (all : AllOf Well tys) (n : ℕ) → suc (suc (suc (suc (most tys all)))) ≤ n
    → Reads (spell_in (deep n)) (any_of (separated k.Comma a_type)) (map bare) (listed (map any_pieces (map pieced tys))) (map bare tys)
elements_read [] all n enough walk rest clear = ([], inr (refl, refl), refl)
elements_read (ty ∷ tys) all n enough walk rest clear = let r = listed_reads ty tys all n enough walk rest clear in (r.0, inl r.1, r.2)

tuple_reads : (tys : List Ty) (all : AllOf Well tys) (n : ℕ) → suc (suc (suc (suc (most tys all)))) ≤ n
    → Reads (spell_in (deep n)) types.base bare (bracketed (map pieced tys)) (roll-Ty (Ty-F.TupleOf (map bare tys)))
unfolding types.base types.tuple
tuple_reads tys all n enough walk rest clear =
    let d = spell_in (deep n) in
    let b = roll-Ty (Ty-F.TupleOf (map bare tys)) in
    let inner = listed (map any_pieces (map pieced tys)) in
    let elements = any_of (separated k.Comma a_type) in
    let made = reads_map d elements t.TupleOf (map bare) bare (λ bs. roll-Ty (Ty-F.TupleOf bs)) (λ xs. ap bare (sym (t.rolls-TupleOf xs)) ∙ bare_tuple xs) inner (map bare tys) (elements_read tys all n enough) in
    let closed = reads_before d (map_value t.TupleOf elements) bare inner b k.RightBracket (codes "]") refl refl made in
    let r = reads_behind d (before (map_value t.TupleOf elements) k.RightBracket) bare (inner ++ token k.RightBracket (codes "]") ∷ []) b k.LeftBracket (codes "[") refl closed walk rest clear in
    (r.0, inr (inl r.1), r.2)

pub tuple_spelled : (tys : List Ty) → AllOf Well tys → Well (roll-Ty (Ty-F.TupleOf tys))
tuple_spelled tys all =
    made (roll-Ty (Ty-F.TupleOf tys)) (pieces.tuple (map pieced tys)) (roll-Ty (Ty-F.TupleOf (map bare tys)))
    (fold-roll-Ty _ _ _ _ _ _ _ _ _ _ _ _ (Ty-F.TupleOf tys)) (bare_tuple tys) (suc (suc (suc (suc (most tys all)))))
    (λ old n enough. tuple_reads tys all n enough)
    (λ old walk rest clear. refl)

bare_optional : (ty : Ty) → bare (roll-Ty (Ty-F.Optional ty)) ≡ roll-Ty (Ty-F.Optional (bare ty))
bare_optional ty = fold-roll-Ty _ _ _ _ _ _ _ _ _ _ _ _ (Ty-F.Optional ty)

optional_reads : (ty : Ty) (s : Well ty) (n : ℕ) → suc (suc s.least) ≤ n → Reads (spell_in (deep n)) types.opt bare (pieces_at at.Base (pieced ty) ++ question ∷ []) (roll-Ty (Ty-F.Optional (bare ty)))
unfolding types.opt
optional_reads ty s n enough walk rest clear =
    let ps = pieces_at at.Base (pieced ty) in
    let q = token_at (past_all walk ps) k.Question (codes "?") in
    let r = placed_reads (pieced ty) ty s at.Base false n enough walk (q ∷ rest) refl in (
      t.Optional r.0,
      subst (λ ts. spells (spell_in (deep n)) types.opt ts rest (t.Optional r.0)) (sym (tokens_before walk ps (question ∷ []) rest))
          (inr (r.0, true, q ∷ rest, r.1, inl (q, tt, rest, (q, refl, refl, refl), (refl, refl), refl), refl)),
      ap bare (sym (t.rolls-Optional r.0)) ∙ bare_optional r.0 ∙ ap (λ b. roll-Ty (Ty-F.Optional b)) r.2,
    )

pub optional_spelled : (ty : Ty) → Well ty → Well (roll-Ty (Ty-F.Optional ty))
optional_spelled ty s =
    made (roll-Ty (Ty-F.Optional ty)) (pieces.optional (pieced ty)) (roll-Ty (Ty-F.Optional (bare ty)))
    (fold-roll-Ty _ _ _ _ _ _ _ _ _ _ _ _ (Ty-F.Optional ty)) (bare_optional ty) (suc (suc s.least))
    (λ old n enough. optional_reads ty s n enough)
    (λ old. no_key-append (pieces_at at.Base (pieced ty)) (question ∷ []) (placed-no_key (pieced ty) ty s at.Base false) (λ walk rest clear. refl))

bare_proc : (m : MethodType) → bare (roll-Ty (Ty-F.ProcOf m)) ≡ roll-Ty (Ty-F.ProcOf (bare_method m))
bare_proc m = fold-roll-Ty _ _ _ _ _ _ _ _ _ _ _ _ (Ty-F.ProcOf m)

proc_reads : (m : MethodType) (s : SpelledFunction (pieces.pieced_method m).pieces m) (n : ℕ) → suc (suc s.least) ≤ n
    → Reads (spell_in (deep n)) types.opt bare (token k.Caret (codes "^") ∷ (pieces.pieced_method m).pieces) (roll-Ty (Ty-F.ProcOf (bare_method m)))
unfolding types.opt types.proc
proc_reads m s n enough walk rest clear =
    let d = spell_in (deep n) in
    let b = roll-Ty (Ty-F.ProcOf (bare_method m)) in
    let inner = (pieces.pieced_method m).pieces in
    let made = reads_map d a_function t.ProcOf bare_method bare (λ f. roll-Ty (Ty-F.ProcOf f)) (λ f. ap bare (sym (t.rolls-ProcOf f)) ∙ bare_proc f) inner (bare_method m) (function_inside inner m s n enough) in
    let r = reads_behind d (map_value t.ProcOf a_function) bare inner b k.Caret (codes "^") refl made walk rest clear in
    (r.0, inl r.1, r.2)

pub proc_spelled : (m : MethodType) → SpelledFunction (pieces.pieced_method m).pieces m → Well (roll-Ty (Ty-F.ProcOf m))
proc_spelled m s =
    made (roll-Ty (Ty-F.ProcOf m)) (pieces.pieced_ty (Ty-F.ProcOf (pieces.pieced_method m))) (roll-Ty (Ty-F.ProcOf (bare_method m)))
    (fold-roll-Ty _ _ _ _ _ _ _ _ _ _ _ _ (Ty-F.ProcOf m)) (bare_proc m) (suc (suc s.least))
    (λ old n enough. proc_reads m s n enough)
    (λ old walk rest clear. refl)
