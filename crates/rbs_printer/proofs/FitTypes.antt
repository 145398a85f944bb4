-- Types that real tokens spell fit, rule by rule, where the rules inside them are so.
use Rattle.std.proofs.Common.{◌≡◌, ℕ, Bool, true, false, ◌&&◌, ◌||◌, if◌then◌else◌, List, [], ◌∷◌, map, length, refl, arith, le-leb}
use Rattle.std.specs.Prelude.{Option, Some, None, nat_le}
use Rattle.std.specs.List.{list_all}
use Rattle.std.proofs.lemmas.Str.{is_utf8-from_IsUtf8}
use Rattle.rbs_tree.specs.declared.types.Ty.{Ty}
use Rattle.rbs_tree.specs.declared.types.Ty.TheVariants as t
use Rattle.rbs_tree.specs.declared.types.Field.{Field}
use Rattle.rbs_lexer.specs.declared.kind.Kind.{Kind}
use Rattle.rbs_lexer.specs.declared.kind.Kind.TheVariants as k
use Rattle.rbs_lexer.specs.Tokens.{Token}
use Rattle.rbs_grammar.specs.declared.parts.Words.{Words}
use Rattle.rbs_grammar.specs.declared.stage.Stage.{Stage}
use Rattle.rbs_grammar.specs.declared.stage.Stage.TheVariants as at
use Rattle.rbs_grammar.specs.Rules.{Rule, is, is_word}
use Rattle.rbs_grammar.specs.Grammar.{spells, seq, alt, tok, eps, chain}
use Rattle.rbs_grammar.specs.Parts.{same, token, both, behind, before, map_value, given, any_of, separated}
use Rattle.rbs_grammar.specs.Names.{absolute_name, relative_name, class_name, ends_type}
use Rattle.rbs_grammar.specs.Types.{a_type, a_function, type_args, ends_lone_type, absolute_words, relative_words, absolute_type, relative_type, named, is_single, single_type, single_of, group, tuple, field_of, field, some_field, fields_lead, field_part, somes, record_type, singleton, base, proc, optional_type, opt, inter_of, inter, union_of, union}
use Rattle.rbs_printer.specs.Printed.{has_one}
use Rattle.rbs_printer.specs.Again.{IsReal}
use Rattle.rbs_printer.proofs.Claims.{AllOf, IfThere}
use Rattle.rbs_printer.proofs.Fit.{fit, is_true, is_word_of, two_or_more}
use Rattle.rbs_printer.proofs.Keeping.{Keeps, Any, eps_keeps, tok_keeps, seq_keeps, alt_keeps, chain_keeps, map_keeps}
use Rattle.rbs_printer.proofs.KeepingParts.{Ways, AllOfSome, token_keeps, both_keeps, behind_keeps, before_keeps, value_keeps, given_keeps, any_of_keeps, separated_keeps, separated_some}
use Rattle.rbs_printer.proofs.RealTokens.{real_string, real_symbol}
use Rattle.rbs_printer.proofs.FitValues.{integer_in_range, string_is_utf8, symbol_is_utf8}
use Rattle.rbs_printer.proofs.FitNames.{real_word_of, NameWords, absolute_words_keep, relative_words_keep, named_fits, ClassName, class_name_keeps}
use Rattle.rbs_printer.proofs.FitNodes.{Fits, FitsField, FitsFunction, all_pass, singleton_fits, integer_fits, string_fits, symbol_fits, true_fits, false_fits, bool_fits, nil_fits, top_fits, bot_fits, void_fits, untyped_fits, self_fits, instance_word_fits, class_fits, union_fits, inter_fits, optional_fits, tuple_fits, record_fits, proc_fits, field_fits}

-- what the rules inside a type spell fits
pub record FitWays (d : Ways) : Type 1 where
  pub ty : Keeps Fits (d Rule.ty)
  pub function : Keeps FitsFunction (d Rule.function)

-- a token that is a word
abbrev pub HasWord : Token → Type 0
HasWord t = is_word_of is_word t.text ≡ true

module _ (d : Ways) (known : FitWays d) where
  pub a_type_fits : Keeps Fits (spells d a_type)
  unfolding a_type
  a_type_fits = map_keeps Fits Fits same (d Rule.ty) known.ty (λ x h. h)

  pub a_function_fits : Keeps FitsFunction (spells d a_function)
  unfolding a_function
  a_function_fits = map_keeps FitsFunction FitsFunction same (d Rule.function) known.function (λ x h. h)

  type_args_fit : Keeps (AllOf Fits) (spells d type_args)
  unfolding type_args
  type_args_fit = behind_keeps d (AllOf Fits) k.LeftBracket (before (separated k.Comma a_type) k.RightBracket) (before_keeps d (AllOf Fits) (separated k.Comma a_type) k.RightBracket (separated_keeps d Fits k.Comma a_type a_type_fits))

  args_fit : Keeps (AllOf Fits) (spells d (any_of type_args))
  args_fit = any_of_keeps d Fits type_args type_args_fit

  -- ---- types that are named

  absolute_fits : (colons : Token) (named : Words × List Ty) → NameWords ends_type ends_type named.0 × AllOf Fits named.1 → Fits (absolute_type colons named)
  absolute_fits colons named h = named_fits named.0.last (absolute_name colons named.0) named.1 h.0.0 (go (has_one named.0.path) h.0.1) h.1
    where
      go : (b : Bool) → (is k.Constant named.0.last false || (if b then ends_type else ends_type) named.0.last false) ≡ true → (is k.Constant named.0.last false || ends_type named.0.last false) ≡ true
      go true h = h
      go false h = h

  relative_fits : (words : Words) (args : List Ty) → NameWords ends_lone_type ends_type words → AllOf Fits args → Fits (relative_type words args)
  relative_fits words args h all = named_fits words.last (relative_name words) args h.0 h.1 all

  named_keeps : Keeps Fits (spells d named)
  unfolding named
  named_keeps = alt_keeps Fits (spells d (seq absolute_type (token k.ColonColon) (both absolute_words (any_of type_args)))) (spells d (seq relative_type relative_words (any_of type_args)))
      (seq_keeps Any (λ p. NameWords ends_type ends_type p.0 × AllOf Fits p.1) Fits absolute_type (spells d (token k.ColonColon)) (spells d (both absolute_words (any_of type_args)))
      (token_keeps d k.ColonColon) (both_keeps d (NameWords ends_type ends_type) (AllOf Fits) absolute_words (any_of type_args) (absolute_words_keep d) args_fit) (λ x y p q. absolute_fits x y q))
      (seq_keeps (NameWords ends_lone_type ends_type) (AllOf Fits) Fits relative_type (spells d relative_words) (spells d (any_of type_args)) (relative_words_keep d) args_fit relative_fits)

  -- ---- types by themselves

  single_fits : (kind : Kind) (text : List ℕ) → (is k.String kind false ≡ true → Fits (single_type k.String text)) → (is k.Symbol kind false ≡ true → Fits (single_type k.Symbol text)) → Fits (single_type kind text)
  single_fits k.Integer text string symbol = integer_fits _ (integer_in_range text)
  single_fits k.String text string symbol = string refl
  single_fits k.Symbol text string symbol = symbol refl
  single_fits k.True text string symbol = true_fits
  single_fits k.False text string symbol = false_fits
  single_fits k.SelfWord text string symbol = self_fits
  single_fits k.Instance text string symbol = instance_word_fits
  single_fits k.Class text string symbol = class_fits
  single_fits k.Bool text string symbol = bool_fits
  single_fits k.Nil text string symbol = nil_fits
  single_fits k.Top text string symbol = top_fits
  single_fits k.Bot text string symbol = bot_fits
  single_fits k.Void text string symbol = void_fits
  single_fits _ text string symbol = untyped_fits

  single_of_fits : (t : Token) → IsReal t → Fits (single_of t)
  single_of_fits t real = single_fits t.kind t.text
      (λ is. string_fits _ (is_utf8-from_IsUtf8 _ (string_is_utf8 t.text real.utf8 (real_string t real is))))
      (λ is. symbol_fits _ (is_utf8-from_IsUtf8 _ (symbol_is_utf8 t.text real.utf8 (real_symbol t real is))))

  single_keeps : Keeps Fits (spells d (tok is_single k.Nil single_of))
  single_keeps = tok_keeps Fits is_single single_of (λ t real passes. single_of_fits t real)

  -- ---- composed types

  group_keeps : Keeps Fits (spells d group)
  unfolding group
  group_keeps = behind_keeps d Fits k.LeftParen (before a_type k.RightParen) (before_keeps d Fits a_type k.RightParen a_type_fits)

  tuple_keeps : Keeps Fits (spells d tuple)
  unfolding tuple
  tuple_keeps = behind_keeps d Fits k.LeftBracket (before (map_value t.TupleOf (any_of (separated k.Comma a_type))) k.RightBracket)
      (before_keeps d Fits (map_value t.TupleOf (any_of (separated k.Comma a_type))) k.RightBracket
      (value_keeps d (AllOf Fits) Fits t.TupleOf (any_of (separated k.Comma a_type)) (any_of_keeps d Fits (separated k.Comma a_type) (separated_keeps d Fits k.Comma a_type a_type_fits)) tuple_fits))

  field_keeps : Keeps FitsField (spells d field)
  unfolding field
  field_keeps = seq_keeps HasWord Fits FitsField field_of (spells d (tok is_word k.Word same)) (spells d (behind k.Colon a_type))
      (tok_keeps HasWord is_word same (λ t real passes. real_word_of is_word refl refl t real passes)) (behind_keeps d Fits k.Colon a_type a_type_fits) (λ key ty word h. field_fits key.text ty word h)

  abbrev SomeField : Option Field × Stage → Type 0
  SomeField p = IfThere FitsField p.0

  some_field_keeps : Keeps SomeField (spells d (map_value some_field field))
  some_field_keeps = value_keeps d FitsField SomeField some_field field field_keeps (λ x h. h)

  field_part_keeps : (s : Stage) → Keeps SomeField (spells d (field_part s))
  field_part_keeps s = behind_keeps d SomeField k.Comma (alt (map_value some_field field) (eps (None, at.Done)))
      (alt_keeps SomeField (spells d (map_value some_field field)) (spells d (eps (None, at.Done))) some_field_keeps (eps_keeps SomeField (None, at.Done) tt))

  somes_fit : (x : Option Field) (xs : List (Option Field)) → IfThere FitsField x → AllOf FitsField (somes xs) → AllOf FitsField (somes (x ∷ xs))
  somes_fit None xs h all = all
  somes_fit (Some x) xs h all = (h, all)

  fields_keep : Keeps (AllOf FitsField) (spells d (chain somes (map_value some_field field) fields_lead field_part))
  fields_keep = chain_keeps fields_lead (λ x s. IfThere FitsField x) (λ s x next. IfThere FitsField x) (λ s xs. AllOf FitsField (somes xs)) (AllOf FitsField) somes (spells d (map_value some_field field)) (λ s. spells d (field_part s))
      (record { ends = λ s. tt; goes_on = λ s next x xs t leads h all. somes_fit x xs h all }) some_field_keeps field_part_keeps (λ x s xs h all. somes_fit x xs h all)

  record_keeps : Keeps Fits (spells d record_type)
  unfolding record_type
  record_keeps = behind_keeps d Fits k.LeftBrace (before (map_value t.RecordOf (any_of (chain somes (map_value some_field field) fields_lead field_part))) k.RightBrace)
      (before_keeps d Fits (map_value t.RecordOf (any_of (chain somes (map_value some_field field) fields_lead field_part))) k.RightBrace
      (value_keeps d (AllOf FitsField) Fits t.RecordOf (any_of (chain somes (map_value some_field field) fields_lead field_part)) (any_of_keeps d FitsField (chain somes (map_value some_field field) fields_lead field_part) fields_keep) record_fits))

  singleton_keeps : Keeps Fits (spells d singleton)
  unfolding singleton
  singleton_keeps = behind_keeps d Fits k.Singleton (behind k.LeftParen (before (map_value t.Singleton class_name) k.RightParen))
      (behind_keeps d Fits k.LeftParen (before (map_value t.Singleton class_name) k.RightParen)
      (before_keeps d Fits (map_value t.Singleton class_name) k.RightParen (value_keeps d ClassName Fits t.Singleton class_name (class_name_keeps d) singleton_fits)))

  base_keeps : Keeps Fits (spells d base)
  unfolding base
  base_keeps = alt_keeps Fits (spells d group) (spells d (alt tuple (alt record_type (alt singleton (alt (tok is_single k.Nil single_of) named))))) group_keeps
      (alt_keeps Fits (spells d tuple) (spells d (alt record_type (alt singleton (alt (tok is_single k.Nil single_of) named)))) tuple_keeps
      (alt_keeps Fits (spells d record_type) (spells d (alt singleton (alt (tok is_single k.Nil single_of) named))) record_keeps
      (alt_keeps Fits (spells d singleton) (spells d (alt (tok is_single k.Nil single_of) named)) singleton_keeps
      (alt_keeps Fits (spells d (tok is_single k.Nil single_of)) (spells d named) single_keeps named_keeps))))

  proc_keeps : Keeps Fits (spells d proc)
  unfolding proc
  proc_keeps = behind_keeps d Fits k.Caret (map_value t.ProcOf a_function) (value_keeps d FitsFunction Fits t.ProcOf a_function a_function_fits proc_fits)

  optional_type_fits : (ty : Ty) (marked : Bool) → Fits ty → Fits (optional_type ty marked)
  optional_type_fits ty true h = optional_fits ty h
  optional_type_fits ty false h = h

  pub opt_keeps : Keeps Fits (spells d opt)
  unfolding opt
  opt_keeps = alt_keeps Fits (spells d proc) (spells d (seq optional_type base (given (token k.Question)))) proc_keeps
      (seq_keeps Fits Any Fits optional_type (spells d base) (spells d (given (token k.Question))) base_keeps (given_keeps d (token k.Question) (token_keeps d k.Question)) (λ x y h any. optional_type_fits x y h))

  -- two or more parts
  many_fit : (x y : Ty) (xs : List Ty) → AllOf Fits (x ∷ y ∷ xs) → two_or_more (map fit (x ∷ y ∷ xs)) ≡ true
  many_fit x y xs all = both_hold (nat_le 2 (length (map fit (x ∷ y ∷ xs)))) (list_all is_true (map fit (x ∷ y ∷ xs))) (le-leb 2 (length (map fit (x ∷ y ∷ xs))) (omega arith)) (all_pass fit (x ∷ y ∷ xs) all)
    where
      both_hold : (s t : Bool) → s ≡ true → t ≡ true → (s && t) ≡ true
      both_hold true t a b = b
      both_hold false t a b = cc

  inter_of_fits : (xs : List Ty) → AllOfSome Fits xs → Fits (inter_of xs)
  inter_of_fits [] h = absurd h
  inter_of_fits (x ∷ []) h = h.0
  inter_of_fits (x ∷ y ∷ xs) h = inter_fits (x ∷ y ∷ xs) (many_fit x y xs h)

  union_of_fits : (xs : List Ty) → AllOfSome Fits xs → Fits (union_of xs)
  union_of_fits [] h = absurd h
  union_of_fits (x ∷ []) h = h.0
  union_of_fits (x ∷ y ∷ xs) h = union_fits (x ∷ y ∷ xs) (many_fit x y xs h)

  inter_keeps : Keeps Fits (spells d inter)
  unfolding inter
  inter_keeps = value_keeps d (AllOfSome Fits) Fits inter_of (separated k.Ampersand opt) (separated_some d Fits k.Ampersand opt opt_keeps) inter_of_fits

  pub union_keeps : Keeps Fits (spells d union)
  unfolding union
  union_keeps = value_keeps d (AllOfSome Fits) Fits union_of (separated k.Bar inter) (separated_some d Fits k.Bar inter inter_keeps) union_of_fits
