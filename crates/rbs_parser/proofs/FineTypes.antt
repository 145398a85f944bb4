-- The next token says how the lists of types go on.
use Rattle.std.proofs.Common.{◌≡◌, true, refl}
use Rattle.rbs_lexer.specs.declared.kind.Kind.TheVariants as k
use Rattle.rbs_grammar.specs.Grammar.{fine}
use Rattle.rbs_grammar.specs.Parts.{behind}
use Rattle.rbs_grammar.specs.Names.{constants, class_name}
use Rattle.rbs_grammar.specs.Types.{a_type, a_function, type_args, absolute_words, relative_words, named, group, tuple, field, record_type, singleton, base, proc, opt, inter}

pub fine_types : fine (behind k.Comma a_type) ≡ true
unfolding a_type
fine_types = refl

pub fine_opts : fine (behind k.Ampersand opt) ≡ true
unfolding constants class_name a_type a_function type_args absolute_words relative_words named group tuple field record_type singleton base proc opt
fine_opts = refl

pub fine_inters : fine (behind k.Bar inter) ≡ true
unfolding constants class_name a_type a_function type_args absolute_words relative_words named group tuple field record_type singleton base proc opt inter
fine_inters = refl
