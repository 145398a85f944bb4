use Rattle.std.proofs.Common.{rules, arith}
use Rattle.std.proofs.lemmas.Grind.{common_steps}
use Rattle.rbs_lexer.specs.declared.kind.Kind.TheVariants as k
use Rattle.rbs_parser.specs.Sets.{tokens_of}
use Rattle.rbs_parser.proofs.NameWords.{read_words_to}
use Rattle.rbs_parser.proofs.names.words_to.Goals as goal

pub returns-in_err-words : goal.returns-in_err-words
returns-in_err-words c =
    let e = read_words_to (tokens_of c.args.last) k.Word c.args.cursor.now in
    first_of (search rules, grind (arith, common_steps))

pub returns-in_err-word : goal.returns-in_err-word
returns-in_err-word c =
    let e = read_words_to (tokens_of c.args.last) k.Word c.args.cursor.now in
    first_of (search rules, grind (arith, common_steps))

pub returns : goal.returns
returns c =
    let e = read_words_to (tokens_of c.args.last) k.Word c.args.cursor.now in
    first_of (search rules, grind (arith, common_steps))
