-- What a fault of a part says of the whole.
use Rattle.std.proofs.Common.{◌≡◌, ◌∙◌, ℕ, List, sym, ap, subst as along}
use Rattle.std.specs.Prelude.{Result, Ok, Err}
use Rattle.ruby_exprs.specs.Derived.{derived}
use Rattle.ruby_grammar.specs.declared.tree.Tree.{Tree}
use Rattle.ruby_lexer.specs.Answers.{Gives}
use Rattle.ruby_lexer.specs.declared.refusal.RubyAt.{RubyAt}
use Rattle.ruby_lexer.specs.declared.refusal.RubyAt.TheVariants as at
use Rattle.ruby_lexer.specs.declared.token.RubyToken.{RubyToken}
use Rattle.ruby_lexer.specs.Machine.{tokens_of}
use Rattle.ruby_tree.specs.declared.nodes.Program.{Program}
use Rattle.ruby_parser.specs.Programs.{program_of, program_lexed, program_derived, program_of_tree}

-- a fault that is handed on
handed_on : {T U : Type 0} (this : Result T RubyAt) (that : Result U RubyAt) (fault : RubyAt) → ((f : RubyAt) → this ≡ Err f → that ≡ Err f)
    → Gives (Err fault) this → Gives (Err fault) that
handed_on this that (at.Syntax span) step gives = step (at.Syntax span) gives
handed_on this that (at.TooDeep span) step gives = step (at.TooDeep span) gives
handed_on this that (at.Unsupported span form) step gives = step (at.Unsupported span form) gives
handed_on this that at.NoMemory step gives = tt {0}

pub lexer_fault : (text : List ℕ) (fault : RubyAt) → Gives (Err fault) (tokens_of text) → Gives (Err fault) (program_of text)
unfolding program_of
lexer_fault text fault gives = handed_on (tokens_of text) (program_lexed (tokens_of text)) fault (λ f is. ap program_lexed is) gives

pub lexed : (text : List ℕ) (tokens seen : List RubyToken) (result : Result Program RubyAt) → tokens_of text ≡ Ok tokens → seen ≡ tokens
    → Gives result (program_derived seen (derived seen)) → Gives result (program_of text)
unfolding program_of
lexed text tokens seen result is same gives = along (λ z. Gives result z) (sym (ap program_lexed (is ∙ sym (ap Ok same)))) gives

pub grammar_fault : (tokens : List RubyToken) (fault : RubyAt) → Gives (Err fault) (derived tokens) → Gives (Err fault) (program_derived tokens (derived tokens))
grammar_fault tokens fault gives = handed_on (derived tokens) (program_derived tokens (derived tokens)) fault (λ f is. ap (program_derived tokens) is) gives

pub told : (tokens : List RubyToken) (tree : Tree) (result : Result Program RubyAt) → derived tokens ≡ Ok tree
    → Gives result (program_of_tree tokens tree) → Gives result (program_derived tokens (derived tokens))
told tokens tree result is gives = along (λ z. Gives result z) (sym (ap (program_derived tokens) is)) gives
