-- The program that a text is, or why it is refused.
use Rattle.std.specs.Prelude.{ℕ, List, Option, Some, None, Result, Ok, Err}
use Rattle.ruby_grammar.specs.declared.tree.Tree.{Tree}
use Rattle.ruby_lexer.specs.declared.refusal.RubyAt.{RubyAt}
use Rattle.ruby_lexer.specs.declared.token.RubyToken.{RubyToken}
use Rattle.ruby_parser.specs.declared.refused.Refused.{Refused}
use Rattle.ruby_tree.specs.declared.nodes.Node.{Node}
use Rattle.ruby_tree.specs.declared.nodes.Program.{Program}
use Rattle.ruby_lexer.specs.declared.refusal.RubyAt.TheVariants as at
use Rattle.ruby_lowering.specs.Lowering.{root_of}
use Rattle.ruby_numbers.specs.Numbers.{node_numbered}
use Rattle.ruby_parser.specs.Refused.{refused_in}
use Rattle.ruby_exprs.specs.Derived.{derived}
use Rattle.ruby_lexer.specs.Machine.{tokens_of}

-- a tree whose nodes have numbers from 0 on
abbrev pub numbered_root : Node → Node
numbered_root n = (node_numbered n 0).0

abbrev pub unless_refused : Node → Option Refused → Result Program RubyAt
unless_refused root None = Ok (record { root = numbered_root root })
unless_refused root (Some r) = Err (at.Unsupported r.at r.form)

-- the program that a concrete tree stands for, or the refused node that begins first
abbrev pub program_of_tree : List RubyToken → Tree → Result Program RubyAt
program_of_tree tokens tree = let root = root_of tokens tree in unless_refused root (refused_in root)

abbrev pub program_derived : List RubyToken → Result Tree RubyAt → Result Program RubyAt
program_derived tokens (Err fault) = Err fault
program_derived tokens (Ok tree) = program_of_tree tokens tree

abbrev pub program_lexed : Result (List RubyToken) RubyAt → Result Program RubyAt
program_lexed (Err fault) = Err fault
program_lexed (Ok tokens) = program_derived tokens (derived tokens)

-- the program that a text is, or the first fault: the lexer's, the grammar's, a refused node
unfoldable pub program_of : List ℕ → Result Program RubyAt
program_of text = program_lexed (tokens_of text)
