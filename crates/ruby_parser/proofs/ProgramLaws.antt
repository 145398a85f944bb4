-- What holds of the numbers of every program.
use Rattle.std.proofs.Common.{ℕ, List}
use Rattle.std.specs.Prelude.{Option, Some, None, Result, Ok, Err, IfOk}
use Rattle.ruby_exprs.specs.Derived.{derived}
use Rattle.ruby_grammar.specs.declared.tree.Tree.{Tree}
use Rattle.ruby_lexer.specs.declared.refusal.RubyAt.{RubyAt}
use Rattle.ruby_lexer.specs.declared.token.RubyToken.{RubyToken}
use Rattle.ruby_lexer.specs.Machine.{tokens_of}
use Rattle.ruby_lowering.specs.Lowering.{root_of}
use Rattle.ruby_tree.specs.declared.nodes.Node.{Node}
use Rattle.ruby_tree.specs.declared.nodes.Program.{Program}
use Rattle.ruby_parser.specs.declared.refused.Refused.{Refused}
use Rattle.ruby_numbers.specs.Laws.{HasEachOnce, IsNumbered}
use Rattle.ruby_numbers.specs.Numbers.{node_numbered}
use Rattle.ruby_parser.specs.Programs.{numbered_root, program_of, program_lexed, program_derived, unless_refused}
use Rattle.ruby_parser.specs.Refused.{refused_in}

-- what holds of each tree with numbers from 0 on holds of each program
module _ (Holds : Program → Type 0) (of_root : (root : Node) → Holds (record { root = numbered_root root })) where
  unless_refused_holds : (root : Node) (refused : Option Refused) → IfOk (unless_refused root refused) Holds
  unless_refused_holds root None = of_root root
  unless_refused_holds root (Some refused) = tt {0}

  derived_holds : (tokens : List RubyToken) (tree : Result Tree RubyAt) → IfOk (program_derived tokens tree) Holds
  derived_holds tokens (Err fault) = tt {0}
  derived_holds tokens (Ok tree) = unless_refused_holds (root_of tokens tree) (refused_in (root_of tokens tree))

  lexed_holds : (tokens : Result (List RubyToken) RubyAt) → IfOk (program_lexed tokens) Holds
  lexed_holds (Err fault) = tt {0}
  lexed_holds (Ok tokens) = derived_holds tokens (derived tokens)

  program_holds : (text : List ℕ) → IfOk (program_of text) Holds
  unfolding program_of
  program_holds text = lexed_holds (tokens_of text)

-- what holds of each tree with numbers from 0 on, handed to the programs
pub programs_numbered : ((root : Node) → IsNumbered (record { root = (node_numbered root 0).0 })) → (text : List ℕ) → IfOk (program_of text) IsNumbered
programs_numbered = program_holds IsNumbered

pub programs_distinct : ((root : Node) → HasEachOnce (record { root = (node_numbered root 0).0 })) → (text : List ℕ) → IfOk (program_of text) HasEachOnce
programs_distinct = program_holds HasEachOnce
