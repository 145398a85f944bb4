-- What is found in a Ruby text, and statements of small programs, one behind the other.
use Rattle.std.proofs.Common.{◌≡◌, ℕ, true, false, List, [], ◌++◌, refl, sym, ap, ◌∙◌, subst, Option, None, Some, append_assoc, append-nil, IfOk, Result, Ok, Err}
use Rattle.diagnostics.specs.declared.diagnostic.Diagnostic.{Diagnostic}
use Rattle.ruby_lexer.specs.declared.refusal.RubyAt.{RubyAt}
use Rattle.ruby_parser.specs.Programs.{program_of}
use Rattle.ruby_tree.specs.declared.nodes.Program.{Program}
use Rattle.sig_rules.specs.declared.files.Declared.{Declared}
use Rattle.steep_run.specs.Reading.{FindsRuby, Gains}
use Rattle.steep_run.specs.Ruby.{answer_faults, before, in_a_row, program_faults, refusal_at, ruby_faults}

-- ---- texts

read_faults : (all : List Declared) (text : List ℕ) (answer : Result Program RubyAt) → program_of text ≡ answer → ruby_faults all text ≡ answer_faults all answer
unfolding ruby_faults
read_faults all text answer read = ap (answer_faults all) read

-- from the faults of a program to what is found in its text
pub program_finds : {E : Type 0} (result : Result (Option (List Diagnostic)) E) (all : List Declared) (text : List ℕ) (program : Program) → program_of text ≡ Ok program
    → IfOk result (λ found. found ≡ program_faults all program) → IfOk result (FindsRuby all text)
program_finds (Err e) all text program read is = tt
program_finds (Ok None) all text program read is = record { program = program; read = read; other = sym is }
program_finds (Ok (Some faults)) all text program read is = read_faults all text (Ok program) read ∙ sym is

-- the same where the text is refused
pub refusal_finds : {E : Type 0} (result : Result (Option (List Diagnostic)) E) (all : List Declared) (text : List ℕ) (fault : RubyAt) (faults : List Diagnostic) → program_of text ≡ Err fault
    → refusal_at fault ≡ Some faults → IfOk result (λ found. found ≡ Some faults) → IfOk result (FindsRuby all text)
refusal_finds (Err e) all text fault faults read told is = tt
refusal_finds (Ok found) all text fault faults read told is = subst (FindsRuby all text) (sym is) (read_faults all text (Err fault) read ∙ told)

-- ---- statements

before_nothing : (o : Option (List Diagnostic)) → before [] o ≡ o
before_nothing None = refl
before_nothing (Some faults) = refl

pub before_both : (front more : List Diagnostic) (o : Option (List Diagnostic)) → before (front ++ more) o ≡ before front (before more o)
before_both front more None = refl
before_both front more (Some faults) = ap Some (append_assoc front more faults)

-- a statement that stands
pub one_more : (found behind whole : Option (List Diagnostic)) (old new : List Diagnostic) → Gains found true old new → before old (in_a_row found behind) ≡ whole → before new behind ≡ whole
one_more None behind whole old new gains so_far = absurd gains
one_more (Some faults) behind whole old new gains so_far = ap (λ front. before front behind) gains ∙ before_both old faults behind ∙ so_far

-- a statement that doesn't
pub no_more : (found behind whole : Option (List Diagnostic)) (old new : List Diagnostic) → Gains found false old new → before old (in_a_row found behind) ≡ whole → None ≡ whole
no_more found behind whole old new gains so_far = ap (λ o. before old (in_a_row o behind)) (sym gains) ∙ so_far

pub at_start : (whole : Option (List Diagnostic)) → before [] whole ≡ whole
at_start = before_nothing

pub at_end : (faults : List Diagnostic) (whole : Option (List Diagnostic)) → before faults (Some []) ≡ whole → Some faults ≡ whole
at_end faults whole so_far = ap Some (sym (append-nil faults)) ∙ so_far
