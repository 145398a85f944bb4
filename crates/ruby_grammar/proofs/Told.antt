-- What is told of the reading of a whole list of tokens.
use Rattle.std.proofs.Common.{◌≡◌, ℕ, List, [], Ok, Err, ap, subst, sym, ◌∙◌}
use Rattle.std.proofs.Math.Nat.{zero-max}
use Rattle.ruby_grammar.specs.declared.token.Token.{Token}
use Rattle.ruby_grammar.specs.declared.part.Rule.{Rule}
use Rattle.ruby_grammar.specs.declared.row.Row.{Row}
use Rattle.ruby_grammar.specs.declared.tree.Tree.{Tree}
use Rattle.ruby_grammar.specs.declared.tree.Fault.TheVariants as fault
use Rattle.ruby_grammar.specs.declared.trail.Trail.{Trail}
use Rattle.ruby_grammar.specs.declared.outcome.Outcome.{Outcome}
use Rattle.ruby_grammar.specs.declared.outcome.Outcome.TheVariants as outcome
use Rattle.ruby_grammar.specs.Firsts.{guarded_rules}
use Rattle.ruby_grammar.specs.Meaning.{Meaning, within}
use Rattle.ruby_grammar.specs.Memos.{Goes, begun_at}
use Rattle.ruby_grammar.specs.Parsed.{told, told_of, trees_or_far}
use Rattle.ruby_grammar.specs.Rows.{At}
use Rattle.ruby_grammar.proofs.Guards.{within_guarded}

-- what the rules with guards do, the rules do
pub without_guards : (rules with : List Rule) (tokens : List Token) (most a b start i : ℕ) (lists more : List (List Tree)) (old begun new : Trail) (out : Outcome) → with ≡ guarded_rules rules → a ≡ most → b ≡ most → old ≡ begun → Goes ((within with tokens a b start).step i) ((within with tokens a b start).trees i) lists old out more new → Goes ((within rules tokens most most start).step i) ((within rules tokens most most start).trees i) lists begun out more new
without_guards rules with tokens most a b start i lists more old begun new out guards first second from goes =
    let m : within with tokens a b start ≡ within rules tokens most most start = ap (λ x. within with tokens x b start) first ∙ ap (λ x. within with tokens most x start) second ∙ ap (λ x. within x tokens most most start) guards ∙ within_guarded rules tokens most most start in
    subst (λ (t : Trail). Goes ((within rules tokens most most start).step i) ((within rules tokens most most start).trees i) lists t out more new) from
    (subst (λ (m : Meaning). Goes (m.step i) (m.trees i) lists old out more new) m goes)

pub told_deep : (m : Meaning) (lists more : List (List Tree)) (old new : Trail) (at : ℕ) → Goes (m.step 0) (m.trees 0) lists old (outcome.TooDeep at) more new → told_of m ≡ Err (fault.TooDeep at)
unfolding Goes
told_deep m lists more old new at goes = ap (told (m.trees 0)) goes

pub told_failed : (m : Meaning) (lists more : List (List Tree)) (row : Row) (new : Trail) → Goes (m.step 0) (m.trees 0) lists (begun_at row) outcome.Failed more new → told_of m ≡ Err (fault.Syntax new.far)
unfolding Goes
told_failed m lists more row new goes = ap (told (m.trees 0)) goes.1 ∙ ap (trees_or_far (m.trees 0) goes.0.far) goes.2 ∙ ap (λ far. Err (fault.Syntax far)) (sym (goes.3.0 ∙ zero-max goes.0.far))

pub told_passed : (m : Meaning) (lists more : List (List Tree)) (old new : Trail) (next : ℕ) → Goes (m.step 0) (m.trees 0) lists old (outcome.Passed next) more new → told_of m ≡ Ok (m.trees 0)
unfolding Goes
told_passed m lists more old new next goes = ap (told (m.trees 0)) goes.1 ∙ ap (trees_or_far (m.trees 0) goes.0.far) goes.2

pub trees_told : (m : Meaning) (lists more : List (List Tree)) (row : Row) (new : Trail) (next : ℕ) → At lists row [] → Goes (m.step 0) (m.trees 0) lists (begun_at row) (outcome.Passed next) more new → At more new.row (m.trees 0)
unfolding Goes
trees_told m lists more row new next none goes = goes.5 [] none
