use Rattle.std.proofs.Common.{◌∙◌, ◌++◌, ℕ, List, ap, subst, sym}
use Rattle.std.specs.List.{IsDistinct}
use Rattle.std.specs.Map.{keys_of}
use Rattle.rbs_tree.specs.declared.types.Ty.{Ty}
use Rattle.sig_rules.specs.Methods.{first_variable, same_word}
use Rattle.sig_rules.specs.Worlds.{by_name}
use Rattle.line_members.specs.Along.{or_behind}
use Rattle.line_members.proofs.AlongLemmas.{if_ok}
use Rattle.line_members.proofs.VariableLemmas.{no_variables, variables_in_front}
use Rattle.line_members.proofs.variables.with_given.Goals as goal

pub returns-then-is_empty : goal.returns-then-is_empty
returns-then-is_empty c = λ once. no_variables c.args.given c.args.behind (c.is_empty.ensures.0 c.if-is_empty.true) once

pub returns : goal.returns
returns c = λ once.
    if_ok _ (λ all is. variables_in_front c.args.given c.in_ok-own.own c.in_ok-own-2.own c.args.behind all
    (λ name. c.in_ok-own.ensures name ∙ ap (λ (es : List (List ℕ × Ty)). or_behind (by_name es name) (first_variable name c.args.given)) c.new.ensures)
    (c.in_ok-own-2.ensures ∙ c.in_ok-into_entries.ensures.same)
    (subst (λ (es : List (List ℕ × Ty)). IsDistinct same_word (keys_of es)) (sym c.in_ok-own-2.ensures) c.in_ok-into_entries.ensures.once) once (is ∙ ap (λ (es : List (List ℕ × Ty)). c.in_ok-own-2.own ++ es) c.in_ok-others.ensures)) c.joined.ensures
