-- What is given by a name's declarations, one after the other.
use Rattle.std.proofs.Common.{◌≡◌, ◌≤◌, ◌∙◌, ap, map, take, length, ℕ, List}
use Rattle.std.proofs.lemmas.List.{take_all}
use Rattle.std.specs.List.{flat_map}
use Rattle.sig_rules.specs.declared.files.Declared.{Declared}
use Rattle.sig_rules.specs.declared.given.GivenMethod.{GivenMethod}
use Rattle.sig_rules.specs.declared.given.GivenVariable.{GivenVariable}
use Rattle.sig_rules.specs.declared.line.Applied.{Applied}
use Rattle.sig_rules.specs.declared.line.Kind.{Kind}
use Rattle.sig_rules.specs.declared.method.Visibility.TheVariants.{Public}
use Rattle.sig_rules.specs.Declarations.{entries}
use Rattle.sig_rules.specs.Given.{given_methods, given_methods_in, given_variables, given_variables_of}
use Rattle.sig_rules.specs.Lines.{members}
use Rattle.given_members.specs.Meanings.{instance_in, meant_in, method_in, scope_of, ty_in, with_methods, with_type}

-- the methods, by a loop that went over all that was found
pub methods_of_entries : (all : List Declared) (a : Applied) (kind : Kind) (i : ℕ) {methods : List GivenMethod} {found : List Declared}
    → found ≡ entries all a.name.path → length found ≤ i
    → methods ≡ flat_map (λ (d : Declared). map (with_methods (method_in (scope_of all a d))) (given_methods_in kind Public (members d.decl))) (take i found)
    → methods ≡ given_methods all a kind
unfolding method_in instance_in
methods_of_entries all a kind i {found = found} of_name whole are =
    are ∙ ap (flat_map (λ (d : Declared). map (with_methods (method_in (scope_of all a d))) (given_methods_in kind Public (members d.decl)))) (take_all i found whole ∙ of_name)

-- the variables
pub variables_of_entries : (all : List Declared) (a : Applied) (kind : Kind) (i : ℕ) {variables : List GivenVariable} {found : List Declared}
    → found ≡ entries all a.name.path → length found ≤ i
    → variables ≡ flat_map (λ (d : Declared). map (with_type (ty_in (scope_of all a d))) (flat_map (given_variables_of kind) (members d.decl))) (take i found)
    → variables ≡ given_variables all a kind
unfolding ty_in meant_in
variables_of_entries all a kind i {found = found} of_name whole are =
    are ∙ ap (flat_map (λ (d : Declared). map (with_type (ty_in (scope_of all a d))) (flat_map (given_variables_of kind) (members d.decl)))) (take_all i found whole ∙ of_name)
