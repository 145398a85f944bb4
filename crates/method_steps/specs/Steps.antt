-- What a step of a line gives, by what is found behind it.
use Rattle.std.specs.Prelude.{ℕ, suc, List, [], ◌∷◌, length, Option}
use Rattle.sig_rules.specs.declared.given.GivenMethod.{GivenMethod}
use Rattle.sig_rules.specs.declared.line.Step.{Step}
use Rattle.sig_rules.specs.declared.method.Method.{Method}
use Rattle.sig_rules.specs.Methods.{Made, at_step, first_made, is_some, living, of_name, or_else}

-- what is found of a name elsewhere than among the declarations of the first of these steps
abbrev pub elsewhere : Made → List Step → (List ℕ → Option Method) → List ℕ → Option Method
elsewhere made steps behind name = or_else (behind name) (first_made made steps name)

-- the methods that live among those that the first step's declarations give
abbrev pub alive : Made → Step → List Step → (List ℕ → Option Method) → List GivenMethod → List GivenMethod
alive made step steps behind given = living (λ name. is_some (elsewhere made (step ∷ steps) behind name)) given

-- the method of a name from a step on, by what its declarations give and what is found behind it
abbrev pub declared_from : Made → Step → List Step → (List ℕ → Option Method) → List GivenMethod → List ℕ → Option Method
declared_from made step steps behind given name =
    if_declared (of_name name (alive made step steps behind given))
    (at_step (suc (length given)) step (elsewhere made steps behind) (elsewhere made (step ∷ steps) behind) (alive made step steps behind given) name)
  where
    if_declared : List GivenMethod → Option Method → Option Method
    if_declared [] at_it = behind name
    if_declared (g ∷ gs) at_it = at_it
