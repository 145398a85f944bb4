-- The variables that stand in the parts of a method type, the names around it, and the type parameters that it shows.
use Rattle.std.specs.Prelude.{ℕ, List, ◌++◌, map}
use Rattle.rbs_tree.specs.declared.types.Ty.{Ty}
use Rattle.rbs_tree.specs.declared.types.MethodType.{MethodType}
use Rattle.rbs_tree.specs.declared.types.Field.{Field}
use Rattle.rbs_tree.specs.declared.types.Param.{Param}
use Rattle.rbs_tree.specs.declared.types.Keyword.{Keyword}
use Rattle.rbs_tree.specs.declared.types.BlockType.{BlockType}
use Rattle.rbs_tree.specs.declared.types.Ty.TheFolds.{fold-Field, fold-Param, fold-Keyword, fold-BlockType}
use Rattle.rbs_tree.specs.declared.types.Ty.TheViews.{out-MethodType}
use Rattle.sig_rules.specs.Instances.{Words, variables, method_variables, in_row, unhidden, variables_step, in_block, in_field, in_keyword, in_function, in_param}

-- the variables that stand in a field of a record type, as `variables` has those of a type
abbrev pub field_variables : Field → Words
field_variables = fold-Field Words Words Words Words Words Words variables_step in_block in_field in_keyword in_function in_param

-- those of a parameter
abbrev pub param_variables : Param → Words
param_variables = fold-Param Words Words Words Words Words Words variables_step in_block in_field in_keyword in_function in_param

-- those of a keyword
abbrev pub keyword_variables : Keyword → Words
keyword_variables = fold-Keyword Words Words Words Words Words Words variables_step in_block in_field in_keyword in_function in_param

-- those of a block
abbrev pub block_variables : BlockType → Words
block_variables = fold-BlockType Words Words Words Words Words Words variables_step in_block in_field in_keyword in_function in_param

-- the names around a method type: of the variables that stand in types, and further ones
abbrev pub outer : List Ty → Words → Words
outer types names = in_row (map variables types) ++ names

-- what another name of one of its variables may not be
abbrev pub taken : Words → MethodType → Words
taken outer m = outer ++ ((out-MethodType m).vars ++ method_variables m)

-- the variables that a method type itself binds
abbrev pub own : MethodType → Words
own m = (out-MethodType m).vars

-- the names of the type parameters that no variable of a method type hides
abbrev pub shown_names : Words → Words → List Ty → Words
shown_names own params args = map (λ (p : List ℕ × Ty). p.0) (unhidden own params args)

-- the types in their place
abbrev pub shown_types : Words → Words → List Ty → List Ty
shown_types own params args = map (λ (p : List ℕ × Ty). p.1) (unhidden own params args)
