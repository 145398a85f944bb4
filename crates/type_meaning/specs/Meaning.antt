-- What the parts of types mean: the same fold as that of types, at each of their layers.
use Rattle.std.specs.Prelude.{ℕ, List}
use Rattle.rbs_tree.specs.declared.names.TypeName.{TypeName}
use Rattle.rbs_tree.specs.declared.types.Ty.{Ty}
use Rattle.rbs_tree.specs.declared.types.BlockType.{BlockType}
use Rattle.rbs_tree.specs.declared.types.Field.{Field}
use Rattle.rbs_tree.specs.declared.types.Keyword.{Keyword}
use Rattle.rbs_tree.specs.declared.types.MethodType.{MethodType}
use Rattle.rbs_tree.specs.declared.types.Param.{Param}
use Rattle.rbs_tree.specs.declared.types.Ty.TheViews.{roll-BlockType, roll-Field, roll-Keyword, roll-MethodType, roll-Param}
use Rattle.rbs_tree.specs.declared.types.Ty.TheFolds.{fold-BlockType, fold-Field, fold-Keyword, fold-MethodType, fold-Param}
use Rattle.sig_rules.specs.declared.files.Declared.{Declared}
use Rattle.sig_rules.specs.Types.{meant_step}

-- a field of a record type
abbrev pub meant_field : List Declared → List TypeName → List (List ℕ) → Field → Field
meant_field all context vars = fold-Field Ty BlockType Field Keyword MethodType Param (meant_step all context vars) roll-BlockType roll-Field roll-Keyword roll-MethodType roll-Param

-- a method type whose own variables are among these already, or aren't meant
abbrev pub meant_parts : List Declared → List TypeName → List (List ℕ) → MethodType → MethodType
meant_parts all context vars = fold-MethodType Ty BlockType Field Keyword MethodType Param (meant_step all context vars) roll-BlockType roll-Field roll-Keyword roll-MethodType roll-Param

-- a parameter
abbrev pub meant_param : List Declared → List TypeName → List (List ℕ) → Param → Param
meant_param all context vars = fold-Param Ty BlockType Field Keyword MethodType Param (meant_step all context vars) roll-BlockType roll-Field roll-Keyword roll-MethodType roll-Param

-- a keyword
abbrev pub meant_keyword : List Declared → List TypeName → List (List ℕ) → Keyword → Keyword
meant_keyword all context vars = fold-Keyword Ty BlockType Field Keyword MethodType Param (meant_step all context vars) roll-BlockType roll-Field roll-Keyword roll-MethodType roll-Param

-- a block
abbrev pub meant_block : List Declared → List TypeName → List (List ℕ) → BlockType → BlockType
meant_block all context vars = fold-BlockType Ty BlockType Field Keyword MethodType Param (meant_step all context vars) roll-BlockType roll-Field roll-Keyword roll-MethodType roll-Param
