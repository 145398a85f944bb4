-- What a method type in a type means, and the parts of a method type, each as it is meant.
use Rattle.std.proofs.Common.{◌≡◌, ◌∙◌, ℕ, List, Option, None, Some, refl, ap, sym}
use Rattle.std.specs.Option.{option_map}
use Rattle.rbs_tree.specs.declared.names.TypeName.{TypeName}
use Rattle.rbs_tree.specs.declared.types.Ty.{Ty, ProcOf}
use Rattle.rbs_tree.specs.declared.types.BlockType.{BlockType}
use Rattle.rbs_tree.specs.declared.types.Field.{Field}
use Rattle.rbs_tree.specs.declared.types.Keyword.{Keyword}
use Rattle.rbs_tree.specs.declared.types.MethodType.{MethodType}
use Rattle.rbs_tree.specs.declared.types.Param.{Param}
use Rattle.rbs_tree.specs.declared.types.Ty.TheOpen.{Ty-F, MethodType-F}
use Rattle.rbs_tree.specs.declared.types.Ty.TheVariants.{rolls-ProcOf}
use Rattle.rbs_tree.specs.declared.types.Ty.TheViews.{roll-BlockType, roll-Field, roll-Keyword, roll-MethodType, roll-Param}
use Rattle.rbs_tree.specs.declared.types.Ty.TheFolds.{fold-roll-Ty, map-MethodType}
use Rattle.sig_rules.specs.declared.files.Declared.{Declared}
use Rattle.sig_rules.specs.Types.{meant, meant_step}
use Rattle.type_meaning.specs.Meaning.{meant_block, meant_field, meant_keyword, meant_param, meant_parts}

-- a method type in a type
pub meant_proc : (all : List Declared) (context : List TypeName) (vars : List (List ℕ)) (m : MethodType) → ProcOf (meant_parts all context vars m) ≡ meant all context vars (ProcOf m)
meant_proc all context vars m =
    sym (ap (meant all context vars) (sym (rolls-ProcOf m))
    ∙ fold-roll-Ty Ty BlockType Field Keyword MethodType Param (meant_step all context vars) roll-BlockType roll-Field roll-Keyword roll-MethodType roll-Param (Ty-F.ProcOf m)
    ∙ rolls-ProcOf (meant_parts all context vars m))

-- the layer of a method type
abbrev pub Layer : Type 0
Layer = MethodType-F Ty BlockType Field Keyword MethodType Param

-- a layer whose parts are as they are meant
abbrev pub done : List Declared → List TypeName → List (List ℕ) → Layer → Layer
done all context vars = map-MethodType Ty BlockType Field Keyword MethodType Param Ty BlockType Field Keyword MethodType Param (meant all context vars) (meant_block all context vars) (meant_field all context vars) (meant_keyword all context vars) (meant_parts all context vars) (meant_param all context vars)

pub done_rest : (all : List Declared) (context : List TypeName) (vars : List (List ℕ)) (x : Layer) (rest : Option Param) → option_map (meant_param all context vars) rest ≡ (done all context vars (record { vars = x.vars; required = x.required; optional = x.optional; rest = rest; trailing = x.trailing; keywords = x.keywords; rest_keywords = x.rest_keywords; block = x.block; «result» = x.«result» })).rest
done_rest all context vars x None = refl
done_rest all context vars x (Some param) = refl

pub done_rest_keywords : (all : List Declared) (context : List TypeName) (vars : List (List ℕ)) (x : Layer) (rest : Option Param) → option_map (meant_param all context vars) rest ≡ (done all context vars (record { vars = x.vars; required = x.required; optional = x.optional; rest = x.rest; trailing = x.trailing; keywords = x.keywords; rest_keywords = rest; block = x.block; «result» = x.«result» })).rest_keywords
done_rest_keywords all context vars x None = refl
done_rest_keywords all context vars x (Some param) = refl

pub done_block : (all : List Declared) (context : List TypeName) (vars : List (List ℕ)) (x : Layer) (block : Option BlockType) → option_map (meant_block all context vars) block ≡ (done all context vars (record { vars = x.vars; required = x.required; optional = x.optional; rest = x.rest; trailing = x.trailing; keywords = x.keywords; rest_keywords = x.rest_keywords; block = block; «result» = x.«result» })).block
done_block all context vars x None = refl
done_block all context vars x (Some block) = refl
