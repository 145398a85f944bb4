-- When a function may stand where another is wanted.
use Rattle.std.specs.Prelude.{◌≡◌, ◌≤◌, ◌<◌, ℕ, ◌+◌, ◌⊎◌, Bool, true, false, if◌then◌else◌, List, [], ◌∷◌, ◌++◌, length, map, Option, Some, None}
use Rattle.rbs_tree.specs.declared.types.Ty.{Ty}
use Rattle.rbs_tree.specs.declared.types.Ty.TheVariants as t
use Rattle.rbs_tree.specs.declared.types.BlockType.{BlockType}
use Rattle.rbs_tree.specs.declared.types.Keyword.{Keyword}
use Rattle.rbs_tree.specs.declared.types.MethodType.{MethodType}
use Rattle.rbs_tree.specs.declared.types.Param.{Param}
use Rattle.rbs_tree.specs.declared.types.Ty.TheViews.{out-BlockType, out-Keyword, out-MethodType, out-Param}
use Rattle.rbs_tree.specs.Substitution.{subst_method}
use Rattle.sig_rules.specs.Instances.{Words, free_name, method_variables, with_vars}
use Rattle.sig_rules.specs.Equality.{same_text}

-- ---- variables that agree

abbrev pub own_vars : MethodType → Words
own_vars m = (out-MethodType m).vars

-- as many names that are none of these, made of variables
abbrev pub fresh_names : Words → Words → Words
fresh_names taken [] = []
fresh_names taken (var ∷ vars) = free_name taken var ∷ fresh_names (free_name taken var ∷ taken) vars

-- names for the own variables of two method types with equally many, which stand in neither
abbrev pub agreed_names : MethodType → MethodType → Words
agreed_names f g = fresh_names (method_variables f ++ (method_variables g ++ (own_vars f ++ own_vars g))) (own_vars g)

-- a method type whose own variables are named so; of equal ones the first counts
abbrev pub named_so : Words → MethodType → MethodType
named_so names m = with_vars names (subst_method (own_vars m) (map t.Var names) m)

-- ---- parameters

abbrev pub param_type : Param → Ty
param_type p = (out-Param p).ty

abbrev pub key : Keyword → List ℕ
key k = (out-Keyword k).key

abbrev pub is_required : Keyword → Bool
is_required k = (out-Keyword k).required

abbrev pub positionals : MethodType → List Param
positionals m = (out-MethodType m).required ++ ((out-MethodType m).optional ++ (out-MethodType m).trailing)

-- the first keyword with a key
abbrev pub keyword_of : List Keyword → List ℕ → Option Keyword
keyword_of [] name = None
keyword_of (k ∷ ks) name = if same_text name (key k) then Some k else keyword_of ks name

module _ (Below : Ty → Ty → Type 0) where
  -- a parameter's type is below that of the one that takes it, if there is one
  abbrev pub IsTakenBy : Ty → Option Param → Type 0
  IsTakenBy ty None = ⊥
  IsTakenBy ty (Some p) = Below ty (param_type p)

  -- each of some positionals is taken by the one at its place, or else by the rest
  abbrev pub AreTaken : List Param → List Param → Option Param → Type 0
  AreTaken [] others rest = Unit {0}
  AreTaken (p ∷ ps) [] rest = IsTakenBy (param_type p) rest × AreTaken ps [] rest
  AreTaken (p ∷ ps) (other ∷ others) rest = Below (param_type p) (param_type other) × AreTaken ps others rest

  -- a rest, where there is one, is taken by a rest
  abbrev pub IsRestTaken : Option Param → Option Param → Type 0
  IsRestTaken None other = Unit {0}
  IsRestTaken (Some p) other = IsTakenBy (param_type p) other

  -- a keyword is taken by the one of its key, or else by the rest of the keywords
  abbrev pub IsKeywordTaken : Ty → Option Keyword → Option Param → Type 0
  IsKeywordTaken ty (Some k) rest = Below ty (out-Keyword k).ty
  IsKeywordTaken ty None rest = IsTakenBy ty rest

  -- a block is required only if the other's is, and the other's block is passed on where it is one that fits
  abbrev pub IsBlockTaken : Option BlockType → Option BlockType → Type 0
  IsBlockTaken None None = Unit {0}
  IsBlockTaken None (Some own) = (out-BlockType own).required ≡ false
  IsBlockTaken (Some wanted) None = ⊥
  IsBlockTaken (Some wanted) (Some own) =
      ((out-BlockType own).required ≡ true → (out-BlockType wanted).required ≡ true) × Below (t.ProcOf (out-BlockType wanted).fun) (t.ProcOf (out-BlockType own).fun)

  -- A function without variables of its own serves where another such is wanted.
  pub record Serves (own wanted : MethodType) : Type 0 where
    -- it requires no more positionals
    pub enough : length (out-MethodType own).required + length (out-MethodType own).trailing ≤ length (out-MethodType wanted).required + length (out-MethodType wanted).trailing
    -- it takes each positional, and the rest
    pub taken : AreTaken (positionals wanted) (positionals own) (out-MethodType own).rest
    pub rest : IsRestTaken (out-MethodType wanted).rest (out-MethodType own).rest
    -- where either has trailing positionals, all counts of positionals agree
    pub trailing : (0 < length (out-MethodType own).trailing) ⊎ (0 < length (out-MethodType wanted).trailing) →
        (length (out-MethodType own).required ≡ length (out-MethodType wanted).required) × ((length (out-MethodType own).optional ≡ length (out-MethodType wanted).optional) × (length (out-MethodType own).trailing ≡ length (out-MethodType wanted).trailing))
    -- each keyword that it requires is required there
    pub required : (name : List ℕ) (k : Keyword) → keyword_of (out-MethodType own).keywords name ≡ Some k → is_required k ≡ true →
        (other : Keyword) × ((keyword_of (out-MethodType wanted).keywords name ≡ Some other) × (is_required other ≡ true))
    -- it takes each keyword, and the rest of them
    pub keywords : (name : List ℕ) (k : Keyword) → keyword_of (out-MethodType wanted).keywords name ≡ Some k →
        IsKeywordTaken (out-Keyword k).ty (keyword_of (out-MethodType own).keywords name) (out-MethodType own).rest_keywords
    pub rest_keywords : IsRestTaken (out-MethodType wanted).rest_keywords (out-MethodType own).rest_keywords
    pub block : IsBlockTaken (out-MethodType wanted).block (out-MethodType own).block
    pub result : Below (out-MethodType own).result (out-MethodType wanted).result

  -- A function meets another: they have equally many variables, and serve with these renamed to agree.
  pub record Meets (own wanted : MethodType) : Type 0 where
    pub vars : length (own_vars own) ≡ length (own_vars wanted)
    pub serves : Serves (named_so (agreed_names own wanted) own) (named_so (agreed_names own wanted) wanted)
