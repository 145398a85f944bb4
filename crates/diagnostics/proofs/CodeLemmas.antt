-- No two codes are printed alike.
use Rattle.std.proofs.Common.{◌≡◌, ℕ, true, List, [], ◌∷◌, Option, Some, nat_eq, find, refl, sym, ap, ◌∙◌}
use Rattle.std.specs.Cmp.Lexicographic.{pointwise, bytes_decides}
use Rattle.diagnostics.specs.Codes.{code_name}
use Rattle.diagnostics.specs.declared.code.Code.{Code}
use Rattle.diagnostics.specs.declared.code.Code.TheVariants.{RbsSyntaxError, UnknownTypeName, InvalidTypeApplication, DuplicatedDeclaration, DuplicatedMethodDefinition, RecursiveAncestor, RecursiveTypeAlias, SuperclassMismatch, InvalidVarianceAnnotation, UnknownMethodAlias, InvalidMethodOverload, UnsatisfiableTypeApplication, CyclicClassAlias, WrongAliasKind, RubySyntaxError, UnsupportedSyntax, NoMethod, ArgumentTypeMismatch, UnresolvedOverloading, InsufficientPositionalArguments, UnexpectedPositionalArgument, InsufficientKeywordArguments, UnexpectedKeywordArgument, RequiredBlockMissing, UnexpectedBlockGiven, BlockBodyTypeMismatch, MethodBodyTypeMismatch, MethodParameterMismatch, ReturnTypeMismatch, IncompatibleAssignment, UnknownConstant, UnknownInstanceVariable, UnknownGlobalVariable, UndeclaredMethodDefinition, MethodDefinitionMissing, UnexpectedSuper, UnexpectedYield, AnnotationSyntaxError, FalseAssertion, MisplacedAnnotation}

abbrev all_codes : List Code
all_codes = RbsSyntaxError ∷ UnknownTypeName ∷ InvalidTypeApplication ∷ DuplicatedDeclaration ∷ DuplicatedMethodDefinition ∷ RecursiveAncestor ∷ RecursiveTypeAlias ∷ SuperclassMismatch ∷ InvalidVarianceAnnotation ∷ UnknownMethodAlias ∷ InvalidMethodOverload ∷ UnsatisfiableTypeApplication ∷ CyclicClassAlias ∷ WrongAliasKind ∷ RubySyntaxError ∷ UnsupportedSyntax ∷ NoMethod ∷ ArgumentTypeMismatch ∷ UnresolvedOverloading ∷ InsufficientPositionalArguments ∷ UnexpectedPositionalArgument ∷ InsufficientKeywordArguments ∷ UnexpectedKeywordArgument ∷ RequiredBlockMissing ∷ UnexpectedBlockGiven ∷ BlockBodyTypeMismatch ∷ MethodBodyTypeMismatch ∷ MethodParameterMismatch ∷ ReturnTypeMismatch ∷ IncompatibleAssignment ∷ UnknownConstant ∷ UnknownInstanceVariable ∷ UnknownGlobalVariable ∷ UndeclaredMethodDefinition ∷ MethodDefinitionMissing ∷ UnexpectedSuper ∷ UnexpectedYield ∷ AnnotationSyntaxError ∷ FalseAssertion ∷ MisplacedAnnotation ∷ []

-- the code that is printed so
abbrev code_of : List ℕ → Option Code
code_of name = find (λ c. pointwise nat_eq (code_name c) name) all_codes

code_of-code_name : (c : Code) → code_of (code_name c) ≡ Some c
code_of-code_name RbsSyntaxError = refl
code_of-code_name c = refl

pub same_code : (x y : Code) → pointwise nat_eq (code_name x) (code_name y) ≡ true → x ≡ y
same_code x y e =
    let both : Some x ≡ Some y = sym (code_of-code_name x) ∙ ap code_of ((bytes_decides (code_name x) (code_name y)).0 e) ∙ code_of-code_name y in
    cc
