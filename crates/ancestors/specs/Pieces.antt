-- What lines are made of, piece by piece.
use Rattle.std.specs.Prelude.{List, [], ◌∷◌, ◌++◌, map}
use Rattle.sig_rules.specs.declared.files.Declared.{Declared}
use Rattle.sig_rules.specs.declared.line.Kind.{Kind}
use Rattle.sig_rules.specs.declared.line.Kind.TheVariants.{Instance, Singleton}
use Rattle.sig_rules.specs.declared.line.Applied.{Applied}
use Rattle.sig_rules.specs.declared.line.Step.{Step}
use Rattle.sig_rules.specs.Declarations.{full_name}
use Rattle.sig_rules.specs.Lines.{behind_instances, behind_singletons, extend_of, include_of, mixed_in, object, plain, prepend_of}
use Rattle.ancestors.specs.declared.tasks.Part.{Part}
use Rattle.ancestors.specs.declared.tasks.Part.TheVariants as part
use Rattle.ancestors.specs.declared.tasks.Piece.{Piece}
use Rattle.ancestors.specs.declared.tasks.Piece.TheVariants as piece
use Rattle.ancestors.specs.declared.tasks.Task.{Task}
use Rattle.ancestors.specs.declared.tasks.Task.TheVariants as task

-- on which side a part of a name is
abbrev pub kind_of : Part → Kind
kind_of part.Brought = Instance
kind_of part.Instances = Instance
kind_of part.Singletons = Singleton

-- the first of some names, or else `::Object`
abbrev pub first_or_object : List Applied → List Applied
first_or_object (s ∷ ss) = s ∷ []
first_or_object [] = plain object ∷ []

-- some names, or else `::Object`
abbrev pub or_object : List Applied → List Applied
or_object [] = plain object ∷ []
or_object (s ∷ ss) = s ∷ ss

-- the step of a name on a line of instances
abbrev pub step_of : Applied → Step
step_of a = record { name = full_name a.name.path; kind = Instance; args = a.args }

-- the step of a class or a module itself
abbrev pub singleton_step_of : Applied → Step
singleton_step_of a = record { name = full_name a.name.path; kind = Singleton; args = [] }

-- the same part of names
abbrev pub parts : Part → List Applied → List Piece
parts part names = map (piece.Of part) names

-- what a name brings: what it prepends, itself, and what it includes
abbrev pub brought_pieces : List Declared → Applied → List Piece
brought_pieces all a = parts part.Brought (mixed_in all prepend_of a) ++ piece.One (step_of a) ∷ parts part.Brought (mixed_in all include_of a)

-- the pieces of a part of a name
abbrev pub pieces : List Declared → Part → Applied → List Piece
pieces all part.Brought a = brought_pieces all a
pieces all part.Instances a = brought_pieces all a ++ parts part.Instances (behind_instances all a)
pieces all part.Singletons a = piece.One (singleton_step_of a) ∷ parts part.Brought (mixed_in all extend_of a) ++ parts part.Singletons (behind_singletons all a)

-- pieces are to be added
abbrev pub adds : List Piece → List Task
adds ps = map task.Add ps
