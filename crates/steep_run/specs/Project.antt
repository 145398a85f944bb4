-- The two files that a check reads, and how a report prints what is found in them.
use Rattle.std.specs.Prelude.{ℕ, ◌+◌, ◌==◌, nat_lt, min, Bool, List, [], ◌∷◌, ◌++◌, length, codes, Option, None, Some, if◌then◌else◌}
use Rattle.std.specs.List.{list_all}
use Rattle.std.specs.Str.Lossy.{utf8_lossy}
use Rattle.ports.specs.Tree.{bytes_at}
use Rattle.diagnostics.specs.declared.diagnostic.Diagnostic.{Diagnostic}
use Rattle.diagnostics.specs.Lines.{diagnostic_line, summary}
use Rattle.steep_run.specs.Signature.{signature_path}
use Rattle.steep_run.specs.Words.{same_word}
use Rattle.steep_run.specs.declared.faults.Faults.{Faults}
use Rattle.steep_run.specs.declared.project.Project.{Project}

-- the path of the Ruby file
abbrev pub ruby_path : List ℕ
ruby_path = codes "lib/a.rb"

-- without the slashes at its end
abbrev pub without_slashes : List ℕ → List ℕ
without_slashes [] = []
without_slashes (c ∷ cs) = if list_all (λ d. d == 47) (c ∷ cs) then [] else c ∷ without_slashes cs

-- where a path of the project stands in the tree: below the root, which is a folder or `.`
abbrev pub rooted : List ℕ → List ℕ → List ℕ
rooted root path = if same_word root (codes ".") then path else without_slashes root ++ 47 ∷ path

-- the text that stands at a path, in which what isn't UTF-8 is U+FFFD; it is empty where nothing stands there
abbrev pub text_of : Option (List ℕ) → List ℕ
text_of None = []
text_of (Some bytes) = utf8_lossy bytes

-- the project that a tree has below a root
abbrev pub project_of : List ℕ → List (List ℕ × List ℕ) → Project
project_of root files = record {
  signature = text_of (bytes_at files (rooted root signature_path));
  ruby = text_of (bytes_at files (rooted root ruby_path));
}

-- whether a text is longer than 1,048,576 bytes
abbrev pub is_too_long : List ℕ → Bool
is_too_long text = nat_lt 1048576 (length text)

-- the length of the first text that is too long, in the order of the paths: `lib/a.rb` before `sig/a.rbs`
abbrev pub first_too_long : Project → Option ℕ
first_too_long p =
    if is_too_long p.ruby then Some (length p.ruby) else (if is_too_long p.signature then Some (length p.signature) else None)

-- the lines of a text's diagnostics
abbrev pub lines_of : List ℕ → List ℕ → List Diagnostic → List ℕ
lines_of path text [] = []
lines_of path text (d ∷ ds) = diagnostic_line path text d ++ lines_of path text ds

-- how many diagnostics there are
abbrev pub count_of : Faults → ℕ
count_of faults = length faults.ruby + length faults.signature

-- how many files have one
abbrev pub files_of : Faults → ℕ
files_of faults = min (length faults.ruby) 1 + min (length faults.signature) 1

-- what is printed of a project's diagnostics: their lines, file by file in the order of the paths, and the line that counts them
abbrev pub report : Project → Faults → List ℕ
report p faults =
    lines_of ruby_path p.ruby faults.ruby ++ lines_of signature_path p.signature faults.signature ++ summary (count_of faults) (files_of faults)
