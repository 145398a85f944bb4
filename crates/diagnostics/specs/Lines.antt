-- What a check prints: a line for each diagnostic, and a last line that counts them. Places are those of LSP 3.17.
use Rattle.std.specs.Prelude.{ℕ, ◌+◌, List, ◌++◌, [], ◌∷◌, codes, if◌then◌else◌, ◌==◌}
use Rattle.std.specs.Fmt.{decimal}
use Rattle.src_text.specs.Place.{place}
use Rattle.diagnostics.specs.Codes.{code_name}
use Rattle.diagnostics.specs.declared.diagnostic.Diagnostic.{Diagnostic}

-- the word for a severity: 1 is an error, 2 a warning, and all else an information
abbrev pub severity_word : ℕ → List ℕ
severity_word n = if n == 1 then codes "error" else (if n == 2 then codes "warning" else codes "information")

-- pieces of a text one behind another, as `format!` gives them
abbrev pub joined : List (List ℕ) → List ℕ
joined [] = []
joined (x ∷ []) = x
joined (x ∷ y ∷ more) = x ++ joined (y ∷ more)

-- PATH:LINE:COLUMN: [SEVERITY] MESSAGE (CODE) and the line's end: lines count from 1, columns from 0 in UTF-16 units
unfoldable pub diagnostic_line : List ℕ → List ℕ → Diagnostic → List ℕ
diagnostic_line path text d =
    let at = place text d.span.start in
    joined (path ∷ codes ":" ∷ decimal (at.0 + 1) ∷ codes ":" ∷ decimal at.1 ∷ codes ": [" ∷ severity_word d.severity ∷ codes "] " ∷ d.message ∷ codes " ("
    ∷ code_name d.code ∷ codes ")\n" ∷ [])

-- a number and its word, which has no s at 1
abbrev pub counted : ℕ → List ℕ → List ℕ
counted n word = decimal n ++ codes " " ++ word ++ (if n == 1 then [] else codes "s")

-- the last line of a report, by how many problems it has and in how many files
unfoldable pub summary : ℕ → ℕ → List ℕ
summary problems files = if problems == 0 then codes "No type error detected.\n"
    else codes "Detected " ++ counted problems (codes "problem") ++ codes " from " ++ counted files (codes "file") ++ codes ".\n"
