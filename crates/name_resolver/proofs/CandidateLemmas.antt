-- What the first word of a name may stand for, from the innermost enclosing name outwards.
use Rattle.std.proofs.Common.{◌≡◌, ◌∙◌, ℕ, suc, ◌-◌, ◌≤◌, Bool, true, false, if◌then◌else◌, List, [], ◌∷◌, ◌++◌, length, get_or, drop, take, map, Option, Some, None, Result, Ok, Err, OnErr, refl, sym, ap, subst, arith, append_assoc, append-nil}
use Rattle.std.proofs.Math.Seq.{take-suc, take-length}
use Rattle.std.proofs.lemmas.List.{reverse-append, map-append}
use Rattle.rbs_tree.specs.declared.names.TypeName.{TypeName}
use Rattle.sig_rules.specs.Declarations.{Path, full_name}
use Rattle.sig_rules.specs.Names.{candidates, first_that, up_to}
use Rattle.name_resolver.specs.Noting.{NotesBefore, NotesFirst}

last_of : (names : List TypeName) (name : TypeName) → 1 ≤ length names → name ≡ get_or names (length names - 1) name → names ≡ take (length names - 1) names ++ name ∷ []
last_of names name some is =
    let whole : suc (length names - 1) ≡ length names = omega arith in
    sym (take-length names) ∙ ap (λ n. take n names) (sym whole) ∙ take-suc names (length names - 1) name (omega arith) ∙ ap (λ n. take (length names - 1) names ++ n ∷ []) (sym is)

candidates_more : (outer : List TypeName) (inner : TypeName) (head : List ℕ) → candidates (outer ++ inner ∷ []) head ≡ (inner.path ++ head ∷ []) ∷ candidates outer head
candidates_more outer inner head = ap (λ (ns : List TypeName). map (λ (n : TypeName). n.path ++ head ∷ []) ns ++ (head ∷ []) ∷ []) (reverse-append outer (inner ∷ []))

-- the first candidate is in the innermost name
pub candidates_last : (names : List TypeName) (name : TypeName) (head : List ℕ) → 1 ≤ length names → name ≡ get_or names (length names - 1) name → candidates names head ≡ (name.path ++ head ∷ []) ∷ candidates (take (length names - 1) names) head
candidates_last names name head some is = ap (λ (ns : List TypeName). candidates ns head) (last_of names name some is) ∙ candidates_more (take (length names - 1) names) name head

-- a word that stands for nothing there
pub not_there : {A : Type 0} (b : Bool) (x : A) (r : Option A) → r ≡ (if b then Some x else None) → r ≡ None → b ≡ false
not_there true x r is none = cc
not_there false x r is none = refl

first_that-other : (test : Path → Bool) (path : Path) (paths : List Path) → test path ≡ false → first_that test (path ∷ paths) ≡ first_that test paths
first_that-other test path paths other = ap (λ b. if b then Some path else first_that test paths) other

up_to-other : (test : Path → Bool) (path : Path) (paths : List Path) → test path ≡ false → up_to test (path ∷ paths) ≡ path ∷ up_to test paths
up_to-other test path paths other = ap (λ b. path ∷ (if b then [] else up_to test paths)) other

-- the innermost name is passed
pub found_further : (test : Path → Bool) (names : List TypeName) (name : TypeName) (head : List ℕ) → 1 ≤ length names → name ≡ get_or names (length names - 1) name → test (name.path ++ head ∷ []) ≡ false → first_that test (candidates (take (length names - 1) names) head) ≡ first_that test (candidates names head)
found_further test names name head some is other = sym (ap (first_that test) (candidates_last names name head some is) ∙ first_that-other test (name.path ++ head ∷ []) (candidates (take (length names - 1) names) head) other)

notes_further : (asked rest : List Path) (old new newer : List TypeName) (path : Path) → NotesBefore asked (path ∷ rest) old new → newer ≡ new ++ full_name path ∷ [] → NotesBefore asked rest old newer
notes_further asked rest old new newer path notes is = record {
  done = notes.done ++ path ∷ [];
  all = notes.all ∙ sym (append_assoc notes.done (path ∷ []) rest);
  noted = is ∙ ap (λ (ns : List TypeName). ns ++ full_name path ∷ []) notes.noted ∙ append_assoc old (map full_name notes.done) (full_name path ∷ []) ∙ ap (λ (ns : List TypeName). old ++ ns) (sym (map-append full_name notes.done (path ∷ [])));
}

-- the innermost name is noted and passed
pub noted_further : (test : Path → Bool) (asked : List Path) (names : List TypeName) (name : TypeName) (head : List ℕ) (old new newer : List TypeName) → 1 ≤ length names → name ≡ get_or names (length names - 1) name → test (name.path ++ head ∷ []) ≡ false → NotesBefore asked (up_to test (candidates names head)) old new → newer ≡ new ++ full_name (name.path ++ head ∷ []) ∷ [] → NotesBefore asked (up_to test (candidates (take (length names - 1) names) head)) old newer
noted_further test asked names name head old new newer some is other notes next =
    let rest = up_to test (candidates (take (length names - 1) names) head) in
    let now : up_to test (candidates names head) ≡ (name.path ++ head ∷ []) ∷ rest = ap (up_to test) (candidates_last names name head some is) ∙ up_to-other test (name.path ++ head ∷ []) (candidates (take (length names - 1) names) head) other in
    notes_further asked rest old new newer (name.path ++ head ∷ []) (subst (λ (left : List Path). NotesBefore asked left old new) now notes) next

-- nothing is noted
pub notes_none : (asked : List Path) (old new : List TypeName) → new ≡ old → NotesFirst asked old new
notes_none asked old new same = (asked, record { done = []; all = refl; noted = same ∙ sym (append-nil old) })

-- more is asked behind those of which the first are noted
pub notes_more : (asked more : List Path) (old new : List TypeName) → NotesFirst asked old new → NotesFirst (asked ++ more) old new
notes_more asked more old new notes = (
  notes.0 ++ more,
  record {
    done = notes.1.done;
    all = ap (λ (ps : List Path). ps ++ more) notes.1.all ∙ append_assoc notes.1.done notes.0 more;
    noted = notes.1.noted;
  },
)

-- all that are asked first are noted
pub notes_all : (asked more : List Path) (old new : List TypeName) → new ≡ old ++ map full_name asked → NotesFirst (asked ++ more) old new
notes_all asked more old new noted = (more, record { done = asked; all = refl; noted = noted })

-- all that are asked first are noted, and then the others
pub notes_joined : (asked more : List Path) (old middle new : List TypeName) → middle ≡ old ++ map full_name asked → new ≡ middle ++ map full_name more → new ≡ old ++ map full_name (asked ++ more)
notes_joined asked more old middle new first others =
    others ∙ ap (λ (ns : List TypeName). ns ++ map full_name more) first ∙ append_assoc old (map full_name asked) (map full_name more) ∙ ap (λ (ns : List TypeName). old ++ ns) (sym (map-append full_name asked more))

pub on_any_err : {T E P : Type 0} (r : Result T E) → P → OnErr r P
on_any_err (Ok x) is = tt
on_any_err (Err e) is = is

-- a list is its first item and what is behind it
pub cons_of : {A : Type 0} (xs : List A) (x : A) → 1 ≤ length xs → x ≡ get_or xs 0 x → x ∷ take (length xs - 1) (drop 1 xs) ≡ xs
cons_of [] x some is = absurd (omega arith)
cons_of (y ∷ xs) x some is =
    let behind : suc (length xs) - 1 ≡ length xs = omega arith in
    let rest : take (suc (length xs) - 1) xs ≡ xs = ap (λ n. take n xs) behind ∙ take-length xs in
    λ i. is i ∷ rest i
