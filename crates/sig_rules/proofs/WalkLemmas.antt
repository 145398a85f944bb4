-- The walk over declarations, one step more.
use Rattle.std.proofs.Common.{◌≡◌, take, ℕ, zero, suc, ◌+◌, ◌-◌, ◌<◌, ◌≤◌, List, [], ◌∷◌, ◌++◌, length, get_or, map, refl, sym, ap, arith, Option, None, Some}
use Rattle.std.proofs.lemmas.List.{map_more}
use Rattle.rbs_tree.specs.declared.names.TypeName.{TypeName}
use Rattle.rbs_tree.specs.declared.decls.Member.{Member}
use Rattle.sig_rules.specs.declared.files.Declared.{Declared}
use Rattle.sig_rules.specs.Declarations.{FoundMember, found_member, innermost, own_members}

innermost_at : (names : List TypeName) (name : TypeName) (i : ℕ) → suc i ≡ length names → name ≡ get_or names i name → innermost names ≡ name.path
innermost_at [] name i last is = absurd (omega arith)
innermost_at (first ∷ []) name zero last is = ap (λ (n : TypeName). n.path) (sym is)
innermost_at (first ∷ []) name (suc i) last is = absurd (omega arith)
innermost_at (first ∷ second ∷ names) name zero last is = absurd (omega arith)
innermost_at (first ∷ second ∷ names) name (suc i) last is = innermost_at (second ∷ names) name i (omega arith) is

-- the innermost of enclosing names is the last
pub innermost_last : (names : List TypeName) (name : TypeName) → 1 ≤ length names → name ≡ get_or names (length names - 1) name → innermost names ≡ name.path
innermost_last names name some last = innermost_at names name (length names - 1) (omega arith) last

own_members-cons : (own : Option Member) (all : List ℕ → List TypeName → List Declared) (xs ys : List FoundMember) → own_members (xs ++ ys) ≡ own_members xs ++ own_members ys → own_members (record { own = own; all = all } ∷ xs ++ ys) ≡ own_members (record { own = own; all = all } ∷ xs) ++ own_members ys
own_members-cons None all xs ys rest = rest
own_members-cons (Some own) all xs ys rest = ap (λ ms. own ∷ ms) rest

-- the members of two lists that are no declarations
pub own_members-append : (xs ys : List FoundMember) → own_members (xs ++ ys) ≡ own_members xs ++ own_members ys
own_members-append [] ys = refl
own_members-append (m ∷ xs) ys = own_members-cons m.own m.all xs ys (own_members-append xs ys)

-- what a loop over members has, one member later
pub own_members_more : (xs : List Member) (i : ℕ) (x : Member) → i < length xs → own_members (map found_member (take (i + 1) xs)) ≡ own_members (map found_member (take i xs)) ++ own_members (found_member (get_or xs i x) ∷ [])
own_members_more xs i x within = rw (map_more found_member xs i x within) (own_members-append (map found_member (take i xs)) _)
