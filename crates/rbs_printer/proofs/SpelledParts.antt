-- The tokens of a printed union and of a printed intersection spell it where those of its parts do.
use Rattle.std.proofs.Common.{◌≡◌, ℕ, suc, ◌≤◌, ◌==◌, nat_le, Bool, true, false, List, [], ◌∷◌, ◌++◌, length, map, refl, sym, ◌∙◌, ap, subst, arith}
use Rattle.std.specs.Prelude.{codes}
use Rattle.rbs_tree.specs.declared.types.Ty.{Ty, roll-Ty}
use Rattle.rbs_tree.specs.declared.types.Ty.TheOpen.{Ty-F}
use Rattle.rbs_tree.specs.declared.types.Ty.TheFolds.{fold-roll-Ty}
use Rattle.rbs_tree.specs.declared.types.Ty.TheVariants as t
use Rattle.rbs_lexer.specs.declared.kind.Kind.{Kind}
use Rattle.rbs_lexer.specs.declared.kind.Kind.TheVariants as k
use Rattle.rbs_lexer.specs.Lexing.{Piece, token, past, tokens_of}
use Rattle.rbs_grammar.specs.Rules.{kind_number, is}
use Rattle.rbs_grammar.specs.Grammar.{begins}
use Rattle.rbs_grammar.specs.Levels.{spell_in}
use Rattle.rbs_grammar.specs.Parts.{separated}
use Rattle.rbs_grammar.specs.Types as types
use Rattle.rbs_grammar.specs.Types.{inter_of, union_of}
use Rattle.rbs_printer.specs.declared.level.Level.{Level}
use Rattle.rbs_printer.specs.declared.level.Level.TheVariants as at
use Rattle.rbs_printer.specs.Again.{bare}
use Rattle.rbs_printer.proofs.Pieces as pieces
use Rattle.rbs_printer.proofs.Pieces.{Pieced, pieced, placed, placed_leads, blank, behind_each, and_parts, parts}
use Rattle.rbs_printer.proofs.Claims.{deep, grammar_at, NoKey, AllOf}
use Rattle.rbs_printer.proofs.Spelling.{Reads, AllRead, IsSign, reads_separated, behind_each-no_colon, no_key-append}
use Rattle.rbs_printer.proofs.SpelledTypes.{Well, placed_reads, placed-no_key, most}
use Rattle.rbs_printer.proofs.SpelledLayers.{made}

-- the parts, each in its place
abbrev placed_all : Level → Bool → List Pieced → List (List Piece)
placed_all wanted leads [] = []
placed_all wanted leads (p ∷ ps) = placed wanted leads p ∷ placed_all wanted (placed_leads wanted leads p) ps

-- a sign between blanks
abbrev between_blanks : Kind → List ℕ → List Piece
between_blanks kind text = blank ∷ token kind text ∷ blank ∷ []

and_parts_behind : (kind : Kind) (text : List ℕ) (wanted : Level) (leads : Bool) (ps : List Pieced) → and_parts (token kind text) wanted leads ps ≡ behind_each (between_blanks kind text) (placed_all wanted leads ps)
and_parts_behind kind text wanted leads [] = refl
and_parts_behind kind text wanted leads (p ∷ ps) =
    ap (λ more. blank ∷ token kind text ∷ blank ∷ (placed wanted leads p ++ more)) (and_parts_behind kind text wanted (placed_leads wanted leads p) ps)

sign_between : (kind : Kind) (text : List ℕ) → (kind_number kind == kind_number kind) ≡ true → (kind_number k.Colon == kind_number kind) ≡ false → IsSign kind (between_blanks kind text)
sign_between kind text same no_colon = record {
  text = text;
  before_it = λ walk. past walk blank;
  past_it = λ walk. past (past (past walk blank) (token kind text)) blank;
  tokens = λ walk qs. refl;
  same = same;
  no_colon = no_colon;
}

all_placed : (tys : List Ty) (all : AllOf Well tys) (wanted : Level) (leads : Bool) (n : ℕ) → suc (suc (most tys all)) ≤ n
    → AllRead (spell_in (deep n)) (grammar_at wanted) bare (placed_all wanted leads (map pieced tys)) (map bare tys)
all_placed [] all wanted leads n enough = tt
all_placed (ty ∷ tys) all wanted leads n enough =
    (placed_reads (pieced ty) ty all.0 wanted leads n (omega arith), all_placed tys all.1 wanted (placed_leads wanted leads (pieced ty)) n (omega arith))

module _ (kind : Kind) (text : List ℕ) (same : (kind_number kind == kind_number kind) ≡ true) (other : (kind_number k.ColonColon == kind_number kind) ≡ false)
    (no_colon : (kind_number k.Colon == kind_number kind) ≡ false) (wanted : Level) where
  parts_read : (ty : Ty) (tys : List Ty) (all : AllOf Well (ty ∷ tys)) (old : Bool) (n : ℕ) → suc (suc (most (ty ∷ tys) all)) ≤ n
      → Reads (spell_in (deep n)) (separated kind (grammar_at wanted)) (map bare) (parts (token kind text) wanted (map pieced (ty ∷ tys)) old) (map bare (ty ∷ tys))
  parts_read ty tys all old n enough =
      let first = placed wanted old (pieced ty) in
      let leads = placed_leads wanted old (pieced ty) in
      let every = all_placed (ty ∷ tys) all wanted old n enough in
      subst (λ qs. Reads (spell_in (deep n)) (separated kind (grammar_at wanted)) (map bare) (first ++ qs) (map bare (ty ∷ tys))) (sym (and_parts_behind kind text wanted leads (map pieced tys)))
      (reads_separated (spell_in (deep n)) (grammar_at wanted) bare kind (between_blanks kind text) (sign_between kind text same no_colon) other
      first (bare ty) (placed_all wanted leads (map pieced tys)) (map bare tys) every.0 every.1)

  parts-no_key : (ty : Ty) (tys : List Ty) (all : AllOf Well (ty ∷ tys)) (old : Bool) → NoKey (parts (token kind text) wanted (map pieced (ty ∷ tys)) old)
  parts-no_key ty tys all old =
      let leads = placed_leads wanted old (pieced ty) in
      let others = placed_all wanted leads (map pieced tys) in
      no_key-append (placed wanted old (pieced ty)) (and_parts (token kind text) wanted leads (map pieced tys)) (placed-no_key (pieced ty) ty all.0 wanted old)
      (λ walk rest clear. subst (λ qs. begins (is k.Colon) (tokens_of walk qs ++ rest) ≡ false) (sym (and_parts_behind kind text wanted leads (map pieced tys)))
      (behind_each-no_colon kind (between_blanks kind text) (sign_between kind text same no_colon) others walk rest clear))

-- ---- unions

bare_union : (tys : List Ty) → bare (roll-Ty (Ty-F.Union tys)) ≡ roll-Ty (Ty-F.Union (map bare tys))
bare_union tys = fold-roll-Ty _ _ _ _ _ _ _ _ _ _ _ _ (Ty-F.Union tys)

union_of_many : (xs : List Ty) (a b : Ty) (bs : List Ty) → map bare xs ≡ a ∷ b ∷ bs → bare (union_of xs) ≡ roll-Ty (Ty-F.Union (a ∷ b ∷ bs))
union_of_many [] a b bs e = cc
union_of_many (x ∷ []) a b bs e = cc
union_of_many (x ∷ y ∷ xs) a b bs e = ap bare (sym (t.rolls-Union (x ∷ y ∷ xs))) ∙ bare_union (x ∷ y ∷ xs) ∙ ap (λ l. roll-Ty (Ty-F.Union l)) e

union_reads : (ty other : Ty) (tys : List Ty) (all : AllOf Well (ty ∷ other ∷ tys)) (old : Bool) (n : ℕ) → suc (suc (most (ty ∷ other ∷ tys) all)) ≤ n
    → Reads (spell_in (deep n)) types.union bare (parts (token k.Bar (codes "|")) at.Inter (map pieced (ty ∷ other ∷ tys)) old) (roll-Ty (Ty-F.Union (map bare (ty ∷ other ∷ tys))))
unfolding types.union
union_reads ty other tys all old n enough walk rest clear =
    let r = parts_read k.Bar (codes "|") refl refl refl at.Inter ty (other ∷ tys) all old n enough walk rest clear in
    (union_of r.0, (r.0, tt, rest, r.1, (refl, refl), refl), union_of_many r.0 (bare ty) (bare other) (map bare tys) r.2)

pub union_spelled : (tys : List Ty) → AllOf Well tys → nat_le 2 (length tys) ≡ true → Well (roll-Ty (Ty-F.Union tys))
union_spelled [] all many = cc
union_spelled (ty ∷ []) all many = cc
union_spelled (ty ∷ other ∷ tys) all many =
    made (roll-Ty (Ty-F.Union (ty ∷ other ∷ tys))) (pieces.union (map pieced (ty ∷ other ∷ tys))) (roll-Ty (Ty-F.Union (map bare (ty ∷ other ∷ tys))))
    (fold-roll-Ty _ _ _ _ _ _ _ _ _ _ _ _ (Ty-F.Union (ty ∷ other ∷ tys))) (bare_union (ty ∷ other ∷ tys)) (suc (suc (most (ty ∷ other ∷ tys) all)))
    (λ old n enough. union_reads ty other tys all old n enough)
    (λ old. parts-no_key k.Bar (codes "|") refl refl refl at.Inter ty (other ∷ tys) all old)

-- ---- intersections

bare_inter : (tys : List Ty) → bare (roll-Ty (Ty-F.Inter tys)) ≡ roll-Ty (Ty-F.Inter (map bare tys))
bare_inter tys = fold-roll-Ty _ _ _ _ _ _ _ _ _ _ _ _ (Ty-F.Inter tys)

inter_of_many : (xs : List Ty) (a b : Ty) (bs : List Ty) → map bare xs ≡ a ∷ b ∷ bs → bare (inter_of xs) ≡ roll-Ty (Ty-F.Inter (a ∷ b ∷ bs))
inter_of_many [] a b bs e = cc
inter_of_many (x ∷ []) a b bs e = cc
inter_of_many (x ∷ y ∷ xs) a b bs e = ap bare (sym (t.rolls-Inter (x ∷ y ∷ xs))) ∙ bare_inter (x ∷ y ∷ xs) ∙ ap (λ l. roll-Ty (Ty-F.Inter l)) e

inter_reads : (ty other : Ty) (tys : List Ty) (all : AllOf Well (ty ∷ other ∷ tys)) (old : Bool) (n : ℕ) → suc (suc (most (ty ∷ other ∷ tys) all)) ≤ n
    → Reads (spell_in (deep n)) types.inter bare (parts (token k.Ampersand (codes "&")) at.Optional (map pieced (ty ∷ other ∷ tys)) old) (roll-Ty (Ty-F.Inter (map bare (ty ∷ other ∷ tys))))
unfolding types.inter
inter_reads ty other tys all old n enough walk rest clear =
    let r = parts_read k.Ampersand (codes "&") refl refl refl at.Optional ty (other ∷ tys) all old n enough walk rest clear in
    (inter_of r.0, (r.0, tt, rest, r.1, (refl, refl), refl), inter_of_many r.0 (bare ty) (bare other) (map bare tys) r.2)

pub inter_spelled : (tys : List Ty) → AllOf Well tys → nat_le 2 (length tys) ≡ true → Well (roll-Ty (Ty-F.Inter tys))
inter_spelled [] all many = cc
inter_spelled (ty ∷ []) all many = cc
inter_spelled (ty ∷ other ∷ tys) all many =
    made (roll-Ty (Ty-F.Inter (ty ∷ other ∷ tys))) (pieces.inter (map pieced (ty ∷ other ∷ tys))) (roll-Ty (Ty-F.Inter (map bare (ty ∷ other ∷ tys))))
    (fold-roll-Ty _ _ _ _ _ _ _ _ _ _ _ _ (Ty-F.Inter (ty ∷ other ∷ tys))) (bare_inter (ty ∷ other ∷ tys)) (suc (suc (most (ty ∷ other ∷ tys) all)))
    (λ old n enough. inter_reads ty other tys all old n enough)
    (λ old. parts-no_key k.Ampersand (codes "&") refl refl refl at.Optional ty (other ∷ tys) all old)
