-- Words that differ, and the keywords that begin with `a`.
use Rattle.std.proofs.Common.{◌≡◌, ℕ, List, [], ◌∷◌, Bool, true, false, refl, sym, subst}
use Rattle.std.specs.Prelude.{bytes_eq, codes, slice_index}
use Rattle.std.proofs.lemmas.Slice.Eq.{bytes_eq-Decides}
use Rattle.rbs_lexer.specs.declared.kind.Kind.{Kind}
use Rattle.rbs_lexer.specs.declared.kind.Kind.TheVariants as k
use Rattle.rbs_lexer.specs.Words.{entry, keywords, kind_or_name, word_kind}

not_true : (b : Bool) → (b ≡ true → ⊥) → b ≡ false
not_true true h = absurd (h refl)
not_true false h = refl

pub differ : (a b : List ℕ) → (a ≡ b → ⊥) → bytes_eq a b ≡ false
differ a b h = not_true (bytes_eq a b) (λ e. h ((bytes_eq-Decides a b).0 e))

-- the keywords that begin with `a`
abbrev a_words : List (List ℕ × Kind)
a_words = (codes "alias", k.Alias) ∷ (codes "as", k.As) ∷ (codes "attr_accessor", k.AttrAccessor) ∷ (codes "attr_reader", k.AttrReader) ∷ (codes "attr_writer", k.AttrWriter) ∷ []

pub of_a : (run : List ℕ) → slice_index run 0 ≡ 97 → word_kind run ≡ kind_or_name run (entry run a_words)
unfolding word_kind
of_a [] h = cc
of_a (b ∷ bs) h = subst (λ c. kind_or_name (c ∷ bs) (entry (c ∷ bs) keywords) ≡ kind_or_name (c ∷ bs) (entry (c ∷ bs) a_words)) (sym h) refl
