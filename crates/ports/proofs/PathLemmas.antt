-- What stands behind a folder in a path, and the name and the kind that it gives.
use Rattle.std.proofs.Common.{◌≡◌, ℕ, ◌+◌, ◌==◌, List, [], ◌∷◌, ◌++◌, true, false, Option, None, Some, MatchOption, Bor, refl, sym, ap, ◌∙◌, subst, lit<, length, drop, get_or}
use Rattle.std.proofs.lemmas.Bool.{false_from_ne_true, ne_eqb}
use Rattle.std.proofs.lemmas.Bool.Decides.{Decides-eqb}
use Rattle.std.proofs.lemmas.List.{append_assoc, append_cancel_left, get_or_default, length-append, drop_at}
use Rattle.std.proofs.lemmas.List.Folds.{list_any_none}
use Rattle.std.proofs.lemmas.Slice.Eq.{starts_is}
use Rattle.std.proofs.lemmas.Str.Pattern.{NoCharPasses-char}
use Rattle.std.specs.List.{list_any}
use Rattle.std.specs.Str.{NoCharPasses}
use Rattle.ports.specs.Tree.{is_below}

-- a text with no `/` among its characters has none among its bytes
pub no_slash : (bs : List ℕ) → NoCharPasses (λ d. d == 47) bs → list_any (λ b. b == 47) bs ≡ false
no_slash bs none = list_any_none (λ b. b == 47) bs (λ i d lt. ne_eqb (get_or bs i d) 47 (λ e. NoCharPasses-char 47 bs i none (lit< tt) lt (get_or_default bs i 0 d lt ∙ e)))

-- the length of a folder with its `/`
long : (folder : List ℕ) → length (folder ++ 47 ∷ []) ≡ length folder + 1
long folder = length-append folder (47 ∷ [])

-- a path below a folder is the folder, a `/` and the rest
pub below_parts : (folder path : List ℕ) → is_below folder path ≡ true → path ≡ (folder ++ 47 ∷ []) ++ drop (length folder + 1) path
below_parts folder path is = subst (λ n. path ≡ (folder ++ 47 ∷ []) ++ drop n path) (long folder) ((starts_is Decides-eqb path (folder ++ 47 ∷ []) (is_below folder path) refl).0 is)

-- such a path lies below it
pub below_from_parts : (folder path rest : List ℕ) → path ≡ folder ++ 47 ∷ rest → is_below folder path ≡ true
below_from_parts folder path rest is =
    (starts_is Decides-eqb path (folder ++ 47 ∷ []) (is_below folder path) refl).1 rest (is ∙ sym (append_assoc folder (47 ∷ []) rest))

-- a path that doesn't begin with a folder doesn't lie below it
pub not_below : (folder path : List ℕ) → ((rest : List ℕ) → path ≡ folder ++ rest → ⊥) → is_below folder path ≡ false
not_below folder path lacks =
    false_from_ne_true (is_below folder path) (λ e. lacks (47 ∷ drop (length folder + 1) path) (below_parts folder path e ∙ append_assoc folder (47 ∷ []) (drop (length folder + 1) path)))

-- what stands behind the `/` after the folder is the path's rest
pub rest_behind : (folder path rest : List ℕ) (r : Option (Bor (List ℕ))) → path ≡ folder ++ rest → MatchOption r ((more : List ℕ) → rest ≡ 47 ∷ more → ⊥) (λ x. rest ≡ 47 ∷ x.now)
    → MatchOption r (is_below folder path ≡ false) (λ x. (is_below folder path ≡ true) × (x.now ≡ drop (length folder + 1) path))
rest_behind folder path rest None is lacks =
    false_from_ne_true (is_below folder path) (λ e. lacks (drop (length folder + 1) path)
    (append_cancel_left folder rest (47 ∷ drop (length folder + 1) path) (sym is ∙ (below_parts folder path e ∙ append_assoc folder (47 ∷ []) (drop (length folder + 1) path)))))
rest_behind folder path rest (Some x) is slash =
    let whole : path ≡ folder ++ 47 ∷ x.now = is ∙ ap (λ r. folder ++ r) slash in (
      below_from_parts folder path x.now whole,
      sym (ap (drop (length folder + 1)) (whole ∙ sym (append_assoc folder (47 ∷ []) x.now)) ∙ drop_at (folder ++ 47 ∷ []) x.now (length folder + 1) (long folder)),
    )
