-- What words feed a hasher: equal words feed the same, however they stand in two lists, one behind the other.
use Rattle.std.specs.Prelude.{◌≡◌, true, ◌&&◌, ◌++◌}
use Rattle.std.proofs.Common.{ap}
use Rattle.std.specs.Hash.{slice, str}
use Rattle.std.specs.Cmp.{first_so, second_so}
use Rattle.std.specs.Cmp.Lexicographic.{pointwise_decides, bytes_decides}
use Rattle.sig_rules.specs.Declarations.{Path, same_path}

same_words : (x y : Path) → same_path x y ≡ true → x ≡ y
same_words x y = (pointwise_decides bytes_decides x y).0

-- equal words feed the same
pub path_fed : (x y : Path) → same_path x y ≡ true → slice str x ≡ slice str y
path_fed x y same = ap (λ (p : Path). slice str p) (same_words x y same)

-- two lists that are equal part by part feed the same
pub words_fed : (front back front2 back2 : Path) → (same_path front front2 && same_path back back2) ≡ true → slice str (front ++ back) ≡ slice str (front2 ++ back2)
words_fed front back front2 back2 same =
    λ i. slice str (same_words front front2 (first_so (same_path front front2) (same_path back back2) same) i ++ same_words back back2 (second_so (same_path front front2) (same_path back back2) same) i)
