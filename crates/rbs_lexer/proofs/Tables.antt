-- The longest entry of a table is found at the front of a text.
use Rattle.std.proofs.Common.{◌≡◌, ℕ, ◌<◌, ◌≤◌, nat_lt, Bool, true, false, ◌&&◌, List, [], ◌∷◌, length, take, Option, Some, None, refl, sym, ◌∙◌, ap, subst, arith}
use Rattle.std.specs.Prelude.{if◌then◌else◌, bytes_eq, option_map}
use Rattle.std.specs.Str.{IsUtf8}
use Rattle.std.specs.List.{list_any}
use Rattle.std.proofs.lemmas.Bool.Decides.{nat_tests}
use Rattle.std.proofs.lemmas.Slice.Eq.{bytes_eq-Decides}
use Rattle.std.proofs.lemmas.List.{length-take}
use Rattle.rbs_lexer.specs.declared.kind.Kind.{Kind}
use Rattle.rbs_lexer.specs.declared.reading.Reading.TheVariants.{Token}
use Rattle.rbs_lexer.specs.Words.{entry}
use Rattle.rbs_lexer.specs.Signs.{signs, special_names, operators, sign_kind, special_kind, is_operator}
use Rattle.rbs_lexer.specs.Runs.{Language, either, of_kind, or_else}
use Rattle.rbs_lexer.specs.Finds.{prefix_len, longest_of, longest_sign, found_of, operator_len, sign_front, special_front}
use Rattle.rbs_lexer.proofs.Finding.{Finds, FindsReading, finds_or, reads_either, reads_same, reads_of_kind}
use Rattle.rbs_lexer.proofs.Skipping.{all_ascii, ascii_cut, both}

-- some bytes, all of ASCII
abbrev is_plain : List ℕ → Bool
is_plain bs = nat_lt 0 (length bs) && all_ascii bs

some_bytes : (n : ℕ) → nat_lt 0 n ≡ true → 0 < n
some_bytes n h = grind (arith, nat_tests)

same_bytes : (a b : List ℕ) → bytes_eq a b ≡ true → a ≡ b
same_bytes a b h = (bytes_eq-Decides a b).0 h

bytes_same : (a b : List ℕ) → a ≡ b → bytes_eq a b ≡ true
bytes_same a b h = (bytes_eq-Decides a b).1 h

not_same : (a b : List ℕ) → (length a ≡ length b → ⊥) → bytes_eq a b ≡ false
not_same a b h = go (bytes_eq a b) refl
  where
    go : (t : Bool) → bytes_eq a b ≡ t → t ≡ false
    go true e = absurd (h (ap length (same_bytes a b e)))
    go false e = refl

clash : ◌≡◌ {A = Bool} false true → ⊥
clash c = cc

-- one entry
pub prefix_found : (prefix text : List ℕ) → is_plain prefix ≡ true → IsUtf8 text → Finds (λ run next. bytes_eq run prefix) text (prefix_len prefix text)
prefix_found prefix text p u = go (bytes_eq prefix (take (length prefix) text)) refl
  where
    go : (t : Bool) → bytes_eq prefix (take (length prefix) text) ≡ t → Finds (λ run next. bytes_eq run prefix) text (if t then Some (length prefix) else None)
    go true e =
        let same : prefix ≡ take (length prefix) text = same_bytes _ _ e in
        let taken = length-take (length prefix) text in
        let long = ap length same in
        let w : length prefix ≤ length text = omega arith in
        record {
          some = some_bytes (length prefix) (both _ _ p).0;
          within = w;
          pass = bytes_same _ _ (sym same);
          longest = λ n l h. not_same (take n text) prefix (λ g. let m = length-take n text in omega arith);
          cut = ascii_cut text (length prefix) u w (subst (λ bs. all_ascii bs ≡ true) same (both _ _ p).1);
        }
    go false e = λ n h. differs n h (bytes_eq (take n text) prefix) refl
      where
        differs : (n : ℕ) → n ≤ length text → (t : Bool) → bytes_eq (take n text) prefix ≡ t → t ≡ false
        differs n h true q =
            let same : take n text ≡ prefix = same_bytes _ _ q in
            let m : n ≡ length prefix = (let a = length-take n text in let b = ap length same in omega arith) in
            absurd (clash (sym e ∙ bytes_same prefix (take (length prefix) text) (sym same ∙ ap (λ i. take i text) m)))
        differs n h false q = refl

plain_all : List (List ℕ) → Bool
plain_all [] = true
plain_all (p ∷ ps) = is_plain p && plain_all ps

longest_found : (table : List (List ℕ)) (text : List ℕ) → plain_all table ≡ true → IsUtf8 text → Finds (λ run next. list_any (bytes_eq run) table) text (longest_of table text)
unfolding plain_all
longest_found [] text p u = λ n h. refl
longest_found (e ∷ es) text p u = finds_or (λ run next. bytes_eq run e) (λ run next. list_any (bytes_eq run) es) text (prefix_len e text) (longest_of es text)
    (prefix_found e text (both _ _ p).0 u) (longest_found es text (both _ _ p).1 u)

pub operator_found : (text : List ℕ) → IsUtf8 text → Finds (λ run next. is_operator run) text (operator_len text)
unfolding is_operator operator_len plain_all
operator_found text u = longest_found operators text refl u

plain_signs : List (List ℕ × Kind) → Bool
plain_signs [] = true
plain_signs (e ∷ es) = is_plain e.0 && plain_signs es

sign_or_later : (t : Bool) (kind : Kind) (o : Option Kind) → option_map Token (if t then Some kind else o) ≡ or_else (of_kind kind t) (option_map Token o)
sign_or_later true kind o = refl
sign_or_later false kind o = refl

longest_sign_found : (table : List (List ℕ × Kind)) (text : List ℕ) → plain_signs table ≡ true → IsUtf8 text → FindsReading (λ run next. option_map Token (entry run table)) text (longest_sign table text)
unfolding plain_signs
longest_sign_found [] text p u = λ n h. refl
longest_sign_found (e ∷ es) text p u =
    let first : Language = λ run next. of_kind e.1 (bytes_eq run e.0) in
    let later : Language = λ run next. option_map Token (entry run es) in
    reads_same (either first later) (λ run next. option_map Token (entry run (e ∷ es))) text (longest_sign (e ∷ es) text)
    (λ n. sign_or_later (bytes_eq (take n text) e.0) e.1 (entry (take n text) es))
    (reads_either first later text (found_of e.1 (prefix_len e.0 text)) (longest_sign es text)
    (reads_of_kind e.1 (λ run next. bytes_eq run e.0) text (prefix_len e.0 text) (prefix_found e.0 text (both _ _ p).0 u))
    (longest_sign_found es text (both _ _ p).1 u))

pub sign_found : (text : List ℕ) → IsUtf8 text → FindsReading (λ run next. option_map Token (sign_kind run)) text (sign_front text)
unfolding sign_kind sign_front plain_signs
sign_found text u = longest_sign_found signs text refl u

pub special_found : (text : List ℕ) → IsUtf8 text → FindsReading (λ run next. option_map Token (special_kind run)) text (special_front text)
unfolding special_kind special_front plain_signs
special_found text u = longest_sign_found special_names text refl u
