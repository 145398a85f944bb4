-- What is printed between quotes of some characters is printed of their bytes.
use Rattle.std.proofs.Common.{◌≡◌, ℕ, ◌+◌, ◌/◌, ◌≤◌, ◌<◌, Bool, true, false, List, [], ◌∷◌, ◌++◌, refl, ◌∙◌, sym, ap, arith, cond, ltb, append_assoc, ⊎_elim, ◌≢◌}
use Rattle.std.proofs.lemmas.Bool.{cases_lt}
use Rattle.std.proofs.lemmas.Bool.Decides.{nat_tests}
use Rattle.std.proofs.lemmas.List.{append-nil}
use Rattle.std.proofs.lemmas.Str.{encode_ascii}
use borrow.Author.Tests.{ltb-true}
use lib.Utf8.{encode, next}
use Rattle.rbs_printer.specs.Words.{escape, escaped}

pub escaped-append : (xs ys : List ℕ) → escaped (xs ++ ys) ≡ escaped xs ++ escaped ys
escaped-append [] ys = refl
escaped-append (x ∷ xs) ys = ap (λ bs. escape x ++ bs) (escaped-append xs ys) ∙ sym (append_assoc (escape x) (escaped xs) (escaped ys))

-- a byte past ASCII stays as it is
escape_high : (b : ℕ) → 128 ≤ b → escape b ≡ b ∷ []
escape_high b h = grind (arith, nat_tests)

-- some bytes past ASCII stay as they are
abbrev IsKept : List ℕ → Type 0
IsKept bs = escaped bs ≡ bs

kept : (b : ℕ) (bs : List ℕ) → 128 ≤ b → IsKept bs → IsKept (b ∷ bs)
kept b bs h e = ap (λ x. x ++ escaped bs) (escape_high b h) ∙ ap (λ x. b ∷ x) e

choose : (b : Bool) (x y : List ℕ) → (b ≡ true → IsKept x) → (b ≡ false → IsKept y) → IsKept (cond b x y)
choose true x y f g = f refl
choose false x y f g = g refl

-- a character past ASCII stays as it is
pub escaped_past_ascii : (c : ℕ) → 128 ≤ c → escaped (encode c) ≡ encode c
unfolding encode
escaped_past_ascii c h =
    choose (ltb c 128) _ _ (λ e. absurd (omega (arith, ltb-true c 128 e)))
    (λ e. choose (ltb c 2048) _ _ (λ f. kept (192 + c / 64) _ (omega arith) (kept (next c) _ (omega arith) refl))
    (λ f. choose (ltb c 65536) _ _ (λ g. kept (224 + c / 4096) _ (omega arith) (kept (next (c / 64)) _ (omega arith) (kept (next c) _ (omega arith) refl)))
    (λ g. kept (240 + c / 262144) _ (omega arith) (kept (next (c / 4096)) _ (omega arith) (kept (next (c / 64)) _ (omega arith) (kept (next c) _ (omega arith) refl))))))

-- of a character of ASCII its byte is printed
pub escaped_ascii : (c : ℕ) → c < 128 → escaped (encode c) ≡ escape c
escaped_ascii c h = ap escaped (encode_ascii c h) ∙ append-nil (escape c)

escape_other : (c : ℕ) → c ≢ 34 → c ≢ 92 → c ≢ 10 → c ≢ 9 → escape c ≡ c ∷ []
escape_other c q b n t = grind (arith, nat_tests)

-- a character that needs no escape stays as it is
pub escaped_other : (c : ℕ) → c ≢ 34 → c ≢ 92 → c ≢ 10 → c ≢ 9 → escaped (encode c) ≡ encode c
escaped_other c q b n t = ⊎_elim
    (λ h. escaped_ascii c h ∙ escape_other c q b n t ∙ sym (encode_ascii c h))
    (λ h. escaped_past_ascii c h)
    (cases_lt c 128)

-- one character more
pub escaped_more : (c : ℕ) (out rest whole : List ℕ) → whole ≡ encode c ++ rest → out ++ escaped whole ≡ (out ++ escaped (encode c)) ++ escaped rest
escaped_more c out rest whole e = ap (λ bs. out ++ escaped bs) e ∙ ap (λ bs. out ++ bs) (escaped-append (encode c) rest) ∙ sym (append_assoc out (escaped (encode c)) (escaped rest))
