-- Texts behind other texts.
use Rattle.std.proofs.Common.{◌≡◌, ℕ, Bool, true, false, List, [], ◌∷◌, ◌++◌, map, refl, ◌∙◌, sym, ap, ◌+◌, ◌<◌, ◌≤◌, length, take, drop, slice_index_or, codes, arith}
use Rattle.std.proofs.lemmas.List.{append-nil, map-append, map_more}
use mathlib.Core.List.{append_assoc}
use Rattle.rbs_tree.specs.declared.types.Ty.{Ty}
use Rattle.rbs_printer.specs.declared.level.Level.{Level}
use Rattle.rbs_printer.specs.Lists.{comma, continued, has_begun}
use Rattle.rbs_printer.specs.Words.{behind_each, listed}
use Rattle.rbs_printer.specs.Printed.{Printed, placed, and_parts, parts, printed, signed}

-- parts behind a text that other text stands before
pub and_parts_text : (sign : List ℕ) (wanted : Level) (before text : List ℕ) (leads : Bool) (ps : List Printed)
    → (and_parts sign wanted (before ++ text) leads ps).text ≡ before ++ (and_parts sign wanted text leads ps).text
and_parts_text sign wanted before text leads [] = refl
and_parts_text sign wanted before text leads (p ∷ ps) =
    let part = placed wanted leads p in
    let e : (before ++ text) ++ (sign ++ part.text) ≡ before ++ (text ++ (sign ++ part.text)) = append_assoc before text (sign ++ part.text) in
    ap (λ t. (and_parts sign wanted t part.leads ps).text) e ∙ and_parts_text sign wanted before (text ++ (sign ++ part.text)) part.leads ps

pub and_parts_leads : (sign : List ℕ) (wanted : Level) (text other : List ℕ) (leads : Bool) (ps : List Printed)
    → (and_parts sign wanted text leads ps).leads ≡ (and_parts sign wanted other leads ps).leads
and_parts_leads sign wanted text other leads [] = refl
and_parts_leads sign wanted text other leads (p ∷ ps) =
    let part = placed wanted leads p in
    and_parts_leads sign wanted (text ++ (sign ++ part.text)) (other ++ (sign ++ part.text)) part.leads ps

-- with no sign before them texts stay
pub signed_none : (texts : List (List ℕ)) → signed [] texts ≡ texts
signed_none [] = refl
signed_none (text ∷ texts) = ap (λ ts. text ∷ ts) (signed_none texts)

-- the first part and then the others
pub parts_text : (sign : List ℕ) (wanted : Level) (behind : Bool) (out : List ℕ) (tys : List Ty) (first : Ty) → 1 ≤ length tys → first ≡ slice_index_or tys 0 first
    → (and_parts sign wanted (out ++ (placed wanted behind (printed first)).text) (placed wanted behind (printed first)).leads (map printed (drop 1 tys))).text
    ≡ out ++ (parts sign wanted (map printed tys) behind).text
parts_text sign wanted behind out [] first h e = absurd (omega arith)
parts_text sign wanted behind out (ty ∷ tys) first h e =
    ap (λ x. (and_parts sign wanted (out ++ (placed wanted behind (printed x)).text) (placed wanted behind (printed x)).leads (map printed tys)).text) e
    ∙ and_parts_text sign wanted out (placed wanted behind (printed ty)).text (placed wanted behind (printed ty)).leads (map printed tys)

pub parts_leads : (sign : List ℕ) (wanted : Level) (behind : Bool) (text : List ℕ) (tys : List Ty) (first : Ty) → 1 ≤ length tys → first ≡ slice_index_or tys 0 first
    → (and_parts sign wanted text (placed wanted behind (printed first)).leads (map printed (drop 1 tys))).leads
    ≡ (parts sign wanted (map printed tys) behind).leads
parts_leads sign wanted behind text [] first h e = absurd (omega arith)
parts_leads sign wanted behind text (ty ∷ tys) first h e =
    ap (λ x. (and_parts sign wanted text (placed wanted behind (printed x)).leads (map printed tys)).leads) e
    ∙ and_parts_leads sign wanted text (placed wanted behind (printed ty)).text (placed wanted behind (printed ty)).leads (map printed tys)

-- texts of a list, each with a comma before it but the first

behind_each-append : (sign : List ℕ) (xs ys : List (List ℕ)) → behind_each sign (xs ++ ys) ≡ behind_each sign xs ++ behind_each sign ys
behind_each-append sign [] ys = refl
behind_each-append sign (x ∷ xs) ys =
    ap (λ t. sign ++ (x ++ t)) (behind_each-append sign xs ys)
    ∙ ap (λ t. sign ++ t) (sym (append_assoc x (behind_each sign xs) (behind_each sign ys)))
    ∙ sym (append_assoc sign (x ++ behind_each sign xs) (behind_each sign ys))

-- a list goes on behind its front
pub continued-append : (begun : Bool) (xs ys : List (List ℕ)) → continued begun (xs ++ ys) ≡ continued begun xs ++ continued (has_begun begun xs) ys
continued-append true [] ys = refl
continued-append false [] ys = refl
continued-append true (x ∷ xs) ys = behind_each-append (codes ", ") (x ∷ xs) ys
continued-append false (x ∷ xs) ys = ap (λ t. x ++ t) (behind_each-append (codes ", ") xs ys) ∙ sym (append_assoc x (behind_each (codes ", ") xs) (behind_each (codes ", ") ys))

-- one text more
continued_one : (begun : Bool) (text : List ℕ) → continued begun (text ∷ []) ≡ comma begun ++ text
continued_one true text = ap (λ t. codes ", " ++ t) (append-nil text)
continued_one false text = append-nil text

pub continued_more : (begun : Bool) (texts : List (List ℕ)) (text : List ℕ) → continued begun (texts ++ text ∷ []) ≡ continued begun texts ++ (comma (has_begun begun texts) ++ text)
continued_more begun texts text = continued-append begun texts (text ∷ []) ∙ ap (λ t. continued begun texts ++ t) (continued_one (has_begun begun texts) text)

pub has_begun-append : (begun : Bool) (xs ys : List (List ℕ)) → has_begun begun (xs ++ ys) ≡ has_begun (has_begun begun xs) ys
has_begun-append begun [] ys = refl
has_begun-append begun (x ∷ xs) [] = refl
has_begun-append begun (x ∷ xs) (y ∷ ys) = refl

pub has_begun_more : (begun : Bool) (texts : List (List ℕ)) (text : List ℕ) → has_begun begun (texts ++ text ∷ []) ≡ true
has_begun_more begun [] text = refl
has_begun_more begun (t ∷ texts) text = refl

-- one text more behind what is printed
pub list_more : (begun b : Bool) (before after : List (List ℕ)) (text start out mid now : List ℕ)
    → after ≡ before ++ text ∷ [] → out ≡ start ++ continued begun before → b ≡ has_begun begun before → mid ≡ out ++ comma b → now ≡ mid ++ text
    → (now ≡ start ++ continued begun after) × (true ≡ has_begun begun after)
list_more begun b before after text start out mid now a o h m n = (
  n ∙ ap (λ t. t ++ text) (m ∙ both_appended o (ap comma h)) ∙ append_assoc (start ++ continued begun before) (comma (has_begun begun before)) text
      ∙ append_assoc start (continued begun before) (comma (has_begun begun before) ++ text)
      ∙ ap (λ t. start ++ t) (sym (continued_more begun before text) ∙ ap (continued begun) (sym a)),
  sym (ap (has_begun begun) a ∙ has_begun_more begun before text),
)
  where
    both_appended : {a b c d : List ℕ} → a ≡ b → c ≡ d → a ++ c ≡ b ++ d
    both_appended p q = λ i. p i ++ q i

-- the text of the next item
pub next_text : {A : Type 0} (f : A → List ℕ) (xs : List A) (i : ℕ) (x : A) → i < length xs → x ≡ slice_index_or xs i x → map f (take (i + 1) xs) ≡ map f (take i xs) ++ f x ∷ []
next_text f xs i x h e = map_more f xs i x h ∙ ap (λ y. map f (take i xs) ++ f y ∷ []) (sym e)

pub next_text_of : {A B : Type 0} (g : B → List ℕ) (f : A → B) (xs : List A) (i : ℕ) (x : A) → i < length xs → x ≡ slice_index_or xs i x
    → map g (map f (take (i + 1) xs)) ≡ map g (map f (take i xs)) ++ g (f x) ∷ []
next_text_of g f xs i x h e = ap (map g) (map_more f xs i x h ∙ ap (λ y. map f (take i xs) ++ f y ∷ []) (sym e)) ∙ map-append g (map f (take i xs)) (f x ∷ [])

-- what is printed of six lists in a row
six : (out : List ℕ) (a b c d e f : List (List ℕ)) →
    let p = has_begun false a in let q = has_begun p b in let r = has_begun q c in let s = has_begun r d in let t = has_begun s e in
    (((((out ++ continued false a) ++ continued p b) ++ continued q c) ++ continued r d) ++ continued s e) ++ continued t f ≡ out ++ listed (a ++ (b ++ (c ++ (d ++ (e ++ f)))))
six out a b c d e f =
    let p = has_begun false a in let q = has_begun p b in let r = has_begun q c in let s = has_begun r d in let t = has_begun s e in
    let ta = continued false a in let tb = continued p b in let tc = continued q c in let td = continued r d in let te = continued s e in let tf = continued t f in
    append_assoc ((((out ++ ta) ++ tb) ++ tc) ++ td) te tf ∙ append_assoc (((out ++ ta) ++ tb) ++ tc) td (te ++ tf) ∙ append_assoc ((out ++ ta) ++ tb) tc (td ++ (te ++ tf))
    ∙ append_assoc (out ++ ta) tb (tc ++ (td ++ (te ++ tf))) ∙ append_assoc out ta (tb ++ (tc ++ (td ++ (te ++ tf))))
    ∙ ap (λ x. out ++ x) (sym (continued-append false a (b ++ (c ++ (d ++ (e ++ f))))
    ∙ ap (λ x. ta ++ x) (continued-append p b (c ++ (d ++ (e ++ f)))
    ∙ ap (λ x. tb ++ x) (continued-append q c (d ++ (e ++ f))
    ∙ ap (λ x. tc ++ x) (continued-append r d (e ++ f)
    ∙ ap (λ x. td ++ x) (continued-append s e f))))))

-- six lists printed one after the other, two of them with no sign
pub in_turn : (o u v w x y z : List ℕ) (p q r s t : Bool) (a b c d e f a' b' d' e' : List (List ℕ))
    → a' ≡ signed [] a → b' ≡ b → d' ≡ signed [] d → e' ≡ e
    → u ≡ o ++ continued false a' → p ≡ has_begun false a' → v ≡ u ++ continued p b' → q ≡ has_begun p b' → w ≡ v ++ continued q c → r ≡ has_begun q c
    → x ≡ w ++ continued r d' → s ≡ has_begun r d' → y ≡ x ++ continued s e' → t ≡ has_begun s e' → z ≡ y ++ continued t f
    → z ≡ o ++ listed (a ++ (b ++ (c ++ (d ++ (e ++ f)))))
in_turn o u v w x y z p q r s t a b c d e f a' b' d' e' ha hb hd he hu hp hv hq hw hr hx hs hy ht hz =
    let h = signed_none a in let k = signed_none d in cc (six o a b c d e f)
