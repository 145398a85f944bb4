-- A text has one answer, and parsing its tokens finds it.
use Rattle.std.proofs.Common.{◌≡◌, ℕ, List, [], ◌∷◌, ◌++◌, length, Option, Some, None, Result, Ok, Err, refl, sym, ◌∙◌, ap, subst, append_assoc}
use Rattle.std.proofs.lemmas.List.{append-nil}
use Rattle.src_text.specs.declared.span.Span.{Span}
use Rattle.rbs_lexer.specs.Tokens.{Token}
use Rattle.rbs_lexer.specs.Lexing.{IsLexed}
use Rattle.rbs_lexer.proofs.Lexings.{one_lexing}
use Rattle.rbs_grammar.specs.Grammar.{Fault, syntax, deep}
use Rattle.rbs_grammar.specs.Parse.{Tree, Spells, Opens, CanGoOn, NoFurther, SyntaxAt, DeepAt, parse}
use Rattle.rbs_grammar.specs.Texts.{room_of_texts, HasTree, stop_of, place_of, StopsAt, IsRefused, IsTooDeep, Answer, IsAnswer, answer_of}
use Rattle.rbs_grammar.proofs.Parses.{tree_spelled, fault_refused, tree_not_deep, syntax_not_deep, spelled_parses, open_parses, spelled_no_syntax_fault}

-- ---- what is answered is so

whole_goes_on : (ts : List Token) (x : Tree) → Spells room_of_texts ts x → CanGoOn ts
whole_goes_on ts x s = record { room = room_of_texts; to_come = []; tree = x; spelled = subst (λ l. Spells room_of_texts l x) (sym (append-nil ts)) s }

front_goes_on : (ts : List Token) → (a : SyntaxAt ts []) → CanGoOn ts
front_goes_on ts a = subst CanGoOn (sym (a.whole ∙ append-nil a.front)) a.viable

stops : (ts : List Token) (bad : Option Span) (at : List Token) → SyntaxAt ts at → StopsAt ts bad at
stops ts bad (t ∷ at) a = a
stops ts None [] a = a
stops ts (Some b) [] a = front_goes_on ts a

module _ (text : List ℕ) (tokens : List Token) where
  pub answers : (bad : Option Span) → IsLexed text tokens bad → (o : Result Tree (Fault × List Token)) → parse room_of_texts tokens ≡ o → IsAnswer text (answer_of (stop_of (length text) bad) bad o)
  answers None l (Ok x) e = (tokens, l, tree_spelled room_of_texts tokens x e)
  answers (Some b) l (Ok x) e = record {
    tokens = tokens;
    bad = Some b;
    lexed = l;
    at = [];
    stops = whole_goes_on tokens x (tree_spelled room_of_texts tokens x e);
    not_deep = tree_not_deep room_of_texts tokens x e;
    is_there = refl;
  }
  answers None l (Err (syntax, at)) e = record {
    tokens = tokens;
    bad = None;
    lexed = l;
    at = at;
    stops = stops tokens None at (fault_refused room_of_texts tokens syntax at e);
    not_deep = syntax_not_deep room_of_texts tokens at e;
    is_there = refl;
  }
  answers (Some b) l (Err (syntax, at)) e = record {
    tokens = tokens;
    bad = Some b;
    lexed = l;
    at = at;
    stops = stops tokens (Some b) at (fault_refused room_of_texts tokens syntax at e);
    not_deep = syntax_not_deep room_of_texts tokens at e;
    is_there = refl;
  }
  answers None l (Err (deep, at)) e = record { tokens = tokens; bad = None; lexed = l; at = at; deep = fault_refused room_of_texts tokens deep at e; is_there = refl }
  answers (Some b) l (Err (deep, at)) e = record { tokens = tokens; bad = Some b; lexed = l; at = at; deep = fault_refused room_of_texts tokens deep at e; is_there = refl }

-- ---- one place where it can't go on

-- Where a list is put together twice, the parts are the same, or the first front goes on into the second, or the second into the first.
pub data Meeting (f g a b : List Token) : Type 0 where
  together : a ≡ b → Meeting f g a b
  before : (t : Token) (u w : List Token) → g ≡ f ++ t ∷ u → a ≡ t ∷ w → Meeting f g a b
  behind : (t : Token) (u w : List Token) → f ≡ g ++ t ∷ u → b ≡ t ∷ w → Meeting f g a b

one_longer : (s t : Token) (f g a b : List Token) → s ≡ t → Meeting f g a b → Meeting (s ∷ f) (t ∷ g) a b
one_longer s t f g a b e (together h) = together h
one_longer s t f g a b e (before r u w h i) = before r u w (ap (λ l. t ∷ l) h ∙ ap (λ x. x ∷ (f ++ r ∷ u)) (sym e)) i
one_longer s t f g a b e (behind r u w h i) = behind r u w (ap (λ l. s ∷ l) h ∙ ap (λ x. x ∷ (g ++ r ∷ u)) e) i

head_same : (s t : Token) (l m : List Token) → s ∷ l ≡ t ∷ m → s ≡ t
head_same s t l m h = cc

tail_same : (s t : Token) (l m : List Token) → s ∷ l ≡ t ∷ m → l ≡ m
tail_same s t l m h = cc

meet : (f g a b : List Token) → f ++ a ≡ g ++ b → Meeting f g a b
meet [] [] a b e = together e
meet [] (t ∷ g) a b e = before t g (g ++ b) refl e
meet (s ∷ f) [] a b e = behind s f (f ++ a) refl (sym e)
meet (s ∷ f) (t ∷ g) a b e = one_longer s t f g a b (head_same s t (f ++ a) (g ++ b) e) (meet f g a b (tail_same s t (f ++ a) (g ++ b) e))

shorter_goes_on : (f : List Token) (t : Token) (u : List Token) → CanGoOn (f ++ t ∷ u) → CanGoOn (f ++ t ∷ [])
shorter_goes_on f t u c = record { room = c.room; to_come = u ++ c.to_come; tree = c.tree; spelled = subst (λ l. Spells c.room l c.tree) same c.spelled }
  where
    same : (f ++ t ∷ u) ++ c.to_come ≡ (f ++ t ∷ []) ++ (u ++ c.to_come)
    same = append_assoc f (t ∷ u) c.to_come ∙ sym (append_assoc f (t ∷ []) (u ++ c.to_come))

stuck_before : (f a : List Token) (t : Token) (u w g : List Token) → NoFurther f a → CanGoOn g → g ≡ f ++ t ∷ u → a ≡ t ∷ w → ⊥
stuck_before f a t u w g stuck c e h = subst (NoFurther f) h stuck (shorter_goes_on f t u (subst CanGoOn e c))

module _ (ts : List Token) where
  pub one_fault : (a b : List Token) → SyntaxAt ts a → SyntaxAt ts b → a ≡ b
  one_fault a b x y = go (meet x.front y.front a b (sym x.whole ∙ y.whole))
    where
      go : Meeting x.front y.front a b → a ≡ b
      go (together h) = h
      go (before t u w e h) = absurd (stuck_before x.front a t u w y.front x.refused y.viable e h)
      go (behind t u w e h) = absurd (stuck_before y.front b t u w x.front y.refused x.viable e h)

  none_before : (t : Token) (w : List Token) → ◌≡◌ {A = List Token} [] (t ∷ w) → ⊥
  none_before t w h = cc

  pub fault_at_end : (a : List Token) → SyntaxAt ts a → CanGoOn ts → a ≡ []
  fault_at_end a x c = go (meet x.front ts a [] (sym x.whole ∙ sym (append-nil ts)))
    where
      go : Meeting x.front ts a [] → a ≡ []
      go (together h) = h
      go (before t u w e h) = absurd (stuck_before x.front a t u w ts x.refused c e h)
      go (behind t u w e h) = absurd (none_before t w h)

  pub stops_once : (bad : Option Span) (at there : List Token) → SyntaxAt ts at → StopsAt ts bad there → at ≡ there
  stops_once bad at (t ∷ there) x s = one_fault at (t ∷ there) x s
  stops_once None at [] x s = one_fault at [] x s
  stops_once (Some b) at [] x s = fault_at_end at x s

-- ---- nothing else is so

module _ (text : List ℕ) (tokens : List Token) (bad : Option Span) (one : (these : List Token) (other : Option Span) → IsLexed text these other → (tokens ≡ these) × (bad ≡ other)) where
  one_answer_tree : (x : Tree) → HasTree text x → answer_of (stop_of (length text) bad) bad (parse room_of_texts tokens) ≡ Ok x
  one_answer_tree x h =
      let same = one h.0 None h.1 in
      ap (λ b. answer_of (stop_of (length text) b) b (parse room_of_texts tokens)) same.1
      ∙ ap (λ o. answer_of (stop_of (length text) None) None o) (ap (parse room_of_texts) same.0 ∙ spelled_parses room_of_texts h.0 x h.2)

  one_answer_deep : (span : Span) → IsTooDeep text span → answer_of (stop_of (length text) bad) bad (parse room_of_texts tokens) ≡ Err (deep, span)
  one_answer_deep span h =
      let same = one h.tokens h.bad h.lexed in
      ap (λ b. answer_of (stop_of (length text) b) b (parse room_of_texts tokens)) same.1
      ∙ ap (answer_of (stop_of (length text) h.bad) h.bad) (ap (parse room_of_texts) same.0 ∙ open_parses room_of_texts h.tokens h.at h.deep.opens)
      ∙ ap (λ s. Err (deep, s)) (sym h.is_there)

  refused_by : (ts : List Token) (b : Option Span) (at : List Token) → StopsAt ts b at → ((there : List Token) → Opens room_of_texts ts there → ⊥) → (o : Result Tree (Fault × List Token)) → parse room_of_texts ts ≡ o
      → answer_of (stop_of (length text) b) b o ≡ Err (syntax, place_of (stop_of (length text) b) at)
  refused_by ts None (t ∷ at) s shallow (Ok x) e = absurd (spelled_no_syntax_fault room_of_texts ts x (t ∷ at) (tree_spelled room_of_texts ts x e) s)
  refused_by ts None [] s shallow (Ok x) e = absurd (spelled_no_syntax_fault room_of_texts ts x [] (tree_spelled room_of_texts ts x e) s)
  refused_by ts (Some b) (t ∷ at) s shallow (Ok x) e = absurd (spelled_no_syntax_fault room_of_texts ts x (t ∷ at) (tree_spelled room_of_texts ts x e) s)
  refused_by ts (Some b) [] s shallow (Ok x) e = refl
  refused_by ts None at s shallow (Err (syntax, there)) e = ap (λ l. Err (syntax, place_of (stop_of (length text) None) l)) (stops_once ts None there at (fault_refused room_of_texts ts syntax there e) s)
  refused_by ts (Some b) at s shallow (Err (syntax, there)) e = ap (λ l. Err (syntax, place_of (stop_of (length text) (Some b)) l)) (stops_once ts (Some b) there at (fault_refused room_of_texts ts syntax there e) s)
  refused_by ts b at s shallow (Err (deep, there)) e = let d : DeepAt room_of_texts ts there = fault_refused room_of_texts ts deep there e in absurd (shallow there d.opens)

  one_answer_refused : (span : Span) → IsRefused text span → answer_of (stop_of (length text) bad) bad (parse room_of_texts tokens) ≡ Err (syntax, span)
  one_answer_refused span h =
      let same = one h.tokens h.bad h.lexed in
      ap (λ b. answer_of (stop_of (length text) b) b (parse room_of_texts tokens)) same.1
      ∙ ap (λ ts. answer_of (stop_of (length text) h.bad) h.bad (parse room_of_texts ts)) same.0
      ∙ refused_by h.tokens h.bad h.at h.stops h.not_deep (parse room_of_texts h.tokens) refl ∙ ap (λ s. Err (syntax, s)) (sym h.is_there)

  pub one_answer : (a : Answer) → IsAnswer text a → answer_of (stop_of (length text) bad) bad (parse room_of_texts tokens) ≡ a
  one_answer (Ok x) h = one_answer_tree x h
  one_answer (Err (syntax, span)) h = one_answer_refused span h
  one_answer (Err (deep, span)) h = one_answer_deep span h

-- ---- one answer

-- the tokens of a text that has an answer
pub record IsTokenized (text : List ℕ) : Type 0 where
  pub tokens : List Token
  pub bad : Option Span
  pub lexed : IsLexed text tokens bad

tokens_of_answer : (text : List ℕ) (a : Answer) → IsAnswer text a → IsTokenized text
tokens_of_answer text (Ok x) h = record { tokens = h.0; bad = None; lexed = h.1 }
tokens_of_answer text (Err (syntax, span)) h = record { tokens = h.tokens; bad = h.bad; lexed = h.lexed }
tokens_of_answer text (Err (deep, span)) h = record { tokens = h.tokens; bad = h.bad; lexed = h.lexed }

pub only_answer : (text : List ℕ) (a b : Answer) → IsAnswer text a → IsAnswer text b → a ≡ b
only_answer text a b x y =
    let t = tokens_of_answer text a x in
    let one : (these : List Token) (other : Option Span) → IsLexed text these other → (t.tokens ≡ these) × (t.bad ≡ other) = λ these other l. one_lexing text t.tokens these t.bad other t.lexed l in
    sym (one_answer text t.tokens t.bad one a x) ∙ one_answer text t.tokens t.bad one b y
