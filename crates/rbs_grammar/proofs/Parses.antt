-- Parsing a whole list of tokens: the tree that they spell, or the first place where they can't go on.
use Rattle.std.proofs.Common.{inr, ◌≡◌, List, [], ◌∷◌, ◌++◌, Result, Ok, Err, refl, sym, ◌∙◌, ap, subst, append_assoc}
use Rattle.std.proofs.lemmas.List.{append-nil}
use Rattle.rbs_lexer.specs.Tokens.{Token}
use Rattle.rbs_grammar.specs.Grammar.{spells, opens, Fault, syntax, deep, Outcome, read, barred}
use Rattle.rbs_grammar.specs.Levels.{Room, spell, spell_in, open_in, read_in}
use Rattle.rbs_grammar.specs.Declarations.{file}
use Rattle.rbs_grammar.specs.Parse.{Tree, Spells, Opens, CanGoOn, NoFurther, SyntaxAt, Refused, SpelledOrRefused, spells_tree, has_syntax_fault, is_too_deep, all_read, parse}
use Rattle.rbs_grammar.proofs.Acts.{Got, Stuck, Acts, Acting}
use Rattle.rbs_grammar.proofs.Rows.{ok_same}
use Rattle.rbs_grammar.proofs.Opens.{syntax≢deep}
use Rattle.rbs_grammar.proofs.Stays.{Same}
use Rattle.rbs_grammar.proofs.Rules.{file_fine, least}
use Rattle.rbs_grammar.proofs.Levels.{sample_made, over_sample_in, deepest_in, grammar_over_spells, grammar_acts, grammar_sound, grammar_complete, grammar_tells, grammar_truly}
use Rattle.rbs_grammar.proofs.Joins.{join, grammar_joins_right, grammar_stays}

-- ---- one tree

spells_reads : (n : Room) (ts : List Token) (x : Tree) → Spells n ts x → read (read_in n) file ts ≡ Ok (x, [])
unfolding Spells
spells_reads n ts x s = grammar_complete n file file_fine ts [] x s refl

-- Where a list is read to an end or to a syntax fault, only that end could be a tree's.
clash : (n m : Room) (ts : List Token) (x : Tree) (o : Outcome Tree) → read (read_in n) file ts ≡ o → Spells m ts x → Same o (Ok (x, []))
unfolding Spells
clash n m ts x o e s =
    let there = spells_reads (join n m) ts x (grammar_joins_right m n file ts [] x s) in
    subst (λ a. Same a (Ok (x, []))) e (subst (λ a. Same (read (read_in n) file ts) a) there (grammar_stays n m file ts))

pub one_tree : (n m : Room) (ts : List Token) (x y : Tree) → Spells n ts x → Spells m ts y → x ≡ y
one_tree n m ts x y s t = ap (λ r. r.0) (sym (ok_same (y, []) (x, []) (clash n m ts y (Ok (x, [])) (spells_reads n ts x s) t)))

-- ---- how a list could go on

acts : (n : Room) → Acting (read (read_in n) file) (spells (spell_in n) file) (spells (over_sample_in n) file) (barred file)
acts n = grammar_acts (spell least) sample_made n file file_fine

stuck_goes_on : (n : Room) (ts : List Token) (e : Fault) (at : List Token) → (a : Stuck (read (read_in n) file) (spells (over_sample_in n) file) (barred file) ts e at) → CanGoOn a.took
unfolding Spells
stuck_goes_on n ts e at a = record {
  room = deepest_in n;
  to_come = a.to_come ++ [];
  tree = a.value;
  spelled = grammar_over_spells n file (a.took ++ (a.to_come ++ [])) [] a.value (a.could [] refl);
}

got_goes_on : (n : Room) (ts : List Token) (x : Tree) (rest : List Token) → (a : Got (read (read_in n) file) (spells (spell_in n) file) (barred file) ts x rest) → CanGoOn a.took
unfolding Spells
got_goes_on n ts x rest a = record { room = n; to_come = []; tree = x; spelled = a.spelled [] (inr refl) }

longer : List Token → List Token → Token → List Token
longer front to_come t = front ++ t ∷ to_come

stuck_no_further : (n : Room) (ts at : List Token) → (a : Stuck (read (read_in n) file) (spells (over_sample_in n) file) (barred file) ts syntax at) → NoFurther a.took at
stuck_no_further n ts [] a = λ m x s. no_fault x (clash n m a.took x (Err (syntax, [])) (ap (read (read_in n) file) (sym (append-nil a.took)) ∙ a.again refl [] tt) s)
  where
    no_fault : (x : Tree) → ◌≡◌ {A = Outcome Tree} (Ok (x, [])) (Err (syntax, [])) → ⊥
    no_fault x h = cc
stuck_no_further n ts (t ∷ at) a = λ c. no_fault c.tree c.to_come (clash n c.room _ c.tree (Err (syntax, t ∷ c.to_come)) (ap (read (read_in n) file) (append_assoc a.took (t ∷ []) c.to_come) ∙ a.again refl (t ∷ c.to_come) refl) c.spelled)
  where
    no_fault : (x : Tree) (w : List Token) → ◌≡◌ {A = Outcome Tree} (Ok (x, [])) (Err (syntax, t ∷ w)) → ⊥
    no_fault x w h = cc

got_no_further : (n : Room) (ts : List Token) (x : Tree) (t : Token) (w : List Token) → (a : Got (read (read_in n) file) (spells (spell_in n) file) (barred file) ts x (t ∷ w)) → CanGoOn (a.took ++ t ∷ []) → ⊥
got_no_further n ts x t w a c = no_end (ok_same (c.tree, []) (x, t ∷ c.to_come) (clash n c.room _ c.tree (Ok (x, t ∷ c.to_come)) (ap (read (read_in n) file) (append_assoc a.took (t ∷ []) c.to_come) ∙ a.again (t ∷ c.to_come) refl) c.spelled))
  where
    no_end : ◌≡◌ {A = Tree × List Token} (c.tree, []) (x, t ∷ c.to_come) → ⊥
    no_end h = none (ap (λ r. r.1) h)
      where
        none : ◌≡◌ {A = List Token} [] (t ∷ c.to_come) → ⊥
        none h = cc

-- ---- the laws of parse

pub spelled_parses : (n : Room) (ts : List Token) (x : Tree) → Spells n ts x → parse n ts ≡ Ok x
unfolding parse
spelled_parses n ts x s = ap all_read (spells_reads n ts x s)

pub open_parses : (n : Room) (ts at : List Token) → Opens n ts at → parse n ts ≡ Err (deep, at)
unfolding parse Opens
open_parses n ts at o = ap all_read (grammar_tells n file file_fine ts at o)

abbrev pub Answers : Room → List Token → Result Tree (Fault × List Token) → Type 0
Answers n ts (Ok x) = Spells n ts x
Answers n ts (Err e) = Refused n ts e.0 e.1

answers : (n : Room) (ts : List Token) (o : Outcome Tree) → read (read_in n) file ts ≡ o → Acts (read (read_in n) file) (spells (spell_in n) file) (spells (over_sample_in n) file) (barred file) ts o → Answers n ts (all_read o)
unfolding Spells Opens
answers n ts (Ok (x, [])) e a = whole (grammar_sound n _ file file_fine ts [] x e)
  where
    whole : spells (spell_in n) file ts [] x → Spells n ts x
    whole s = s
answers n ts (Ok (x, t ∷ w)) e a = record { front = a.took; whole = a.was; viable = got_goes_on n ts x (t ∷ w) a; refused = got_no_further n ts x t w a }
answers n ts (Err (syntax, at)) e a = record { front = a.took; whole = a.was; viable = stuck_goes_on n ts syntax at a; refused = stuck_no_further n ts at a }
answers n ts (Err (deep, at)) e a = record { front = a.took; whole = a.was; viable = stuck_goes_on n ts deep at a; opens = there (grammar_truly n file file_fine ts at e) }
  where
    there : opens (spell_in n) (open_in n) file ts at → Opens n ts at
    there o = o

pub parse_answers : (n : Room) (ts : List Token) → Answers n ts (parse n ts)
unfolding parse
parse_answers n ts = answers n ts (read (read_in n) file ts) refl (acts n ts)

-- ---- by what it answers

pub tree_spelled : (n : Room) (ts : List Token) (x : Tree) → parse n ts ≡ Ok x → Spells n ts x
tree_spelled n ts x e = subst (λ o. Answers n ts o) e (parse_answers n ts)

pub fault_refused : (n : Room) (ts : List Token) (f : Fault) (at : List Token) → parse n ts ≡ Err (f, at) → Refused n ts f at
fault_refused n ts f at e = subst (λ o. Answers n ts o) e (parse_answers n ts)

clash_ok : (x : Tree) (e : Fault × List Token) → ◌≡◌ {A = Result Tree (Fault × List Token)} (Ok x) (Err e) → ⊥
clash_ok x e h = cc

pub tree_is : (n : Room) (ts : List Token) (x : Tree) → parse n ts ≡ Ok x → (y : Tree) → Spells n ts y → x ≡ y
tree_is n ts x e y s = one_tree n n ts x y (tree_spelled n ts x e) s

pub tree_not_deep : (n : Room) (ts : List Token) (x : Tree) → parse n ts ≡ Ok x → (at : List Token) → Opens n ts at → ⊥
tree_not_deep n ts x e at o = clash_ok x (deep, at) (sym e ∙ open_parses n ts at o)

pub fault_not_spelled : (n : Room) (ts : List Token) (f : Fault) (at : List Token) → parse n ts ≡ Err (f, at) → (x : Tree) → Spells n ts x → ⊥
fault_not_spelled n ts f at e x s = clash_ok x (f, at) (sym (spelled_parses n ts x s) ∙ e)

fault_same : (e f : Fault × List Token) → ◌≡◌ {A = Result Tree (Fault × List Token)} (Err e) (Err f) → e ≡ f
fault_same e f h = cc

pub syntax_not_deep : (n : Room) (ts at : List Token) → parse n ts ≡ Err (syntax, at) → (there : List Token) → Opens n ts there → ⊥
syntax_not_deep n ts at e there o = syntax≢deep (ap (λ r. r.0) (fault_same (syntax, at) (deep, there) (sym e ∙ open_parses n ts there o)))

pub deep_there : (n : Room) (ts at : List Token) → parse n ts ≡ Err (deep, at) → (there : List Token) → Opens n ts there → at ≡ there
deep_there n ts at e there o = ap (λ r. r.1) (fault_same (deep, at) (deep, there) (sym e ∙ open_parses n ts there o))

-- ---- the laws of the grammar

by_answer : (n : Room) (ts : List Token) (o : Result Tree (Fault × List Token)) → Answers n ts o → SpelledOrRefused n ts
by_answer n ts (Ok x) a = spells_tree x a
by_answer n ts (Err (syntax, at)) a = has_syntax_fault at a
by_answer n ts (Err (deep, at)) a = is_too_deep at a

pub spelled_or_refused : (n : Room) (ts : List Token) → SpelledOrRefused n ts
spelled_or_refused n ts = by_answer n ts (parse n ts) (parse_answers n ts)

pub spelled_not_deep : (n : Room) (ts : List Token) (x : Tree) (at : List Token) → Spells n ts x → Opens n ts at → ⊥
spelled_not_deep n ts x at s o = tree_not_deep n ts x (spelled_parses n ts x s) at o

refused_at : (n : Room) (ts : List Token) (x : Tree) (front at : List Token) → Spells n ts x → ts ≡ front ++ at → NoFurther front at → ⊥
refused_at n ts x front [] s e none = none n x (subst (λ l. Spells n l x) (e ∙ append-nil front) s)
refused_at n ts x front (t ∷ at) s e none = none (record { room = n; to_come = at; tree = x; spelled = subst (λ l. Spells n l x) (e ∙ sym (append_assoc front (t ∷ []) at)) s })

pub spelled_no_syntax_fault : (n : Room) (ts : List Token) (x : Tree) (at : List Token) → Spells n ts x → SyntaxAt ts at → ⊥
spelled_no_syntax_fault n ts x at s r = refused_at n ts x r.front at s r.whole r.refused
