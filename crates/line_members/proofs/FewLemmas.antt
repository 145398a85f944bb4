-- What a step gives is told by what there is behind it of the few names that may count there.
use Rattle.std.proofs.Common.{◌≡◌, ℕ, zero, suc, Bool, true, false, not, ◌&&◌, ◌||◌, if◌then◌else◌, List, [], ◌∷◌, ◌++◌, length, map, filter, refl, sym, ap, subst, ◌∙◌, ◌⊎◌, inl, inr, Option, None, Some}
use Rattle.std.specs.Bool.{Decides}
use Rattle.std.specs.List.{IsDistinct, list_any}
use Rattle.std.specs.Map.{keys_of}
use Rattle.std.specs.Option.{is_some}
use Rattle.std.proofs.lemmas.Bool.{and_parts}
use Rattle.rbs_tree.specs.declared.types.MethodType.{MethodType}
use Rattle.sig_rules.specs.declared.given.GivenMethod.{GivenMethod}
use Rattle.sig_rules.specs.declared.given.What.{What}
use Rattle.sig_rules.specs.declared.given.What.TheVariants.{Whole, Further, AliasOf}
use Rattle.sig_rules.specs.declared.line.Step.{Step}
use Rattle.sig_rules.specs.declared.method.Method.{Method}
use Rattle.sig_rules.specs.declared.method.Visibility.{Visibility}
use Rattle.sig_rules.specs.Methods.{Made, Placed, at_step, first_made, is_dead, living, living_after, of_name, once_more, or_else, placed_from, same_word, with_all}
use Rattle.sig_rules.specs.Methods as methods
use Rattle.sig_rules.specs.Worlds.{by_name}
use Rattle.method_steps.specs.Steps.{alive, declared_from, elsewhere}
use Rattle.method_steps.proofs.AliveLemmas.{OldAlike, each_living, same_living}
use Rattle.method_steps.proofs.SlotsLive.{Each, each_as}
use Rattle.line_members.specs.Along.{HasGiven, IsListed, is_given, is_wanted, wants}
use Rattle.line_members.proofs.EntryLemmas.{seen_more}
use Rattle.line_members.proofs.CountLemmas.{any_map, any_placed_by, living_is_given, of_name_found, or_left, or_right}
use Rattle.line_members.proofs.WordLemmas.{same_both_ways, same_of_itself, true_not_false, word_decides}

-- one name more in a table of names
pub noted : {W : Type 0} (old new : List (List ℕ × W)) (name : List ℕ) (w : W) →
    ((other : List ℕ) → by_name new other ≡ (if same_word name other then Some w else by_name old other)) →
    (other : List ℕ) → is_some (by_name new other) ≡ (is_some (by_name old other) || same_word other name)
noted {W} old new name w put other = ap is_some (put other) ∙ ap (λ b. is_some (if b then Some w else by_name old other)) (same_both_ways name other) ∙ one (same_word other name) (by_name old other)
  where
    one : (b : Bool) (o : Option W) → is_some (if b then Some w else o) ≡ (is_some o || b)
    one true None = refl
    one true (Some v) = refl
    one false None = refl
    one false (Some v) = refl

-- the same by a copy of the name
pub noted_copy : {W : Type 0} (old new : List (List ℕ × W)) (word name : List ℕ) (w : W) → word ≡ name →
    ((other : List ℕ) → by_name new other ≡ (if same_word word other then Some w else by_name old other)) →
    (other : List ℕ) → is_some (by_name new other) ≡ (is_some (by_name old other) || same_word other name)
noted_copy old new word name w same put other = noted old new word w put other ∙ ap (λ n. is_some (by_name old other) || same_word other n) same

-- the same in a list, at whose end the name is put
pub added_copy : {W : Type 0} (old new : List (List ℕ × W)) (word name : List ℕ) (w : W) → word ≡ name →
    new ≡ old ++ (word, w) ∷ [] →
    (other : List ℕ) → is_some (by_name new other) ≡ (is_some (by_name old other) || same_word other name)
added_copy old new word name w same put other =
    ap (λ es. is_some (by_name es other)) put
    ∙ seen_more old (word, w) other
    ∙ ap (λ n. same_word other n || is_some (by_name old other)) same
    ∙ either_order (same_word other name) (is_some (by_name old other))
  where
    either_order : (a b : Bool) → (a || b) ≡ (b || a)
    either_order true true = refl
    either_order true false = refl
    either_order false true = refl
    either_order false false = refl

-- ---- the declarations of a name

each_named : (P : GivenMethod → Type 0) (name : List ℕ) (gs : List GivenMethod) → Each P gs → Each (λ (g : GivenMethod). (name ≡ g.name) × P g) (of_name name gs)
each_named P name [] h = tt
each_named P name (g ∷ gs) h = by_test (same_word name g.name) (word_decides name g.name) (each_named P name gs h.1)
  where
    by_test : (b : Bool) → Decides b (name ≡ g.name) → Each (λ (x : GivenMethod). (name ≡ x.name) × P x) (of_name name gs) →
        Each (λ (x : GivenMethod). (name ≡ x.name) × P x) (if b then g ∷ of_name name gs else of_name name gs)
    by_test true same rest = ((same.0 refl, h.0), rest)
    by_test false other rest = rest

-- ---- a method with all its declarations

-- what is behind a name, and what old names have, agree where a declaration asks for it
abbrev Asked : Option Method → Option Method → (List ℕ → Option Method) → (List ℕ → Option Method) → What → Type 0
Asked b c o p (Whole overloads) = Unit {0}
Asked b c o p (Further overloads) = b ≡ c
Asked b c o p (AliasOf old) = o old ≡ p old

same_once_more : (step : Step) (b c : Option Method) (o p : List ℕ → Option Method) (so_far : Option Method) (name : List ℕ) (visible : Visibility) (w : What) → Asked b c o p w →
    once_more step b o so_far (record { name = name; visible = visible; what = w }) ≡ once_more step c p so_far (record { name = name; visible = visible; what = w })
same_once_more step b c o p so_far name visible (Whole overloads) h = refl
same_once_more step b c o p so_far name visible (Further overloads) h = ap (λ (m : Option Method). once_more step m o so_far (record { name = name; visible = visible; what = Further overloads })) h
same_once_more step b c o p so_far name visible (AliasOf old) h = ap (or_else so_far) h

same_with_all : (step : Step) (b c : Option Method) (o p : List ℕ → Option Method) (so_far : Option Method) (gs : List GivenMethod) → Each (λ (g : GivenMethod). Asked b c o p g.what) gs →
    with_all step b o so_far gs ≡ with_all step c p so_far gs
same_with_all step b c o p so_far [] h = refl
same_with_all step b c o p so_far (g ∷ gs) h =
    ap (λ (m : Option Method). with_all step b o m gs) (same_once_more step b c o p so_far g.name g.visible g.what h.0)
    ∙ same_with_all step b c o p (once_more step c p so_far g) gs h.1

-- ---- a name at a step

-- what is behind a step and what is elsewhere agree where a declaration may ask for it
abbrev Alike : (List ℕ → Option Method) → (List ℕ → Option Method) → (List ℕ → Option Method) → (List ℕ → Option Method) → List ℕ → What → Type 0
Alike b c e f name (Whole overloads) = Unit {0}
Alike b c e f name (Further overloads) = b name ≡ c name
Alike b c e f name (AliasOf old) = e old ≡ f old

is_asked : (b c e f o p : List ℕ → Option Method) → ((old : List ℕ) → e old ≡ f old → o old ≡ p old) →
    (name own : List ℕ) (w : What) → name ≡ own → Alike b c e f own w → Asked (b name) (c name) o p w
is_asked b c e f o p again name own (Whole overloads) is h = tt
is_asked b c e f o p again name own (Further overloads) is h = ap b is ∙ h ∙ ap c (sym is)
is_asked b c e f o p again name own (AliasOf old) is h = again old h

none_at : (turns : ℕ) (step : Step) (b e : List ℕ → Option Method) (gs : List GivenMethod) (name : List ℕ) → of_name name gs ≡ [] → at_step (suc turns) step b e gs name ≡ e name
none_at turns step b e gs name is = rw is refl

some_at : (turns : ℕ) (step : Step) (b e : List ℕ → Option Method) (gs : List GivenMethod) (name : List ℕ) (x : GivenMethod) (xs : List GivenMethod) → of_name name gs ≡ x ∷ xs →
    at_step (suc turns) step b e gs name ≡ with_all step (b name) (at_step turns step b e gs) None (of_name name gs)
some_at turns step b e gs name x xs is = rw is refl

same_at_step : (turns : ℕ) (step : Step) (b c e f : List ℕ → Option Method) (gs : List GivenMethod) → Each (λ (g : GivenMethod). Alike b c e f g.name g.what) gs →
    (name : List ℕ) → (of_name name gs ≡ [] → e name ≡ f name) → at_step turns step b e gs name ≡ at_step turns step c f gs name
same_at_step zero step b c e f gs h name at = refl
same_at_step (suc turns) step b c e f gs h name at =
    by_named (of_name name gs) refl
    (same_with_all step (b name) (c name) (at_step turns step b e gs) (at_step turns step c f gs) None (of_name name gs)
    (each_as (λ (g : GivenMethod). (name ≡ g.name) × Alike b c e f g.name g.what) (λ (g : GivenMethod). Asked (b name) (c name) (at_step turns step b e gs) (at_step turns step c f gs) g.what) (of_name name gs)
    (λ g both. is_asked b c e f (at_step turns step b e gs) (at_step turns step c f gs) (λ old is. same_at_step turns step b c e f gs h old (λ none. is)) name g.name g.what both.0 both.1)
    (each_named (λ (g : GivenMethod). Alike b c e f g.name g.what) name gs h)))
  where
    by_named : (xs : List GivenMethod) → of_name name gs ≡ xs →
        with_all step (b name) (at_step turns step b e gs) None (of_name name gs) ≡ with_all step (c name) (at_step turns step c f gs) None (of_name name gs) →
        at_step (suc turns) step b e gs name ≡ at_step (suc turns) step c f gs name
    by_named [] is same = none_at turns step b e gs name is ∙ at is ∙ sym (none_at turns step c f gs name is)
    by_named (x ∷ xs) is same = some_at turns step b e gs name x xs is ∙ same ∙ sym (some_at turns step c f gs name x xs is)

-- ---- a method that is declared with all its overloads lives

abbrev is_whole : What → Bool
is_whole (Whole overloads) = true
is_whole other = false

abbrev whole_of : List ℕ → GivenMethod → Bool
whole_of name g = same_word name g.name && is_whole g.what

whole_lives : (e : List ℕ → Bool) (ps : List Placed) (place : ℕ) (name : List ℕ) (visible : Visibility) (w : What) → is_whole w ≡ true →
    is_dead e ps (record { place = place; given = record { name = name; visible = visible; what = w } }) ≡ false
whole_lives e ps place name visible (Whole overloads) is = refl
whole_lives e ps place name visible (Further overloads) is = absurd (true_not_false (sym is))
whole_lives e ps place name visible (AliasOf old) is = absurd (true_not_false (sym is))

stays : (name : List ℕ) (e : List ℕ → Bool) (all ps : List Placed) → list_any (λ (p : Placed). whole_of name p.given) ps ≡ true →
    list_any (λ (p : Placed). whole_of name p.given) (filter (λ p. not (is_dead e all p)) ps) ≡ true
stays name e all [] there = there
stays name e all (p ∷ ps) there =
    one (whole_of name p.given) (is_dead e all p) refl
    (λ is. whole_lives e all p.place p.given.name p.given.visible p.given.what (and_parts (same_word name p.given.name) (is_whole p.given.what) is).1)
    there (stays name e all ps)
  where
    test : Placed → Bool
    test q = whole_of name q.given

    kept : List Placed
    kept = filter (λ q. not (is_dead e all q)) ps

    one : (t d : Bool) → test p ≡ t → (t ≡ true → d ≡ false) → (t || list_any test ps) ≡ true → (list_any test ps ≡ true → list_any test kept ≡ true) →
        list_any test (if not d then p ∷ kept else kept) ≡ true
    one true true is lives there rest = absurd (true_not_false (lives refl))
    one true false is lives there rest = ap (λ b. b || list_any test kept) is
    one false true is lives there rest = rest there
    one false false is lives there rest = or_right (test p) (list_any test kept) (rest there)

stays_after : (name : List ℕ) (e : List ℕ → Bool) (turns : ℕ) (ps : List Placed) → list_any (λ (p : Placed). whole_of name p.given) ps ≡ true →
    list_any (λ (p : Placed). whole_of name p.given) (living_after turns e ps) ≡ true
stays_after name e zero ps there = there
stays_after name e (suc turns) ps there = stays_after name e turns (filter (λ p. not (is_dead e ps p)) ps) (stays name e ps ps there)

whole_is_alive : (name : List ℕ) (e : List ℕ → Bool) (gs : List GivenMethod) → list_any (whole_of name) gs ≡ true → list_any (whole_of name) (living e gs) ≡ true
whole_is_alive name e gs there =
    any_map (λ (p : Placed). p.given) (whole_of name) (living_after (length gs) e (placed_from 0 gs))
    ∙ stays_after name e (length gs) (placed_from 0 gs) (any_placed_by (whole_of name) 0 gs ∙ there)

none_of_name : (name : List ℕ) (gs : List GivenMethod) → of_name name gs ≡ [] → list_any (whole_of name) gs ≡ false
none_of_name name [] is = refl
none_of_name name (g ∷ gs) is = by_test (same_word name g.name) is (none_of_name name gs)
  where
    by_test : (b : Bool) → (if b then g ∷ of_name name gs else of_name name gs) ≡ [] → (of_name name gs ≡ [] → list_any (whole_of name) gs ≡ false) →
        ((b && is_whole g.what) || list_any (whole_of name) gs) ≡ false
    by_test true is rest = absurd (let no : g ∷ of_name name gs ≡ [] = is in cc)
    by_test false is rest = rest is

-- ---- two tables of what is behind a step

-- they agree where they may count for a method that is given
abbrev Agrees : (List ℕ → Option Method) → (List ℕ → Option Method) → List ℕ → What → Type 0
Agrees b c own (Whole overloads) = Unit {0}
Agrees b c own (Further overloads) = b own ≡ c own
Agrees b c own (AliasOf old) = (b own ≡ c own) × (b old ≡ c old)

agree_at_old : (made : Made) (steps : List Step) (b c : List ℕ → Option Method) (own : List ℕ) (w : What) → Agrees b c own w →
    OldAlike (λ name. methods.is_some (elsewhere made steps b name)) (λ name. methods.is_some (elsewhere made steps c name)) w
agree_at_old made steps b c own (Whole overloads) h = tt
agree_at_old made steps b c own (Further overloads) h = tt
agree_at_old made steps b c own (AliasOf old) h = ap (λ (m : Option Method). methods.is_some (or_else m (first_made made steps old))) h.1

agree_around : (made : Made) (rest steps : List Step) (b c : List ℕ → Option Method) (own : List ℕ) (w : What) → Agrees b c own w →
    Alike (elsewhere made rest b) (elsewhere made rest c) (elsewhere made steps b) (elsewhere made steps c) own w
agree_around made rest steps b c own (Whole overloads) h = tt
agree_around made rest steps b c own (Further overloads) h = ap (λ (m : Option Method). or_else m (first_made made rest own)) h
agree_around made rest steps b c own (AliasOf old) h = ap (λ (m : Option Method). or_else m (first_made made steps old)) h.1

-- at a name that is given they agree, or all its overloads are given
agree_or_whole : (b c : List ℕ → Option Method) (name : List ℕ) (gs : List GivenMethod) → Each (λ (g : GivenMethod). Agrees b c g.name g.what) gs → is_given gs name ≡ true →
    (b name ≡ c name) ⊎ (list_any (whole_of name) gs ≡ true)
agree_or_whole b c name [] h there = absurd (true_not_false (sym there))
agree_or_whole b c name (g ∷ gs) h there = by_test (same_word name g.name) (word_decides name g.name) refl there (agree_or_whole b c name gs h.1)
  where
    by_what : (w : What) → name ≡ g.name → Agrees b c g.name w → (b name ≡ c name) ⊎ ((is_whole w || list_any (whole_of name) gs) ≡ true)
    by_what (Whole overloads) is agrees = inr refl
    by_what (Further overloads) is agrees = inl (ap b is ∙ agrees ∙ ap c (sym is))
    by_what (AliasOf old) is agrees = inl (ap b is ∙ agrees.0 ∙ ap c (sym is))

    further : (t : Bool) → (b name ≡ c name) ⊎ (list_any (whole_of name) gs ≡ true) → (b name ≡ c name) ⊎ ((t || list_any (whole_of name) gs) ≡ true)
    further t (inl is) = inl is
    further t (inr there) = inr (or_right t (list_any (whole_of name) gs) there)

    by_test : (t : Bool) → Decides t (name ≡ g.name) → same_word name g.name ≡ t → (t || list_any (λ (x : GivenMethod). same_word name x.name) gs) ≡ true →
        (is_given gs name ≡ true → (b name ≡ c name) ⊎ (list_any (whole_of name) gs ≡ true)) →
        (b name ≡ c name) ⊎ (((t && is_whole g.what) || list_any (whole_of name) gs) ≡ true)
    by_test true same is there rest = by_what g.what (same.0 refl) h.0
    by_test false other is there rest = rest there

-- where no declaration of a name lives, what is behind counts
none_alive : (made : Made) (step : Step) (rest : List Step) (b : List ℕ → Option Method) (gs : List GivenMethod) (name : List ℕ) →
    of_name name (alive made step rest b gs) ≡ [] → declared_from made step rest b gs name ≡ b name
none_alive made step rest b gs name is = rw is refl

some_alive : (made : Made) (step : Step) (rest : List Step) (b : List ℕ → Option Method) (gs : List GivenMethod) (name : List ℕ) (x : GivenMethod) (xs : List GivenMethod) →
    of_name name (alive made step rest b gs) ≡ x ∷ xs →
    declared_from made step rest b gs name ≡ at_step (suc (length gs)) step (elsewhere made rest b) (elsewhere made (step ∷ rest) b) (alive made step rest b gs) name
some_alive made step rest b gs name x xs is = rw is refl

-- a step gives the same of the names that are given there
same_given : (made : Made) (step : Step) (rest : List Step) (b c : List ℕ → Option Method) (gs : List GivenMethod) → Each (λ (g : GivenMethod). Agrees b c g.name g.what) gs →
    (name : List ℕ) → is_given gs name ≡ true → declared_from made step rest b gs name ≡ declared_from made step rest c gs name
same_given made step rest b c gs agree name given = by_named (of_name name (alive made step rest b gs)) refl
  where
    same_alive : alive made step rest b gs ≡ alive made step rest c gs
    same_alive = same_living (λ other. methods.is_some (elsewhere made (step ∷ rest) b other)) (λ other. methods.is_some (elsewhere made (step ∷ rest) c other)) gs
        (each_as (λ (g : GivenMethod). Agrees b c g.name g.what)
        (λ (g : GivenMethod). OldAlike (λ other. methods.is_some (elsewhere made (step ∷ rest) b other)) (λ other. methods.is_some (elsewhere made (step ∷ rest) c other)) g.what) gs
        (λ g agrees. agree_at_old made (step ∷ rest) b c g.name g.what agrees) agree)

    -- there is none that lives, so none has all overloads
    by_whole : of_name name (alive made step rest b gs) ≡ [] → (b name ≡ c name) ⊎ (list_any (whole_of name) gs ≡ true) → b name ≡ c name
    by_whole is (inl same) = same
    by_whole is (inr there) = absurd (true_not_false
        (sym (whole_is_alive name (λ other. methods.is_some (elsewhere made (step ∷ rest) b other)) gs there) ∙ none_of_name name (alive made step rest b gs) is))

    by_named : (xs : List GivenMethod) → of_name name (alive made step rest b gs) ≡ xs → declared_from made step rest b gs name ≡ declared_from made step rest c gs name
    by_named [] is =
        none_alive made step rest b gs name is
        ∙ by_whole is (agree_or_whole b c name gs agree given)
        ∙ sym (none_alive made step rest c gs name (ap (of_name name) (sym same_alive) ∙ is))
    by_named (x ∷ xs) is =
        some_alive made step rest b gs name x xs is
        ∙ same_at_step (suc (length gs)) step (elsewhere made rest b) (elsewhere made rest c) (elsewhere made (step ∷ rest) b) (elsewhere made (step ∷ rest) c) (alive made step rest b gs)
        (each_living (λ (g : GivenMethod). Alike (elsewhere made rest b) (elsewhere made rest c) (elsewhere made (step ∷ rest) b) (elsewhere made (step ∷ rest) c) g.name g.what)
        (λ other. methods.is_some (elsewhere made (step ∷ rest) b other)) gs
        (each_as (λ (g : GivenMethod). Agrees b c g.name g.what)
        (λ (g : GivenMethod). Alike (elsewhere made rest b) (elsewhere made rest c) (elsewhere made (step ∷ rest) b) (elsewhere made (step ∷ rest) c) g.name g.what) gs
        (λ g agrees. agree_around made rest (step ∷ rest) b c g.name g.what agrees) agree))
        name (λ none. absurd (let no : x ∷ xs ≡ [] = sym is ∙ none in cc))
        ∙ ap (λ (ls : List GivenMethod). at_step (suc (length gs)) step (elsewhere made rest c) (elsewhere made (step ∷ rest) c) ls name) same_alive
        ∙ sym (some_alive made step rest c gs name x xs (ap (of_name name) (sym same_alive) ∙ is))

-- of other names it gives what is behind it
other_given : (made : Made) (step : Step) (rest : List Step) (b : List ℕ → Option Method) (gs : List GivenMethod) (name : List ℕ) → is_given gs name ≡ false →
    declared_from made step rest b gs name ≡ b name
other_given made step rest b gs name none = by_named (of_name name (alive made step rest b gs)) refl
  where
    by_named : (xs : List GivenMethod) → of_name name (alive made step rest b gs) ≡ xs → declared_from made step rest b gs name ≡ b name
    by_named [] is = none_alive made step rest b gs name is
    by_named (x ∷ xs) is = absurd (true_not_false
        (sym (living_is_given (λ other. methods.is_some (elsewhere made (step ∷ rest) b other)) name gs (of_name_found name (alive made step rest b gs) x xs is)) ∙ none))

-- ---- the few names

agree_where_wanted : (b c : List ℕ → Option Method) (gs : List GivenMethod) → ((name : List ℕ) → is_wanted gs name ≡ true → b name ≡ c name) → Each (λ (g : GivenMethod). Agrees b c g.name g.what) gs
agree_where_wanted b c [] same = tt
agree_where_wanted b c (g ∷ gs) same = (
  by_what g.what (λ name is. same name (or_left (wants name g.name g.what) (is_wanted gs name) is)),
  agree_where_wanted b c gs (λ name is. same name (or_right (wants name g.name g.what) (is_wanted gs name) is)),
)
  where
    by_what : (w : What) → ((name : List ℕ) → wants name g.name w ≡ true → b name ≡ c name) → Agrees b c g.name w
    by_what (Whole overloads) same = tt
    by_what (Further overloads) same = same g.name (same_of_itself g.name)
    by_what (AliasOf old) same = (
      same g.name (or_left (same_word g.name g.name) (same_word g.name old) (same_of_itself g.name)),
      same old (or_right (same_word old g.name) (same_word old old) (same_of_itself old)),
    )

-- a step by the few entries behind it that may count there
pub by_few : (made : Made) (step : Step) (rest : List Step) (behind few found : List (List ℕ × Method)) (wanted : List ℕ → Bool) (gs : List GivenMethod) →
    ((name : List ℕ) → wanted name ≡ is_wanted gs name) →
    ((name : List ℕ) → wanted name ≡ true → by_name few name ≡ by_name behind name) →
    ((name : List ℕ) → by_name found name ≡ declared_from made step rest (by_name few) gs name) →
    HasGiven (declared_from made step rest (by_name behind) gs) gs found
by_few made step rest behind few found wanted gs is_wanted same is_found name given =
    is_found name
    ∙ same_given made step rest (by_name few) (by_name behind) gs (agree_where_wanted (by_name few) (by_name behind) gs (λ other is. same other (is_wanted other ∙ is))) name given

-- what is found of the names that are given, and what is behind of all others
pub given_in_front : (made : Made) (step : Step) (rest : List Step) (behind found all : List (List ℕ × Method)) (has : List ℕ → Bool) (gs : List GivenMethod) →
    ((name : List ℕ) → has name ≡ is_given gs name) → HasGiven (declared_from made step rest (by_name behind) gs) gs found →
    IsListed (λ name. if has name then by_name found name else by_name behind name) all → IsListed (declared_from made step rest (by_name behind) gs) all
given_in_front made step rest behind found all has gs is_has is_found listed = record {
  same = λ name. listed.same name ∙ by_test name (has name) (is_has name);
  once = listed.once;
}
  where
    by_test : (name : List ℕ) (b : Bool) → b ≡ is_given gs name → (if b then by_name found name else by_name behind name) ≡ declared_from made step rest (by_name behind) gs name
    by_test name true is = is_found name (sym is)
    by_test name false is = sym (other_given made step rest (by_name behind) gs name (sym is))

-- where nothing is given, what is behind is found
pub nothing_given : (made : Made) (step : Step) (rest : List Step) (behind : List (List ℕ × Method)) (gs : List GivenMethod) →
    gs ≡ [] → IsDistinct same_word (keys_of behind) → IsListed (declared_from made step rest (by_name behind) gs) behind
nothing_given made step rest behind gs is once = record { same = λ name. sym (other_given made step rest (by_name behind) gs name (ap (λ (xs : List GivenMethod). is_given xs name) is)); once = once }
