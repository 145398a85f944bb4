-- Names that wait for one another, while the methods of a step are gathered.
use Rattle.std.proofs.Common.{◌≡◌, ◌∙◌, ◌⊎◌, inl, inr, ℕ, suc, ◌+◌, ◌≤◌, true, false, true≢false, List, [], ◌∷◌, ◌++◌, length, Option, Some, None, cond, if◌then◌else◌, refl, sym, ap, subst, arith, IfSome, IfNone}
use Rattle.std.specs.Option.{is_some, option_to_list}
use Rattle.sig_rules.specs.declared.given.GivenMethod.{GivenMethod}
use Rattle.sig_rules.specs.declared.line.Step.{Step}
use Rattle.sig_rules.specs.declared.method.Method.{Method}
use Rattle.sig_rules.specs.Methods.{of_name, same_word, with_all, Made}
use Rattle.sig_rules.specs.Worlds.{by_name}
use Rattle.method_steps.specs.Gathering.{Apart, Chained, ComesOut, Entry, Gathers, Holds, TakesOut, Task, aim, group_of, in_either, or_group, wanted}
use Rattle.method_steps.specs.Steps.{elsewhere}
use Rattle.method_steps.proofs.StackLemmas.{Apart-absent, Apart-less, Apart-pop, Apart-push, Chained-pop, Chained-push, by_name-append, follows, or_group-assoc, or_group-none, same_back, same_itself}
use Rattle.method_steps.proofs.GatheringLemmas.{Gathers-finish, aim-elsewhere, group_of-is, group_of-none}

pub length-last : {A : Type 0} (front : List A) (last : A) → length (front ++ last ∷ []) ≡ suc (length front)
length-last [] last = refl
length-last (x ∷ xs) last = ap suc (length-last xs last)

-- ---- at the start every name is left

pub Holds-start : (task : Task) (methods : List (List ℕ × Method)) (groups : List Entry) → length groups ≤ task.turns → ((name : List ℕ) → by_name groups name ≡ group_of (of_name name task.alive)) → by_name methods ≡ task.behind → Holds task methods groups []
Holds-start task methods groups few grouped begins = record {
  gathers = record {
    few = omega (arith, few);
    groups = λ name gs pends. sym (grouped name) ∙ pends;
    waits = λ name gs pends. ap (λ f. f name) begins;
    settled = λ name none turns enough. ap (λ f. f name) begins ∙ sym (aim-elsewhere task turns name (group_of-none (of_name name task.alive) (sym (grouped name) ∙ none)));
    there = λ name g gs none declared. let some : None ≡ Some (g ∷ gs) = sym none ∙ grouped name ∙ ap group_of declared in absurd (cc);
  };
  apart = tt;
  chained = tt;
}

-- ---- at the end none is

pub Holds-end : (task : Task) (methods : List (List ℕ × Method)) (left : List Entry) (waiting : List Entry) → length left + length waiting ≡ 0 → Holds task methods left (waiting ++ []) → (name : List ℕ) → by_name methods name ≡ aim task (suc task.turns) name
Holds-end task methods [] [] none holds name = holds.gathers.settled name refl (suc task.turns) (omega arith)
Holds-end task methods [] (e ∷ es) none holds name = absurd (omega arith)
Holds-end task methods (e ∷ es) waiting none holds name = absurd (omega arith)

-- ---- one that was left is put on the stack

pub Holds-push : (task : Task) (methods : List (List ℕ × Method)) (left less stack : List Entry) (next : Entry) → Holds task methods left stack → TakesOut left less next → Chained (stack ++ next ∷ []) → Holds task methods less (stack ++ next ∷ [])
Holds-push task methods left less stack next holds takes chained = record {
  gathers = subst (λ count. Gathers task (by_name methods) (in_either (stack ++ next ∷ []) less) count) count (subst (λ pending. Gathers task (by_name methods) pending (length stack + length left)) (λ i name. same name i) holds.gathers);
  apart = Apart-push less stack next (Apart-less left less stack fewer holds.apart) takes.gone (Apart-absent left stack next.0 next.1 holds.apart takes.found);
  chained = chained;
}
  where
    same : (name : List ℕ) → in_either stack left name ≡ in_either (stack ++ next ∷ []) less name
    same name =
        ap (λ o. or_group (by_name stack name) o) (takes.others name)
        ∙ sym (or_group-assoc (by_name stack name) (by_name (next ∷ []) name) (by_name less name))
        ∙ ap (λ o. or_group o (by_name less name)) (sym (by_name-append stack (next ∷ []) name))

    count : length stack + length left ≡ length (stack ++ next ∷ []) + length less
    count = let pushed = length-last stack next in let taken : length left ≡ suc (length less) = takes.count in omega arith

    fewer : (name : List ℕ) → by_name left name ≡ None → by_name less name ≡ None
    fewer name none = (or_group-none (by_name (next ∷ []) name) (by_name less name) (sym (takes.others name) ∙ none)).1

-- ---- the last on the stack gets its method

module _ (task : Task) (comes : ComesOut task) (methods : List (List ℕ × Method)) (left front : List Entry) (last : Entry) (holds : Holds task methods left (front ++ last ∷ []))
    (ready : (old : List ℕ) → wanted last.1 ≡ Some old → by_name left old ≡ None) where
  -- no name on the stack is wanted by the last
  off_stack : (old : List ℕ) → wanted last.1 ≡ Some old → by_name (front ++ last ∷ []) old ≡ None
  off_stack old wants = by (by_name (front ++ last ∷ []) old) refl
    where
      by : (o : Option (List GivenMethod)) → by_name (front ++ last ∷ []) old ≡ o → o ≡ None
      by None e = refl
      by (Some os) e = absurd (true≢false (sym (ap is_some e) ∙ comes.no_circle (λ name. is_some (by_name (front ++ last ∷ []) name)) (λ name there. closed name (by_name (front ++ last ∷ []) name) refl there) old))
        where
          on : (name next : List ℕ) (gs : List GivenMethod) → by_name (front ++ last ∷ []) name ≡ Some gs → wanted gs ≡ Some next → wanted (of_name name task.alive) ≡ Some next
          on name next gs found wants2 = ap wanted (group_of-is (of_name name task.alive) gs (holds.gathers.groups name gs (ap (λ p. or_group p (by_name left name)) found))) ∙ wants2

          step : (name : List ℕ) (gs : List GivenMethod) → by_name (front ++ last ∷ []) name ≡ Some gs
              → (next : List ℕ) × ((wanted gs ≡ Some next) × ((next ≡ old) ⊎ (is_some (by_name (front ++ last ∷ []) next) ≡ true)))
              → (next : List ℕ) × ((wanted (of_name name task.alive) ≡ Some next) × (is_some (by_name (front ++ last ∷ []) next) ≡ true))
          step name gs found (next, (wants2, inl same)) = (next, (on name next gs found wants2, ap (λ n. is_some (by_name (front ++ last ∷ []) n)) same ∙ ap is_some e))
          step name gs found (next, (wants2, inr there)) = (next, (on name next gs found wants2, there))

          closed : (name : List ℕ) (o : Option (List GivenMethod)) → by_name (front ++ last ∷ []) name ≡ o → is_some o ≡ true → (next : List ℕ) × ((wanted (of_name name task.alive) ≡ Some next) × (is_some (by_name (front ++ last ∷ []) next) ≡ true))
          closed name None found there = absurd (true≢false (sym there))
          closed name (Some gs) found there = step name gs found (follows front last old name gs holds.chained wants found)

  not_pending : (old : List ℕ) → wanted last.1 ≡ Some old → in_either (front ++ last ∷ []) left old ≡ None
  not_pending old wants = ap (λ o. or_group o (by_name left old)) (off_stack old wants) ∙ ready old wants

  pub Holds-pop : (after : List (List ℕ × Method))
      → ((other : List ℕ) → by_name after other ≡ (if same_word last.0 other then with_all task.step (elsewhere task.made task.rest (by_name methods) last.0) (elsewhere task.made task.steps (by_name methods)) None last.1 else by_name methods other))
      → Holds task after left front
  Holds-pop after put = record {
    gathers = Gathers-finish task comes (by_name methods) (by_name after) (in_either (front ++ last ∷ []) left) (in_either front left) (length front + length left) last.0 last.1
        (subst (λ count. Gathers task (by_name methods) (in_either (front ++ last ∷ []) left) count) count holds.gathers) here gone others not_pending put;
    apart = apart.0;
    chained = Chained-pop front last holds.chained;
  }
    where
      apart : Apart left front × ((by_name left last.0 ≡ None) × (by_name front last.0 ≡ None))
      apart = Apart-pop left front last holds.apart

      count : length (front ++ last ∷ []) + length left ≡ suc (length front + length left)
      count = let pushed = length-last front last in omega arith

      own : by_name (last ∷ []) last.0 ≡ Some last.1
      own = ap (λ b. cond b (Some last.1) None) (same_itself last.0)

      here : in_either (front ++ last ∷ []) left last.0 ≡ Some last.1
      here = ap (λ o. or_group o (by_name left last.0)) (by_name-append front (last ∷ []) last.0 ∙ ap (λ o. or_group o (by_name (last ∷ []) last.0)) apart.1.1 ∙ own)

      gone : in_either front left last.0 ≡ None
      gone = ap (λ o. or_group o (by_name left last.0)) apart.1.1 ∙ apart.1.0

      others : (other : List ℕ) → same_word last.0 other ≡ false → in_either front left other ≡ in_either (front ++ last ∷ []) left other
      others other differ =
          let none : by_name (last ∷ []) other ≡ None = ap (λ b. cond b (Some last.1) None) (same_back other last.0 ∙ differ) in
          sym (ap (λ o. or_group o (by_name left other)) (by_name-append front (last ∷ []) other)
          ∙ or_group-assoc (by_name front other) (by_name (last ∷ []) other) (by_name left other)
          ∙ ap (λ o. or_group (by_name front other) (or_group o (by_name left other))) none)

-- ---- nothing waits, and one that was left is next

pub Holds-any : (task : Task) (methods : List (List ℕ × Method)) (left less : List Entry) (next : Option Entry) → IfNone next (less ≡ left) → IfSome next (λ entry. TakesOut left less entry) → Holds task methods left [] → Holds task methods less (option_to_list next)
Holds-any task methods left less None same takes holds = subst (λ es. Holds task methods es []) (sym same) holds
Holds-any task methods left less (Some entry) same takes holds = Holds-push task methods left less [] entry holds takes (tt, tt)

-- ---- a turn: another name is wanted first

pub Holds-follow : (task : Task) (methods : List (List ℕ × Method)) (left less waiting pushed : List Entry) (entry next : Entry) → pushed ≡ waiting ++ entry ∷ [] → wanted entry.1 ≡ Some next.0 → TakesOut left less next
    → Holds task methods left (waiting ++ entry ∷ []) → Holds task methods less (pushed ++ next ∷ [])
Holds-follow task methods left less waiting pushed entry next all wants takes holds =
    subst (λ (es : List Entry). Holds task methods less (es ++ next ∷ [])) (sym all) (Holds-push task methods left less (waiting ++ entry ∷ []) next holds takes (Chained-push waiting entry next holds.chained wants))

-- ---- a turn: a name gets its method

pub Holds-finish : (task : Task) (methods after : List (List ℕ × Method)) (left less waiting : List Entry) (entry : Entry) (gs : List GivenMethod) (made : Made) (step : Step) (rest steps : List Step)
    → task.made ≡ made → task.step ≡ step → task.rest ≡ rest → task.steps ≡ steps → ComesOut task → Holds task methods left (waiting ++ entry ∷ [])
    → gs ≡ entry.1 → ((old : List ℕ) → wanted gs ≡ Some old → by_name left old ≡ None) → less ≡ left
    → ((other : List ℕ) → by_name after other ≡ (if same_word entry.0 other then with_all step (elsewhere made rest (by_name methods) entry.0) (elsewhere made steps (by_name methods)) None entry.1 else by_name methods other))
    → Holds task after less waiting
Holds-finish task methods after left less waiting entry gs made step rest steps is_made is_step is_rest is_steps comes holds is ready same put =
    subst (λ (es : List Entry). Holds task after es waiting) (sym same)
    (Holds-pop task comes methods left waiting entry holds (λ old wants. ready old (ap wanted is ∙ wants)) after
    (λ other. put other
    ∙ (λ i. if same_word entry.0 other
    then with_all (sym is_step i) (elsewhere (sym is_made i) (sym is_rest i) (by_name methods) entry.0) (elsewhere (sym is_made i) (sym is_steps i) (by_name methods)) None entry.1
    else by_name methods other)))

-- ---- the first that is next

pub Holds-begin : (task : Task) (methods : List (List ℕ × Method)) (groups left waiting : List Entry) (next : Option Entry) → length groups ≤ task.turns → ((name : List ℕ) → by_name groups name ≡ group_of (of_name name task.alive)) → by_name methods ≡ task.behind
    → IfNone next (left ≡ groups) → IfSome next (λ entry. TakesOut groups left entry) → waiting ≡ [] → Holds task methods left (waiting ++ option_to_list next)
Holds-begin task methods groups left waiting next few grouped begins kept takes empty =
    subst (λ (es : List Entry). Holds task methods left (es ++ option_to_list next)) (sym empty) (Holds-any task methods groups left next kept takes (Holds-start task methods groups few grouped begins))

pub Holds-last : (task : Task) (methods : List (List ℕ × Method)) (left waiting : List Entry) (next : Option Entry) → next ≡ None → length left + length waiting ≡ 0 → Holds task methods left (waiting ++ option_to_list next) → (name : List ℕ) → by_name methods name ≡ aim task (suc task.turns) name
Holds-last task methods left waiting next none empty holds = Holds-end task methods left waiting empty (subst (λ (o : Option Entry). Holds task methods left (waiting ++ option_to_list o)) none holds)
